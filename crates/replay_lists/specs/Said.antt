-- What is printed of what came out.
use Rattle.std.specs.Prelude.{List, ℕ, ◌++◌, false, codes, Option, Some, Result, Ok, Err}
use Rattle.std.specs.Fmt.{digits}
use Rattle.std.specs.Float.{binary64}
use Rattle.std.specs.Float.Ieee.{to_bits}
use Rattle.interval.specs.declared.Interval.{Interval}
use Rattle.refusal.specs.declared.Refusal.{Refusal}
use Rattle.refusal.specs.Number.{number}

-- a number behind a space, in hexadecimal digits
abbrev pub number_text : ℕ → List ℕ
number_text n = codes " " ++ digits 16 false n

-- a refusal's number, behind a space and an r
abbrev pub refusal_text : Refusal → List ℕ
refusal_text why = codes " r" ++ digits 16 false (number why)

-- the bit patterns of two bounds
abbrev pub interval_text : Interval → List ℕ
interval_text x = codes " " ++ (digits 16 false (to_bits binary64 x.lower) ++ (codes " " ++ digits 16 false (to_bits binary64 x.upper)))

-- what is said of what was found, or the refusal
abbrev pub answer_text : {A : Type 0} → (A → Option (List ℕ)) → Result A Refusal → Option (List ℕ)
answer_text text (Ok found) = text found
answer_text text (Err why) = Some (refusal_text why)
