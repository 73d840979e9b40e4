-- Document 01, "Numbers of refusal", and those that document 02's requests add: the number of each refusal, and of an answer that can be refused.
use Rattle.std.specs.Prelude.{Bool, true, false, cond, List, [], ◌∷◌, ℕ, Result, Ok, Err}
use Rattle.refusal.specs.declared.Refusal.{Refusal}
use Rattle.refusal.specs.declared.Refusal.TheVariants as R

-- the number in the table
abbrev pub number : Refusal → ℕ
number R.Side = 1
number R.Cells = 2
number R.Parameter = 3
number R.Verdicts = 4
number R.Verdict = 5
number R.Room = 6
number R.Numbers = 7
number R.Damaged = 8
number R.TooLarge = 9
number R.EndsEarly = 10
number R.HeadZero = 11
number R.Picture = 12
number R.Empty = 13
number R.Sheet = 14
number R.Bounds = 15
number R.Padding = 16
number R.Table = 17
number R.Pixel = 18

-- this refusal, unless the test passes, and then the rest: the refusals of an entry read from the top, in the document's order
abbrev pub refused_unless : {A : Type 0} → A → Bool → A → A
refused_unless refusal test rest = cond test rest refusal

-- the same by rows, for the pages that tell an entry's numbers: the number of the first row that applies
unfoldable pub first_of : List (ℕ × Bool) → ℕ
first_of [] = 0
first_of ((k, applies) ∷ rows) = cond applies k (first_of rows)

-- the number of an answer: 0 where what was asked for was done, else that of its refusal
abbrev pub answer_number : {A : Type 0} → Result A Refusal → ℕ
answer_number (Ok a) = 0
answer_number (Err why) = number why

-- the value of an answer that says yes or no: 1 for yes, 0 for no and for none
abbrev pub whether_value : Result Bool Refusal → ℕ
whether_value (Ok true) = 1
whether_value (Ok false) = 0
whether_value (Err why) = 0
