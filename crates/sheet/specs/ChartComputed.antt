-- What the private functions answer of a sheet, and ensure of a text that grows and of a picture's bytes as characters. The public contracts speak of the whole text alone.
use Rattle.std.specs.Prelude.{◌≡◌, cond, Result, Ok, Err, List, ℕ, ◌++◌, eqb}
use Rattle.refusal.specs.declared.Refusal.{Refusal}
use Rattle.refusal.specs.declared.Refusal.TheVariants as R
use Rattle.image.specs.declared.Reading.{Reading}
use Rattle.image.specs.declared.Reading.TheVariants as Reads
use Rattle.image.specs.Cell.{character_of}
use Rattle.implicit.specs.declared.state.Ended.{Ended}
use Rattle.implicit.specs.View.{counts_answer}
use Rattle.sheet.specs.declared.head.Order.{Order}
use Rattle.sheet.specs.Layout.{order_in, taken_sheet}
use Rattle.sheet.specs.Text.{refused_text}
use Rattle.sheet.specs.Printed.{view_text}

-- what is read of a sheet: what it asks for, or 14
abbrev pub order_answer : List ℕ → Result Order Refusal
order_answer s = cond (taken_sheet s) (Ok (order_in s)) (Err R.Sheet)

-- what is printed of a run's answer and the cells that it leaves, or of a refusal before it
abbrev pub ended_text : Result Ended Refusal → List ℕ → List ℕ
ended_text (Ok e) cells = view_text e.state cells e.steps e.evaluations e.ending (counts_answer e.state cells)
ended_text (Err why) cells = refused_text why

-- `text` is put behind what there was; or it is a refusal's line, which is still to put
abbrev pub Prints : Result (Unit {0}) Refusal → List ℕ → List ℕ → List ℕ → Type 0
Prints (Ok done) text old new = new ≡ old ++ text
Prints (Err why) text old new = (text ≡ refused_text why) × (new ≡ old)

-- the reading whose byte stands in a picture
abbrev pub reading_of : ℕ → Reading
reading_of b = cond (eqb b 0) Reads.False (cond (eqb b 1) Reads.Uncertain Reads.True)

-- its character
abbrev pub symbol_of : ℕ → ℕ
symbol_of b = character_of (reading_of b)
