-- `is_of` meets its contract. Assumes nothing.
use mathlib.Core.Path.{◌≡◌, sym}
use Rattle.image.specs.declared.CellKind.TheVariants as K
use Rattle.image.proofs.CellLaws.{unmarked_code, abandoned_code, damaged_code}
use Rattle.image.proofs.rows.is_of.Goals as goal

pub returns-in-Unmarked : goal.returns-in-Unmarked
returns-in-Unmarked c = let a = c.args in let e : a.kind ≡ K.Unmarked = c.in-Unmarked.is in rw e (sym (unmarked_code a.cell))

pub returns-in-GivenUp : goal.returns-in-GivenUp
returns-in-GivenUp c = let a = c.args in let e : a.kind ≡ K.GivenUp = c.in-GivenUp.is in rw e (sym (abandoned_code a.cell))

pub returns-in-Damaged : goal.returns-in-Damaged
returns-in-Damaged c = let a = c.args in let e : a.kind ≡ K.Damaged = c.in-Damaged.is in rw e (sym (damaged_code a.cell))
