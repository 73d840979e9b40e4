-- `is_nameable` meets its contract. Assumes nothing.
use mathlib.Core.Logic.{inl, inr}
use Rattle.image.specs.Cell.{nameable}
use Rattle.image.proofs.is_nameable.Goals as goal

pub returns-in-Mark : goal.returns-in-Mark
unfolding nameable
returns-in-Mark c = elim c.in-Mark.is [ inl e ↦ rw e | inr e ↦ rw e ]

pub returns-in-Name : goal.returns-in-Name
unfolding nameable
returns-in-Name c = elim c.in-Name.is [ inl (x, e) ↦ rw e | inr e ↦ rw e ]
