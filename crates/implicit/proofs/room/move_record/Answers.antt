-- `room::move_record` meets its contract. Assumes nothing.
use mathlib.Core.Path.{refl}
use Rattle.implicit.specs.Move.{moved_record}
use Rattle.implicit.proofs.room.move_record.Goals as goal

pub returns : goal.returns
unfolding moved_record
returns c = refl
