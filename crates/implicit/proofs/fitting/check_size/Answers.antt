-- `fitting::check_size` meets its contract. Assumes nothing.
use Rattle.implicit.proofs.StepLawsChildren.{size_many, size_full, size_passed}
use Rattle.implicit.proofs.fitting.check_size.Goals as goal

pub returns-then-queued-z-gt4294967296 : goal.returns-then-queued-z-gt4294967296
returns-then-queued-z-gt4294967296 c =
    let a = c.args in
    size_many a.queued a.room a.z c.if-queued-z-gt4294967296.true

pub returns-then-room-z : goal.returns-then-room-z
returns-then-room-z c =
    let a = c.args in
    size_full a.queued a.room a.z c.if-queued-z-gt4294967296.false c.if-room-z.true

pub returns : goal.returns
returns c =
    let a = c.args in
    size_passed a.queued a.room a.z c.if-queued-z-gt4294967296.false c.if-room-z.false
