-- `first::piece_at` meets its contract. Assumes nothing.
use Rattle.std.proofs.lemmas.Option.{unwrap_or-slice_get}
use Rattle.interval.specs.Answers.{listed}
use Rattle.queue.specs.Block.{whole_line}
use Rattle.implicit.proofs.first.piece_at.Goals as goal

pub returns-in-Ok : goal.returns-in-Ok
returns-in-Ok c =
    rw (c.in-Ok.is, c.unwrap_or.ensures, c.get.ensures, c.whole_line.ensures) (unwrap_or-slice_get (listed c.in-Ok.pieces) c.args.j whole_line)

pub returns-in-Err : goal.returns-in-Err
returns-in-Err c = rw c.in-Err.is c.whole_line-in-Err.ensures
