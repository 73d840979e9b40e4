-- `implicit::record::put_last` meets its contract. Assumes nothing.
use Rattle.implicit.specs.Record.{put_last}
use Rattle.implicit.proofs.record.put_last.Goals as goal

pub returns : goal.returns
unfolding put_last
returns c =
    rw (c.put.ensures, c.put-2.ensures, c.put-3.ensures, c.put-4.ensures)
