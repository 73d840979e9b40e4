-- The bytes of one write more stand behind those that were written before.
use Rattle.stream.proofs.Taken.{Appends-more}
use Rattle.stream.proofs.write_full.Goals as goal

pub loop-done-preserved : goal.loop-done-preserved
loop-done-preserved g c =
    let wrote = c.in_ok-n.ensures in
    record {
      in_bounds = wrote.in_bounds;
      bytes = Appends-more _ _ _ c.args.buf.now c.loop-done.done c.in_ok-n.n c.loop-done.invariant.bytes wrote.bytes;
    }
