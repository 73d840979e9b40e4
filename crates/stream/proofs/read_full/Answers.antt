-- The bytes of one read more stand behind those that were read before.
use Rattle.std.proofs.Common.{rules}
use Rattle.stream.proofs.Taken.{Consumes-more}
use Rattle.stream.proofs.read_full.Goals as goal

pub loop-done-preserved : goal.loop-done-preserved
loop-done-preserved g c =
    let before = c.loop-done.invariant in
    let read = c.in_ok-n.ensures in
    record {
      same_length = search rules;
      in_bounds = read.in_bounds;
      bytes = Consumes-more _ _ _ c.loop-done.buf c.read_more.new.buf c.loop-done.done c.in_ok-n.n before.bytes read.front read.bytes;
    }
