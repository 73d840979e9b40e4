-- `append_across` meets its contract: the code made apart and appended. Assumes nothing.
use Rattle.std.proofs.Common.{arith, refl, replicate, length-take}
use Rattle.queue.specs.Block.{as_queued}
use Rattle.queue.proofs.QueueAnswers.{append_made}
use Rattle.queue.proofs.PlainLaws.{plain_few}
use Rattle.queue.proofs.appending.append_across.Goals as goal

pub slice_bounds-code-end : goal.slice_bounds-code-end
slice_bounds-code-end c =
    omega (arith, c.put_plain-count.ensures.0, c.put_plain-count.auto.out, plain_few c.args.back c.args.b c.requires.1)

pub slice_bounds-append_code-end : goal.slice_bounds-append_code-end
slice_bounds-append_code-end c =
    simp length-take (omega (arith, c.put_plain-count.ensures.0, c.put_plain-count.auto.out, plain_few c.args.back c.args.b c.requires.1))

pub returns : goal.returns
returns c =
    let a = c.args in
    let p = c.requires in
    append_made a.ring.now a.head a.used 0 a.back a.b (as_queued 0 a.b) refl p.0 p.1 c.put_plain-count.result
    c.put_plain-count.new.out (replicate 19 0) c.remember_place.result _ _ c.put_plain-count.ensures
    (omega (arith, plain_few a.back a.b p.1)) c.remember_place.ensures c.append_code.ensures
