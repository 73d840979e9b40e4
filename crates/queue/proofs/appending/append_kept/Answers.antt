-- `append_kept` meets its contract: the code made apart and appended. Assumes nothing.
use Rattle.std.proofs.Common.{arith, replicate, length-take}
use Rattle.queue.proofs.QueueAnswers.{kept_codable, append_made}
use Rattle.queue.proofs.appending.append_kept.Goals as goal

pub put_block-count-requires : goal.put_block-count-requires
put_block-count-requires c =
    let k = kept_codable c.args.set c.args.back c.args.b c.as_queued-kept.result c.requires.1 c.as_queued-kept.ensures in
    (omega arith, k.0, k.1)

pub slice_bounds-code-end : goal.slice_bounds-code-end
slice_bounds-code-end c =
    let k = kept_codable c.args.set c.args.back c.args.b c.as_queued-kept.result c.requires.1 c.as_queued-kept.ensures in
    omega (arith, c.put_block-count.ensures.0, c.put_block-count.auto.out, k.2)

pub slice_bounds-append_code-end : goal.slice_bounds-append_code-end
slice_bounds-append_code-end c =
    let k = kept_codable c.args.set c.args.back c.args.b c.as_queued-kept.result c.requires.1 c.as_queued-kept.ensures in
    simp length-take (omega (arith, c.put_block-count.ensures.0, c.put_block-count.auto.out, k.2))

pub returns : goal.returns
returns c =
    let a = c.args in
    let k = c.as_queued-kept in
    let few = (kept_codable a.set a.back a.b k.result c.requires.1 k.ensures).2 in
    append_made a.ring.now a.head a.used a.set a.back a.b k.result k.ensures c.requires.0 c.requires.1 c.put_block-count.result
    c.put_block-count.new.out (replicate 83 0) c.remember.result _ _ c.put_block-count.ensures (omega (arith, few)) c.remember.ensures
    c.append_code.ensures
