-- `put_little` meets its contract: the bytes put so far, with those of what is left, are those of the number. Assumes nothing.
use Rattle.std.proofs.Common.{◌≡◌, ◌-◌, sym, ◌∙◌, arith, length, length-set, append-nil}
use Rattle.std.proofs.lemmas.List.{take_all}
use Rattle.base.specs.Bytes.{little_endian}
use Rattle.queue.proofs.WriteLaws.{little_step}
use Rattle.queue.proofs.code.put_little.Goals as goal

pub loop-byte-preserved : goal.loop-byte-preserved
loop-byte-preserved c =
    let l = c.loop-byte in
    (length-set _ _ _ ∙ l.invariant.0, rw length-set (little_step l.out l.byte-index l.left (omega arith)) ∙ l.invariant.1)

pub returns : goal.returns
unfolding little_endian
returns c =
    let l = c.loop-byte in
    let e : length l.out - l.byte-index ≡ 0 = omega arith in
    sym (take_all l.byte-index l.out (omega arith)) ∙ sym (append-nil _) ∙ rw e at l.invariant.1
