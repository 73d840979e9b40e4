-- `of` meets its contract. Assumes nothing.
use Rattle.std.proofs.Common.{◌≡◌, ◌+◌, ◌-◌, length, arith, sym, ◌∙◌, drop, length-drop}
use Rattle.std.proofs.lemmas.List.{take_all}
use Rattle.queue.specs.Ring.{older_stretch, newer_stretch}
use Rattle.queue.proofs.RingLaws.{rest_all}
use Rattle.queue.proofs.ring.Stretches.of.Goals as goal

pub returns-then-used-room-clause-older : goal.returns-then-used-room-clause-older
unfolding older_stretch
returns-then-used-room-clause-older c =
    let a = c.args in let e : a.head + a.used - a.head ≡ a.used = omega arith in rw e

pub returns-then-used-room-clause-newer : goal.returns-then-used-room-clause-newer
unfolding newer_stretch
returns-then-used-room-clause-newer c =
    let a = c.args in let e : a.head + a.used - length a.ring.now ≡ 0 = omega arith in rw e

pub returns-clause-older : goal.returns-clause-older
unfolding older_stretch
returns-clause-older c =
    let a = c.args in
    rest_all a.ring.now a.head ∙ sym (take_all a.used (drop a.head a.ring.now) (simp length-drop (omega arith)))

pub returns-clause-newer : goal.returns-clause-newer
unfolding newer_stretch
returns-clause-newer c =
    let a = c.args in
    let e : a.head + a.used - length a.ring.now ≡ a.used - (length a.ring.now - a.head) = omega arith in rw e
