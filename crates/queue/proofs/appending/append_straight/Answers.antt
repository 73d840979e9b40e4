-- `append_straight` meets its contract. Assumes nothing.
use native.Mathlib.Omega.{arith}
use lib.ListN.{length}
use Rattle.queue.proofs.QueueAnswers.{fits_both}
use Rattle.queue.proofs.PlainLaws.{plain_few, straight_both, straight_done}
use Rattle.queue.proofs.appending.append_straight.Goals as goal

pub move_on-from-requires : goal.move_on-from-requires
move_on-from-requires c =
    let a = c.args in
    let f = fits_both (length a.ring.now) a.head a.used c.requires.0 in
    (f.0, f.1, omega (arith, c))

pub put_plain-end-requires : goal.put_plain-end-requires
put_plain-end-requires c =
    let a = c.args in
    let m = c.move_on-from.ensures in
    (omega (arith, m.value, m.upper_bound, (straight_both (length a.ring.now) a.head a.used c.requires.2).0), c.requires.1)

pub overflow_sub-result : goal.overflow_sub-result
overflow_sub-result c = omega (arith, c.put_plain-end.ensures.0)

pub overflow_add-result : goal.overflow_add-result
overflow_add-result c =
    let a = c.args in
    omega (
      arith,
      c.put_plain-end.ensures.0,
      plain_few a.back a.b c.requires.1,
      (fits_both (length a.ring.now) a.head a.used c.requires.0).1,
      c,
    )

pub returns : goal.returns
returns c =
    let a = c.args in
    let p = c.requires in
    let w = c.put_plain-end in
    straight_done a.ring.now a.head a.used a.back a.b c.move_on-from.result w.result w.new.out
    c.remember_place.result p.0 p.1 p.2 c.move_on-from.ensures.value w.ensures
    c.remember_place.ensures
