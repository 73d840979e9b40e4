-- `measure_place` meets its contract. Assumes nothing.
use native.Mathlib.Omega.{arith}
use Rattle.queue.proofs.WriteLaws.{place_few}
use Rattle.queue.proofs.PlainLaws.{placed, measured_place}
use Rattle.queue.proofs.measuring.measure_place.Goals as goal

pub place_length-requires : goal.place_length-requires
place_length-requires c =
    let p = placed c.args.back c.args.b c.requires in
    (p.1, p.2, p.0.x.bound, p.0.y.bound)

pub overflow_add-result : goal.overflow_add-result
overflow_add-result c =
    let a = c.args in
    let p = placed a.back a.b c.requires in
    omega (arith, c.place_length.ensures, place_few a.back a.b p.1 p.2 p.0.x.bound p.0.y.bound)

pub returns : goal.returns
returns c =
    let a = c.args in
    measured_place a.back a.b c.place_length.result c.remember_place.result c.requires
    c.place_length.ensures c.remember_place.ensures
