-- `put_plain` meets its contract. Assumes nothing.
use native.Mathlib.Omega.{arith}
use Rattle.queue.proofs.WriteLaws.{coordinate_few}
use Rattle.queue.proofs.PlainLaws.{placed, plain_put}
use Rattle.queue.proofs.appending.put_plain.Goals as goal

pub put_coordinate-middle-requires : goal.put_coordinate-middle-requires
put_coordinate-middle-requires c =
    let p = placed c.args.back c.args.b c.requires.1 in
    (omega (arith, c.requires.0), p.1, p.0.x.bound, p.0.x.high)

pub put_coordinate-end-requires : goal.put_coordinate-end-requires
put_coordinate-end-requires c =
    let a = c.args in
    let p = placed a.back a.b c.requires.1 in
    let w = c.put_coordinate-middle in
    let few = coordinate_few a.back.x a.b.x p.1 p.0.x.bound in
    (omega (arith, c.requires.0, w.ensures.0, w.auto.out, few), p.2, p.0.y.bound, p.0.y.high)

pub bounds-out-end : goal.bounds-out-end
bounds-out-end c =
    let a = c.args in
    let p = placed a.back a.b c.requires.1 in
    let w = c.put_coordinate-middle in
    let v = c.put_coordinate-end in
    let few = coordinate_few a.back.x a.b.x p.1 p.0.x.bound in
    let few2 = coordinate_few a.back.y a.b.y p.2 p.0.y.bound in
    omega (arith, c.requires.0, w.ensures.0, w.auto.out, v.ensures.0, v.auto.out, few, few2)

pub overflow_add-result : goal.overflow_add-result
overflow_add-result c =
    let a = c.args in
    let p = placed a.back a.b c.requires.1 in
    let few = coordinate_few a.back.x a.b.x p.1 p.0.x.bound in
    let few2 = coordinate_few a.back.y a.b.y p.2 p.0.y.bound in
    omega (arith, c, c.requires.0, c.put_coordinate-middle.ensures.0, c.put_coordinate-end.ensures.0, few, few2)

pub returns : goal.returns
returns c =
    let a = c.args in
    let w = c.put_coordinate-middle in
    let v = c.put_coordinate-end in
    plain_put a.back a.b a.out.now w.new.out v.new.out a.at w.result v.result
    w.ensures v.ensures
