-- `put_place` meets its contract. Assumes nothing.
use native.Mathlib.Omega.{arith}
use Rattle.queue.proofs.QueueableLaws.{queueable, known_indices}
use Rattle.queue.proofs.WriteLaws.{coordinate_few, place_put}
use Rattle.queue.proofs.code.put_place.Goals as goal

pub returns : goal.returns
returns c =
    let a = c.args in
    let x = c.put_coordinate-end in
    let y = c.put_coordinate in
    place_put a.last a.b a.out.now x.new.out y.new.out x.result y.result x.ensures y.ensures

pub put_coordinate-end-requires : goal.put_coordinate-end-requires
put_coordinate-end-requires c =
    let a = c.args in
    let p = c.requires in
    let q = queueable a.set a.b p.1 in
    (omega arith, (known_indices a.last p.2).0, q.x.bound, q.x.high)

pub put_coordinate-requires : goal.put_coordinate-requires
put_coordinate-requires c =
    let a = c.args in
    let p = c.requires in
    let q = queueable a.set a.b p.1 in
    let k = known_indices a.last p.2 in
    let w = c.put_coordinate-end in (
      omega (arith, w.ensures.0, w.auto.out, coordinate_few a.last.x a.b.x k.0 q.x.bound),
      k.1,
      q.y.bound,
      q.y.high,
    )
