-- `put_block` meets its contract: a code has at most 83 bytes. Assumes nothing.
use mathlib.Core.Path.{◌∙◌}
use native.Mathlib.Omega.{arith}
use lib.ListN.{length-set}
use Rattle.queue.specs.Directions.{parameters}
use Rattle.queue.proofs.QueueableLaws.{queueable, known_indices}
use Rattle.queue.proofs.WriteLaws.{place_few, parameters_few, block_put}
use Rattle.queue.proofs.code.put_block.Goals as goal

pub put_place-place-requires : goal.put_place-place-requires
put_place-place-requires c = let p = c.requires in (omega arith, p.1, p.2)

pub put_parameters-end-requires : goal.put_parameters-end-requires
put_parameters-end-requires c =
    let a = c.args in
    let p = c.requires in
    let q = queueable a.set a.b p.1 in
    let k = known_indices a.last p.2 in
    let w = c.put_place-place in
    omega (arith, w.ensures.0, w.auto.out, place_few a.last a.b k.0 k.1 q.x.bound q.y.bound)

pub bounds-out-end : goal.bounds-out-end
bounds-out-end c =
    let a = c.args in
    let p = c.requires in
    let q = queueable a.set a.b p.1 in
    let k = known_indices a.last p.2 in
    let w = c.put_place-place in
    let v = c.put_parameters-end in
    omega (
      arith,
      w.ensures.0,
      w.auto.out,
      v.ensures.0,
      v.auto.out,
      place_few a.last a.b k.0 k.1 q.x.bound q.y.bound,
      parameters_few a.set a.last a.b parameters,
    )

pub overflow_add-result : goal.overflow_add-result
overflow_add-result c =
    let a = c.args in
    let p = c.requires in
    let q = queueable a.set a.b p.1 in
    let k = known_indices a.last p.2 in
    let w = c.put_place-place in
    let v = c.put_parameters-end in
    omega (
      arith,
      w.ensures.0,
      v.ensures.0,
      place_few a.last a.b k.0 k.1 q.x.bound q.y.bound,
      parameters_few a.set a.last a.b parameters,
    )

pub shape_of-out : goal.shape_of-out
shape_of-out c =
    simp length-set (c.put_parameters-end.auto.out ∙ c.put_place-place.auto.out)

pub returns : goal.returns
returns c =
    let a = c.args in
    let w = c.put_place-place in
    let v = c.put_parameters-end in
    block_put a.set a.last a.b a.out.now w.new.out v.new.out w.result v.result w.ensures
    v.ensures
