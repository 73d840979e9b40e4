-- `block_length` meets its contract: a code has at most 83 bytes. Assumes nothing.
use native.Mathlib.Omega.{arith}
use Rattle.queue.specs.Directions.{parameters}
use Rattle.queue.proofs.QueueableLaws.{queueable, known_indices}
use Rattle.queue.proofs.WriteLaws.{place_few, parameters_few, encode_length}
use Rattle.queue.proofs.length.block_length.Goals as goal

pub place_length-requires : goal.place_length-requires
place_length-requires c =
    let a = c.args in
    let q = queueable a.set a.b c.requires.0 in
    let k = known_indices a.last c.requires.1 in
    (k.0, k.1, q.x.bound, q.y.bound)

pub overflow_add-result : goal.overflow_add-result
overflow_add-result c =
    let a = c.args in
    let q = queueable a.set a.b c.requires.0 in
    let k = known_indices a.last c.requires.1 in
    omega (
      arith,
      c.place_length.ensures,
      c.parameters_length.ensures,
      place_few a.last a.b k.0 k.1 q.x.bound q.y.bound,
      parameters_few a.set a.last a.b parameters,
    )

pub overflow_add-result-2 : goal.overflow_add-result-2
overflow_add-result-2 c =
    let a = c.args in
    let q = queueable a.set a.b c.requires.0 in
    let k = known_indices a.last c.requires.1 in
    omega (
      arith,
      c.place_length.ensures,
      c.parameters_length.ensures,
      place_few a.last a.b k.0 k.1 q.x.bound q.y.bound,
      parameters_few a.set a.last a.b parameters,
    )

pub returns : goal.returns
returns c =
    let a = c.args in
    omega (
      arith,
      c.place_length.ensures,
      c.parameters_length.ensures,
      encode_length a.set a.last a.b,
    )
