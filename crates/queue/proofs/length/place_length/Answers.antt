-- `place_length` meets its contract. Assumes nothing.
use native.Mathlib.Omega.{arith}
use Rattle.queue.proofs.WriteLaws.{coordinate_few}
use Rattle.queue.proofs.LengthLaws.{place_length}
use Rattle.queue.proofs.length.place_length.Goals as goal

pub coordinate_length-requires : goal.coordinate_length-requires
coordinate_length-requires c = (c.requires.0, c.requires.2)

pub coordinate_length-requires-2 : goal.coordinate_length-requires-2
coordinate_length-requires-2 c =
    (c.requires.1, c.requires.3)

pub overflow_add-result : goal.overflow_add-result
overflow_add-result c =
    let a = c.args in
    let p = c.requires in
    omega (
      arith,
      c.coordinate_length.ensures,
      c.coordinate_length-2.ensures,
      coordinate_few a.last.x a.b.x p.0 p.2,
      coordinate_few a.last.y a.b.y p.1 p.3,
    )

pub returns : goal.returns
returns c =
    let a = c.args in
    rw (c.coordinate_length.ensures, c.coordinate_length-2.ensures) (place_length a.last a.b)
