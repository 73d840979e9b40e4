-- `coordinate_length` meets its contract. Assumes nothing.
use native.Mathlib.Omega.{arith}
use lib.Bits.{bit_xor}
use Rattle.small.proofs.Writing.{length_few}
use Rattle.queue.proofs.WriteLaws.{xor_under, coordinate_length}
use Rattle.queue.proofs.length.coordinate_length.Goals as goal

pub overflow_add-result : goal.overflow_add-result
overflow_add-result c =
    let a = c.args in
    let p = c.requires in
    omega (
      arith,
      c.number_length.ensures,
      length_few (bit_xor a.c.index a.last) (xor_under a.c.index a.last p.1 p.0),
    )

pub returns : goal.returns
returns c = let a = c.args in omega (arith, c.number_length.ensures, coordinate_length a.last a.c)
