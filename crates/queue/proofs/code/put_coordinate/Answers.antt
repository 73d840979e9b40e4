-- `put_coordinate` meets its contract. Assumes nothing.
use native.Mathlib.Omega.{arith}
use lib.Bits.{bit_xor}
use Rattle.small.proofs.Writing.{length_few}
use Rattle.queue.proofs.WriteLaws.{xor_under, coordinate_put}
use Rattle.queue.proofs.code.put_coordinate.Goals as goal

pub put_number-end-requires : goal.put_number-end-requires
put_number-end-requires c =
    let a = c.args in (omega arith, xor_under a.index a.last c.requires.2 c.requires.1)

pub bounds-out-end : goal.bounds-out-end
bounds-out-end c =
    let a = c.args in
    let p = c.requires in
    omega (
      arith,
      c.put_number-end.ensures.0,
      c.put_number-end.auto.out,
      length_few (bit_xor a.index a.last) (xor_under a.index a.last p.2 p.1),
    )

pub overflow_add-result : goal.overflow_add-result
overflow_add-result c =
    let a = c.args in
    let p = c.requires in
    omega (
      arith,
      c.put_number-end.ensures.0,
      c.put_number-end.auto.out,
      length_few (bit_xor a.index a.last) (xor_under a.index a.last p.2 p.1),
    )

pub returns : goal.returns
returns c =
    let a = c.args in
    let w = c.put_number-end in
    coordinate_put a.out.now w.new.out a.at w.result a.last
    (record { index = a.index; rank = a.rank }) c.level_byte.result w.ensures c.level_byte.ensures
