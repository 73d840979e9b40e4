-- `parameters_length` meets its contract: each parameter takes at most 16 bytes. Assumes nothing.
use native.Mathlib.Omega.{arith}
use Rattle.queue.specs.declared.directions.Direction.TheVariants as D
use Rattle.queue.specs.Directions.{in_use}
use Rattle.queue.proofs.WriteLaws.{parameter_few}
use Rattle.queue.proofs.LengthLaws.{parameters_length}
use Rattle.queue.proofs.length.parameters_length.Goals as goal

pub overflow_add-result : goal.overflow_add-result
overflow_add-result c =
    let a = c.args in
    omega (
      arith,
      c.parameter_length-m.ensures,
      c.parameter_length-n.ensures,
      parameter_few (in_use a.set D.M) a.last.m a.b.m,
      parameter_few (in_use a.set D.N) a.last.n a.b.n,
    )

pub overflow_add-result-2 : goal.overflow_add-result-2
overflow_add-result-2 c =
    let a = c.args in
    omega (
      arith,
      c.parameter_length-m.ensures,
      c.parameter_length-n.ensures,
      c.parameter_length-theta.ensures,
      parameter_few (in_use a.set D.M) a.last.m a.b.m,
      parameter_few (in_use a.set D.N) a.last.n a.b.n,
      parameter_few (in_use a.set D.Theta) a.last.theta a.b.theta,
    )

pub overflow_add-result-3 : goal.overflow_add-result-3
overflow_add-result-3 c =
    let a = c.args in
    omega (
      arith,
      c.parameter_length-m.ensures,
      c.parameter_length-n.ensures,
      c.parameter_length-theta.ensures,
      c.parameter_length-t.ensures,
      parameter_few (in_use a.set D.M) a.last.m a.b.m,
      parameter_few (in_use a.set D.N) a.last.n a.b.n,
      parameter_few (in_use a.set D.Theta) a.last.theta a.b.theta,
      parameter_few (in_use a.set D.T) a.last.t a.b.t,
    )

pub returns : goal.returns
returns c =
    let a = c.args in
    omega (
      arith,
      c.parameter_length-m.ensures,
      c.parameter_length-n.ensures,
      c.parameter_length-theta.ensures,
      c.parameter_length-t.ensures,
      parameters_length a.set a.last a.b,
    )
