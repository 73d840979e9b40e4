-- `put_parameters` meets its contract: each parameter takes at most 16 bytes. Assumes nothing.
use native.Mathlib.Omega.{arith}
use Rattle.queue.specs.declared.directions.Direction.TheVariants as D
use Rattle.queue.specs.Directions.{in_use}
use Rattle.queue.proofs.WriteLaws.{parameter_few, parameters_put}
use Rattle.queue.proofs.code.put_parameters.Goals as goal

pub put_along-n-requires : goal.put_along-n-requires
put_along-n-requires c =
    let a = c.args in
    omega (
      arith,
      c.put_along-m.ensures.0,
      c.put_along-m.auto.out,
      parameter_few (in_use a.set D.M) a.last.m a.b.m,
    )

pub put_along-theta-requires : goal.put_along-theta-requires
put_along-theta-requires c =
    let a = c.args in
    omega (
      arith,
      c.put_along-m.ensures.0,
      c.put_along-m.auto.out,
      c.put_along-n.ensures.0,
      c.put_along-n.auto.out,
      parameter_few (in_use a.set D.M) a.last.m a.b.m,
      parameter_few (in_use a.set D.N) a.last.n a.b.n,
    )

pub put_along-requires : goal.put_along-requires
put_along-requires c =
    let a = c.args in
    omega (
      arith,
      c.put_along-m.ensures.0,
      c.put_along-m.auto.out,
      c.put_along-n.ensures.0,
      c.put_along-n.auto.out,
      c.put_along-theta.ensures.0,
      c.put_along-theta.auto.out,
      parameter_few (in_use a.set D.M) a.last.m a.b.m,
      parameter_few (in_use a.set D.N) a.last.n a.b.n,
      parameter_few (in_use a.set D.Theta) a.last.theta a.b.theta,
    )

pub returns : goal.returns
returns c =
    let a = c.args in
    let m = c.put_along-m in
    let n = c.put_along-n in
    let theta = c.put_along-theta in
    let t = c.put_along in
    parameters_put a.set a.last a.b a.out.now m.new.out n.new.out theta.new.out t.new.out
    a.at m.result n.result theta.result t.result
    m.ensures n.ensures theta.ensures t.ensures
