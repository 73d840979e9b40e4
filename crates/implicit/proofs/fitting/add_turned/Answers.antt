-- `fitting::add_turned` meets its contract. Assumes nothing.
use native.Mathlib.Omega.{arith}
use Rattle.implicit.proofs.StepLawsChildren.{sized_turned, sized_nowhere}
use Rattle.implicit.proofs.fitting.add_turned.Goals as goal

pub returns-in-Some : goal.returns-in-Some
returns-in-Some c =
    let a = c.args in
    let t = c.turn_to in
    let r = c.add_code in (
      sized_turned a.p a.start a.z a.c c.find_direction.result c.find_direction.ensures
          _ c.in-Some.is t.result r.result t.ensures r.ensures.0,
      r.ensures.1,
      r.ensures.2,
    )

pub returns-in-None : goal.returns-in-None
returns-in-None c =
    let a = c.args in
    (sized_nowhere a.p a.start a.z a.c c.find_direction.result c.find_direction.ensures c.in-None.is, omega arith, omega arith)
