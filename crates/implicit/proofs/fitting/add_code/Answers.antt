-- `fitting::add_code` meets its contract. Assumes nothing.
use mathlib.Core.Path.{sym, ap, ◌∙◌}
use native.Mathlib.Omega.{arith}
use Rattle.implicit.specs.StepComputed.{with_code}
use Rattle.implicit.proofs.StepLawsChildren.{measured_few}
use Rattle.implicit.proofs.fitting.add_code.Goals as goal

pub overflow_add-result-in-Ok : goal.overflow_add-result-in-Ok
overflow_add-result-in-Ok c =
    let a = c.args in
    let m = c.measure in
    let f = measured_few a.set a.z.last a.b m.result _ _ m.ensures c.in-Ok.is in
    omega (arith, c.requires, f)

pub returns-in-Ok : goal.returns-in-Ok
returns-in-Ok c =
    let a = c.args in
    let m = c.measure in
    let f = measured_few a.set a.z.last a.b m.result _ _ m.ensures c.in-Ok.is in
    (ap (with_code a.z) (sym c.in-Ok.is ∙ m.ensures), omega (arith, f), omega arith)

pub returns-in-Err : goal.returns-in-Err
returns-in-Err c =
    (ap (with_code c.args.z) (sym c.in-Err.is ∙ c.measure.ensures), omega arith, omega arith)
