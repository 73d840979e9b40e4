-- `first::measure_behind` meets its contract. Assumes nothing.
use native.Mathlib.Omega.{arith}
use Rattle.implicit.proofs.SetupLawsWriting.{counted_short, counted_behind, counted_not}
use Rattle.implicit.proofs.first.measure_behind.Goals as goal

pub overflow_add-result : goal.overflow_add-result
overflow_add-result c =
    let short = counted_short c.args.set c.args.k c.args.b c.requires.0 c.requires.1 _ c.measure.ensures c.in-Ok.measured.count c.in-Ok.measured.last c.in-Ok.is in
    record { fits = omega (arith, c.requires.2, short) }

pub returns-in-Ok : goal.returns-in-Ok
returns-in-Ok c =
    counted_behind c.args.set c.args.k c.args.b c.requires.0 c.requires.1 _ c.measure.ensures _ _ c.in-Ok.is

pub returns-in-Err : goal.returns-in-Err
returns-in-Err c =
    counted_not c.args.set c.args.k c.args.b c.requires.0 c.requires.1 _ c.measure.ensures c.in-Err.field-0 c.in-Err.is
