-- `room::enough_ring` meets its contract: 6723 and 2^32 times 122 fit 64 bits. Assumes nothing.
use mathlib.Core.Path.{sym}
use Prim.Native.Nat.{◌*◌, ◌≤◌}
use native.Mathlib.Omega.{arith}
use Rattle.std.proofs.lemmas.Result.{err_from_is_err_and}
use Rattle.implicit.proofs.RoomLaws.{enough_bytes_lem, enough_refused, steps_most}
use Rattle.implicit.proofs.room.enough_ring.Goals as goal

pub overflow_mul-result : goal.overflow_mul-result
overflow_mul-result c =
    let g = c.step_growth in
    record { fits = omega (arith, steps_most c.args.steps g.result c.ranges.steps.fits g.ensures.upper_bound) }

pub overflow_add-result : goal.overflow_add-result
overflow_add-result c =
    let g = c.step_growth in
    let least : c.in_ok-first.first ≤ 83 * 81 = c.in_ok-first.ensures.result_bound in
    record { fits = omega (arith, least, steps_most c.args.steps g.result c.ranges.steps.fits g.ensures.upper_bound) }

pub returns : goal.returns
returns c = enough_bytes_lem _ _ _ _ _ (sym c.in_ok-first.ensures.value) c.step_growth.ensures.value

pub returns-in_err-first : goal.returns-in_err-first
returns-in_err-first c =
    let p = err_from_is_err_and c.from_residual.result c.from_residual.ensures.1 in rw (p.1, p.2) (enough_refused _ _ _ _ (sym c.in_err-first.ensures.value))
