-- `read_coordinate` meets its contract. Assumes nothing.
use Rattle.std.proofs.Common.{◌≡◌, ◌≤◌, ◌+◌, length, drop, arith, sym, ap, ◌∙◌, length-drop, length-append}
use Rattle.std.specs.Prelude.{Ok}
use Rattle.std.specs.Result.{result_ok}
use Rattle.small.specs.Small.{read_small}
use Rattle.small.proofs.Reading.{read_inside}
use Rattle.queue.specs.RingComputed.{bytes}
use Rattle.queue.proofs.ReadLaws.{ok_some, coordinate_none, coordinate_damaged, coordinate_whole}
use Rattle.queue.proofs.read.read_coordinate.Goals as goal
use Rattle.queue.proofs.read.read_coordinate.Goals.{In_ok-number}

-- the number read, and it ends inside the bytes
whole : (c : In_ok-number) → Ok c.in_ok-number.number ≡ read_small (drop c.args.at (bytes c.args.held))
whole c = ok_some _ _ c.in_ok-number.ensures.value ∙ c.read_number.ensures

inside : (c : In_ok-number) → c.args.at + c.in_ok-number.number.count ≤ length (bytes c.args.held)
inside c =
    let s = bytes c.args.held in
    omega (arith, read_inside (drop c.args.at s) c.in_ok-number.number (sym (whole c)), length-drop c.args.at s)

pub overflow_add-at : goal.overflow_add-at
overflow_add-at c = omega (arith, inside (goal.at.overflow_add-at c).In_ok-number, length-append c.args.held.older.now c.args.held.newer.now)

pub overflow_add-result : goal.overflow_add-result
overflow_add-result c = omega (arith, inside (goal.at.overflow_add-result c).In_ok-number, length-append c.args.held.older.now c.args.held.newer.now)

pub returns-in_err-number : goal.returns-in_err-number
returns-in_err-number c =
    c.from_residual.ensures
    ∙ coordinate_none c.args.last _ (c.in_err-number.ensures.value ∙ ap result_ok c.read_number.ensures)

pub returns-in_err-rank : goal.returns-in_err-rank
returns-in_err-rank c =
    c.from_residual-in_err-rank.ensures ∙ coordinate_damaged c.args.last _ c.args.at _ (ok_some _ _ c.in_ok-number.ensures.value ∙ c.read_number.ensures) c.in_err-rank.ensures

pub returns : goal.returns
returns c = coordinate_whole c.args.last _ c.args.at _ _ (ok_some _ _ c.in_ok-number.ensures.value ∙ c.read_number.ensures) c.in_ok-rank.ensures
