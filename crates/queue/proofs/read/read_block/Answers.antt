-- `read_block` meets its contract: its parts in order. Assumes nothing.
use Rattle.std.proofs.Common.{◌≤◌, ◌+◌, length, arith, ap, sym, ◌∙◌, drop, length-drop, length-append, Option, ℕ}
use Rattle.coordinate.specs.declared.Coordinate.{Coordinate}
use Rattle.queue.specs.RingComputed.{bytes}
use Rattle.queue.specs.Decode.{with_y, rest_read}
use Rattle.queue.proofs.BlockReading.{place_none, place_some, y_none, coordinate_inside}
use Rattle.queue.proofs.read.read_block.Goals as goal
use Rattle.queue.proofs.read.read_block.Goals.{In_ok-y}

-- x ends inside the bytes, and so does y
inside : (c : In_ok-y) → c.in_ok-x.at + c.in_ok-y.count ≤ length (bytes c.args.held)
inside c =
    let s = bytes c.args.held in
    omega (
      arith,
      coordinate_inside c.args.last.x s c.in_ok-x.x c.in_ok-x.at c.in_ok-x.ensures,
      coordinate_inside c.args.last.y (drop c.in_ok-x.at s) c.in_ok-y.y c.in_ok-y.count c.in_ok-y.ensures,
      length-drop c.in_ok-x.at s,
    )

pub returns-in_err-x : goal.returns-in_err-x
returns-in_err-x c = let a = c.args in c.from_residual.ensures ∙ place_none a.set a.last (bytes a.held) c.in_err-x.ensures

pub read_coordinate-requires-2 : goal.read_coordinate-requires-2
read_coordinate-requires-2 c = let a = c.args in coordinate_inside a.last.x (bytes a.held) _ _ c.in_ok-x.ensures

pub returns-in_err-y : goal.returns-in_err-y
returns-in_err-y c =
    let a = c.args in
    c.from_residual-in_err-y.ensures ∙ y_none a.set a.last (bytes a.held) c.in_ok-x.x c.in_ok-x.at _ (sym c.in_err-y.ensures)
    ∙ place_some a.set a.last (bytes a.held) c.in_ok-x.x c.in_ok-x.at c.in_ok-x.ensures

pub overflow_add-at : goal.overflow_add-at
overflow_add-at c = omega (arith, inside (goal.at.overflow_add-at c).In_ok-y, length-append c.args.held.older.now c.args.held.newer.now)

pub read_rest-requires : goal.read_rest-requires
read_rest-requires c = inside (goal.at.read_rest-requires c).In_ok-y

pub returns : goal.returns
returns c =
    let a = c.args in
    let y_read : Option (Coordinate × ℕ) → _ = λ r. rest_read a.set a.last (bytes a.held) (with_y c.in_ok-x.x c.in_ok-x.at r) in
    c.read_rest.ensures ∙ ap y_read c.in_ok-y.ensures
    ∙ place_some a.set a.last (bytes a.held) c.in_ok-x.x c.in_ok-x.at c.in_ok-x.ensures
