-- `count_rectangle` meets its contract. Assumes nothing.
use mathlib.Core.Path.{◌≡◌, sym, ap, ◌∙◌}
use mathlib.Core.Bool.{true, ◌&&◌}
use Prim.Native.Nat.{ℕ, ◌<◌}
use native.Mathlib.Omega.{arith}
use borrow.Author.Tests.{ltb-true}
use lib.Dec.{ltb}
use Rattle.base.proofs.Test.{and_left, and_right}
use Rattle.image.specs.Cell.{true_code, meanings, tallied}
use Rattle.image.specs.Painting.{held_cells}
use Rattle.image.specs.RowsComputed.{tile_shaped}
use Rattle.image.proofs.PackLaws.{less_more}
use Rattle.image.proofs.rows.count_rectangle.Lts
use Rattle.image.proofs.rows.count_rectangle.Reads
use Rattle.image.proofs.rows.count_rectangle.Tie
use Rattle.image.proofs.rows.count_rectangle.Goals as goal

-- the three tests
shaped : (c : goal.Then-is_tile_shaped-taken) → tile_shaped c.args.v.r ≡ true
shaped c =
    let t = c.args.taken in
    sym c.is_tile_shaped.ensures
    ∙ and_left c.is_tile_shaped.result (ltb 0 t) (and_left (c.is_tile_shaped.result && ltb 0 t) (ltb t true_code) c.if-is_tile_shaped-taken.true)

some_taken : (c : Lts.Then1 Tie.the-claims Reads.Pre Reads.Post) → 0 < c.args.taken
some_taken c =
    let t = c.args.taken in
    ltb-true 0 t (and_right c.is_tile_shaped.result (ltb 0 t) (and_left (c.is_tile_shaped.result && ltb 0 t) (ltb t true_code) c.if-is_tile_shaped-taken.true))

fitting : (c : goal.Then-is_tile_shaped-taken) → c.args.taken < true_code
fitting c =
    let t = c.args.taken in
    ltb-true t true_code (and_right (c.is_tile_shaped.result && ltb 0 t) (ltb t true_code) c.if-is_tile_shaped-taken.true)

pub overflow_sub-taken : goal.overflow_sub-taken
overflow_sub-taken c = omega (arith, some_taken c)

pub overflow_cast-taken : goal.overflow_cast-taken
overflow_cast-taken c = record { fits = omega (arith, fitting c) }

pub count_tile-requires : goal.count_tile-requires
count_tile-requires c = shaped c

pub returns-then-is_tile_shaped-taken : goal.returns-then-is_tile_shaped-taken
returns-then-is_tile_shaped-taken c =
    let a = c.args in
    c.count_tile.ensures ∙ ap (λ (n : ℕ). tallied n (held_cells a.v.width a.v.r (meanings a.v.cells.now))) (less_more a.taken (some_taken c.before))
