-- `recount` meets its contract. Assumes nothing.
use mathlib.Core.Path.{◌≡◌, sym, ◌∙◌}
use mathlib.Core.Bool.{true}
use native.Mathlib.Omega.{arith}
use lib.ListN.{length}
use Rattle.tiles.specs.Tiles.{recountable}
use Rattle.tiles.proofs.TileLaws.{tiles_in_picture}
use Rattle.tiles.proofs.RecountLaws.{recounted_not, recountable_in, recountable_room, recount_empty, recount_tiles}
use Rattle.tiles.proofs.recount.Lts
use Rattle.tiles.proofs.recount.Reads
use Rattle.tiles.proofs.recount.Tie
use Rattle.tiles.proofs.recount.Goals as goal

-- from here on it can be done
ready : (c : Lts.Else1 Tie.the-claims Reads.Pre Reads.Post Tie.handed_clauses)
    → let a = c.args in recountable a.width a.height a.r (length a.cells.now) (length a.table.now) ≡ true
ready c = sym c.is_recountable.ensures ∙ c.if-not-is_recountable.false

pub returns-then-not-is_recountable : goal.returns-then-not-is_recountable
returns-then-not-is_recountable c =
    let a = c.args in
    let e = sym c.is_recountable.ensures ∙ c.if-not-is_recountable.true in
    record { value = sym e; table_after = sym (recounted_not a.width a.height a.r a.taken a.cells.now a.table.now e) }

pub returns-then-is_empty : goal.returns-then-is_empty
returns-then-is_empty c =
    let a = c.args in
    let n = sym c.is_empty.ensures ∙ c.if-is_empty.true in
    let can = ready c.before.before.before in
    record { value = sym can; table_after = recount_empty a.width a.height a.r a.taken a.cells.now a.table.now can n }

pub tiles_of-tiles-requires : goal.tiles_of-tiles-requires
tiles_of-tiles-requires c =
    let a = c.args in
    (omega arith, omega arith, recountable_in a.width a.height a.r (length a.cells.now) (length a.table.now) (ready c.before.before.before))

pub recount_rows-requires : goal.recount_rows-requires
recount_rows-requires c =
    let a = c.args in
    let n = length a.cells.now in
    let m = length a.table.now in
    let can = ready c.before.before.before.before.before in
    record {
      tiles_ready = recountable_room a.width a.height a.r n m can;
      tiles_value = rw c.tiles_of-tiles.ensures (tiles_in_picture a.width a.height a.r (recountable_in a.width a.height a.r n m can));
    }

pub returns : goal.returns
returns c =
    let a = c.args in record {
      value = sym (ready c.before.before.before.before.before.before.before.before);
      table_after = recount_tiles a.width a.height a.r c.tiles_of-tiles.result a.taken a.cells.now a.table.now c.recount_rows.new.table
          (ready c.before.before.before.before.before.before.before.before) (sym c.is_empty.ensures ∙ c.if-is_empty.false) c.tiles_of-tiles.ensures c.recount_rows.ensures;
    }
