-- `implicit::view::count_pixels` meets its contract. Assumes nothing.
use mathlib.Core.Path.{◌≡◌, ap, ◌∙◌}
use Rattle.std.specs.Prelude.{Ok, Some}
use Rattle.image.specs.Cell.{tallied}
use Rattle.implicit.specs.Record.{pixel_cells}
use Rattle.implicit.specs.View.{counts_from}
use Rattle.implicit.proofs.ViewLaws.{settled_few, whole_tallied, same_tally, never_outside}
use Rattle.implicit.proofs.view.count_pixels.Lts
use Rattle.implicit.proofs.view.count_pixels.Reads
use Rattle.implicit.proofs.view.count_pixels.Tie
use Rattle.implicit.proofs.view.count_pixels.Goals as goal

-- what was counted
counted : (c : Lts.After-count Tie.the-claims Reads.Pre Reads.Post) → let a = c.args in c.count.result ≡ Some (tallied a.s.taken (pixel_cells a.s.chosen a.cells.now))
counted c =
    let a = c.args in
    let w = c.whole-all in
    whole_tallied a.s a.cells.now w.result c.count.result c.requires.1 w.ensures c.count.ensures

pub with_share-requires : goal.with_share-requires
with_share-requires c =
    (c.requires.0, settled_few c.args.s.chosen c.args.s.taken c.args.cells.now _ c.requires.1 (same_tally _ _ _ (counted c.before.before) c.in-Some.is))

pub returns-in-Some : goal.returns-in-Some
returns-in-Some c =
    ap Ok (c.with_share.ensures ∙ ap (counts_from c.args.s) (same_tally _ _ _ (counted c.before.before.before) c.in-Some.is))

pub returns-in-None : goal.returns-in-None
returns-in-None c = never_outside _ _ (counted c.before.before) c.in-None.is
