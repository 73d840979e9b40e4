-- `cut::narrow` meets its contract. Assumes nothing.
use Rattle.std.proofs.Common.{◌≡◌, Bool, true, ◌&&◌, sym, ap, ◌∙◌}
use lib.Ieee.{binary64, eq, sub, of_bits}
use Rattle.interval.specs.Kinds.{middle_at}
use Rattle.interval.specs.Cuts.{width_is, subdivisible}
use Rattle.interval.proofs.Widths.{width_two}
use Rattle.interval.proofs.LaterCut.{narrow_yes, narrow_no}
use Rattle.interval.proofs.cut.narrow.Lts
use Rattle.interval.proofs.cut.narrow.Reads
use Rattle.interval.proofs.cut.narrow.Tie
use Rattle.interval.proofs.cut.narrow.Goals as goal

-- the two tests
tested : (c : Lts.After-splits Tie.the-claims Reads.Pre Reads.Post Tie.handed_clauses) → eq (sub binary64 c.args.p.upper c.args.p.lower) (of_bits binary64 0x4000_0000_0000_0000) && c.splits.result ≡ width_is 2 c.args.p && subdivisible c.args.p true
tested c =
    let p = c.args.p in
    ap (λ (z : Bool). z && c.splits.result) (width_two p (c.struct_known-1.given.0, c.struct_known-1.given.1.0) c.requires)
    ∙ ap (λ (z : Bool). width_is 2 p && z) c.splits.ensures

pub returns-then-p-splits : goal.returns-then-p-splits
returns-then-p-splits c =
    let p = c.args.p in
    narrow_yes p c.span.result c.middle-m.result (sym (tested c.before.before.before.before) ∙ c.if-p-splits.true)
    (c.middle-m.ensures ∙ ap middle_at c.kind_of.ensures.kind) c.span.ensures

pub returns-else-p-splits : goal.returns-else-p-splits
returns-else-p-splits c = narrow_no c.args.p (sym (tested c.before) ∙ c.if-p-splits.false)
