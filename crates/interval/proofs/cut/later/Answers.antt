-- `cut::later` meets its contract. Assumes nothing.
use Rattle.std.proofs.Common.{◌≡◌, ap, ◌∙◌}
use lib.Ieee.{binary64, fits}
use denote.Floats.{passes}
use Rattle.interval.specs.declared.kind.Kind.{Kind}
use Rattle.interval.specs.Bounds.{InFormat}
use Rattle.interval.specs.Kinds.{cut_point_at, cut_point_of}
use Rattle.interval.proofs.LaterCut.{later_yes, later_no, later_sides}
use Rattle.interval.proofs.cut.later.Lts
use Rattle.interval.proofs.cut.later.Reads
use Rattle.interval.proofs.cut.later.Tie
use Rattle.interval.proofs.cut.later.Goals as goal

held : (c : goal.Then-integer) → InFormat c.args.x
held c = (passes (fits binary64 c.args.x.lower) c.well_formed.0.1.1.0.1, passes (fits binary64 c.args.x.upper) c.well_formed.0.1.1.1.0.1)

is_cut : (c : Lts.After-cut_point Tie.the-claims Reads.Pre Reads.Post Tie.handed_clauses) → c.cut_point-c.result ≡ cut_point_of c.args.x c.args.integer
is_cut c = c.cut_point-c.ensures ∙ ap (λ (k : Kind). cut_point_at k c.args.integer) c.kind_of.ensures.kind

pub around-requires : goal.around-requires
around-requires c =
    let sides = later_sides c.args.x c.args.integer c.cut_point-c.result c.span-left.result c.span-point.result c.span-right.result
    (is_cut c.before.before.before.before) c.span-left.ensures c.span-point.ensures c.span-right.ensures
    (held c) c.requires c.if-integer.true in
    record { left = sides.0; right = sides.1 }

pub returns-then-integer : goal.returns-then-integer
returns-then-integer c =
    c.around.ensures
    ∙ later_yes c.args.x c.args.integer c.cut_point-c.result c.span-left.result c.span-point.result c.span-right.result
    (is_cut c.before.before.before.before.before) c.span-left.ensures c.span-point.ensures c.span-right.ensures c.if-integer.true

pub returns-else-integer : goal.returns-else-integer
returns-else-integer c =
    later_no c.args.x c.args.integer c.cut_point-c.result c.span-left.result c.span-point.result c.span-right.result
    (is_cut c.before.before.before.before) c.span-left.ensures c.span-point.ensures c.span-right.ensures c.if-integer.false
