-- `setting_up::check_setup` meets its contract, test by test. Assumes nothing.
use mathlib.Core.Path.{sym, ◌∙◌}
use borrow.Author.Rules.{rules}
use Rattle.image.proofs.RangeLaws.{product_fits}
use Rattle.queue.proofs.QueueAnswers.{granted}
use Rattle.implicit.proofs.SetupLawsRefusal.{refused_side, refused_cells, refused_parameter, refused_room, not_refused}
use mathlib.Core.Path.{ap}
use mathlib.Core.Bool.{not}
use Rattle.implicit.proofs.setting_up.check_setup.Goals as goal

pub returns-then-not-is_legal_side : goal.returns-then-not-is_legal_side
returns-then-not-is_legal_side c =
    refused_side _ _ _ _ _ _ c.is_legal_side.ensures c.is_legal_side-2.ensures (ap not c.if-not-is_legal_side.true)

pub overflow_mul-p : goal.overflow_mul-p
overflow_mul-p c = record { fits = product_fits _ _ (search rules) (search rules) }

pub returns-then-count-p : goal.returns-then-count-p
returns-then-count-p c =
    refused_cells _ _ _ _ _ _ c.is_legal_side.ensures c.is_legal_side-2.ensures (ap not c.if-not-is_legal_side.false) c.if-count-p.true

pub returns-then-not-are_ranges_legal : goal.returns-then-not-are_ranges_legal
returns-then-not-are_ranges_legal c =
    refused_parameter _ _ _ _ _ _ c.is_legal_side.ensures c.is_legal_side-2.ensures (ap not c.if-not-is_legal_side.false) c.if-count-p.false _
    c.are_ranges_legal.ensures (ap not c.if-not-are_ranges_legal.true)

pub measure_first-requires : goal.measure_first-requires
measure_first-requires c = sym c.are_ranges_legal.ensures ∙ granted _ (ap not c.if-not-are_ranges_legal.false)

pub returns-then-len-measure_first : goal.returns-then-len-measure_first
returns-then-len-measure_first c =
    refused_room _ _ _ _ _ _ c.is_legal_side.ensures c.is_legal_side-2.ensures (ap not c.if-not-is_legal_side.false) c.if-count-p.false _
    c.are_ranges_legal.ensures (ap not c.if-not-are_ranges_legal.false) _ c.measure_first.ensures.value c.if-len-measure_first.true

pub returns : goal.returns
returns c =
    not_refused _ _ _ _ _ _ c.is_legal_side.ensures c.is_legal_side-2.ensures (ap not c.if-not-is_legal_side.false) c.if-count-p.false _
    c.are_ranges_legal.ensures (ap not c.if-not-are_ranges_legal.false) _ c.measure_first.ensures.value c.if-len-measure_first.false
