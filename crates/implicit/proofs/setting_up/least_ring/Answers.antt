-- `setting_up::least_ring` meets its contract, test by test. Assumes nothing.
use mathlib.Core.Path.{sym, ◌∙◌}
use native.Mathlib.Omega.{arith}
use Rattle.queue.proofs.QueueAnswers.{granted}
use Rattle.implicit.proofs.SetupLawsRefusal.{least_side, least_parameter, least_bytes}
use mathlib.Core.Path.{ap}
use mathlib.Core.Bool.{not}
use Rattle.implicit.proofs.setting_up.least_ring.Goals as goal

pub returns-then-not-is_legal_side : goal.returns-then-not-is_legal_side
returns-then-not-is_legal_side c = record { value = least_side _ _ _ _ c.is_legal_side.ensures c.is_legal_side-2.ensures (ap not c.if-not-is_legal_side.true); result_bound = omega arith }

pub returns-then-not-are_ranges_legal : goal.returns-then-not-are_ranges_legal
returns-then-not-are_ranges_legal c =
    record {
      value = least_parameter _ _ _ _ c.is_legal_side.ensures c.is_legal_side-2.ensures (ap not c.if-not-is_legal_side.false) _ c.are_ranges_legal.ensures
          (ap not c.if-not-are_ranges_legal.true);
      result_bound = omega arith;
    }

pub measure_first-requires : goal.measure_first-requires
measure_first-requires c = sym c.are_ranges_legal.ensures ∙ granted _ (ap not c.if-not-are_ranges_legal.false)

pub returns : goal.returns
returns c =
    record {
      value = least_bytes _ _ _ _ c.is_legal_side.ensures c.is_legal_side-2.ensures (ap not c.if-not-is_legal_side.false) _ c.are_ranges_legal.ensures
          (ap not c.if-not-are_ranges_legal.false) _ c.measure_first.ensures.value;
      result_bound = c.measure_first.ensures.upper_bound;
    }
