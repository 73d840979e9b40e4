-- `kind::middle` meets its contract, arm by arm. Assumes nothing.
use Rattle.std.proofs.Common.{T, sym, ap, ◌∙◌, subst}
use lib.Ieee.{of_bits, neg}
use Rattle.interval.specs.declared.kind.Kind.{Kind}
use Rattle.interval.specs.Kinds.{middle_at}
use Rattle.interval.specs.KindsComputed.{finite_ends}
use Rattle.interval.proofs.kind.middle.Goals as goal

pub half_sum-requires : goal.half_sum-requires
half_sum-requires c = subst (λ (k : Kind). T (finite_ends k)) c.in-Between.is c.requires

pub returns-in-Whole : goal.returns-in-Whole
unfolding middle_at of_bits
returns-in-Whole c = sym (ap middle_at c.in-Whole.is)

pub returns-in-UpTo : goal.returns-in-UpTo
unfolding middle_at of_bits neg
returns-in-UpTo c = sym (ap middle_at c.in-UpTo.is)

pub returns-in-From : goal.returns-in-From
unfolding middle_at of_bits
returns-in-From c = sym (ap middle_at c.in-From.is)

pub returns-in-Between : goal.returns-in-Between
unfolding middle_at
returns-in-Between c = c.half_sum.ensures ∙ sym (ap middle_at c.in-Between.is)
