-- `kind::cut_point` meets its contract, arm by arm. Assumes nothing.
use Rattle.std.proofs.Common.{T, ℤ, sym, ap, ◌∙◌, subst}
use lib.Ieee.{Float, of_bits, neg}
use Rattle.interval.specs.declared.kind.Kind.{Kind}
use Rattle.interval.specs.Bounds.{plus_zero}
use Rattle.interval.specs.Middle.{whole_if}
use Rattle.interval.specs.Kinds.{cut_up_to, cut_point_at}
use Rattle.interval.specs.KindsComputed.{finite_ends}
use Rattle.interval.proofs.CutUpTo.{units_neg, neg_finite}
use Rattle.interval.proofs.kind.cut_point.Goals as goal

pub cut_up_to-requires : goal.cut_up_to-requires
cut_up_to-requires c = subst (λ (k : Kind). T (finite_ends k)) c.in-UpTo.is c.requires

pub cut_up_to-requires-in-From : goal.cut_up_to-requires-in-From
cut_up_to-requires-in-From c = neg_finite c.in-From.a (subst (λ (k : Kind). T (finite_ends k)) c.in-From.is c.requires)

pub half_sum-requires : goal.half_sum-requires
half_sum-requires c = subst (λ (k : Kind). T (finite_ends k)) c.in-Between.is c.requires

pub returns-in-Whole : goal.returns-in-Whole
unfolding cut_point_at of_bits
returns-in-Whole c = sym (ap (λ (k : Kind). cut_point_at k c.args.integer) c.in-Whole.is)

pub returns-in-UpTo : goal.returns-in-UpTo
unfolding cut_point_at
returns-in-UpTo c = c.cut_up_to.ensures ∙ sym (ap (λ (k : Kind). cut_point_at k c.args.integer) c.in-UpTo.is)

pub returns-in-From : goal.returns-in-From
unfolding cut_point_at
returns-in-From c =
    c.plus_zero.ensures
    ∙ ap (λ (z : Float). plus_zero (neg z)) c.cut_up_to-in-From.ensures
    ∙ ap (λ (z : ℤ). plus_zero (neg (cut_up_to z))) (units_neg c.in-From.a)
    ∙ sym (ap (λ (k : Kind). cut_point_at k c.args.integer) c.in-From.is)

pub returns-in-Between : goal.returns-in-Between
unfolding cut_point_at
returns-in-Between c =
    c.whole_if.ensures
    ∙ ap (whole_if c.args.integer) c.half_sum.ensures
    ∙ sym (ap (λ (k : Kind). cut_point_at k c.args.integer) c.in-Between.is)
