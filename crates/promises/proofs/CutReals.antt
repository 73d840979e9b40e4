-- Cutting a real parameter loses no value, first or later, whatever order the reals have. Assumes nothing.
use mathlib.Core.Path.{◌≡◌, refl}
use mathlib.Core.Logic.{◌⊎◌, inl, inr}
use mathlib.Core.Bool.{Bool, true, false}
use lib.Ieee.{Float}
use lib.Ieee.Scale.{finite}
use Rattle.base.proofs.Test.{by_test}
use Rattle.base.specs.Lists.{Some}
use Rattle.theory.specs.Cuts.{InSpan}
use Rattle.theory.proofs.Theorems.{later_real_loses_nothing}
use Rattle.theory.proofs.ListLaws.{some_of_map}
use Rattle.interval.specs.declared.Interval.{Interval}
use Rattle.interval.specs.Bounds.{InFormat, legal_interval, zero_as}
use Rattle.interval.specs.Kinds.{cut_point_of}
use Rattle.interval.specs.Cuts.{span_of, three_at, first_cut, later_cut}
use Rattle.interval.proofs.CutPoint.{cut_good}
use Rattle.interval.proofs.FirstCut.{three_by}
use Rattle.interval.proofs.LaterCut.{later_real}
use Rattle.promises.specs.Mixes.{span_by}
use Rattle.promises.proofs.CutSpans.{span_put, three_spans}

module _ {N : Type 0} (Le : N → N → Type 0) (f : Float → N) (same : (t : Bool) (x : Float) → f (zero_as t x) ≡ f x) (v : Interval) (legal : legal_interval v false ≡ true) where
  -- the middle piece of the first cut is the whole
  pub first_real_holds : (x : N) → InSpan Le (span_by f v) x → Some (λ u. InSpan Le (span_by f u) x) (first_cut v false)
  unfolding first_cut Some
  first_real_holds x h =
      let all : InSpan Le (span_by f (span_of v.lower v.upper)) x = rw (span_put f same v) h in
      rw (three_by v false (finite v.lower) (finite v.upper) legal refl refl)
      (by_test (λ l. Some (λ u. InSpan Le (span_by f u) x) l) (finite v.lower) _ _ (λ e. inr (inl all)) (λ e. inl all))

  -- the pieces of a later one have the spans of a cut at a number
  pub later_real_holds : InFormat v → ((a b : N) → Le a b ⊎ Le b a) → (x : N) → InSpan Le (span_by f v) x
      → Some (λ u. InSpan Le (span_by f u) x) (later_cut v false)
  later_real_holds format total x h =
      let c = cut_point_of v false in
      rw (later_real v)
      (some_of_map (λ u. InSpan Le u x) (span_by f) (three_at v c)
      (rw (three_spans f same v c (cut_good v false format legal).number) (later_real_loses_nothing Le total (f c) (span_by f v) x h)))
