-- Grey: a pixel reads Uncertain exactly if it isn't True and was given up by a step or lies under a queued block. Assumes nothing.
use mathlib.Core.Path.{◌≡◌, refl}
use mathlib.Core.Logic.{◌⊎◌, inl, inr, ⊎_elim, ◌↔◌}
use mathlib.Core.Bool.{Bool}
use mathlib.Core.List.{List, [], ◌∷◌}
use Prim.Native.Nat.{ℕ, zero, suc, ◌-◌}
use native.Mathlib.Decide.{dec_lt}
use native.Mathlib.Omega.{arith}
use lib.Dec.{T}
use Rattle.base.specs.Lists.{Some}
use Rattle.theory.specs.Cells.{Standing, marked_true, given_up, named, PixelReading, reads_true, reads_false, reads_uncertain}
use Rattle.theory.specs.Runs.{Snapshot, AcceptedSetup, FinishedSteps}
use Rattle.theory.specs.Demand3.{pixel_reads, NoneCovers, covers_at_place, NamesLast, WasGivenUp}
use Rattle.theory.proofs.StandingLaws.{reads_false_lem, reads_true_lem}
use Rattle.theory.proofs.Invariant.{setup_sound, steps_sound, sound_named}
use Rattle.theory.proofs.FalseRule.{now_was, false_by_events}

-- no two readings are one
grey_not_true : {r : PixelReading} → r ≡ reads_uncertain → ¬ (r ≡ reads_true)
grey_not_true e f = let z : ◌≡◌ {A = ℕ} 0 1 = cc in omega arith

grey_not_false : {r : PixelReading} → r ≡ reads_uncertain → ¬ (r ≡ reads_false)
grey_not_false e f = let z : ◌≡◌ {A = ℕ} 0 1 = cc in omega arith

-- and there are three
third : (r : PixelReading) → ¬ (r ≡ reads_true) → ¬ (r ≡ reads_false) → r ≡ reads_uncertain
third reads_true t f = absurd (t refl)
third reads_false t f = absurd (f refl)
third reads_uncertain t f = refl

module _ {Block Pixel : Type 0} (covers : Block → Pixel → Bool) where
  -- a place that covers the pixel is a block that does
  some_at : (q : List Block) (i : ℕ) (p : Pixel) → T (covers_at_place covers q i p) → Some (λ b. T (covers b p)) q
  unfolding covers_at_place Some
  some_at [] i p h = h
  some_at (b ∷ q) zero p h = inl h
  some_at (b ∷ q) (suc i) p h = inr (some_at q i p h)

  -- of a list of which none does, none does
  none_some : (q : List Block) (p : Pixel) → NoneCovers covers q p → ¬ Some (λ b. T (covers b p)) q
  unfolding NoneCovers Some
  none_some [] p n h = h
  none_some (b ∷ q) p n (inl h) = n.0 h
  none_some (b ∷ q) p n (inr h) = none_some q p n.1 h

  module _ (spare : Bool) {n : ℕ} {s₀ s : Snapshot Block Pixel} (z : AcceptedSetup covers s₀) (r : FinishedSteps covers spare n s₀ s) (p : Pixel) where
    abbrev StillGrey : Type 0
    StillGrey = WasGivenUp covers spare r p ⊎ Some (λ b. T (covers b p)) s.queue

    -- by what stands in the cell
    by_cell : pixel_reads s p ≡ reads_uncertain → StillGrey
    unfolding pixel_reads
    by_cell e = go (s.cells p) refl
      where
        go : (v : Standing) → s.cells p ≡ v → StillGrey
        go marked_true f = absurd (grey_not_true e ((reads_true_lem s.taken (s.cells p)).1 f))
        go given_up f = inl (now_was covers spare z r p f)
        go (named m) f = elim (dec_lt m s.taken) [
          | yes h ↦ absurd (grey_not_false e ((reads_false_lem s.taken (s.cells p)).1 (m, f, h)))
          | no h ↦ (let o : NamesLast covers s.taken s.queue p m = sound_named covers s (steps_sound covers spare r (setup_sound covers z)) p m f in
              inr (some_at s.queue (m - s.taken) p (o.covering (m - s.taken) (omega arith))))
        ]

    not_white : StillGrey → ¬ (pixel_reads s p ≡ reads_false)
    not_white o e = let w = (false_by_events covers spare z r p).0 e in ⊎_elim w.1 (none_some s.queue p w.2) o

    pub grey_by_events : (pixel_reads s p ≡ reads_uncertain) ↔ ((¬ (pixel_reads s p ≡ reads_true)) × StillGrey)
    grey_by_events = ((λ e. (grey_not_true e, by_cell e)), (λ (not_true, o). third (pixel_reads s p) not_true (not_white o)))
