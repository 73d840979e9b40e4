-- The False rule, with what was given up said by events; False stays False; a step leaves the readings elsewhere as they are. Assumes nothing.
use mathlib.Core.Path.{◌≡◌, refl, ◌∙◌}
use mathlib.Core.Logic.{inl, inr, ⊎_elim, ◌↔◌}
use mathlib.Core.Bool.{Bool}
use mathlib.Core.List.{List, [], ◌∷◌}
use Prim.Native.Nat.{ℕ, zero, suc, ◌+◌, ◌-◌}
use native.Mathlib.Decide.{dec_lt}
use native.Mathlib.Omega.{arith}
use lib.Dec.{T}
use borrow.Author.Tests.{le-leb, lt-leb}
use Rattle.theory.specs.Cells.{Standing, marked_true, given_up, named, reads_true, reads_false, standing_reads}
use Rattle.theory.specs.Runs.{Snapshot, AcceptedSetup, FinishedStep, FinishedSteps, no_step, one_more}
use Rattle.theory.specs.Demand3.{pixel_reads, NoneCovers, covers_at_place, NamesLast, WasGivenUp}
use Rattle.theory.proofs.Nameless.{Nameless}
use Rattle.theory.proofs.StandingLaws.{reads_false_lem, reads_true_lem, step_untouched, step_nameless, step_unnames, step_given_up}
use Rattle.theory.proofs.Invariant.{Sound, AllSound, setup_sound, steps_sound}

module _ {Block Pixel : Type 0} (covers : Block → Pixel → Bool) where
  -- no place of the list covers the pixel exactly if no block of it does
  pub none_of : (q : List Block) (p : Pixel) → ((i : ℕ) → ¬ T (covers_at_place covers q i p)) → NoneCovers covers q p
  unfolding covers_at_place NoneCovers
  none_of [] p h = tt
  none_of (b ∷ q) p h = (h zero, none_of q p (λ i. h (suc i)))

  none_at : (q : List Block) (p : Pixel) → NoneCovers covers q p → (i : ℕ) → ¬ T (covers_at_place covers q i p)
  unfolding covers_at_place NoneCovers
  none_at [] p h i k = k
  none_at (b ∷ q) p h zero k = h.0 k
  none_at (b ∷ q) p h (suc i) k = none_at q p h.1 i k

  -- the rule with the cell's own state for what was given up
  pub false_by_cell : (s : Snapshot Block Pixel) → AllSound covers s → (p : Pixel)
      → (pixel_reads s p ≡ reads_false) ↔ ((¬ (s.cells p ≡ marked_true)) × (¬ (s.cells p ≡ given_up)) × NoneCovers covers s.queue p)
  unfolding AllSound pixel_reads
  false_by_cell s sound p = (there, back (s.cells p) refl)
    where
      there : standing_reads s.taken (s.cells p) ≡ reads_false
          → (¬ (s.cells p ≡ marked_true)) × (¬ (s.cells p ≡ given_up)) × NoneCovers covers s.queue p
      there e =
          let (n, f, h) = (reads_false_lem s.taken (s.cells p)).0 e in
          let o : NamesLast covers s.taken s.queue p n = rw f at (sound p) in (
            (λ g. (let z : ◌≡◌ {A = ℕ} 0 1 = cc in omega arith)),
            (λ g. (let z : ◌≡◌ {A = ℕ} 0 1 = cc in omega arith)),
            none_of s.queue p (λ i k. (let r = o.none_behind i k in omega arith)),
          )

      back : (v : Standing) → s.cells p ≡ v → (¬ (s.cells p ≡ marked_true)) × (¬ (s.cells p ≡ given_up)) × NoneCovers covers s.queue p
          → standing_reads s.taken (s.cells p) ≡ reads_false
      back marked_true e h = absurd (h.0 e)
      back given_up e h = absurd (h.1 e)
      back (named n) e h = elim (dec_lt n s.taken) [
        | yes k ↦ (reads_false_lem s.taken (s.cells p)).1 (n, e, k)
        | no k ↦ (let o : NamesLast covers s.taken s.queue p n = rw e at (sound p) in
            absurd (none_at s.queue p h.2 (n - s.taken) (o.covering (n - s.taken) (omega arith))))
      ]

  module _ (spare : Bool) where
    -- what was given up names no block ever after
    pub ever_nameless : {n : ℕ} {s s' : Snapshot Block Pixel} (r : FinishedSteps covers spare n s s') (p : Pixel) → WasGivenUp covers spare r p
        → Nameless (s'.cells p)
    unfolding WasGivenUp
    ever_nameless no_step p h = absurd h
    ever_nameless (one_more r st) p (inl h) = step_nameless covers spare st p (ever_nameless r p h)
    ever_nameless (one_more r st) p (inr h) = step_unnames covers spare st p h.0 h.1

    -- what is given up was given up by a step
    pub now_was : {n : ℕ} {s s' : Snapshot Block Pixel} → AcceptedSetup covers s → (r : FinishedSteps covers spare n s s') (p : Pixel)
        → s'.cells p ≡ given_up → WasGivenUp covers spare r p
    unfolding WasGivenUp
    now_was z no_step p e = absurd (let f = z.name_last p in let o : ◌≡◌ {A = ℕ} 0 1 = cc in omega arith)
    now_was z (one_more r st) p e =
        ⊎_elim (λ k. inl (now_was z r p k)) (λ k. inr k)
        (step_given_up covers spare st p e)

    -- said by events or by the cell, it is the same of a pixel that is not True
    pub was_now : {n : ℕ} {s₀ s : Snapshot Block Pixel} → AcceptedSetup covers s₀ → (r : FinishedSteps covers spare n s₀ s) (p : Pixel)
        → ¬ (s.cells p ≡ marked_true)
        → WasGivenUp covers spare r p ↔ (s.cells p ≡ given_up)
    was_now {s = s} z r p h = ((λ g. go (s.cells p) refl (ever_nameless r p g)), now_was z r p)
      where
        go : (v : Standing) → s.cells p ≡ v → Nameless v → s.cells p ≡ given_up
        go marked_true e k = absurd (h e)
        go given_up e k = e
        go (named n) e k = absurd k

    pub false_by_events : {n : ℕ} {s₀ s : Snapshot Block Pixel} → AcceptedSetup covers s₀ → (r : FinishedSteps covers spare n s₀ s) (p : Pixel)
        → (pixel_reads s p ≡ reads_false) ↔ ((¬ (pixel_reads s p ≡ reads_true)) × (¬ WasGivenUp covers spare r p) × NoneCovers covers s.queue p)
    unfolding pixel_reads
    false_by_events {s₀ = s₀} {s = s} z r p = (there, back)
      where
        sound : AllSound covers s
        sound = steps_sound covers spare r (setup_sound covers z)

        there : standing_reads s.taken (s.cells p) ≡ reads_false
            → (¬ (standing_reads s.taken (s.cells p) ≡ reads_true)) × (¬ WasGivenUp covers spare r p) × NoneCovers covers s.queue p
        there e =
            let (n, f, h) = (reads_false_lem s.taken (s.cells p)).0 e in (
              (λ g. (let o : ◌≡◌ {A = ℕ} 0 1 = cc in omega arith)),
              (λ g. (let k : Nameless (named n) = rw f at (ever_nameless r p g) in k)),
              ((false_by_cell s sound p).0 e).2,
            )

        back : (¬ (standing_reads s.taken (s.cells p) ≡ reads_true)) × (¬ WasGivenUp covers spare r p) × NoneCovers covers s.queue p
            → standing_reads s.taken (s.cells p) ≡ reads_false
        back h = (false_by_cell s sound p).1 ((λ g. h.0 ((reads_true_lem s.taken (s.cells p)).1 g)), (λ g. h.1 (now_was z r p g)), h.2)

    -- the taken block covers no pixel that reads False, so its step does not touch it
    false_step : {s s' : Snapshot Block Pixel} → AllSound covers s → FinishedStep covers spare s s' → (p : Pixel) → pixel_reads s p ≡ reads_false
        → pixel_reads s' p ≡ reads_false
    unfolding pixel_reads NoneCovers
    false_step {s} {s'} sound st p e =
        let (n, f, h) = (reads_false_lem s.taken (s.cells p)).0 e in
        let none : NoneCovers covers (st.front ∷ st.rest) p = rw st.at_front at ((false_by_cell s sound p).0 e).2 in
        (reads_false_lem s'.taken (s'.cells p)).1 (n, step_untouched covers spare st p none.0 ∙ f, omega (arith, st.taken'))

    pub false_steps : {n : ℕ} {s s' : Snapshot Block Pixel} → AllSound covers s → FinishedSteps covers spare n s s' → (p : Pixel)
        → pixel_reads s p ≡ reads_false → pixel_reads s' p ≡ reads_false
    false_steps sound no_step p e = e
    false_steps sound (one_more r st) p e = false_step (steps_sound covers spare r sound) st p (false_steps sound r p e)

    -- a cell that names the taken block lies under it, so elsewhere the reading stays
    pub elsewhere : {s s' : Snapshot Block Pixel} → AllSound covers s → (st : FinishedStep covers spare s s') (p : Pixel)
        → ¬ T (covers st.front p) → pixel_reads s' p ≡ pixel_reads s p
    unfolding pixel_reads AllSound
    elsewhere {s} {s'} sound st p h =
        rw (step_untouched covers spare st p h, st.taken')
        (go (s.cells p) (rw st.at_front at (sound p)))
      where
        go : (v : Standing) → Sound covers s.taken (st.front ∷ st.rest) p v → standing_reads (suc s.taken) v ≡ standing_reads s.taken v
        go marked_true o = unfold standing_reads in refl
        go given_up o = unfold standing_reads in refl
        go (named n) o = unfold standing_reads covers_at_place in elim (dec_lt n s.taken) [
          | yes k ↦ rw (lt-leb s.taken n k, lt-leb (suc s.taken) n (omega arith))
          | no k ↦ (let d : ¬ (s.taken + zero ≡ n) = (λ e. h (o.covering zero e)) in rw
              (le-leb s.taken n (omega arith), le-leb (suc s.taken) n (omega arith)))
        ]
