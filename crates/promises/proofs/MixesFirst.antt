-- Setup's first blocks hold every mix that is given: the root holds every point of every pixel, and the first cut of each used parameter loses no
-- value of its range. Assumes nothing.
use mathlib.Core.Path.{◌≡◌, refl, sym, ap, ◌∙◌, subst}
use mathlib.Core.Logic.{inl, inr}
use mathlib.Core.Bool.{Bool, true, false, cond}
use mathlib.Core.List.{List, [], ◌∷◌, map}
use Prim.Native.Nat.{ℕ, ◌+◌, ◌≤◌}
use native.Mathlib.Omega.{arith}
use Rattle.interval.specs.declared.Interval.{Interval}
use Rattle.interval.specs.Bounds.{InFormat, legal_interval, put_interval, in_units}
use Rattle.interval.specs.Cuts.{first_cut}
use Rattle.interval.proofs.Legality.{put_legal}
use Rattle.interval.proofs.ProperPieces.{put_format}
use Rattle.queue.specs.declared.Block.{Block}
use Rattle.queue.specs.declared.directions.Direction.{Direction}
use Rattle.queue.specs.declared.directions.Direction.TheVariants as D
use Rattle.queue.specs.Directions.{in_use}
use Rattle.queue.specs.Block.{whole_line, is_integer, parameter_of, with_parameter, as_queued_at}
use Rattle.queue.specs.Code.{legal_if_used}
use Rattle.decide.specs.declared.Chosen.{Chosen}
use Rattle.implicit.specs.declared.state.Ranges.{Ranges}
use Rattle.implicit.specs.Setup.{start_level, root_block, each_cut_first, cut_first_in, first_blocks, ranges_legal}
use Rattle.implicit.proofs.SetupLawsLevel.{level_width, level_height}
use Rattle.implicit.proofs.SetupLawsFirst.{legal_ranges, with_same}
use Rattle.theory.specs.Levels.{place_at}
use Rattle.theory.specs.Cuts.{InSpan, FromEnd, UpToEnd, OverEnd, UnderEnd, Owes}
use Rattle.theory.specs.Positions.{PlaceHolds}
use Rattle.theory.specs.Colours.{Question, Holds}
use Rattle.base.specs.Lists.{Some}
use Rattle.base.proofs.ListLaws.{some_left, some_right, some_mono, some_map}
use Rattle.theory.proofs.Theorems.{first_block_holds}
use Rattle.promises.specs.Chart.{Pixel, place_of_block, covers_in}
use Rattle.promises.specs.Mixes.{Measures, Mix, whole_of, end_by, LiesIn, HeldIn, range_of, question_of}
use Rattle.promises.proofs.CutSpans.{span_put}
use Rattle.promises.proofs.CutWholes.{whole_put}
use Rattle.promises.proofs.CutReals.{first_real_holds}
use Rattle.promises.proofs.CutIntegers.{first_integer_holds}
use Rattle.promises.proofs.MixesSplit.{units_put}

module _ (M : Measures) (a : Mix M) where
  -- ---- one parameter

  -- the whole line holds every value
  line_held : (d : Direction) → HeldIn M d whole_line a
  unfolding HeldIn Owes OverEnd UnderEnd InSpan FromEnd UpToEnd end_by
  line_held D.XY = tt
  line_held D.M = inr (tt, tt)
  line_held D.N = inr (tt, tt)
  line_held D.Theta = inr (tt, tt)
  line_held D.T = (tt, tt)

  -- a range put holds what it held
  lies_put : (d : Direction) (v : Interval) → LiesIn M d v a → LiesIn M d (put_interval v) a
  unfolding LiesIn
  lies_put D.XY v h = tt
  lies_put D.M v h = rw (span_put whole_of whole_put v) h
  lies_put D.N v h = rw (span_put whole_of whole_put v) h
  lies_put D.Theta v h = rw (span_put whole_of whole_put v) h
  lies_put D.T v h = rw (span_put (λ x. M.of_units (in_units x)) (units_put M) v) h

  -- a parameter's first cut holds every value of the range
  unfoldable FirstHeld : Direction → Interval → Type 0
  FirstHeld d v = Some (λ u. HeldIn M d u a) (first_cut v (is_integer d))

  first_held : (d : Direction) (v : Interval) → InFormat v → legal_interval v (is_integer d) ≡ true → LiesIn M d v a → (d ≡ D.XY → ⊥) → FirstHeld d v
  unfolding LiesIn HeldIn FirstHeld
  first_held D.XY v f h k n = absurd (n refl)
  first_held D.M v f h k n = first_integer_holds v f h a.m k
  first_held D.N v f h k n = first_integer_holds v f h a.n k
  first_held D.Theta v f h k n = first_integer_holds v f h a.theta k
  first_held D.T v f h k n = first_real_holds M.AtMost (λ x. M.of_units (in_units x)) (units_put M) v h a.t k

  -- the blocks of a list that are not cut along d yet, cut first along it where it is used
  module _ (set : ℕ) (d : Direction) (range : Interval) (first : in_use set d ≡ true → FirstHeld d (put_interval range)) (P R : Block → Type 0)
      (uncut : (b : Block) → P b → parameter_of b d ≡ as_queued_at (in_use set d) range) (cut : (b : Block) (u : Interval) → P b → HeldIn M d u a → R (with_parameter b d u)) where
    one_block : in_use set d ≡ true → (b : Block) → P b → Some R (map (with_parameter b d) (first_cut (parameter_of b d) (is_integer d)))
    unfolding FirstHeld
    one_block e b h =
        let g : parameter_of b d ≡ put_interval range = uncut b h ∙ ap (λ (t : Bool). as_queued_at t range) e in
        rw g
        (some_map R (with_parameter b d) (first_cut (put_interval range) (is_integer d))
        (some_mono (λ u. HeldIn M d u a) (λ u. R (with_parameter b d u)) (first_cut (put_interval range) (is_integer d)) (λ u k. cut b u h k) (first e)))

    each_block : in_use set d ≡ true → (l : List Block) → Some P l → Some R (each_cut_first d l)
    unfolding Some each_cut_first
    each_block e [] h = absurd h
    each_block e (b ∷ l) (inl h) = some_left R (map (with_parameter b d) (first_cut (parameter_of b d) (is_integer d))) (each_cut_first d l) (one_block e b h)
    each_block e (b ∷ l) (inr h) = some_right R (map (with_parameter b d) (first_cut (parameter_of b d) (is_integer d))) (each_cut_first d l) (each_block e l h)

    as_it_is : in_use set d ≡ false → (b : Block) → P b → R b
    as_it_is e b h =
        let g : parameter_of b d ≡ whole_line = uncut b h ∙ ap (λ (t : Bool). as_queued_at t range) e in
        rw (with_same b d) at (cut b (parameter_of b d) h (rw g (line_held d)))

    one_cut : (l : List Block) → Some P l → Some R (cond (in_use set d) (each_cut_first d l) l)
    one_cut l h = go (in_use set d) refl
      where
        go : (t : Bool) → in_use set d ≡ t → Some R (cond t (each_cut_first d l) l)
        go true e = each_block e l h
        go false e = some_mono P R l (as_it_is e) h

  -- ---- all of them

  module _ (p : Chosen) (r : Ranges) (Solves : Mix M → Type 0) (wide : p.width ≤ 32768) (high : p.height ≤ 32768) (ranges : ranges_legal p.set r ≡ true)
      (format : InFormat r.m × InFormat r.n × InFormat r.theta × InFormat r.t) (q : Pixel p) where
    abbrev Q : Question Block (Pixel p)
    Q = question_of M p r Solves

    module _ (given : Q.Given a) (at : Q.At a q) where
      abbrev k : ℕ
      k = start_level p

      -- a used range, put, is cut without loss
      used_first : (d : Direction) → (d ≡ D.XY → ⊥) → InFormat (range_of r d) → legal_if_used p.set d (range_of r d) ≡ true
          → in_use p.set d ≡ true → FirstHeld d (put_interval (range_of r d))
      used_first d n f l u =
          let g : legal_interval (range_of r d) (is_integer d) ≡ true = rw u at l in
          first_held d (put_interval (range_of r d)) (put_format (range_of r d) f) (put_legal (range_of r d) (is_integer d) ∙ g) (lies_put d (range_of r d) (given d u)) n

      -- at the root's place, and the parameters before and after their cuts
      abbrev AtRoot : Block → Type 0
      AtRoot b = place_of_block b ≡ place_at 0 0 (48 + k)

      abbrev Uncut : Direction → Block → Type 0
      Uncut d b = parameter_of b d ≡ as_queued_at (in_use p.set d) (range_of r d)

      abbrev Cut : Direction → Block → Type 0
      Cut d b = HeldIn M d (parameter_of b d) a

      abbrev Stage₀ : Block → Type 0
      Stage₀ b = AtRoot b × Uncut D.M b × Uncut D.N b × Uncut D.Theta b × Uncut D.T b

      abbrev Stage₁ : Block → Type 0
      Stage₁ b = AtRoot b × Cut D.M b × Uncut D.N b × Uncut D.Theta b × Uncut D.T b

      abbrev Stage₂ : Block → Type 0
      Stage₂ b = AtRoot b × Cut D.M b × Cut D.N b × Uncut D.Theta b × Uncut D.T b

      abbrev Stage₃ : Block → Type 0
      Stage₃ b = AtRoot b × Cut D.M b × Cut D.N b × Cut D.Theta b × Uncut D.T b

      abbrev Stage₄ : Block → Type 0
      Stage₄ b = AtRoot b × Cut D.M b × Cut D.N b × Cut D.Theta b × Cut D.T b

      -- the root's place holds every point of the pixel
      all_cut_holds : (b : Block) → Stage₄ b → Holds (covers_in p) Q a q b
      unfolding Holds PlaceHolds
      all_cut_holds b h =
          let z : PlaceHolds 48 M.LiesX M.LiesY a.x a.y q (place_of_block b) =
          subst (PlaceHolds 48 M.LiesX M.LiesY a.x a.y q) (sym h.0)
          (first_block_holds p.width p.height 48 M.LiesX M.ruler_x M.LiesY M.ruler_y k (level_width p wide high) (level_height p wide high) q a.x a.y at.0 at.1) in
          ((z.0, (h.1, h.2, h.3, h.4)), z.1)

      root_stage : Some Stage₀ (root_block p r ∷ [])
      unfolding Some root_block
      root_stage = inl (refl, refl, refl, refl, refl)

      pub first_hold : Some (Holds (covers_in p) Q a q) (first_blocks p r)
      unfolding first_blocks cut_first_in
      first_hold =
          let g = legal_ranges p.set r ranges in
          let s₁ = one_cut p.set D.M r.m (used_first D.M m_not format.0 g.m) Stage₀ Stage₁ (λ b h. h.1) (λ b u h k. (h.0, k, h.2, h.3, h.4)) (root_block p r ∷ []) root_stage in
          let s₂ = one_cut p.set D.N r.n (used_first D.N n_not format.1 g.n) Stage₁ Stage₂ (λ b h. h.2) (λ b u h k. (h.0, h.1, k, h.3, h.4)) _ s₁ in
          let s₃ = one_cut p.set D.Theta r.theta (used_first D.Theta theta_not format.2 g.theta) Stage₂ Stage₃ (λ b h. h.3) (λ b u h k. (h.0, h.1, h.2, k, h.4)) _ s₂ in
          let s₄ = one_cut p.set D.T r.t (used_first D.T t_not format.3 g.t) Stage₃ Stage₄ (λ b h. h.4) (λ b u h k. (h.0, h.1, h.2, h.3, k)) _ s₃ in
          some_mono Stage₄ (Holds (covers_in p) Q a q) _ all_cut_holds s₄
        where
          m_not : D.M ≡ D.XY → ⊥
          m_not e = let z : ◌≡◌ {A = ℕ} 0 1 = cc in omega arith

          n_not : D.N ≡ D.XY → ⊥
          n_not e = let z : ◌≡◌ {A = ℕ} 0 1 = cc in omega arith

          theta_not : D.Theta ≡ D.XY → ⊥
          theta_not e = let z : ◌≡◌ {A = ℕ} 0 1 = cc in omega arith

          t_not : D.T ≡ D.XY → ⊥
          t_not e = let z : ◌≡◌ {A = ℕ} 0 1 = cc in omega arith
