-- The bound for pictures with x or y and no parameter, for every level L: once the finished steps reach the places above L, no queued block is
-- above L. At the pixel's level: no queued block covers more than one pixel. At the floor: the queue is empty. Squares and strips. Assumes nothing.
use mathlib.Core.Path.{◌≡◌, refl, sym, ap, ◌∙◌, subst}
use mathlib.Core.Bool.{Bool}
use mathlib.Core.List.{List, [], ◌∷◌}
use Prim.Native.Nat.{ℕ, suc, ◌+◌, ◌*◌, ◌^◌, ◌≤◌, ◌<◌}
use native.Mathlib.Nat.{mul-le-mul_right, mul-pos}
use native.Mathlib.Bridge.{le_prop}
use native.Mathlib.Omega.{arith}
use lib.Dec.{T}
use lib.Pow.{pow_pos, pow-add}
use Rattle.base.proofs.Test.{both_of}
use Rattle.base.proofs.AxisLaws.{places_over, covers_start}
use Rattle.theory.specs.Runs.{Snapshot, queued_by, FinishedSteps, no_step, one_more, EveryStep}
use Rattle.theory.specs.Demand3.{CoversAtMostOne}
use Rattle.theory.specs.Levels.{BlockPlace, OneBlock, QueuesChildren, QueuesAbove, places_along, places_above, strip_places_above, pixel_figure}
use Rattle.theory.specs.Levels.{strip_pixel_figure}
use Rattle.theory.specs.Shapes.{PixelIn, covers_along, covers_pixel, covers_by_place, quarters, halves_in_x}
use Rattle.base.specs.Lists.{Every}
use Rattle.base.proofs.ListLaws.{every_append, every_also, every_of_map}
use Rattle.theory.proofs.Potential.{sunk}
use Rattle.theory.proofs.Sums.{sum_cong}
use Rattle.theory.proofs.ChildPlaces.{quarters_lower, halves_lower}
use Rattle.theory.proofs.PlaceCount.{root_cost, strip_root_cost}

-- a side in units
units : (px a k : ℕ) → a ≤ 2 ^ k → a * 2 ^ px ≤ 2 ^ (px + k)
units px a k l = let r = mul-le-mul_right (2 ^ px) l in let e = pow-add 2 px k in omega arith

-- two pixels of a picture are equal if their coordinates are
pub same_pixel : {w h : ℕ} (p q : PixelIn w h) → p.x ≡ q.x → p.y ≡ q.y → p ≡ q
same_pixel {w} {h} p q e f = column q.x e q.x_in ∙ row q.y f q.y_in
  where
    pixel_at : (x y : ℕ) → x < w → y < h → PixelIn w h
    pixel_at x y a b = record { x = x; y = y; x_in = a; y_in = b }

    column : (x : ℕ) → p.x ≡ x → (a : x < w) → p ≡ pixel_at x p.y a p.y_in
    column x e = subst (λ (x : ℕ). (a : x < w) → p ≡ pixel_at x p.y a p.y_in) e
        (λ a. ap (λ (k : p.x < w). pixel_at p.x p.y k p.y_in) (le_prop p.x_in a))

    row : (y : ℕ) → p.y ≡ y → (b : y < h) → pixel_at q.x p.y q.x_in p.y_in ≡ pixel_at q.x y q.x_in b
    row y f = subst (λ (y : ℕ). (b : y < h) → pixel_at q.x p.y q.x_in p.y_in ≡ pixel_at q.x y q.x_in b) f
        (λ b. ap (λ (k : p.y < h). pixel_at q.x p.y q.x_in k) (le_prop p.y_in b))

-- from the pixel's level down a block covers one pixel
pub low_covers_one : {Block : Type 0} (w h px : ℕ) (place_of : Block → BlockPlace) (b : Block) → (place_of b).level ≤ px
    → CoversAtMostOne (covers_by_place w h px place_of) b
unfolding CoversAtMostOne covers_pixel
low_covers_one w h px place_of b l p q a c =
    let (ax, ay) = both_of (covers_along px (place_of b).level (place_of b).x p.x) (covers_along px (place_of b).level (place_of b).y p.y) a in
    let (cx, cy) = both_of (covers_along px (place_of b).level (place_of b).x q.x) (covers_along px (place_of b).level (place_of b).y q.y) c in
    same_pixel p q (one (place_of b).x p.x q.x ax cx) (one (place_of b).y p.y q.y ay cy)
  where
    one : (i p q : ℕ) → T (covers_along px (place_of b).level i p) → T (covers_along px (place_of b).level i q) → p ≡ q
    one i p q a c = covers_start px (place_of b).level i p l a ∙ sym (covers_start px (place_of b).level i q l c)

pub none_left : {Block : Type 0} (place_of : Block → BlockPlace) (floor : ℕ) (q : List Block) → Every (λ b. floor < (place_of b).level) q
    → Every (λ b. (place_of b).level ≤ floor) q → q ≡ []
none_left place_of floor [] a b = refl
none_left place_of floor (c ∷ q) a b = absurd (omega (arith, a.0, b.0))

module _ {Block Pixel : Type 0} (covers : Block → Pixel → Bool) (spare : Bool) (place_of : Block → BlockPlace) where
  -- what is queued stays above the floor
  above_floor : (floor : ℕ) {n : ℕ} {s s' : Snapshot Block Pixel} (r : FinishedSteps covers spare n s s')
      → EveryStep covers spare (QueuesAbove covers spare place_of floor) r
      → Every (λ b. floor < (place_of b).level) s.queue → Every (λ b. floor < (place_of b).level) s'.queue
  unfolding EveryStep QueuesAbove
  above_floor floor no_step f a = a
  above_floor floor (one_more r st) f a =
      rw st.queue' (every_append (λ b. floor < (place_of b).level) st.rest (queued_by st.events)
      (tail st.front st.rest (rw st.at_front at (above_floor floor r f.0 a))) f.1)
    where
      tail : (b : Block) (q : List Block) → Every (λ b. floor < (place_of b).level) (b ∷ q) → Every (λ b. floor < (place_of b).level) q
      tail b q h = h.1

  pub emptied : {px w h k : ℕ} {n : ℕ} {s₀ s : Snapshot Block Pixel} → OneBlock place_of px w h k s₀ → (r : FinishedSteps covers spare n s₀ s)
      → (floor : ℕ) → floor < px + k → EveryStep covers spare (QueuesAbove covers spare place_of floor) r
      → Every (λ b. (place_of b).level ≤ floor) s.queue → s.queue ≡ []
  emptied {s = s} z r floor l f a =
      none_left place_of floor s.queue
      (above_floor floor r f (rw z.one_block (rw (ap (λ (b : BlockPlace). b.level) z.at_root) l, tt))) a

  module _ (px w h k : ℕ) where
    pub square_bound : {n : ℕ} {s₀ s : Snapshot Block Pixel} → OneBlock place_of px w h k s₀ → (r : FinishedSteps covers spare n s₀ s)
        → EveryStep covers spare (QueuesChildren covers spare place_of (quarters px w h)) r
        → (L m : ℕ) → px + k ≡ L + m → places_above (w * 2 ^ px) (h * 2 ^ px) L m ≤ n → Every (λ b. (place_of b).level ≤ L) s.queue
    square_bound {s = s} z r c L m e l =
        every_of_map (λ p. p.level ≤ L) place_of s.queue
        (sunk (quarters px w h) (quarters_lower px w h) covers spare place_of L z.root z.one_block r c
        (rw (
          z.at_root,
          e,
          root_cost px w h L m (mul-pos z.some_width (pow_pos px)) (mul-pos z.some_height (pow_pos px))
              (rw e at (units px w k z.wide)) (rw e at (units px h k z.high)),
        ) l))

  module _ (px w k : ℕ) where
    pub strip_bound : {n : ℕ} {s₀ s : Snapshot Block Pixel} → OneBlock place_of px w 1 k s₀ → (r : FinishedSteps covers spare n s₀ s)
        → EveryStep covers spare (QueuesChildren covers spare place_of (halves_in_x px w)) r
        → (L m : ℕ) → px + k ≡ L + m → strip_places_above (w * 2 ^ px) L m ≤ n → Every (λ b. (place_of b).level ≤ L) s.queue
    strip_bound {s = s} z r c L m e l =
        every_of_map (λ p. p.level ≤ L) place_of s.queue
        (sunk (halves_in_x px w) (halves_lower px w) covers spare place_of L z.root z.one_block r c
        (rw (z.at_root, e, strip_root_cost px w L m (mul-pos z.some_width (pow_pos px)) (rw e at (units px w k z.wide))) l))

-- the sums in pixels
pub sum_in_pixels : (px w h k : ℕ) → places_above (w * 2 ^ px) (h * 2 ^ px) px k ≡ pixel_figure w h k
unfolding places_above pixel_figure
sum_in_pixels px w h k = sum_cong k (λ i. places_along (w * 2 ^ px) (px + suc i) * places_along (h * 2 ^ px) (px + suc i))
    (λ i. places_along w (suc i) * places_along h (suc i))
    (λ i l. rw (places_over w px (suc i), places_over h px (suc i)))

pub strip_sum_in_pixels : (px w k : ℕ) → strip_places_above (w * 2 ^ px) px k ≡ strip_pixel_figure w k
unfolding strip_places_above strip_pixel_figure
strip_sum_in_pixels px w k = sum_cong k (λ i. places_along (w * 2 ^ px) (px + suc i)) (λ i. places_along w (suc i)) (λ i l. places_over w px (suc i))

module _ {Block : Type 0} (w h px k : ℕ) (spare : Bool) (place_of : Block → BlockPlace) where
  pub pixel_square_bound : {n : ℕ} {s₀ s : Snapshot Block (PixelIn w h)} → OneBlock place_of px w h k s₀
      → (r : FinishedSteps (covers_by_place w h px place_of) spare n s₀ s)
      → EveryStep (covers_by_place w h px place_of) spare (QueuesChildren (covers_by_place w h px place_of) spare place_of (quarters px w h)) r
      → pixel_figure w h k ≤ n → Every (CoversAtMostOne (covers_by_place w h px place_of)) s.queue
  pixel_square_bound {s = s} z r c l =
      every_also (λ b. (place_of b).level ≤ px) (CoversAtMostOne (covers_by_place w h px place_of)) (low_covers_one w h px place_of) s.queue
      (square_bound (covers_by_place w h px place_of) spare place_of px w h k z r c px k refl (rw (sum_in_pixels px w h k) l))

module _ {Block : Type 0} (w px k : ℕ) (spare : Bool) (place_of : Block → BlockPlace) where
  pub pixel_strip_bound : {n : ℕ} {s₀ s : Snapshot Block (PixelIn w 1)} → OneBlock place_of px w 1 k s₀
      → (r : FinishedSteps (covers_by_place w 1 px place_of) spare n s₀ s)
      → EveryStep (covers_by_place w 1 px place_of) spare (QueuesChildren (covers_by_place w 1 px place_of) spare place_of (halves_in_x px w)) r
      → strip_pixel_figure w k ≤ n → Every (CoversAtMostOne (covers_by_place w 1 px place_of)) s.queue
  pixel_strip_bound {s = s} z r c l =
      every_also (λ b. (place_of b).level ≤ px) (CoversAtMostOne (covers_by_place w 1 px place_of)) (low_covers_one w 1 px place_of) s.queue
      (strip_bound (covers_by_place w 1 px place_of) spare place_of px w k z r c px k refl (rw (strip_sum_in_pixels px w k) l))
