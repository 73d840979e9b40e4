-- A picture's places, counted: the trees of all places of a level hold the places of that level and the trees of the level below. So the first
-- block's cost above L is the number of places above L. Squares are cut into quarters, strips into halves. Assumes nothing.
use mathlib.Core.Path.{◌≡◌, refl, sym, ap, ◌∙◌}
use mathlib.Core.Logic.{inl, inr}
use mathlib.Core.Bool.{Bool, true, false, cond, ◌&&◌}
use mathlib.Core.List.{List}
use Prim.Native.Nat.{ℕ, zero, suc, ◌+◌, ◌-◌, ◌*◌, ◌^◌, ◌≤◌, ◌<◌}
use native.Mathlib.Nat.{add-suc}
use native.Mathlib.Decide.{dec_le}
use native.Mathlib.Omega.{arith}
use lib.Dec.{ltb}
use borrow.Author.Tests.{lt-ltb, le-ltb}
use Rattle.base.proofs.AxisLaws.{places_suc, places_one, begins_inside, counted_begins, half_begins}
use Rattle.theory.specs.Levels.{BlockPlace, place_at, tree_size, cost_above, sum_to, places_along, places_above, strip_places_above, sum_over}
use Rattle.theory.specs.Shapes.{begins_in, HalfOf, is_listed, place_if, quarters_at, quarters, halves_at, halves_in_x}
use Rattle.theory.proofs.Sums.{up_to, sum_cong, sum_add, sum_const, pairing, grid, up_to_both, grid_cong, grid_suc, four, four_by_four}

-- the halves that are listed of an index inside the side are those that are counted
listed_counted : (px w j i c : ℕ) → HalfOf i c → begins_in px (suc j) i < w → is_listed px w j c ≡ ltb c (places_along (w * 2 ^ px) j)
unfolding is_listed
listed_counted px w j i c h l = elim (dec_le px j) [
  | yes k ↦ rw (le-ltb j px k) (sym (counted_begins px w j c))
  | no k ↦ rw (lt-ltb j px (omega arith)) (sym (counted_begins px w j c ∙ lt-ltb (begins_in px j c) w (rw (half_begins px j i c h (omega arith)) l)))
]

-- what is listed, in a sum
listed_sum : (f : BlockPlace → ℕ) (k l : Bool) (c : BlockPlace) (r : List BlockPlace)
    → sum_over f (place_if (k && l) c r) ≡ cond l (cond k (f c) zero) zero + sum_over f r
unfolding sum_over place_if
listed_sum f true true c r = refl
listed_sum f true false c r = omega arith
listed_sum f false true c r = omega arith
listed_sum f false false c r = omega arith

-- ---- squares

module _ (px w h : ℕ) where
  quarters_sum : (f : BlockPlace → ℕ) (x y j : ℕ) → x < places_along (w * 2 ^ px) (suc j) → y < places_along (h * 2 ^ px) (suc j)
      → sum_over f (quarters_at px w h x y (suc j)) ≡ four (places_along (w * 2 ^ px) j) (places_along (h * 2 ^ px) j) (λ u v. f (place_at u v j)) x y
  unfolding quarters_at four up_to_both up_to HalfOf sum_over
  quarters_sum f x y j p q =
      let a = (begins_inside px w (suc j) x).1 p in
      let b = (begins_inside px h (suc j) y).1 q in
      rw (
        listed_counted px w j x (x + x) (inl refl) a,
        listed_counted px w j x (suc (x + x)) (inr refl) a,
        listed_counted px h j y (y + y)
            (inl refl) b,
        listed_counted px h j y (suc (y + y)) (inr refl) b,
      )
      (simp listed_sum (omega arith))

  level_up : (n j : ℕ)
      → grid (places_along (w * 2 ^ px) (suc j)) (places_along (h * 2 ^ px) (suc j)) (λ x y. tree_size (quarters px w h) (suc n) (place_at x y (suc j)))
      ≡ places_along (w * 2 ^ px) (suc j) * places_along (h * 2 ^ px) (suc j) + grid (places_along (w * 2 ^ px) j) (places_along (h * 2 ^ px) j)
      (λ u v. tree_size (quarters px w h) n (place_at u v j))
  level_up n j =
      grid_cong X Y (λ x y. tree_size (quarters px w h) (suc n) (place_at x y (suc j))) (λ x y. 1 + four X' Y' f x y) each
      ∙ grid_suc X Y (four X' Y' f)
      ∙ ap (λ (k : ℕ). X * Y + k) below
    where
      X : ℕ
      X = places_along (w * 2 ^ px) (suc j)

      Y : ℕ
      Y = places_along (h * 2 ^ px) (suc j)

      X' : ℕ
      X' = places_along (w * 2 ^ px) j

      Y' : ℕ
      Y' = places_along (h * 2 ^ px) j

      f : ℕ → ℕ → ℕ
      f u v = tree_size (quarters px w h) n (place_at u v j)

      each : (x y : ℕ) → x < X → y < Y → tree_size (quarters px w h) (suc n) (place_at x y (suc j)) ≡ 1 + four X' Y' f x y
      each x y p q = unfold tree_size quarters in omega (arith, quarters_sum (tree_size (quarters px w h) n) x y j p q)

      below : grid X Y (four X' Y' f) ≡ grid X' Y' f
      below = rw (places_suc (w * 2 ^ px) j, places_suc (h * 2 ^ px) j) (four_by_four X' Y' f)

  -- the trees of all places of level L + n, n levels deep
  all_trees : (L n : ℕ)
      → grid (places_along (w * 2 ^ px) (L + n)) (places_along (h * 2 ^ px) (L + n)) (λ x y. tree_size (quarters px w h) n (place_at x y (L + n))) ≡ places_above
      (w * 2 ^ px) (h * 2 ^ px) L n
  unfolding places_above sum_to tree_size grid
  all_trees L zero =
      sum_cong (places_along (h * 2 ^ px) (L + 0)) (λ y. sum_to (places_along (w * 2 ^ px) (L + 0)) (λ x. 0)) (λ y. 0)
      (λ y k. sum_const (places_along (w * 2 ^ px) (L + 0)) 0 ∙ omega arith)
      ∙ sum_const (places_along (h * 2 ^ px) (L + 0)) 0
      ∙ omega arith
  all_trees L (suc n) = rw add-suc (level_up n (L + n) ∙ (let a = all_trees L n in omega arith))

  -- the first block, whose place is as wide as the picture
  pub root_cost : (L n : ℕ) → zero < w * 2 ^ px → zero < h * 2 ^ px → w * 2 ^ px ≤ 2 ^ (L + n) → h * 2 ^ px ≤ 2 ^ (L + n)
      → cost_above (quarters px w h) L (place_at 0 0 (L + n)) ≡ places_above (w * 2 ^ px) (h * 2 ^ px) L n
  unfolding cost_above
  root_cost L n w0 h0 wk hk =
      let e : L + n - L ≡ n = omega arith in
      rw e (sym (one (tree_size (quarters px w h) n)) ∙ (rw (places_one (w * 2 ^ px) (L + n) w0 wk, places_one (h * 2 ^ px) (L + n) h0 hk) at (all_trees L n)))
    where
      one : (f : BlockPlace → ℕ) → grid 1 1 (λ x y. f (place_at x y (L + n))) ≡ f (place_at 0 0 (L + n))
      one f = unfold grid sum_to in omega arith

-- ---- strips

listed_sum_one : (f : BlockPlace → ℕ) (k : Bool) (c : BlockPlace) (r : List BlockPlace) → sum_over f (place_if k c r) ≡ cond k (f c) zero + sum_over f r
unfolding sum_over place_if
listed_sum_one f true c r = refl
listed_sum_one f false c r = omega arith

module _ (px w : ℕ) where
  halves_sum : (f : BlockPlace → ℕ) (x j : ℕ) → x < places_along (w * 2 ^ px) (suc j)
      → sum_over f (halves_at px w x (suc j)) ≡ up_to (places_along (w * 2 ^ px) j) (λ u. f (place_at u 0 j)) (x + x) + up_to (places_along (w * 2 ^ px) j)
      (λ u. f (place_at u 0 j)) (suc (x + x))
  unfolding halves_at up_to HalfOf sum_over
  halves_sum f x j p =
      let a = (begins_inside px w (suc j) x).1 p in
      rw (listed_counted px w j x (x + x) (inl refl) a, listed_counted px w j x (suc (x + x)) (inr refl) a) (simp listed_sum_one (omega arith))

  strip_level_up : (n j : ℕ) → sum_to (places_along (w * 2 ^ px) (suc j)) (λ x. tree_size (halves_in_x px w) (suc n) (place_at x 0 (suc j)))
      ≡ places_along (w * 2 ^ px) (suc j) + sum_to (places_along (w * 2 ^ px) j) (λ u. tree_size (halves_in_x px w) n (place_at u 0 j))
  strip_level_up n j =
      sum_cong X (λ x. tree_size (halves_in_x px w) (suc n) (place_at x 0 (suc j))) (λ x. 1 + pair x)
      (λ x k. unfold tree_size halves_in_x in omega (arith, halves_sum (tree_size (halves_in_x px w) n) x j k))
      ∙ sum_add X (λ x. 1) pair
      ∙ (let a = sum_const X 1 in let b : sum_to X pair ≡ sum_to X' f = rw (places_suc (w * 2 ^ px) j) (pairing X' f) in omega arith)
    where
      X : ℕ
      X = places_along (w * 2 ^ px) (suc j)

      X' : ℕ
      X' = places_along (w * 2 ^ px) j

      f : ℕ → ℕ
      f u = tree_size (halves_in_x px w) n (place_at u 0 j)

      pair : ℕ → ℕ
      pair x = up_to X' f (x + x) + up_to X' f (suc (x + x))

  strip_trees : (L n : ℕ)
      → sum_to (places_along (w * 2 ^ px) (L + n)) (λ x. tree_size (halves_in_x px w) n (place_at x 0 (L + n))) ≡ strip_places_above (w * 2 ^ px) L n
  unfolding strip_places_above sum_to tree_size
  strip_trees L zero = sum_const (places_along (w * 2 ^ px) (L + 0)) 0 ∙ omega arith
  strip_trees L (suc n) = rw add-suc (strip_level_up n (L + n) ∙ (let a = strip_trees L n in omega arith))

  pub strip_root_cost : (L n : ℕ) → zero < w * 2 ^ px → w * 2 ^ px ≤ 2 ^ (L + n)
      → cost_above (halves_in_x px w) L (place_at 0 0 (L + n)) ≡ strip_places_above (w * 2 ^ px) L n
  unfolding cost_above
  strip_root_cost L n w0 k =
      let e : L + n - L ≡ n = omega arith in
      rw e (sym (one (tree_size (halves_in_x px w) n)) ∙ (rw (places_one (w * 2 ^ px) (L + n) w0 k) at (strip_trees L n)))
    where
      one : (f : BlockPlace → ℕ) → sum_to 1 (λ x. f (place_at x 0 (L + n))) ≡ f (place_at 0 0 (L + n))
      one f = unfold sum_to in omega arith
