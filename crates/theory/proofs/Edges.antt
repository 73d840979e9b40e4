-- Edges that are shared make a ruler; exact edges, in fractions, are shared. Assumes nothing.
use mathlib.Core.Path.{◌≡◌, refl, ap}
use mathlib.Core.Logic.{◌⊎◌, inl, inr, ⊎_elim, ◌↔◌}
use Prim.Native.Nat.{ℕ, suc, ◌+◌, ◌*◌, ◌^◌, ◌≤◌}
use native.Mathlib.Nat.{pow-suc, mul-le-mul_right, le_of_mul-le-mul_right}
use native.Mathlib.Decide.{dec_le}
use native.Mathlib.Omega.{arith}
use lib.Pow.{pow_pos}
use Rattle.base.proofs.AxisLaws.{half_low, half_high}
use Rattle.theory.specs.Shapes.{HalfOf}
use Rattle.theory.specs.Positions.{Ruler, LiesBetween, SharedEdges, Fraction, AtMost, exact_edge, LiesExactly, InPixelAlong}

module _ {R : Type 0} (Le : R → R → Type 0) (low high : ℕ → ℕ → R) where
  pub edges_ruler : (px : ℕ) → SharedEdges Le low high px → Ruler px (LiesBetween Le low high)
  unfolding LiesBetween
  edges_ruler px e = record {
    halve = λ i j x l h. ⊎_elim
        (λ k. inl (rw (e.outer_low i j l) h.0, k))
        (λ k. inr (rw (← e.between i j l) k, rw (e.outer_high i j l) h.1))
        (e.total x (high (i + i) j));
    whole = λ i c j x l hc h. (
      e.trans (low i (suc j)) (low c j) x (e.low_within i c j l hc) h.0,
      e.trans x (high c j) (high i (suc j)) h.1
          (e.high_within i c j l hc),
    );
  }

-- fractions are ordered
pub at_most_total : (a b : Fraction) → AtMost a b ⊎ AtMost b a
unfolding AtMost
at_most_total a b = elim (dec_le (a.num * b.den) (b.num * a.den)) [ yes k ↦ inl k | no k ↦ inr (omega arith) ]

at_most_trans : (a b c : Fraction) → AtMost a b → AtMost b c → AtMost a c
unfolding AtMost
at_most_trans a b c h k =
    let p = mul-le-mul_right c.den h in
    let q = mul-le-mul_right a.den k in
    le_of_mul-le-mul_right {k = b.den} (omega arith) b.den_pos

edge_halves : (px i j : ℕ) → exact_edge px (i + i) j ≡ exact_edge px i (suc j)
unfolding exact_edge
edge_halves px i j =
    let e : (i + i) * 2 ^ j ≡ i * 2 ^ suc j = (let r : i * 2 ^ suc j ≡ i * (2 ^ j * 2) = ap (λ (m : ℕ). i * m) (pow-suc 2 j) in omega arith) in
    rw e

edge_order : (px i k j : ℕ) → i ≤ k → AtMost (exact_edge px i j) (exact_edge px k j)
unfolding AtMost exact_edge
edge_order px i k j l = mul-le-mul_right (2 ^ px) (mul-le-mul_right (2 ^ j) l)

pub exact_edges : (px : ℕ) → SharedEdges AtMost (λ i j. exact_edge px i j) (λ i j. exact_edge px (suc i) j) px
exact_edges px = record {
  total = at_most_total;
  trans = at_most_trans;
  outer_low = λ i j l. edge_halves px i j;
  outer_high = λ i j l. outer i j;
  between = λ i j l. refl;
  low_within = λ i c j l h. rw (← edge_halves px i j) (edge_order px (i + i) c j (half_low i c h));
  high_within = λ i c j l h. rw (← outer i j) (edge_order px (suc c) (suc (suc (i + i))) j (over i c h));
}
  where
    outer : (i j : ℕ) → exact_edge px (suc (suc (i + i))) j ≡ exact_edge px (suc i) (suc j)
    outer i j = let e : suc (suc (i + i)) ≡ suc i + suc i = omega arith in rw e (edge_halves px (suc i) j)

    over : (i c : ℕ) → HalfOf i c → suc c ≤ suc (suc (i + i))
    over i c h = let r = half_high i c h in omega arith

-- HALVES of exact positions
pub exact_ruler : (px : ℕ) → Ruler px (LiesExactly px)
exact_ruler px = edges_ruler AtMost (λ i j. exact_edge px i j) (λ i j. exact_edge px (suc i) j) px (exact_edges px)

-- a pixel is an index of the pixel's level
pub pixel_exactly : (px i : ℕ) (x : Fraction) → InPixelAlong i x ↔ LiesExactly px i px x
unfolding InPixelAlong LiesBetween AtMost exact_edge
pixel_exactly px i x = (
  (λ h. (let a = mul-le-mul_right (2 ^ px) h.0 in let b = mul-le-mul_right (2 ^ px) h.1 in (omega arith, omega arith))),
  (λ h. (
    le_of_mul-le-mul_right {k = 2 ^ px} (let a = h.0 in omega arith) (pow_pos px),
    le_of_mul-le-mul_right {k = 2 ^ px} (let b = h.1 in omega arith)
        (pow_pos px),
  )),
)
