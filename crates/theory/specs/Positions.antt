-- Positions along an axis, and the indices in which they lie: what a question's `At` and `In` are made of. Edges are closed, so a position may
-- lie in two neighbouring indices. px is the level of a pixel.
use Rattle.std.specs.Prelude.{◌≡◌, ◌⊎◌, ℕ, zero, suc, ◌+◌, ◌*◌, ◌^◌, ◌≤◌, ◌<◌, T}
use Rattle.std.proofs.Common.{pow_pos}
use Rattle.theory.specs.Levels.{BlockPlace}
use Rattle.theory.specs.Shapes.{PixelIn, covers_pixel, HalfOf}

-- Lies i j x: position x lies in index i of level j. Below the pixel's level, what lies in an index lies in one of its halves; from there up, what
-- lies in a half lies in the whole. No more is asked of positions
pub record Ruler (px : ℕ) {Position : Type 0} (Lies : ℕ → ℕ → Position → Type 0) : Type 0 where
  pub halve : (i j : ℕ) (x : Position) → j < px → Lies i (suc j) x → Lies (i + i) j x ⊎ Lies (suc (i + i)) j x
  pub whole : (i c j : ℕ) (x : Position) → px ≤ j → HalfOf i c → Lies c j x → Lies i (suc j) x

-- a place holds the point (x, y) as one of pixel p
unfoldable pub PlaceHolds : {X Y : Type 0} {w h : ℕ} (px : ℕ) (LiesX : ℕ → ℕ → X → Type 0) (LiesY : ℕ → ℕ → Y → Type 0) → X → Y → PixelIn w h → BlockPlace
    → Type 0
PlaceHolds px LiesX LiesY x y p b = (LiesX b.x b.level x × LiesY b.y b.level y) × T (covers_pixel px b p)

-- so does a strip's place, where only x is cut
unfoldable pub StripHolds : {X : Type 0} {w : ℕ} (px : ℕ) (Lies : ℕ → ℕ → X → Type 0) → X → PixelIn w 1 → BlockPlace → Type 0
StripHolds px Lies x p b = Lies b.x b.level x × T (covers_pixel px b p)

-- ---- edges

-- each index of each level has a low and a high edge, exact or rounded
module _ {R : Type 0} (Le : R → R → Type 0) (low high : ℕ → ℕ → R) where
  -- a position lies between the edges of index i of level j, or on one
  unfoldable pub LiesBetween : ℕ → ℕ → R → Type 0
  LiesBetween i j x = Le (low i j) x × Le x (high i j)

  -- enough of edges to make a ruler
  pub record SharedEdges (px : ℕ) : Type 0 where
    pub total : (a b : R) → Le a b ⊎ Le b a
    pub trans : (a b c : R) → Le a b → Le b c → Le a c
    -- below the pixel's level an index shares its outer edges with its halves, and they share the edge between them
    pub outer_low : (i j : ℕ) → j < px → low (i + i) j ≡ low i (suc j)
    pub outer_high : (i j : ℕ) → j < px → high (suc (i + i)) j ≡ high i (suc j)
    pub between : (i j : ℕ) → j < px → high (i + i) j ≡ low (suc (i + i)) j
    -- from there up a half lies within the whole
    pub low_within : (i c j : ℕ) → px ≤ j → HalfOf i c → Le (low i (suc j)) (low c j)
    pub high_within : (i c j : ℕ) → px ≤ j → HalfOf i c → Le (high c j) (high i (suc j))

-- ---- exact positions: fractions, in pixels from the picture's left or lower edge

-- num / den
pub record Fraction : Type 0 where
  pub num : ℕ
  pub den : ℕ
  pub den_pos : zero < den

-- a is at most b
unfoldable pub AtMost : Fraction → Fraction → Type 0
AtMost a b = a.num * b.den ≤ b.num * a.den

-- the low edge of index i of level j
unfoldable pub exact_edge : ℕ → ℕ → ℕ → Fraction
exact_edge px i j = record { num = i * 2 ^ j; den = 2 ^ px; den_pos = pow_pos px }

-- a fraction lies in index i of level j, edges included
abbrev pub LiesExactly : ℕ → ℕ → ℕ → Fraction → Type 0
LiesExactly px = LiesBetween AtMost (λ i j. exact_edge px i j) (λ i j. exact_edge px (suc i) j)

-- from i to i + 1, both included: the fraction lies in pixel i
unfoldable pub InPixelAlong : ℕ → Fraction → Type 0
InPixelAlong i x = (i * x.den ≤ x.num) × (x.num ≤ suc i * x.den)
