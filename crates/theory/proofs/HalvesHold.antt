-- Cutting along x and y loses no point: over any rulers, the listed quarters of a place, and the halves of a strip's, hold what the place holds,
-- pixel by pixel; a child that is left out because it lies outside covers no pixel. And the first block holds every point. Assumes nothing.
use mathlib.Core.Path.{◌≡◌, refl, ap}
use mathlib.Core.Logic.{◌⊎◌, inl, inr, ⊎_elim}
use mathlib.Core.Bool.{Bool, true, false, ◌&&◌}
use mathlib.Core.List.{List}
use Prim.Native.Nat.{ℕ, zero, suc, ◌+◌, ◌-◌, ◌*◌, ◌^◌, ◌≤◌, ◌<◌}
use native.Mathlib.Nat.{pow-suc, add-suc, add-zero}
use native.Mathlib.Decide.{dec_le}
use native.Mathlib.Omega.{arith}
use lib.Dec.{T}
use lib.Pow.{pow_pos}
use borrow.Author.Tests.{lt-ltb, le-ltb}
use Rattle.base.proofs.Test.{both_of, of_both}
use Rattle.base.proofs.AxisLaws.{begins_over, Reaches, covers_reaches, reaches_covers, root_covers, half_same}
use Rattle.base.specs.Lists.{Some}
use Rattle.theory.specs.Levels.{BlockPlace, place_at}
use Rattle.theory.specs.Shapes.{PixelIn, begins_in, covers_along, covers_pixel, HalfOf, is_listed, place_if, quarters_at, quarters, halves_at, halves_in_x}
use Rattle.theory.specs.Positions.{Ruler, PlaceHolds, StripHolds}
use Rattle.theory.proofs.ChildPlaces.{zero_covers}

-- above the pixel's level: the half that covers pixel p
half_above : (i z p : ℕ) → zero < z → i * (z * 2) ≤ p → p < i * (z * 2) + z * 2 → (c : ℕ) × HalfOf i c × (c * z ≤ p) × (p < c * z + z)
unfolding HalfOf
half_above i z p h a b = elim (dec_le ((i + i) * z + z) p) [
  | yes k ↦ (suc (i + i), inr refl, omega arith, omega arith)
  | no k ↦ (i + i, inl refl, omega arith, omega arith)
]

module _ (px : ℕ) {X : Type 0} (Lies : ℕ → ℕ → X → Type 0) (ruler : Ruler px Lies) where
  -- what lies in a pixel lies in each index above that covers it
  lies_above : (k c p : ℕ) (x : X) → c * 2 ^ k ≤ p → p < c * 2 ^ k + 2 ^ k → Lies p px x → Lies c (px + k) x
  lies_above zero c p x a b h =
      let e : c ≡ p = omega arith in
      rw (e, add-zero px) h
  lies_above (suc k) c p x a b h =
      let q = pow-suc 2 k in
      let v : c * 2 ^ suc k ≡ c * (2 ^ k * 2) = ap (λ (m : ℕ). c * m) q in
      let (d, hd, l, u) = half_above c (2 ^ k) p (pow_pos k) (omega arith) (omega arith) in
      rw (add-suc px k) (ruler.whole c d (px + k) x (omega arith) hd (lies_above k d p x l u h))

  pub root_lies : (k w p : ℕ) (x : X) → w ≤ 2 ^ k → p < w → Lies p px x → Lies 0 (px + k) x
  root_lies k w p x a b h = lies_above k 0 p x (omega arith) (omega arith) h

  -- the half that holds the position, covers its pixel, and is listed
  pub record ListedHalf (w i j p : ℕ) (x : X) : Type 0 where
    pub c : ℕ
    pub half : HalfOf i c
    pub lies : Lies c j x
    pub covers : T (covers_along px j c p)
    pub listed : is_listed px w j c ≡ true

  pub listed_half : (w i j p : ℕ) (x : X) → p < w → Lies p px x → Lies i (suc j) x → T (covers_along px (suc j) i p) → ListedHalf w i j p x
  unfolding is_listed
  listed_half w i j p x pw at h k = elim (dec_le px j) [ yes l ↦ over l | no l ↦ under (omega arith) ]
    where
      o : Reaches px (suc j) i p
      o = covers_reaches px (suc j) i p k

      over : px ≤ j → ListedHalf w i j p x
      over l =
          let f : suc j - px ≡ suc (j - px) = omega arith in
          let y : begins_in px (suc j) i ≡ i * 2 ^ suc (j - px) = rw f at (begins_over px (suc j) i (omega arith)) in
          let q : 2 ^ (suc j - px) ≡ 2 ^ (j - px) * 2 = rw f (pow-suc 2 (j - px)) in
          let v : i * 2 ^ suc (j - px) ≡ i * (2 ^ (j - px) * 2) = ap (λ (m : ℕ). i * m) (pow-suc 2 (j - px)) in
          let (c, hc, a, b) = half_above i (2 ^ (j - px)) p (pow_pos (j - px)) (omega (arith, o.low, o.high)) (omega (arith, o.low, o.high)) in
          let e : px + (j - px) ≡ j = omega arith in
          let z = begins_over px j c l in
          record {
            c = c;
            half = hc;
            lies = rw e at (lies_above (j - px) c p x a b at);
            covers = reaches_covers px j c p record { low = omega arith; high = omega arith };
            listed = rw (le-ltb j px l) (lt-ltb (begins_in px j c) w (omega arith));
          }

      with_half : j < px → (c : ℕ) → HalfOf i c → Lies c j x → ListedHalf w i j p x
      with_half l c hc m =
          record { c = c; half = hc; lies = m; covers = rw (half_same px j i c p hc l) k; listed = rw (lt-ltb j px l) }

      under : j < px → ListedHalf w i j p x
      under l = unfold HalfOf in ⊎_elim (λ m. with_half l (i + i) (inl refl) m) (λ m. with_half l (suc (i + i)) (inr refl) m) (ruler.halve i j x l h)

-- one of a list whose members are listed by a test
some_listed : (P : BlockPlace → Type 0) (k : Bool) (c : BlockPlace) (r : List BlockPlace) → k ≡ true → P c → Some P (place_if k c r)
unfolding Some place_if
some_listed P k c r e h = rw e (inl h)

some_later : (P : BlockPlace → Type 0) (k : Bool) (c : BlockPlace) (r : List BlockPlace) → Some P r → Some P (place_if k c r)
unfolding Some place_if
some_later P true c r h = inr h
some_later P false c r h = h

module _ {X Y : Type 0} (w h px : ℕ) (LiesX : ℕ → ℕ → X → Type 0) (ruler_x : Ruler px LiesX) (LiesY : ℕ → ℕ → Y → Type 0) (ruler_y : Ruler px LiesY) where
  abbrev Held : X → Y → PixelIn w h → BlockPlace → Type 0
  Held = PlaceHolds px LiesX LiesY

  quarters_at_hold : (p : PixelIn w h) (x : X) (y : Y) (i k j : ℕ) → LiesX p.x px x → LiesY p.y px y → Held x y p (place_at i k (suc j))
      → Some (Held x y p) (quarters_at px w h i k (suc j))
  unfolding PlaceHolds covers_pixel HalfOf
  quarters_at_hold p x y i k j a b o = go hx.half hy.half
    where
      both : T (covers_along px (suc j) i p.x) × T (covers_along px (suc j) k p.y)
      both = both_of (covers_along px (suc j) i p.x) (covers_along px (suc j) k p.y) o.1

      hx : ListedHalf px LiesX ruler_x w i j p.x x
      hx = listed_half px LiesX ruler_x w i j p.x x p.x_in a o.0.0 both.0

      hy : ListedHalf px LiesY ruler_y h k j p.y y
      hy = listed_half px LiesY ruler_y h k j p.y y p.y_in b o.0.1 both.1

      holds : (c d : ℕ) → hx.c ≡ c → hy.c ≡ d → Held x y p (place_at c d j)
      holds c d e f = rw (← e, ← f) (
        (hx.lies, hy.lies),
        of_both (covers_along px j hx.c p.x) (covers_along px j hy.c p.y) hx.covers
            hy.covers,
      )

      listed : (c d : ℕ) → hx.c ≡ c → hy.c ≡ d → is_listed px w j c && is_listed px h j d ≡ true
      listed c d e f = rw (← e, ← f, hx.listed, hy.listed)

      go : (hx.c ≡ i + i) ⊎ (hx.c ≡ suc (i + i)) → (hy.c ≡ k + k) ⊎ (hy.c ≡ suc (k + k)) → Some (Held x y p) (quarters_at px w h i k (suc j))
      go (inl d) (inl e) = unfold quarters_at in some_listed (Held x y p) _ (place_at (i + i) (k + k) j) _ (listed (i + i) (k + k) d e)
          (holds (i + i) (k + k) d e)
      go (inr d) (inl e) = unfold quarters_at in some_later (Held x y p) _ _ _
          (some_listed (Held x y p) _ (place_at (suc (i + i)) (k + k) j) _ (listed (suc (i + i)) (k + k) d e) (holds (suc (i + i)) (k + k) d e))
      go (inl d) (inr e) = unfold quarters_at in some_later (Held x y p) _ _ _ (some_later (Held x y p) _ _ _
          (some_listed (Held x y p) _ (place_at (i + i) (suc (k + k)) j) _ (listed (i + i) (suc (k + k)) d e) (holds (i + i) (suc (k + k)) d e)))
      go (inr d) (inr e) = unfold quarters_at in some_later (Held x y p) _ _ _ (some_later (Held x y p) _ _ _ (some_later (Held x y p) _ _ _
          (some_listed (Held x y p) _ (place_at (suc (i + i)) (suc (k + k)) j) _ (listed (suc (i + i)) (suc (k + k)) d e)
          (holds (suc (i + i)) (suc (k + k)) d e))))

  pub quarters_hold : (p : PixelIn w h) (x : X) (y : Y) (b : BlockPlace) → zero < b.level → LiesX p.x px x → LiesY p.y px y → Held x y p b
      → Some (Held x y p) (quarters px w h b)
  unfolding quarters PlaceHolds covers_pixel
  quarters_hold p x y b l a c o = go (b.level - 1) (omega arith)
    where
      go : (j : ℕ) → b.level ≡ suc j → Some (Held x y p) (quarters_at px w h b.x b.y b.level)
      go j e = rw e (quarters_at_hold p x y b.x b.y j a c (rw e at o))

  pub root_holds : (k : ℕ) → w ≤ 2 ^ k → h ≤ 2 ^ k → (p : PixelIn w h) (x : X) (y : Y) → LiesX p.x px x → LiesY p.y px y
      → Held x y p (place_at 0 0 (px + k))
  unfolding PlaceHolds covers_pixel
  root_holds k a b p x y hx hy = (
    (root_lies px LiesX ruler_x k w p.x x a p.x_in hx, root_lies px LiesY ruler_y k h p.y y b p.y_in hy),
    of_both (covers_along px (px + k) 0 p.x) (covers_along px (px + k) 0 p.y) (root_covers px k w p.x a p.x_in)
        (root_covers px k h p.y b p.y_in),
  )

-- ---- strips: only x is cut, and every place has y 0

module _ {X : Type 0} (w px : ℕ) (Lies : ℕ → ℕ → X → Type 0) (ruler : Ruler px Lies) where
  halves_at_hold : (p : PixelIn w 1) (x : X) (i k j : ℕ) → Lies p.x px x → StripHolds px Lies x p (place_at i k (suc j))
      → Some (StripHolds px Lies x p) (halves_at px w i (suc j))
  unfolding StripHolds covers_pixel HalfOf
  halves_at_hold p x i k j a o = go hx.half
    where
      hx : ListedHalf px Lies ruler w i j p.x x
      hx = listed_half px Lies ruler w i j p.x x p.x_in a o.0 (both_of (covers_along px (suc j) i p.x) (covers_along px (suc j) k p.y) o.1).0

      holds : (c : ℕ) → hx.c ≡ c → StripHolds px Lies x p (place_at c 0 j)
      holds c e = rw (← e) (hx.lies, of_both (covers_along px j hx.c p.x) (covers_along px j 0 p.y) hx.covers (zero_covers px j p.y p.y_in))

      listed : (c : ℕ) → hx.c ≡ c → is_listed px w j c ≡ true
      listed c e = rw (← e) hx.listed

      go : (hx.c ≡ i + i) ⊎ (hx.c ≡ suc (i + i)) → Some (StripHolds px Lies x p) (halves_at px w i (suc j))
      go (inl d) = unfold halves_at in some_listed (StripHolds px Lies x p) _ (place_at (i + i) 0 j) _ (listed (i + i) d) (holds (i + i) d)
      go (inr d) = unfold halves_at in some_later (StripHolds px Lies x p) _ _ _
          (some_listed (StripHolds px Lies x p) _ (place_at (suc (i + i)) 0 j) _ (listed (suc (i + i)) d) (holds (suc (i + i)) d))

  pub halves_hold : (p : PixelIn w 1) (x : X) (b : BlockPlace) → zero < b.level → Lies p.x px x → StripHolds px Lies x p b
      → Some (StripHolds px Lies x p) (halves_in_x px w b)
  unfolding halves_in_x StripHolds covers_pixel
  halves_hold p x b l a o = go (b.level - 1) (omega arith)
    where
      go : (j : ℕ) → b.level ≡ suc j → Some (StripHolds px Lies x p) (halves_at px w b.x b.level)
      go j e = rw e (halves_at_hold p x b.x b.y j a (rw e at o))

  pub strip_root_holds : (k : ℕ) → w ≤ 2 ^ k → (p : PixelIn w 1) (x : X) → Lies p.x px x → StripHolds px Lies x p (place_at 0 0 (px + k))
  unfolding StripHolds covers_pixel
  strip_root_holds k a p x h = (
    root_lies px Lies ruler k w p.x x a p.x_in h,
    of_both (covers_along px (px + k) 0 p.x) (covers_along px (px + k) 0 p.y) (root_covers px k w p.x a p.x_in)
        (zero_covers px (px + k) p.y p.y_in),
  )
