-- Laws of one axis, each over every level and every level px of a pixel: where an index begins, how many places a side has, which pixels an index
-- covers, and how its halves lie in it. Assumes nothing.
use mathlib.Core.Path.{◌≡◌, refl, sym, ap, ◌∙◌}
use mathlib.Core.Logic.{inl, inr, ◌↔◌}
use Prim.Native.Nat.{ℕ, zero, suc, ◌+◌, ◌-◌, ◌*◌, ◌/◌, ◌^◌, ◌≤◌, ◌<◌}
use native.Mathlib.Nat.{div-one, pow-suc, pow-succ', div-div-eq-div-mul, add-mul-div_right, le-div_iff_mul-le, div-lt_iff_lt-mul, mul-one, mul_assoc}
use native.Mathlib.Nat.{mul_comm, mul-le-mul_right, mul-lt-mul_of_pos_right, lt_of_mul-lt-mul_right}
use native.Mathlib.Decide.{dec_le, dec_lt}
use native.Mathlib.Omega.{arith}
use lib.Dec.{T, leb, ltb, leb→le, ltb→lt, le→leb, lt→ltb}
use lib.Pow.{pow_pos, pow-add}
use borrow.Author.Tests.{ltb-true, lt-ltb}
use Rattle.base.specs.Axis.{begins_in, covers_along, HalfOf, places_along}
use Rattle.base.proofs.Test.{both_of, of_both, both_ways}

-- ---- where an index begins

-- from the pixel's level up, and down
pub begins_over : (px j i : ℕ) → px ≤ j → begins_in px j i ≡ i * 2 ^ (j - px)
unfolding begins_in
begins_over px j i k = let z : px - j ≡ 0 = omega arith in rw z (div-one (i * 2 ^ (j - px)))

pub begins_under : (px j i : ℕ) → j ≤ px → begins_in px j i ≡ i / 2 ^ (px - j)
unfolding begins_in
begins_under px j i k = let z : j - px ≡ 0 = omega arith in rw (z, mul-one i)

-- ---- how many places there are along a side

-- the key: a level up there are half as many, rounded up
pub places_suc : (w j : ℕ) → places_along w (suc j) ≡ (places_along w j + 1) / 2
unfolding places_along
places_suc w j =
    let h : zero < 2 ^ j = pow_pos j in
    let e : w + (2 ^ suc j - 1) ≡ w + (2 ^ j - 1) + 1 * 2 ^ j = omega (arith, pow-suc 2 j) in
    rw (e, pow-suc 2 j, ← div-div-eq-div-mul (w + (2 ^ j - 1) + 1 * 2 ^ j) (2 ^ j) 2, add-mul-div_right (w + (2 ^ j - 1)) 1 {z = 2 ^ j} h)

-- a place is counted exactly if it begins before the side's end
pub places_in : (w j i : ℕ) → (i < places_along w j) ↔ (i * 2 ^ j < w)
unfolding places_along
places_in w j i =
    let h : zero < 2 ^ j = pow_pos j in (
      (λ k. (let r = (le-div_iff_mul-le {k = 2 ^ j} {x = suc i} {y = w + (2 ^ j - 1)} h).0 k in omega arith)),
      (λ k. (le-div_iff_mul-le {k = 2 ^ j} {x = suc i} {y = w + (2 ^ j - 1)} h).1 (omega arith)),
    )

-- at a level whose places are as wide as the side there is one
pub places_one : (w j : ℕ) → zero < w → w ≤ 2 ^ j → places_along w j ≡ 1
places_one w j h k =
    let a = (places_in w j 0).1 (omega arith) in
    let b : ¬ (1 < places_along w j) = (λ m. (let r = (places_in w j 1).0 m in omega arith)) in
    omega arith

-- two counts of the same places are equal
same_count : (a b : ℕ) → ((i : ℕ) → (i < a) ↔ (i < b)) → a ≡ b
same_count a b h =
    let p : ¬ (a < b) = (λ k. (let r = (h a).1 k in omega arith)) in
    let q : ¬ (b < a) = (λ k. (let r = (h b).0 k in omega arith)) in
    omega arith

scaled : (w i k j : ℕ) → k ≡ i + j → w * 2 ^ k ≡ w * 2 ^ j * 2 ^ i
scaled w i k j e = ap (λ (m : ℕ). w * 2 ^ m) e ∙ ap (λ (m : ℕ). w * m) (pow-add 2 i j ∙ mul_comm (2 ^ i) (2 ^ j)) ∙ sym (mul_assoc w (2 ^ j) (2 ^ i))

-- j levels above the pixel's: w / 2 ^ j, rounded up
pub places_over : (w px j : ℕ) → places_along (w * 2 ^ px) (px + j) ≡ places_along w j
places_over w px j = same_count (places_along (w * 2 ^ px) (px + j)) (places_along w j) (λ i. (there i, back i))
  where
    there : (i : ℕ) → i < places_along (w * 2 ^ px) (px + j) → i < places_along w j
    there i h = (places_in w j i).1 (lt_of_mul-lt-mul_right (2 ^ px) (rw (scaled i px (px + j) j refl) at ((places_in (w * 2 ^ px) (px + j) i).0 h)))

    back : (i : ℕ) → i < places_along w j → i < places_along (w * 2 ^ px) (px + j)
    back i h = (places_in (w * 2 ^ px) (px + j) i).1 (rw (scaled i px (px + j) j refl) (mul-lt-mul_of_pos_right ((places_in w j i).0 h) (pow_pos px)))

-- j levels below it: w * 2 ^ j
pub places_under : (w i j : ℕ) → places_along (w * 2 ^ (i + j)) i ≡ w * 2 ^ j
places_under w i j = same_count (places_along (w * 2 ^ (i + j)) i) (w * 2 ^ j) (λ k. (there k, back k))
  where
    there : (k : ℕ) → k < places_along (w * 2 ^ (i + j)) i → k < w * 2 ^ j
    there k h = lt_of_mul-lt-mul_right (2 ^ i) (rw (scaled w i (i + j) j refl) at ((places_in (w * 2 ^ (i + j)) i k).0 h))

    back : (k : ℕ) → k < w * 2 ^ j → k < places_along (w * 2 ^ (i + j)) i
    back k h = (places_in (w * 2 ^ (i + j)) i k).1 (rw (scaled w i (i + j) j refl) (mul-lt-mul_of_pos_right h (pow_pos i)))

-- an index begins inside the side exactly if it is counted along it
pub begins_inside : (px w j i : ℕ) → (begins_in px j i < w) ↔ (i < places_along (w * 2 ^ px) j)
begins_inside px w j i = ((λ l. (places_in (w * 2 ^ px) j i).1 (to l)), (λ l. from ((places_in (w * 2 ^ px) j i).0 l)))
  where
    over : px ≤ j → i * 2 ^ j ≡ i * 2 ^ (j - px) * 2 ^ px
    over k = scaled i px j (j - px) (omega arith)

    under : j ≤ px → w * 2 ^ px ≡ w * 2 ^ (px - j) * 2 ^ j
    under k = scaled w j px (px - j) (omega arith)

    to : begins_in px j i < w → i * 2 ^ j < w * 2 ^ px
    to l = elim (dec_le px j) [
      | yes k ↦ (rw (over k) (mul-lt-mul_of_pos_right (rw (begins_over px j i k) at l) (pow_pos px)))
      | no k ↦ (let q : j ≤ px = omega arith in rw (under q) (mul-lt-mul_of_pos_right
          ((div-lt_iff_lt-mul (pow_pos (px - j))).0 (rw (begins_under px j i q) at l)) (pow_pos j)))
    ]

    from : i * 2 ^ j < w * 2 ^ px → begins_in px j i < w
    from l = elim (dec_le px j) [
      | yes k ↦ rw (begins_over px j i k) (lt_of_mul-lt-mul_right (2 ^ px) (rw (over k) at l))
      | no k ↦ (let q : j ≤ px = omega arith in rw (begins_under px j i q)
          ((div-lt_iff_lt-mul (pow_pos (px - j))).1 (lt_of_mul-lt-mul_right (2 ^ j) (rw (under q) at l))))
    ]

-- the same of the two tests
pub counted_begins : (px w j i : ℕ) → ltb i (places_along (w * 2 ^ px) j) ≡ ltb (begins_in px j i) w
counted_begins px w j i =
    both_ways (ltb i (places_along (w * 2 ^ px) j)) (ltb (begins_in px j i) w) (λ e. lt-ltb _ _ ((begins_inside px w j i).1 (ltb-true _ _ e)))
    (λ e. lt-ltb _ _ ((begins_inside px w j i).0 (ltb-true _ _ e)))

-- ---- which pixels an index covers

-- a covered pixel, as a fact
pub record Reaches (px j i p : ℕ) : Type 0 where
  pub low : begins_in px j i ≤ p
  pub high : p < begins_in px j i + 2 ^ (j - px)

pub covers_reaches : (px j i p : ℕ) → T (covers_along px j i p) → Reaches px j i p
unfolding covers_along
covers_reaches px j i p h =
    let (a, b) = both_of (leb (begins_in px j i) p) (ltb p (begins_in px j i + 2 ^ (j - px))) h in
    record { low = leb→le _ _ a; high = ltb→lt _ _ b }

pub reaches_covers : (px j i p : ℕ) → Reaches px j i p → T (covers_along px j i p)
unfolding covers_along
reaches_covers px j i p h = of_both (leb (begins_in px j i) p) (ltb p (begins_in px j i + 2 ^ (j - px))) (le→leb _ _ h.low) (lt→ltb _ _ h.high)

-- from the pixel's level down, the one in which it begins
pub covers_start : (px j i p : ℕ) → j ≤ px → T (covers_along px j i p) → p ≡ begins_in px j i
covers_start px j i p k a =
    let x = covers_reaches px j i p a in
    let d : j - px ≡ 0 = omega arith in
    let w : 2 ^ (j - px) ≡ 1 = ap (λ (m : ℕ). 2 ^ m) d in
    omega (arith, x.low, x.high)

-- from it up, no two indices of a level cover the same
pub covers_apart : (px j i c p : ℕ) → px ≤ j → T (covers_along px j i p) → T (covers_along px j c p) → i ≡ c
covers_apart px j i c p h s t = elim (dec_lt i c) [
  | yes k ↦ absurd (before i c k (covers_reaches px j i p s) (covers_reaches px j c p t))
  | no k ↦ elim (dec_lt c i) [ yes m ↦ absurd (before c i m (covers_reaches px j c p t) (covers_reaches px j i p s)) | no m ↦ omega arith ]
]
  where
    before : (a b : ℕ) → a < b → Reaches px j a p → Reaches px j b p → ⊥
    before a b k x y =
        let e = begins_over px j a h in
        let f = begins_over px j b h in
        let m = mul-le-mul_right {m = suc a} {n = b} (2 ^ (j - px)) k in
        omega (arith, x.high, y.low)

-- index 0 of a level whose places are as wide as the side covers it whole
pub root_covers : (px k w p : ℕ) → w ≤ 2 ^ k → p < w → T (covers_along px (px + k) 0 p)
root_covers px k w p h l =
    let e : px + k - px ≡ k = omega arith in
    let z = begins_over px (px + k) 0 (omega arith) in
    let y : 2 ^ (px + k - px) ≡ 2 ^ k = ap (λ (m : ℕ). 2 ^ m) e in
    reaches_covers px (px + k) 0 p record { low = omega arith; high = omega arith }

-- ---- halves

pub half_low : (i c : ℕ) → HalfOf i c → i + i ≤ c
unfolding HalfOf
half_low i c (inl e) = omega arith
half_low i c (inr e) = omega arith

pub half_high : (i c : ℕ) → HalfOf i c → c ≤ suc (i + i)
unfolding HalfOf
half_high i c (inl e) = omega arith
half_high i c (inr e) = omega arith

-- every index is a half
pub half_of : (c : ℕ) → HalfOf (c / 2) c
unfolding HalfOf
half_of c = elim (dec_lt (c / 2 + c / 2) c) [ yes k ↦ inr (omega arith) | no k ↦ inl (omega arith) ]

-- below the pixel's level a half begins in the pixel of the whole
pub half_begins : (px j i c : ℕ) → HalfOf i c → j < px → begins_in px j c ≡ begins_in px (suc j) i
half_begins px j i c e k =
    let l = half_low i c e in
    let u = half_high i c e in
    let f : px - j ≡ suc (px - suc j) = omega arith in
    let g : c / 2 ≡ i = omega arith in
    let x : begins_in px j c ≡ c / 2 / 2 ^ (px - suc j) = begins_under px j c (omega arith) ∙ rw (f, pow-succ' 2 (px - suc j))
    (sym (div-div-eq-div-mul c 2 (2 ^ (px - suc j)))) in
    x ∙ ap (λ (m : ℕ). m / 2 ^ (px - suc j)) g ∙ sym (begins_under px (suc j) i (omega arith))

-- so it covers what the whole covers
pub half_same : (px j i c p : ℕ) → HalfOf i c → j < px → covers_along px j c p ≡ covers_along px (suc j) i p
unfolding covers_along
half_same px j i c p e k = let d : j - px ≡ suc j - px = omega arith in rw (half_begins px j i c e k, d)

-- on every level it covers only that
half_reaches : (px j i c p : ℕ) → HalfOf i c → px ≤ j → Reaches px j c p → Reaches px (suc j) i p
half_reaches px j i c p e k h =
    let f : suc j - px ≡ suc (j - px) = omega arith in
    let a = mul-le-mul_right (2 ^ (j - px)) (half_low i c e) in
    let b = mul-le-mul_right (2 ^ (j - px)) (half_high i c e) in
    let x = begins_over px j c k in
    let y : begins_in px (suc j) i ≡ i * 2 ^ suc (j - px) = rw f at (begins_over px (suc j) i (omega arith)) in
    let q : 2 ^ (suc j - px) ≡ 2 ^ (j - px) * 2 = rw f (pow-suc 2 (j - px)) in
    let v : i * 2 ^ suc (j - px) ≡ i * (2 ^ (j - px) * 2) = ap (λ (m : ℕ). i * m) (pow-suc 2 (j - px)) in
    record { low = omega (arith, h.low, h.high); high = omega (arith, h.low, h.high) }

pub half_covers : (px j i c p : ℕ) → HalfOf i c → T (covers_along px j c p) → T (covers_along px (suc j) i p)
half_covers px j i c p e h = elim (dec_le px j) [
  | yes k ↦ reaches_covers px (suc j) i p (half_reaches px j i c p e k (covers_reaches px j c p h))
  | no k ↦ rw (half_same px j i c p e (omega arith)) at h
]
