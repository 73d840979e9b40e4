-- The start level: the least k from 0 to 15 with 2 ^ k at least the larger side. Assumes nothing.
use mathlib.Core.Path.{◌≡◌, refl, sym, ap, ◌∙◌}
use Prim.Native.Nat.{ℕ, zero, suc, ◌+◌, ◌-◌, ◌*◌, ◌%◌, ◌^◌, ◌≤◌, ◌<◌, max}
use native.Mathlib.Omega.{arith}
use native.Mathlib.Nat.{one-mul, le-max_left, le-max_right, max-le, le_trans}
use native.Mathlib.Decide.{dec_le}
use lib.Pow.{pow_mono, shl_exact}
use borrow.Author.Tests.{le-leb, lt-leb}
use Rattle.decide.specs.declared.Chosen.{Chosen}
use Rattle.implicit.specs.Setup.{least_from, start_level}

-- ONE TRY

least_here : (n k side : ℕ) → side ≤ 2 ^ k → least_from (suc n) k side ≡ k
unfolding least_from
least_here n k side h = rw (le-leb side (2 ^ k) h)

least_next : (n k side : ℕ) → 2 ^ k < side → least_from (suc n) k side ≡ least_from n (k + 1) side
unfolding least_from
least_next n k side h = rw (lt-leb side (2 ^ k) h)

least_none : (k side : ℕ) → least_from 0 k side ≡ k
unfolding least_from
least_none k side = refl

-- THE LOOP

-- 2 ^ k, as a word is shifted
pub power_word : (k : ℕ) → k < 15 → 1 * 2 ^ k % 2 ^ 32 ≡ 2 ^ k
power_word k h = shl_exact 1 k 32 (omega arith) (omega arith) ∙ one-mul (2 ^ k)

pub level_on : (k side : ℕ) → k < 15 → 1 * 2 ^ k % 2 ^ 32 < side → least_from (15 - (k + 1)) (k + 1) side ≡ least_from (15 - k) k side
level_on k side h l =
    let e : 15 - k ≡ suc (15 - (k + 1)) = omega arith in
    let l' : 2 ^ k < side = rw (power_word k h) at l in
    rw e (sym (least_next (15 - (k + 1)) k side l'))

pub level_found : (k side : ℕ) → k < 15 → side ≤ 1 * 2 ^ k % 2 ^ 32 → k ≡ least_from (15 - k) k side
level_found k side h l =
    let e : 15 - k ≡ suc (15 - (k + 1)) = omega arith in
    let l' : side ≤ 2 ^ k = rw (power_word k h) at l in
    rw e (sym (least_here (15 - (k + 1)) k side l'))

pub level_end : (k side : ℕ) → k ≡ 15 → 15 ≡ least_from (15 - k) k side
level_end k side h = rw h (sym (least_none 15 side))

pub level_is : (p : Chosen) (side : ℕ) → side ≡ max p.width p.height → least_from 15 0 side ≡ start_level p
unfolding start_level
level_is p side e = ap (least_from 15 0) e

-- WHAT IT IS

least_most : (n k side : ℕ) → least_from n k side ≤ k + n
least_most zero k side = rw (least_none k side) (omega arith)
least_most (suc n) k side = elim (dec_le side (2 ^ k)) [
  | yes h ↦ rw (least_here n k side h) (omega arith)
  | no h ↦ rw (least_next n k side (omega (arith, h))) (omega (arith, least_most n (k + 1) side))
]

least_holds : (n k side : ℕ) → side ≤ 2 ^ (k + n) → side ≤ 2 ^ least_from n k side
least_holds zero k side b = let e : k + 0 ≡ k = omega arith in rw (least_none k side) (rw e at b)
least_holds (suc n) k side b = elim (dec_le side (2 ^ k)) [
  | yes h ↦ rw (least_here n k side h) h
  | no h ↦ (let e : k + suc n ≡ k + 1 + n = omega arith in rw (least_next n k side (omega (arith, h))) (least_holds n (k + 1) side (rw e at b)))
]

least_least : (n k side j : ℕ) → k ≤ j → side ≤ 2 ^ j → least_from n k side ≤ j
least_least zero k side j h b = rw (least_none k side) h
least_least (suc n) k side j h b = elim (dec_le side (2 ^ k)) [
  | yes l ↦ rw (least_here n k side l) h
  | no l ↦ rw (least_next n k side (omega (arith, l))) (least_least n (k + 1) side j (below l) b)
]
  where
    below : (side ≤ 2 ^ k → ⊥) → k + 1 ≤ j
    below l = elim (dec_le (k + 1) j) [
      | yes m ↦ m
      | no m ↦ absurd (l (le_trans b (pow_mono {i = j} {j = k} (omega (arith, m)))))
    ]

-- THE START LEVEL IS AT MOST 15
pub level_most : (p : Chosen) → start_level p ≤ 15
unfolding start_level
level_most p = least_most 15 0 (max p.width p.height)

-- 2 ^ k HOLDS BOTH SIDES
pub level_width : (p : Chosen) → p.width ≤ 32768 → p.height ≤ 32768 → p.width ≤ 2 ^ start_level p
unfolding start_level
level_width p w h = le_trans (le-max_left p.width p.height) (least_holds 15 0 (max p.width p.height) (max-le w h))

pub level_height : (p : Chosen) → p.width ≤ 32768 → p.height ≤ 32768 → p.height ≤ 2 ^ start_level p
unfolding start_level
level_height p w h = le_trans (le-max_right p.width p.height) (least_holds 15 0 (max p.width p.height) (max-le w h))

-- AND NO SMALLER k DOES
pub level_least : (p : Chosen) (j : ℕ) → p.width ≤ 2 ^ j → p.height ≤ 2 ^ j → start_level p ≤ j
unfolding start_level
level_least p j w h = least_least 15 0 (max p.width p.height) j (omega arith) (max-le w h)
