-- What the needs of this crate cite: a rank's level and a level's rank as 32 bits with a sign, and an array of four in its places.
use mathlib.Core.Path.{◌≡◌, refl, ap, ◌∙◌}
use mathlib.Core.Bool.{true, false, ◌&&◌, ◌||◌}
use mathlib.Core.List.{List, [], ◌∷◌, map}
use Prim.Native.Nat.{ℕ, suc, ◌+◌, ◌-◌, ◌<◌, ◌^◌}
use native.Mathlib.Omega.{arith}
use lib.Dec.{T, ltb}
use native.Mathlib.Decide.{dec_lt}
use lib.IntN.{ℤ, pos, negsuc, nat_abs, ◌+ℤ◌, ◌-ℤ◌}
use lib.Signed.{lt_z, le_z, non_neg, mag}
use lib.ListN.{length, get_or}
use mir.Syntax.{w8, w32}
use mir.Val.{Fits, SFits, to_z, of_z}
use mir.ValLaws.{to_z-of_z, to_z_pos}
use borrow.Author.Tests.{lt-ltb, le-ltb, le-leb, lt-leb, ltb-true, ltb-false}
use Rattle.coordinate.specs.declared.Coordinate as Inner
use Rattle.coordinate.specs.Axis.{level, ordinary_floor, in_range}
use Rattle.coordinate.specs.Lone.{legal}
use Rattle.queue.specs.declared.Block.{Block}
use Rattle.capi.specs.declared.records.Coordinate.{Coordinate}
use Rattle.capi.specs.declared.records.Child.{Child}
use Rattle.capi.specs.declared.records.Listed.{Listed}
use Rattle.capi.specs.Engine.{coordinate_record, child_record, list_record}
use Rattle.capi.specs.Leaf.{rank_of, coordinate_from}
use Rattle.decide.specs.declared.children.Children.{Children}

-- A RANK'S LEVEL

-- a byte less 48, as the code subtracts
pub less_48 : (n : ℕ) → n < 256 → to_z w32 n -ℤ pos 48 ≡ level n
less_48 n h = ap (λ (z : ℤ). z -ℤ pos 48) (to_z_pos w32 n (omega arith))

-- it is a number of 32 bits
pub level_fits : (n : ℕ) → n < 256 → SFits w32 (level n)
level_fits n h = elim (dec_lt n 48) [
  | yes k ↦ rw (lt-ltb n 48 k) (record { sfits = omega arith })
  | no k ↦ rw (le-ltb n 48 (omega arith)) (record { sfits = omega arith })
]

pub less_fits : (n : ℕ) → n < 256 → SFits w32 (to_z w32 n -ℤ pos 48)
less_fits n h = rw (less_48 n h) (level_fits n h)

pub level_is : (n : ℕ) → n < 256 → to_z w32 (of_z w32 (to_z w32 n -ℤ pos 48)) ≡ level n
level_is n h = to_z-of_z w32 _ (less_fits n h) ∙ less_48 n h

pub coordinate_record_lem : (c : Inner.Coordinate) (z : ℤ) → z ≡ level c.rank → SFits w32 z → ◌≡◌ {A = Coordinate} (record { index = c.index; level = to_z w32 (of_z w32 z) }) (coordinate_record c)
coordinate_record_lem c z e f = ap (λ (k : ℤ). record { index = c.index; level = k }) (to_z-of_z w32 z f ∙ e)

-- A LEVEL'S RANK

-- a level below -48 or above 15, by the code's test
no_rank : (z : ℤ) → (lt_z z (negsuc 47) || lt_z (pos 15) z) ≡ true → 64 ≡ rank_of z
no_rank (pos k) t = rw (le-ltb k 16 (omega (arith, ltb-true 15 k t)))
no_rank (negsuc n) t = elim (dec_lt 47 n) [
  | yes h ↦ rw (le-ltb n 48 (omega arith))
  | no h ↦ let f : false ≡ true = rw (le-ltb 47 n (omega arith)) at t in cc
]

-- any other
has_rank : (z : ℤ) → (lt_z z (negsuc 47) || lt_z (pos 15) z) ≡ false → z +ℤ pos 48 ≡ pos (rank_of z)
has_rank (pos k) t = rw (lt-ltb k 16 (omega (arith, ltb-false 15 k t)))
has_rank (negsuc n) t = elim (dec_lt 47 n) [
  | yes h ↦ let f : true ≡ false = rw (lt-ltb 47 n h) at t in cc
  | no h ↦ rw (lt-ltb n 48 (omega arith), le-ltb 48 (suc n) (omega arith)) (ap pos (omega arith))
]

small_rank : (z : ℤ) → rank_of z < 256
small_rank (pos k) = elim (dec_lt k 16) [ yes h ↦ rw (lt-ltb k 16 h) (omega arith) | no h ↦ rw (le-ltb k 16 (omega arith)) (omega arith) ]
small_rank (negsuc n) = elim (dec_lt n 48) [ yes h ↦ rw (lt-ltb n 48 h) (omega arith) | no h ↦ rw (le-ltb n 48 (omega arith)) (omega arith) ]

-- the same of what the code reads back from the bits of a level
module _ (z : ℤ) (f : SFits w32 z) where
  pub no_rank_here : (lt_z (to_z w32 (of_z w32 z)) (negsuc 47) || lt_z (pos 15) (to_z w32 (of_z w32 z))) ≡ true → 64 ≡ rank_of z
  no_rank_here t = no_rank z (rw (to_z-of_z w32 z f) at t)

  module _ (t : (lt_z (to_z w32 (of_z w32 z)) (negsuc 47) || lt_z (pos 15) (to_z w32 (of_z w32 z))) ≡ false) where
    sum : to_z w32 (of_z w32 z) +ℤ pos 48 ≡ pos (rank_of z)
    sum = rw (to_z-of_z w32 z f) (has_rank z (rw (to_z-of_z w32 z f) at t))

    pub sum_fits : SFits w32 (to_z w32 (of_z w32 z) +ℤ pos 48)
    sum_fits = rw sum (record { sfits = omega (arith, small_rank z) })

    back : to_z w32 (of_z w32 (to_z w32 (of_z w32 z) +ℤ pos 48)) ≡ pos (rank_of z)
    back = to_z-of_z w32 _ sum_fits ∙ sum

    pub sum_cast : T (non_neg (to_z w32 (of_z w32 (to_z w32 (of_z w32 z) +ℤ pos 48)))) × Fits w8 (nat_abs (to_z w32 (of_z w32 (to_z w32 (of_z w32 z) +ℤ pos 48))))
    sum_cast = rw back (tt, record { fits = small_rank z })

    pub sum_is : nat_abs (to_z w32 (of_z w32 (to_z w32 (of_z w32 z) +ℤ pos 48))) ≡ rank_of z
    sum_is = ap nat_abs back

pub coordinate_from_as : (c : Coordinate) (r : ℕ) → r ≡ rank_of (to_z w32 (of_z w32 c.level)) → mag c.level < 2 ^ 31 → ◌≡◌ {A = Inner.Coordinate} (record { index = c.index; rank = r }) (coordinate_from c)
coordinate_from_as c r e h = rw e (rw (to_z-of_z w32 c.level (record { sfits = h })))

-- what comes in is legal exactly if its level is one from -32 to 15 and its index is below 2^47: document 01's ranges, on the signed level
pub legal_by_level : (c : Coordinate) → legal ordinary_floor (coordinate_from c) ≡ (le_z (negsuc 31) c.level && le_z c.level (pos 15) && ltb c.index (2 ^ 47))
unfolding in_range
legal_by_level c = go c.level c.index
  where
    go : (z : ℤ) (i : ℕ) → in_range ordinary_floor (rank_of z) i ≡ (le_z (negsuc 31) z && le_z z (pos 15) && ltb i (2 ^ 47))
    go (pos k) i = elim (dec_lt k 16) [
      | yes h ↦ rw (lt-ltb k 16 h, le-leb k 15 (omega arith), le-leb 16 (k + 48) (omega arith), lt-ltb (k + 48) 64 (omega arith))
      | no h ↦ rw (le-ltb k 16 (omega arith), lt-leb k 15 (omega arith))
    ]
    go (negsuc n) i = elim (dec_lt n 32) [
      | yes h ↦ rw (lt-ltb n 48 (omega arith), le-leb n 31 (omega arith), le-leb 16 (47 - n) (omega arith), lt-ltb (47 - n) 64 (omega arith))
      | no h ↦ elim (dec_lt n 48) [
        | yes j ↦ rw (lt-ltb n 48 j, lt-leb n 31 (omega arith), lt-leb 16 (47 - n) (omega arith))
        | no j ↦ rw (le-ltb n 48 (omega arith), lt-leb n 31 (omega arith))
      ]
    ]

-- AN ARRAY OF FOUR

pub list_record_lem : (l : Children) (d : Block) (n : ℕ) (p q r s : Child) → length l.at ≡ 4
    → p ≡ child_record (get_or l.at 0 d) → q ≡ child_record (get_or l.at 1 d) → r ≡ child_record (get_or l.at 2 d) → s ≡ child_record (get_or l.at 3 d)
    → ◌≡◌ {A = Listed} (record { refusal = n; count = l.count; at = p ∷ q ∷ r ∷ s ∷ [] }) (list_record n l)
list_record_lem l d n p q r s h f g i j =
    rw (f, g, i, j) (ap (λ (k : List Child). record { refusal = n; count = l.count; at = k }) (go l.at h))
  where
    go : (k : List Block) → length k ≡ 4 → child_record (get_or k 0 d) ∷ child_record (get_or k 1 d) ∷ child_record (get_or k 2 d) ∷ child_record (get_or k 3 d) ∷ [] ≡ map child_record k
    go [] h = absurd (omega arith)
    go (w ∷ []) h = absurd (omega arith)
    go (w ∷ x ∷ []) h = absurd (omega arith)
    go (w ∷ x ∷ y ∷ []) h = absurd (omega arith)
    go (w ∷ x ∷ y ∷ z ∷ []) h = refl
    go (w ∷ x ∷ y ∷ z ∷ u ∷ k) h = absurd (omega arith)
