-- Laws of the sheet's head: numbers in bytes, the ranges one behind another, and which sheets are taken. Assumes nothing.
use Rattle.std.proofs.Common.{◌≡◌, ℕ, ◌+◌, ◌*◌, ◌≤◌, ◌<◌, Bool, false, not, ◌&&◌, List, [], ◌∷◌, length, get_or, take, drop, refl, ap, arith, length-drop, get_or-drop}
use Rattle.std.proofs.lemmas.List.{take_all}
use Rattle.std.specs.Int.{w16, w32, w64, from_be_bytes}
use Rattle.std.specs.Float.{binary64}
use Rattle.std.specs.Float.Ieee.{of_bits}
use lib.Seq.{drop-drop}
use borrow.Author.Tests.{lt-leb, le-leb}
use lib.Dec.{leb, eqb}
use Rattle.base.specs.Bytes.{of_big_endian, of_big_endian_from}
use Rattle.base.proofs.BytesLaws.{big_more}
use Rattle.queue.specs.declared.directions.Direction.{Direction}
use Rattle.queue.specs.declared.directions.Direction.TheVariants as D
use Rattle.sheet.specs.Layout.{number_in, sheet_set, range_bytes, places_in, bounds_in, range_in, ranges_in, zero_bits, too_large, taken_sheet}

-- NUMBERS

number_none : (s : List ℕ) (at : ℕ) → number_in s at 0 ≡ 0
unfolding number_in of_big_endian_from
number_none s at = refl

-- a byte more
number_more : (s : List ℕ) (at k j : ℕ) → j ≡ at + k → j < length s → number_in s at (k + 1) ≡ number_in s at k * 256 + get_or s j 0
unfolding number_in
number_more s at k j e h = rw (e, ← get_or-drop at s k 0) (big_more (drop at s) k (omega (arith, length-drop at s)))

-- what std makes of two, four or eight bytes
pub two_read : (s : List ℕ) (at i j : ℕ) → i ≡ at → j ≡ at + 1 → at + 2 ≤ length s → from_be_bytes w16 (get_or s i 0 ∷ get_or s j 0 ∷ []) ≡ number_in s at 2
two_read s at i j e f h = omega (arith, number_none s at, number_more s at 0 i (omega arith) (omega arith), number_more s at 1 j (omega arith) (omega arith))

pub four_read : (s : List ℕ) (at i j k l : ℕ) → i ≡ at → j ≡ at + 1 → k ≡ at + 2 → l ≡ at + 3 → at + 4 ≤ length s
    → from_be_bytes w32 (get_or s i 0 ∷ get_or s j 0 ∷ get_or s k 0 ∷ get_or s l 0 ∷ []) ≡ number_in s at 4
four_read s at i j k l e f g m h =
    omega (
      arith,
      number_none s at,
      number_more s at 0 i (omega arith) (omega arith),
      number_more s at 1 j (omega arith) (omega arith),
      number_more s at 2 k (omega arith) (omega arith),
      number_more s at 3 l (omega arith) (omega arith),
    )

-- the same of all bytes of a list
eight_bytes : (l : List ℕ) → length l ≡ 8 → from_be_bytes w64 l ≡ of_big_endian l
unfolding of_big_endian_from
eight_bytes l h =
    let whole : of_big_endian (take 8 l) ≡ of_big_endian l = ap of_big_endian (take_all 8 l (omega arith)) in
    omega (
      arith,
      whole,
      big_more l 0 (omega arith),
      big_more l 1 (omega arith),
      big_more l 2 (omega arith),
      big_more l 3 (omega arith),
      big_more l 4 (omega arith),
      big_more l 5 (omega arith),
      big_more l 6 (omega arith),
      big_more l 7 (omega arith),
    )

-- RANGES

number_later : (s : List ℕ) (k at n : ℕ) → number_in (drop k s) at n ≡ number_in s (k + at) n
unfolding number_in
number_later s k at n = rw (drop-drop at k s)

pub bounds_read : (s low high rest : List ℕ) → low ≡ take 8 s → rest ≡ drop 8 s → high ≡ take 8 rest → length low ≡ 8 → length high ≡ 8
    → record { lower = of_bits binary64 (from_be_bytes w64 low); upper = of_bits binary64 (from_be_bytes w64 high) } ≡ bounds_in s 0
unfolding bounds_in number_in
bounds_read s low high rest e f g h k = rw (eight_bytes low h, eight_bytes high k, e, g, f, drop_none s)
  where
    drop_none : (l : List ℕ) → drop 0 l ≡ l
    drop_none [] = refl
    drop_none (x ∷ l) = refl

range_later : (s : List ℕ) (set : ℕ) (d : Direction) (k : ℕ) → range_in (drop k s) set d 0 ≡ range_in s set d k
unfolding range_in bounds_in
range_later s set d k =
    let e : k + 0 ≡ k = omega arith in
    rw (number_later s k 0 8, number_later s k 8 8, e)

pub ranges_read : (s : List ℕ) (set : ℕ) (m n theta t tape : List ℕ) → m ≡ drop 9 s → n ≡ drop (range_bytes set D.M) m
    → theta ≡ drop (range_bytes set D.N) n → t ≡ drop (range_bytes set D.Theta) theta → tape ≡ drop (range_bytes set D.T) t
    → (record { m = range_in m set D.M 0; n = range_in n set D.N 0; theta = range_in theta set D.Theta 0; t = range_in t set D.T 0 } ≡ ranges_in s set)
    × (tape ≡ drop (places_in set).tape s)
unfolding ranges_in places_in
ranges_read s set m n theta t tape e f g h i =
    let at = places_in set in
    let f' : n ≡ drop at.n s = rw (f, e) (drop-drop (range_bytes set D.M) 9 s) in
    let g' : theta ≡ drop at.theta s = rw (g, f') (drop-drop (range_bytes set D.N) at.n s) in
    let h' : t ≡ drop at.t s = rw (h, g') (drop-drop (range_bytes set D.Theta) at.theta s) in (
      rw (e, f', g', h', range_later s set D.M 9, range_later s set D.N at.n, range_later s set D.Theta at.theta, range_later s set D.T at.t),
      rw (i, h') (drop-drop (range_bytes set D.T) at.t s),
    )

-- the head has at least nine bytes, and each range ends where the next begins, the last where the tape begins
pub places_least : (set : ℕ) → 9 ≤ (places_in set).tape
unfolding places_in
places_least set = omega arith

pub record PlacesFit (set room : ℕ) : Type 0 where
  pub m : 9 + range_bytes set D.M ≤ room
  pub n : (places_in set).n + range_bytes set D.N ≤ room
  pub theta : (places_in set).theta + range_bytes set D.Theta ≤ room
  pub t : (places_in set).t + range_bytes set D.T ≤ room

pub places_fit : (set room : ℕ) → (places_in set).tape ≤ room → PlacesFit set room
unfolding places_in
places_fit set room h = record { m = omega arith; n = omega arith; theta = omega arith; t = omega arith }

-- where the tape begins
pub tape_at : (set : ℕ) → (places_in set).tape ≡ 9 + range_bytes set D.M + range_bytes set D.N + range_bytes set D.Theta + range_bytes set D.T
unfolding places_in
tape_at set = refl

-- WHICH SHEETS ARE TAKEN

pub short_sheet : (s : List ℕ) → length s < (places_in (sheet_set s)).tape → taken_sheet s ≡ false
unfolding taken_sheet
short_sheet s h = rw (lt-leb (places_in (sheet_set s)).tape (length s) h)

-- one with all of its head is taken by its other tests
pub long_sheet : (s : List ℕ) (width height : ℕ) (large b : Bool) → (places_in (sheet_set s)).tape ≤ length s
    → width ≡ number_in s 0 2 → height ≡ number_in s 2 2 → large ≡ too_large width height
    → eqb (zero_bits s) 0 && leb (length s) 16384 && not large ≡ b → taken_sheet s ≡ b
unfolding taken_sheet
long_sheet s width height large b room e f g h = rw (le-leb (places_in (sheet_set s)).tape (length s) room, ← e, ← f, ← g) h
