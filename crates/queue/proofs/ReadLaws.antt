-- Laws of reading: each part's answer by the tests that the code makes on the two stretches. Assumes nothing.
use Rattle.std.specs.Prelude.{Some, None, slice_get}
use Rattle.std.specs.Int.{w64, from_be_bytes}
use Rattle.std.proofs.lemmas.List.{get_or_past}
use Rattle.std.proofs.lemmas.Option.{slice_get-get_or, slice_get_within, get_or_from_slice_get}
use Rattle.std.specs.Result.{result_ok}
use mathlib.Core.Path.{◌≡◌, refl, sym, ap, ◌∙◌}
use mathlib.Core.List.{List, ◌∷◌, ◌++◌}
use Prim.Native.Nat.{ℕ, suc, ◌+◌, ◌-◌, ◌≤◌, ◌<◌, min}
use native.Mathlib.Omega.{arith}
use native.Mathlib.Decide.{dec_lt}
use native.Mathlib.Nat.{add-zero}
use native.Mathlib.Numerals.{add-one}
use lib.Bits.{bit_xor}
use lib.ListN.{length, get_or, take, drop, set, length-drop, drop_of_length-le, get_or-append}
use lib.Seq.{take-suc, take-suc-set, drop-cons, drop-drop, take_all, get_or-drop, get_or-append-add}
use borrow.Author.Tests.{ne_eqb}
use Rattle.base.specs.Bytes.{of_big_endian, of_big_endian_from}
use Rattle.base.proofs.BytesLaws.{big_more}
use Rattle.std.specs.Prelude.{Result, Ok, Err}
use Rattle.refusal.specs.declared.Refusal.{Refusal}
use Rattle.small.specs.declared.Number.{Number}
use Rattle.small.specs.Small.{read_small}
use Rattle.small.proofs.Reading.{read_more, read_first}
use Rattle.queue.specs.Ring.{part_of}
use Rattle.interval.specs.declared.Interval.{Interval}
use Rattle.queue.specs.Decode.{bounds_of, level_of, level_read, coordinate_with, coordinate_of, coordinate_read}
use Rattle.queue.proofs.RingLaws.{part_front}

-- ---- the bytes of the two stretches

-- numbers that are bytes, in each stretch and so in both
pub both_bytes : (o n : List ℕ) → ((i : ℕ) → get_or o i 0 < 256) → ((i : ℕ) → get_or n i 0 < 256) → (i : ℕ)
    → get_or (o ++ n) i 0 < 256
both_bytes o n f g i =
    elim (dec_lt i (length o)) [
      | yes h ↦ rw (get_or-append o n 0 i h) (f i)
      | no h ↦
          let e : i ≡ length o + (i - length o) = omega arith in
          rw (ap (λ (j : ℕ). get_or (o ++ n) j 0) e ∙ get_or-append-add o n (i - length o) 0) (g (i - length o))
    ]

-- bytes further on
pub later_bytes : (s : List ℕ) (at : ℕ) → ((i : ℕ) → get_or s i 0 < 256) → (i : ℕ) → get_or (drop at s) i 0 < 256
later_bytes s at f i = rw (get_or-drop at s i 0) (f (at + i))

-- what was read is one thing, and took one number of bytes
pub same_read : {X : Type 0} (v w : X × ℕ) → Some v ≡ Some w → (v.0 ≡ w.0) × (v.1 ≡ w.1)
same_read {X} v w e = let both : v ≡ w = cc in (ap (λ (u : X × ℕ). u.0) both, ap (λ (u : X × ℕ). u.1) both)

-- a byte that is got lies inside, and is the byte there
pub get_none : (s : List ℕ) (at : ℕ) → None ≡ slice_get s at → length s ≤ at
get_none s at e =
    elim (dec_lt at (length s)) [
      | yes h ↦ let f = slice_get-get_or s at 0 h in cc
      | no h ↦ omega arith
    ]

pub get_some : (s : List ℕ) (at b : ℕ) → Some b ≡ slice_get s at → (at < length s) × (b ≡ get_or s at 0)
get_some s at b e = (slice_get_within s at b (sym e), sym (get_or_from_slice_get s at b 0 (sym e)))

-- what is told of an answer once its refusal is dropped
pub ok_some : {A : Type 0} (r : Result A Refusal) (x : A) → Some x ≡ result_ok r → Ok x ≡ r
ok_some (Ok y) x e = let same : x ≡ y = cc in ap Ok same
ok_some (Err why) x e = cc

pub bounds_none : (r : Result Interval Refusal) → None ≡ result_ok r → None ≡ bounds_of r
bounds_none (Ok x) e = cc
bounds_none (Err why) e = refl

-- ---- the level

pub level_none : (s : List ℕ) (at : ℕ) → None ≡ slice_get s at → None ≡ level_read (drop at s)
unfolding level_read
level_none s at e = rw (drop_of_length-le s {i = at} (get_none s at e))

pub level_some : (s : List ℕ) (at b : ℕ) → Some b ≡ slice_get s at → level_of b ≡ level_read (drop at s)
unfolding level_read
level_some s at b e =
    let (h, f) = get_some s at b e in
    rw (ne_eqb (length (drop at s)) 0 (λ q. omega (arith, q, length-drop at s)), get_or-drop at s 0 0, add-zero at, f)

-- ---- a small number

-- one byte more of those to gather
pub gather_step : (s l : List ℕ) (at i : ℕ) → i < length l → at + length l ≤ length s → take i l ≡ take i (drop at s)
    → take (i + 1) (set l i (get_or s (at + i) 0)) ≡ take (i + 1) (drop at s)
gather_step s l at i h k e =
    let inside : i < length (drop at s) = simp length-drop (omega arith) in
    rw (add-one i, take-suc-set l i (get_or s (at + i) 0) h, take-suc (drop at s) i 0 inside, get_or-drop at s i 0, e)

-- the first eight bytes, or all that are left
pub eight : (s : List ℕ) (at : ℕ) → take (min (length s - at) 8) (drop at s) ≡ take 8 (drop at s)
eight s at =
    elim (dec_lt (length s - at) 8) [
      | yes h ↦
          take_all (min (length s - at) 8) (drop at s) (simp length-drop (omega arith))
          ∙ sym (take_all 8 (drop at s) (simp length-drop (omega arith)))
      | no h ↦ let e : min (length s - at) 8 ≡ 8 = omega arith in rw e
    ]

pub number_near : (o n : List ℕ) (at : ℕ) (r : Number) → Ok r ≡ read_small (part_of o n at)
    → Ok r ≡ read_small (drop at (o ++ n))
number_near o n at r e =
    let (rest, f) = part_front o n at in
    rw f (sym (read_more (part_of o n at) rest r (sym e)))

pub number_far : (s : List ℕ) (at : ℕ) (r : Result Number Refusal) → get_or s at 0 < 256
    → r ≡ read_small (take 8 (drop at s)) → r ≡ read_small (drop at s)
number_far s at r h e = e ∙ read_first 8 (drop at s) (omega arith) (rw (get_or-drop at s 0 0, add-zero at) h)

-- the first of those gathered is a byte, so the byte there is one
pub first_byte : (s : List ℕ) (at n : ℕ) → n ≡ min (length s - at) 8 → (0 < n → get_or (take n (drop at s)) 0 0 < 256)
    → get_or s at 0 < 256
first_byte s at n e h =
    elim (dec_lt at (length s)) [
      | yes inside ↦
          let f : n ≡ suc (n - 1) = omega arith in
          let g : get_or (take (suc (n - 1)) (get_or s at 0 ∷ drop (suc at) s)) 0 0 < 256 =
          rw (f, drop-cons s at 0 inside) at (h (omega arith)) in g
      | no past ↦ rw (get_or_past s at 0 (omega arith)) (omega arith)
    ]

-- ---- a coordinate

pub coordinate_none : (last : ℕ) (s : List ℕ) → None ≡ result_ok (read_small s) → None ≡ coordinate_read last s
unfolding coordinate_read coordinate_of
coordinate_none last s e = go (read_small s) e
  where
    go : (r : Result Number Refusal) → None ≡ result_ok r → None ≡ coordinate_of last s r
    go (Ok x) e = cc
    go (Err why) e = refl

pub coordinate_some : (last : ℕ) (s : List ℕ) (at : ℕ) (r : Number) → Ok r ≡ read_small (drop at s)
    → coordinate_with (bit_xor last r.x) r.count (level_read (drop (at + r.count) s)) ≡ coordinate_read last (drop at s)
unfolding coordinate_read coordinate_of
coordinate_some last s at r e = rw (← e, drop-drop r.count at s)

pub coordinate_damaged : (last : ℕ) (s : List ℕ) (at : ℕ) (r : Number) → Ok r ≡ read_small (drop at s)
    → None ≡ level_read (drop (at + r.count) s)
    → None ≡ coordinate_read last (drop at s)
coordinate_damaged last s at r e f =
    ap (coordinate_with (bit_xor last r.x) r.count) f ∙ coordinate_some last s at r e

pub coordinate_whole : (last : ℕ) (s : List ℕ) (at : ℕ) (r : Number) (rank : ℕ) → Ok r ≡ read_small (drop at s)
    → Some rank ≡ level_read (drop (at + r.count) s)
    → Some (record { index = bit_xor last r.x; rank = rank }, r.count + 1) ≡ coordinate_read last (drop at s)
coordinate_whole last s at r rank e f =
    ap (coordinate_with (bit_xor last r.x) r.count) f ∙ coordinate_some last s at r e

-- ---- a word

-- the number in eight bytes, as the library reads it
pub word_of : (l : List ℕ) → length l ≡ 8 → from_be_bytes w64 l ≡ of_big_endian l
unfolding of_big_endian_from
word_of l h =
    let whole : of_big_endian (take 8 l) ≡ of_big_endian l = ap of_big_endian (take_all 8 l (omega arith)) in
    omega (
      arith,
      whole,
      big_more l 0 (omega arith),
      big_more l 1 (omega arith),
      big_more l 2 (omega arith),
      big_more l 3 (omega arith),
      big_more l 4 (omega arith),
      big_more l 5 (omega arith),
      big_more l 6 (omega arith),
      big_more l 7 (omega arith),
    )
