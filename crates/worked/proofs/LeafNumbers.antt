-- FOR READERS: the leaves' numbers of refusal, to be held against document 01's table, "given exactly if": 9, 10 and 11 of small numbers, 3 for an interval
-- and 8 for a coordinate that is handed in alone. What a function says is its number and its values (specs/Words). The queue's own 6 and 8 stand in
-- `queue`, proofs/QueuePromises. Assumes nothing.
use mathlib.Core.Path.{◌≡◌, refl, sym, ap, ◌∙◌}
use mathlib.Core.Logic.{◌⊎◌, inl, inr, ⊎_elim, ◌↔◌}
use mathlib.Core.Bool.{Bool, true, false, cond, ◌&&◌, true≢false, false≢true}
use mathlib.Core.List.{List, [], ◌∷◌}
use Prim.Native.Nat.{ℕ, suc, ◌+◌, ◌-◌, ◌*◌, ◌^◌, ◌<◌}
use native.Mathlib.Decide.{dec_lt}
use native.Mathlib.Omega.{arith}
use lib.Count.{count_trailing_zeros}
use lib.Dec.{ltb}
use lib.IntN.{ℤ, pos, negsuc}
use lib.Signed.{le_z}
use lib.ListN.{length, get_or}
use lib.Ieee.{Float, nan, inf, fin, is_nan, le, lt, eq}
use borrow.Author.Tests.{le-leb, lt-leb, lt-ltb, le-ltb}
use Rattle.base.proofs.Test.{cases, and_left, and_right, and_both}
use Rattle.std.specs.Prelude.{Result, Ok, Err}
use Rattle.refusal.specs.declared.Refusal.{Refusal}
use Rattle.refusal.specs.declared.Refusal.TheVariants as R
use Rattle.refusal.specs.Number.{answer_number}
use Rattle.small.specs.declared.Number.{Number}
use Rattle.small.specs.Small.{code_of, code_with}
use Rattle.small.proofs.Writing.{tail_takes, code_refuses}
use Rattle.small.proofs.Reading.{by_read}
use Rattle.coordinate.specs.declared.Coordinate.{Coordinate}
use Rattle.coordinate.specs.declared.Halves.{Halves}
use Rattle.coordinate.specs.Axis.{level, ordinary_floor, in_range, pixel, above_floor, inside}
use Rattle.coordinate.specs.Lone.{legal, low_half, high_half, pixel_asked, halves_asked, subdivisible_asked, inside_asked}
use Rattle.coordinate.proofs.PixelLaws.{ranged, low_in_range}
use Rattle.interval.specs.declared.Interval.{Interval}
use Rattle.interval.specs.Bounds.{InFormat, whole_bound, legal_bounds, legal_interval, put_interval}
use Rattle.interval.specs.Kinds.{midpoint_of, cut_point_of}
use Rattle.interval.specs.Cuts.{subdivisible, first_cut, later_cut}
use Rattle.interval.specs.Fraction.{simple_fraction}
use Rattle.interval.specs.Answers.{point_answer, whether_at, pieces_from, pieces_at, bounds_from, answer_from_bits}
use Rattle.interval.proofs.Legality.{legal_bounds_lem, whole_ends, legal_from, put_legal}
use Rattle.interval.proofs.ProperPieces.{Few, put_format}
use Rattle.interval.proofs.CutAnswers.{first_good, later_good}
use Rattle.worked.specs.Words.{write_says, read_says, pixel_says, halves_says, halvable_says, inside_says}
use Rattle.worked.specs.Words.{midpoint_says, cut_point_says, fraction_says, divisible_says, first_cut_says, later_cut_says, from_bits_says}

-- the number is k exactly if the condition holds, and 0, which is no refusal's, exactly if it does not
abbrev pub GivenExactlyIf : ℕ → ℕ → Type 0 → Type 0
GivenExactlyIf k number condition = ((number ≡ k) ↔ condition) × ((number ≡ 0) ↔ ¬ condition)

-- it is, where either holds with its number
given : {k n : ℕ} {C : Type 0} → (C × (n ≡ suc k)) ⊎ ((¬ C) × (n ≡ 0)) → GivenExactlyIf (suc k) n C
given (inl (holds, e)) = ((λ _. holds, λ _. e), (λ z. absurd (omega (arith, e)), λ f. absurd (f holds)))
given (inr (fails, z)) = ((λ e. absurd (omega (arith, z)), λ h. absurd (fails h)), (λ _. fails, λ _. z))

-- ---- SMALL NUMBERS

has_code : (x : ℕ) → x < 2 ^ 56 → answer_number (code_of x) ≡ 0
unfolding code_of
has_code x h = let (z, e, r) = tail_takes x h in ap (λ t. answer_number (code_with x t)) e

-- 9: "number to code over 2^56 - 1"
pub write_nine : (x : ℕ) → GivenExactlyIf 9 (write_says x).0 (2 ^ 56 - 1 < x)
write_nine x = elim (dec_lt (2 ^ 56 - 1) x) [
  | yes h ↦ given (inl (h, ap answer_number (code_refuses x (omega arith))))
  | no h ↦ given (inr (h, has_code x (omega arith)))
]

-- the bytes of a code: a head that is not 0 tells by its trailing zeros how many follow
abbrev pub Ended : List ℕ → Type 0
Ended s = (length s ≡ 0) ⊎ ((¬ (get_or s 0 0 ≡ 0)) × (length s < count_trailing_zeros 8 (get_or s 0 0) + 1))

abbrev pub HeadIsZero : List ℕ → Type 0
HeadIsZero s = (0 < length s) × (get_or s 0 0 ≡ 0)

-- 10: "a code's bytes end early"
pub read_ten : (s : List ℕ) → ((read_says s).0 ≡ 10) ↔ Ended s
read_ten s =
    by_read (λ (r : Result Number Refusal). (answer_number r ≡ 10) ↔ Ended s) s
    (λ n. (λ e. inl n, λ h. refl))
    (λ n z. (λ e. absurd (omega arith), ⊎_elim (λ k. absurd (n k)) (λ k. absurd (k.0 z))))
    (λ n k. (λ e. inr (n, k), λ h. refl))
    (λ n k. (λ e. absurd (omega arith), ⊎_elim (λ z. absurd (omega arith)) (λ z. absurd (omega (arith, z.1)))))

-- 11: "head byte 0"
pub read_eleven : (s : List ℕ) → ((read_says s).0 ≡ 11) ↔ HeadIsZero s
read_eleven s =
    by_read (λ (r : Result Number Refusal). (answer_number r ≡ 11) ↔ HeadIsZero s) s
    (λ n. (λ e. absurd (omega arith), λ h. absurd (omega (arith, h.0))))
    (λ n z. (λ e. (omega (arith, n), z), λ h. refl))
    (λ n k. (λ e. absurd (omega arith), λ h. absurd (n h.1)))
    (λ n k. (λ e. absurd (omega arith), λ h. absurd (n h.1)))

-- and a number is read exactly if neither holds
pub read_zero : (s : List ℕ) → ((read_says s).0 ≡ 0) ↔ ((¬ Ended s) × (¬ HeadIsZero s))
read_zero s =
    by_read (λ (r : Result Number Refusal). (answer_number r ≡ 0) ↔ ((¬ Ended s) × (¬ HeadIsZero s))) s
    (λ n. (λ e. absurd (omega arith), λ h. absurd (h.0 (inl n))))
    (λ n z. (λ e. absurd (omega arith), λ h. absurd (h.1 (omega (arith, n), z))))
    (λ n k. (λ e. absurd (omega arith), λ h. absurd (h.0 (inr (n, k)))))
    (λ n k. (λ e. (⊎_elim (λ z. omega arith) (λ z. omega (arith, z.1)), λ z. n z.1), λ h. refl))

-- ---- INTERVALS

-- "lower <= upper, no NaN, and isn't [-inf,-inf] or [+inf,+inf] ... An integer parameter's finite bounds are whole"
abbrev pub IsInterval : Interval → Bool → Type 0
IsInterval x integer =
    (le x.lower x.upper ≡ true)
    × (is_nan x.lower ≡ false)
    × (is_nan x.upper ≡ false)
    × (¬ ((x.lower ≡ inf true) × (x.upper ≡ inf true)))
    × (¬ ((x.lower ≡ inf false) × (x.upper ≡ inf false)))
    × (integer ≡ true → (whole_bound x.lower ≡ true) × (whole_bound x.upper ≡ true))

-- the two bounds of it
abbrev Bounded : Float → Float → Type 0
Bounded a b =
    (le a b ≡ true) × (is_nan a ≡ false) × (is_nan b ≡ false) × (¬ ((a ≡ inf true) × (b ≡ inf true))) × (¬ ((a ≡ inf false) × (b ≡ inf false)))

unlike_signs : ¬ (inf false ≡ inf true)
unlike_signs e = let z : ◌≡◌ {A = ℕ} 0 1 = cc in omega arith

finite_is_none : (s t : Bool) (m : ℕ) (e : ℤ) → ¬ (fin s m e ≡ inf t)
finite_is_none s t m e h = let z : ◌≡◌ {A = ℕ} 0 1 = cc in omega arith

bounded : (a b : Float) → (legal_bounds a b ≡ true) ↔ Bounded a b
unfolding le lt eq is_nan
bounded nan b = (λ h. absurd (false≢true h), λ h. absurd (true≢false h.1))
bounded (inf s) nan = (λ h. absurd (false≢true h), λ h. absurd (false≢true h.0))
bounded (inf true) (inf true) = (λ h. absurd (false≢true h), λ h. absurd (h.3 (refl, refl)))
bounded (inf true) (inf false) = (λ h. (refl, refl, refl, λ p. unlike_signs p.1, λ p. unlike_signs (sym p.0)), λ h. refl)
bounded (inf false) (inf true) = (λ h. absurd (false≢true h), λ h. absurd (false≢true h.0))
bounded (inf false) (inf false) = (λ h. absurd (false≢true h), λ h. absurd (h.4 (refl, refl)))
bounded (inf true) (fin t n d) = (λ h. (refl, refl, refl, λ p. finite_is_none t true n d p.1, λ p. finite_is_none t false n d p.1), λ h. refl)
bounded (inf false) (fin t n d) = (λ h. absurd (false≢true h), λ h. absurd (false≢true h.0))
bounded (fin s m e) nan = (λ h. absurd (false≢true h), λ h. absurd (false≢true h.0))
bounded (fin s m e) (inf true) = (λ h. absurd (false≢true h), λ h. absurd (false≢true h.0))
bounded (fin s m e) (inf false) = (λ h. (refl, refl, refl, λ p. finite_is_none s true m e p.0, λ p. finite_is_none s false m e p.0), λ h. refl)
bounded (fin s m e) (fin t n d) =
    let l = le (fin s m e) (fin t n d) in (
      λ h. (and_left l true (and_left (l && true) true h), refl, refl, λ p. finite_is_none s true m e p.0, λ p. finite_is_none s false m e p.0),
      λ h. and_both (l && true) true (and_both l true h.0 refl) refl,
    )

-- what `is_legal` tells is that
pub legal_says : (x : Interval) (integer : Bool) → (legal_interval x integer ≡ true) ↔ IsInterval x integer
legal_says x integer = (
  λ h. let (o, na, nb, low, high) = (bounded x.lower x.upper).0 (legal_bounds_lem x integer h) in (o, na, nb, low, high, whole_ends x integer h),
  λ i. let (o, na, nb, low, high, w) = i in legal_from x integer ((bounded x.lower x.upper).1 (o, na, nb, low, high)) w,
)

refused_unless : (x : Interval) (integer : Bool) (n : Bool → ℕ) → (legal_interval x integer ≡ true → n true ≡ 0) → n false ≡ 3
    → GivenExactlyIf 3 (n (legal_interval x integer)) (¬ IsInterval x integer)
refused_unless x integer n done refused = go (legal_interval x integer) refl
  where
    go : (t : Bool) → legal_interval x integer ≡ t → GivenExactlyIf 3 (n t) (¬ IsInterval x integer)
    go true e = given (inr (λ f. f ((legal_says x integer).0 e), done e))
    go false e = given (inl (λ i. true≢false (sym ((legal_says x integer).1 i) ∙ e), refused))

-- 3: "a lone interval handed in isn't legal", of the midpoint
pub midpoint_three : (x : Interval) → GivenExactlyIf 3 (midpoint_says x).0 (¬ IsInterval x false)
midpoint_three x = refused_unless x false (λ t. answer_number (point_answer t (midpoint_of (put_interval x)))) (λ _. refl) refl

-- of the simple fraction
pub fraction_three : (x : Interval) → GivenExactlyIf 3 (fraction_says x).0 (¬ IsInterval x false)
fraction_three x = refused_unless x false (λ t. answer_number (point_answer t (simple_fraction (put_interval x).lower (put_interval x).upper))) (λ _. refl) refl

-- of the cut point
pub cut_point_three : (x : Interval) (integer : Bool) → GivenExactlyIf 3 (cut_point_says integer x).0 (¬ IsInterval x integer)
cut_point_three x integer = refused_unless x integer (λ t. answer_number (point_answer t (cut_point_of (put_interval x) integer))) (λ _. refl) refl

-- of the question whether it is subdivisible
pub divisible_three : (x : Interval) (integer : Bool) → GivenExactlyIf 3 (divisible_says integer x).0 (¬ IsInterval x integer)
divisible_three x integer =
    let b = subdivisible (put_interval x) integer in
    refused_unless x integer (λ t. answer_number (whether_at t b)) (λ _. refl) refl

some_pieces : (l : List Interval) → Few l → answer_number (pieces_from l) ≡ 0
some_pieces [] h = absurd h
some_pieces (p ∷ []) h = refl
some_pieces (p ∷ q ∷ []) h = refl
some_pieces (p ∷ q ∷ r ∷ l) h = refl

-- of the first cut, of f64s
pub first_cut_three : (x : Interval) (integer : Bool) → InFormat x → GivenExactlyIf 3 (first_cut_says integer x).0 (¬ IsInterval x integer)
first_cut_three x integer f =
    let l = first_cut (put_interval x) integer in
    refused_unless x integer (λ t. answer_number (pieces_at t l))
    (λ h. some_pieces l (first_good (put_interval x) integer (put_format x f) (put_legal x integer ∙ h)).few) refl

-- of the later cut, of f64s
pub later_cut_three : (x : Interval) (integer : Bool) → InFormat x → GivenExactlyIf 3 (later_cut_says integer x).0 (¬ IsInterval x integer)
later_cut_three x integer f =
    let l = later_cut (put_interval x) integer in
    refused_unless x integer (λ t. answer_number (pieces_at t l))
    (λ h. some_pieces l (later_good (put_interval x) integer (put_format x f) (put_legal x integer ∙ h)).few) refl

-- and of an interval's bit patterns
pub from_bits_three : (a b : ℕ) (integer : Bool) → GivenExactlyIf 3 (from_bits_says integer a b).0 (¬ IsInterval (bounds_from a b) integer)
unfolding answer_from_bits
from_bits_three a b integer =
    let x = bounds_from a b in
    refused_unless x integer (λ t. answer_number (cond t (Ok (put_interval x)) (Err R.Parameter))) (λ _. refl) refl

-- ---- COORDINATES

-- "A coordinate is an index i and a level k, -32 to 15 ... An index stays under 2^47" (`negsuc 31` is -32)
abbrev pub in_ranges : Coordinate → Bool
in_ranges c = le_z (negsuc 31) (level c.rank) && le_z (level c.rank) (pos 15) && ltb c.index (2 ^ 47)

-- what `is_legal` tells is that
pub ranges_are : (c : Coordinate) → legal ordinary_floor c ≡ in_ranges c
unfolding in_range
ranges_are c = go c.rank c.index
  where
    go : (rank i : ℕ) → in_range ordinary_floor rank i ≡ (le_z (negsuc 31) (level rank) && le_z (level rank) (pos 15) && ltb i (2 ^ 47))
    go rank i = elim (dec_lt rank 48) [
      | yes h ↦ rw (lt-ltb rank 48 h, lt-ltb rank 64 (omega arith)) (elim (dec_lt rank 16) [
        | yes k ↦ rw (lt-leb 16 rank k, lt-leb (48 - suc rank) 31 (omega arith))
        | no k ↦ rw (le-leb 16 rank (omega arith), le-leb (48 - suc rank) 31 (omega arith))
      ])
      | no h ↦ rw (le-ltb rank 48 (omega arith), le-leb 16 rank (omega arith)) (elim (dec_lt rank 64) [
        | yes k ↦ rw (lt-ltb rank 64 k, le-leb (rank - 48) 15 (omega arith))
        | no k ↦ rw (le-ltb rank 64 (omega arith), lt-leb (rank - 48) 15 (omega arith))
      ])
    ]

refused_outside : (c : Coordinate) (n : Bool → ℕ) → n true ≡ 0 → n false ≡ 8 → GivenExactlyIf 8 (n (legal ordinary_floor c)) (in_ranges c ≡ false)
refused_outside c n done refused = go (legal ordinary_floor c) refl
  where
    go : (t : Bool) → legal ordinary_floor c ≡ t → GivenExactlyIf 8 (n t) (in_ranges c ≡ false)
    go true e = given (inr (λ h. true≢false (sym e ∙ ranges_are c ∙ h), done))
    go false e = given (inl (sym (ranges_are c) ∙ e, refused))

-- 8: "a lone coordinate ... outside the ranges for index and level", of the pixel
pub pixel_eight : (c : Coordinate) → GivenExactlyIf 8 (pixel_says c).0 (in_ranges c ≡ false)
unfolding pixel_asked
pixel_eight c = refused_outside c (λ t. answer_number (cond t (Ok (pixel c.rank c.index)) (Err R.Damaged))) refl refl

-- of the question whether it is subdivisible
pub halvable_eight : (c : Coordinate) → GivenExactlyIf 8 (halvable_says c).0 (in_ranges c ≡ false)
unfolding subdivisible_asked
halvable_eight c =
    let b = above_floor ordinary_floor c.rank in
    refused_outside c (λ t. answer_number (cond t (Ok b) (Err R.Damaged))) refl refl

-- of the question whether it begins inside a side
pub inside_eight : (c : Coordinate) (side : ℕ) → GivenExactlyIf 8 (inside_says c side).0 (in_ranges c ≡ false)
unfolding inside_asked
inside_eight c side =
    let b = inside side c.rank c.index in
    refused_outside c (λ t. answer_number (cond t (Ok b) (Err R.Damaged))) refl refl

-- one of the coordinate and its halves is outside
abbrev pub SomeOutside : Coordinate → Type 0
SomeOutside c = (in_ranges c ≡ false) ⊎ ((in_ranges (low_half c) ≡ false) ⊎ (in_ranges (high_half c) ≡ false))

-- the halves are given: all three are inside; they are not: one is outside
none_outside : (c : Coordinate) → legal ordinary_floor c && (above_floor ordinary_floor c.rank && legal ordinary_floor (high_half c)) ≡ true → ¬ SomeOutside c
none_outside c h =
    let own = legal ordinary_floor c in
    let above = above_floor ordinary_floor c.rank in
    let high = legal ordinary_floor (high_half c) in
    let k = and_right above high (and_right own (above && high) h) in
    let l : legal ordinary_floor (low_half c) ≡ true = low_in_range ordinary_floor (c.rank - 1) c.index k in
    ⊎_elim (λ o. true≢false (sym (and_left own (above && high) h) ∙ ranges_are c ∙ o))
    (⊎_elim (λ o. true≢false (sym l ∙ ranges_are (low_half c) ∙ o)) (λ o. true≢false (sym k ∙ ranges_are (high_half c) ∙ o)))

half_above : (c : Coordinate) → legal ordinary_floor (high_half c) ≡ true → above_floor ordinary_floor c.rank ≡ true
half_above c h = lt-ltb 16 c.rank (omega (arith, (ranged ordinary_floor (c.rank - 1) (2 * c.index + 1) h).low))

some_outside : (c : Coordinate) → legal ordinary_floor c && (above_floor ordinary_floor c.rank && legal ordinary_floor (high_half c)) ≡ false → SomeOutside c
some_outside c h = cases (legal ordinary_floor c) own (λ e. inl (sym (ranges_are c) ∙ e))
  where
    own : legal ordinary_floor c ≡ true → SomeOutside c
    own e =
        cases (legal ordinary_floor (high_half c))
        (λ k. absurd (true≢false (sym (and_both (legal ordinary_floor c) (above_floor ordinary_floor c.rank && legal ordinary_floor (high_half c)) e
        (and_both (above_floor ordinary_floor c.rank) (legal ordinary_floor (high_half c)) (half_above c k) k)) ∙ h)))
        (λ k. inr (inr (sym (ranges_are (high_half c)) ∙ k)))

-- "or halves asked of it": of the halves, where the coordinate or a half is outside
pub halves_eight : (c : Coordinate) → GivenExactlyIf 8 (halves_says c).0 (SomeOutside c)
unfolding halves_asked
halves_eight c = go (legal ordinary_floor c && (above_floor ordinary_floor c.rank && legal ordinary_floor (high_half c))) refl
  where
    go : (t : Bool) → legal ordinary_floor c && (above_floor ordinary_floor c.rank && legal ordinary_floor (high_half c)) ≡ t
        → GivenExactlyIf 8 (answer_number {A = Halves} (cond t (Ok (record { low = low_half c; high = high_half c })) (Err R.Damaged))) (SomeOutside c)
    go true e = given (inr (none_outside c e, refl))
    go false e = given (inl (some_outside c e, refl))
