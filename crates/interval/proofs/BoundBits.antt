-- The bit patterns of bounds, for whoever stores them: which patterns are a NaN's, that a put legal interval is read back from the
-- patterns of its bounds (`read_back`), and that no legal lower bound starts with the bytes FF FF (`no_mark`). Assumes nothing.
use Rattle.std.proofs.Common.{◌≡◌, ℕ, ◌/◌, ◌%◌, ◌^◌, ◌<◌, ◌≤◌, Bool, true, false, cond, not, ◌&&◌, ◌||◌, T, ltb, sym, refl, ap, ◌∙◌, subst, arith}
use mathlib.Core.Bool.{false≢true}
use lib.Ieee.{Float, nan, inf, fin, binary64, lt, le, is_nan, nan_bits, to_bits, of_bits, fits}
use lib.Ieee.Bits.{of_bits-to_bits, of_bits-fits, to_bits-lt, nan_bits_is, nan_bits_above}
use Rattle.std.specs.Prelude.{Ok, Err}
use Rattle.refusal.specs.declared.Refusal.TheVariants as R
use Rattle.base.proofs.Test.{≡→T}
use Rattle.interval.specs.declared.Interval.{Interval}
use Rattle.interval.specs.Bounds.{whole_bound, legal_interval, put_interval, InFormat}
use Rattle.interval.specs.Answers.{bounds_from, answer_from_bits}
use Rattle.interval.proofs.Legality.{legal_bounds_lem, put_again, put_legal}
use Rattle.interval.proofs.ProperPieces.{Proper, put_format}
use Rattle.interval.proofs.TopBits.{pattern, lower_number}

-- ---- the interval of two patterns
pub bits_read : (a b : ℕ) (integer : Bool) → legal_interval (bounds_from a b) integer ≡ true → answer_from_bits a b integer ≡ Ok (put_interval (bounds_from a b))
unfolding answer_from_bits
bits_read a b integer h = rw h

nan_low : (y : Float) → le nan y ≡ false
unfolding le
nan_low y = refl

nan_high : (x : Float) → le x nan ≡ false
unfolding le
nan_high nan = refl
nan_high (inf s) = refl
nan_high (fin s m e) = refl

pub is_nan_lem : (x : Float) → is_nan x ≡ true → x ≡ nan
unfolding is_nan
is_nan_lem nan h = refl
is_nan_lem (inf s) h = absurd (false≢true h)
is_nan_lem (fin s m e) h = absurd (false≢true h)

no_order : (x : Interval) (integer : Bool) → le x.lower x.upper ≡ false → legal_interval x integer ≡ false
unfolding legal_interval
no_order x integer h = ap (λ (z : Bool). z && lt x.lower (inf false) && lt (inf true) x.upper && (not integer || (whole_bound x.lower && whole_bound x.upper))) h

-- a NaN's pattern makes no interval
pub nan_illegal : (a b : ℕ) (integer : Bool) → nan_bits binary64 a || nan_bits binary64 b ≡ true → legal_interval (bounds_from a b) integer ≡ false
nan_illegal a b integer h = go (nan_bits binary64 a) (nan_bits binary64 b) (nan_bits_is binary64 a) (nan_bits_is binary64 b) h
  where
    go : (s t : Bool) → s ≡ is_nan (of_bits binary64 a) → t ≡ is_nan (of_bits binary64 b) → s || t ≡ true → legal_interval (bounds_from a b) integer ≡ false
    go true t p q h = no_order (bounds_from a b) integer (ap (λ (z : Float). le z (of_bits binary64 b)) (is_nan_lem (of_bits binary64 a) (sym p)) ∙ nan_low (of_bits binary64 b))
    go false true p q h = no_order (bounds_from a b) integer (ap (le (of_bits binary64 a)) (is_nan_lem (of_bits binary64 b) (sym q)) ∙ nan_high (of_bits binary64 a))
    go false false p q h = absurd (false≢true h)

-- ---- what the queue keeps
-- which patterns are a NaN's: those above an infinity's, but for the sign
pub nan_patterns : (w : ℕ) → nan_bits binary64 w ≡ ltb 0x7ff0_0000_0000_0000 (w % 2 ^ 63)
nan_patterns w = nan_bits_above binary64 w

-- a bound has a pattern of 64 bits, from which it is read back
pub bits_fit : (x : Float) → T (fits binary64 x) → to_bits binary64 x < 2 ^ 64
bits_fit x f = to_bits-lt binary64 x f

pub bits_back : (x : Float) → T (fits binary64 x) → of_bits binary64 (to_bits binary64 x) ≡ x
bits_back x f = of_bits-to_bits binary64 x f

-- so a put legal interval is read back from its bounds' patterns
pub read_back : (x : Interval) (integer : Bool) → InFormat x → legal_interval x integer ≡ true → put_interval x ≡ x → answer_from_bits (to_bits binary64 x.lower) (to_bits binary64 x.upper) integer ≡ Ok x
read_back x integer f h p =
    let e : bounds_from (to_bits binary64 x.lower) (to_bits binary64 x.upper) ≡ x = λ i. record { lower = bits_back x.lower f.0 i; upper = bits_back x.upper f.1 i } in
    bits_read (to_bits binary64 x.lower) (to_bits binary64 x.upper) integer (ap (λ (z : Interval). legal_interval z integer) e ∙ h)
    ∙ ap Ok (ap put_interval e ∙ p)

-- what is read is legal, put and of f64s
pub read_proper : (a b : ℕ) (integer : Bool) (y : Interval) → answer_from_bits a b integer ≡ Ok y → Proper integer y
unfolding answer_from_bits
read_proper a b integer y = go (legal_interval x integer) refl
  where
    x : Interval
    x = bounds_from a b

    proper : legal_interval x integer ≡ true → Proper integer (put_interval x)
    proper h = record { legal = put_legal x integer ∙ h; put = put_again x; format = put_format x (of_bits-fits binary64 a, of_bits-fits binary64 b) }

    go : (t : Bool) → legal_interval x integer ≡ t → cond t (Ok (put_interval x)) (Err R.Parameter) ≡ Ok y → Proper integer y
    go true h e = let z : put_interval x ≡ y = cc in subst (Proper integer) z (proper h)
    go false h e = let z : ◌≡◌ {A = ℕ} 0 1 = cc in absurd (none z)
      where
        none : ◌≡◌ {A = ℕ} 0 1 → ⊥
        none e = omega arith

-- no legal lower bound starts with the bytes FF FF
below_mark : (w : ℕ) → w % 2 ^ 63 ≤ 0x7ff0_0000_0000_0000 → w / 2 ^ 48 ≡ 0xffff → ⊥
below_mark w h e = omega arith

pub no_mark : (x : Interval) (integer : Bool) → InFormat x → legal_interval x integer ≡ true → to_bits binary64 x.lower / 2 ^ 48 ≡ 0xffff → ⊥
no_mark x integer f h e = below_mark (to_bits binary64 x.lower) (pattern x.lower f.0 (lower_number x.lower x.upper (≡→T (legal_bounds_lem x integer h)))).no_nan e
