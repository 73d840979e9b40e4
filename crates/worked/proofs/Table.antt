-- Document 01, "Program and values": the cases marked P, one theorem about the definitions that the contracts of `small` and `interval` cite.
-- An answer is its number, 0 where nothing is refused, and its value. Every row is computed. Assumes nothing.
use mathlib.Core.Path.{◌≡◌, refl}
use mathlib.Core.Bool.{true, false}
use mathlib.Core.List.{[], ◌∷◌}
use Prim.Native.Nat.{◌-◌, ◌^◌}
use lib.Count.{count_leading_zeros}
use lib.IntN.{pos, negsuc}
use lib.Ieee.{inf, round, odd, units, eq, ne, le, lt, neg, to_bits, of_bits}
use Rattle.base.specs.Bytes.{little_endian}
use Rattle.small.specs.Small.{code_of, tail_of}
use Rattle.interval.specs.Bounds.{in_units, whole_bound, legal_interval, zero_as, put_interval, same_interval}
use Rattle.interval.specs.Middle.{rounded, half_sum, half_away, whole_near}
use Rattle.interval.specs.Kinds.{kind_of, middle_at, cut_point_at}
use Rattle.interval.specs.Cuts.{subdivisible, width_is, keep_if, unlike_next, legal_three, first_cut, narrowed, thinned, later_cut}
use Rattle.interval.specs.Fraction.{simple_fraction}
use Rattle.worked.specs.Words.{zero0, one1, two2, three3, five5, minus1, minus2, infinity, minus_infinity, point3, point4, point375}
use Rattle.worked.specs.Words.{f64, between, write_says, first_cut_says, later_cut_says, fraction_says}

pub table :
    -- 0 is `01`; 127 `FF`; 128 `02 02`; 16383 `FE FF`; 16384 `04 00 02`; 2^56 - 1 `80` and seven `FF`; 2^56 gets 9
    (write_says 0 ≡ (0, 0x01 ∷ []))
    × (write_says 127 ≡ (0, 0xff ∷ []))
    × (write_says 128 ≡ (0, 0x02 ∷ 0x02 ∷ []))
    × (write_says 16383 ≡ (0, 0xfe ∷ 0xff ∷ []))
    × (write_says 16384 ≡ (0, 0x04 ∷ 0x00 ∷ 0x02 ∷ []))
    × (write_says (2 ^ 56 - 1) ≡ (0, 0x80 ∷ 0xff ∷ 0xff ∷ 0xff ∷ 0xff ∷ 0xff ∷ 0xff ∷ 0xff ∷ []))
    × (write_says (2 ^ 56) ≡ (9, []))
    -- later cut, integers: [0,3] gives [1,1], [2,2]; [0,+inf] gives [1,1], [1,+inf]
    × (later_cut_says true (between zero0 three3) ≡ (0, between one1 one1 ∷ between two2 two2 ∷ []))
    × (later_cut_says true (between zero0 infinity) ≡ (0, between one1 one1 ∷ between one1 infinity ∷ []))
    -- first cut: integer [5,5] one piece, real [5,5] three
    × (first_cut_says true (between five5 five5) ≡ (0, between five5 five5 ∷ []))
    × (first_cut_says false (between five5 five5) ≡ (0, between five5 five5 ∷ between five5 five5 ∷ between five5 five5 ∷ []))
    -- `simple_fraction`: [1,+inf] 2; [-inf,-1] -2; [0.3,0.4] 0.375
    × (fraction_says (between one1 infinity) ≡ (0, f64 two2))
    × (fraction_says (between minus_infinity minus1) ≡ (0, f64 minus2))
    × (fraction_says (between point3 point4) ≡ (0, f64 point375))
unfolding little_endian code_of tail_of in_units whole_bound legal_interval zero_as put_interval same_interval rounded half_sum half_away whole_near
    kind_of middle_at cut_point_at subdivisible width_is keep_if unlike_next legal_three first_cut narrowed thinned later_cut simple_fraction
    round units odd eq ne le lt neg to_bits of_bits count_leading_zeros
table = (refl, refl, refl, refl, refl, refl, refl, refl, refl, refl, refl, refl, refl, refl)

-- the patterns stand for the numbers that they are named after: each is the f64 nearest to its number
pub patterns :
    (f64 zero0 ≡ rounded (pos 0) 1)
    × (f64 one1 ≡ rounded (pos 1) 1)
    × (f64 two2 ≡ rounded (pos 2) 1)
    × (f64 three3 ≡ rounded (pos 3) 1)
    × (f64 five5 ≡ rounded (pos 5) 1)
    × (f64 minus1 ≡ rounded (negsuc 0) 1)
    × (f64 minus2 ≡ rounded (negsuc 1) 1)
    × (f64 infinity ≡ inf false)
    × (f64 minus_infinity ≡ inf true)
    × (f64 point3 ≡ rounded (pos 3) 10)
    × (f64 point4 ≡ rounded (pos 4) 10)
    × (f64 point375 ≡ rounded (pos 375) 1000)
unfolding rounded round units odd of_bits
patterns = (refl, refl, refl, refl, refl, refl, refl, refl, refl, refl, refl, refl)
