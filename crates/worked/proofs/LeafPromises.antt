-- FOR READERS: what the leaves promise beyond their definitions, a sentence of document 01 above each, about what the contracts cite (specs/Words).
-- The bounds are asked to be values of f64, which every f64 is; that such intervals, coordinates and codes there are is `instances`. Assumes nothing.
use mathlib.Core.Path.{◌≡◌, refl, sym, ap, ◌∙◌, subst}
use mathlib.Core.Logic.{◌↔◌}
use mathlib.Core.Bool.{Bool, true, false, cond, ◌&&◌}
use mathlib.Core.List.{List, [], ◌∷◌, ◌++◌}
use Prim.Native.Nat.{ℕ, ◌+◌, ◌-◌, ◌*◌, ◌^◌, ◌≤◌, ◌<◌}
use native.Mathlib.Omega.{arith}
use lib.Dec.{leb, ltb}
use lib.ListN.{length, get_or, take}
use lib.Ieee.{Float, binary64, eq, ne, le, lt, to_bits, of_bits}
use lib.Ieee.Bits.{of_bits-fits}
use borrow.Author.Tests.{ltb-true, le-leb, lt-ltb}
use Rattle.base.specs.Bytes.{little_endian}
use Rattle.base.proofs.Test.{and_both, cond_yes}
use Rattle.base.specs.Lists.{Every}
use Rattle.std.specs.Prelude.{Result, Ok, Err}
use Rattle.refusal.specs.declared.Refusal.{Refusal}
use Rattle.refusal.specs.declared.Refusal.TheVariants as R
use Rattle.refusal.specs.Number.{answer_number, whether_value}
use Rattle.small.specs.declared.Number.{Number}
use Rattle.small.specs.Small.{small_code, long_code}
use Rattle.small.specs.Answers.{read_value, read_count}
use Rattle.small.proofs.Writing.{length_long, length_upto}
use Rattle.small.proofs.Reading.{read_long, read_written, read_first}
use Rattle.coordinate.specs.declared.Coordinate.{Coordinate}
use Rattle.coordinate.specs.declared.Halves.{Halves}
use Rattle.coordinate.specs.Axis.{level, ordinary_floor, in_range, pixel_at_level, pixel, above_floor, inside}
use Rattle.coordinate.specs.Lone.{legal, low_half, high_half, pixel_asked, halves_asked, subdivisible_asked, inside_asked}
use Rattle.coordinate.specs.Answers.{pixel_value}
use Rattle.coordinate.proofs.PixelLaws.{ranged, pixel_level, inside_pixel}
use Rattle.interval.specs.declared.Interval.{Interval}
use Rattle.interval.specs.Bounds.{InFormat, in_units, whole_bound, legal_interval, put_interval, same_interval}
use Rattle.interval.specs.Kinds.{midpoint_of, cut_point_of}
use Rattle.interval.specs.Cuts.{subdivisible, first_cut, later_cut}
use Rattle.interval.specs.Fraction.{simple_fraction}
use Rattle.interval.specs.Answers.{point_answer, whether_at, pieces_at, point_value, pieces_of, from_bits_value}
use Rattle.interval.proofs.Zeros.{as_le_left, as_le_right}
use Rattle.interval.proofs.Legality.{put_again, put_legal}
use Rattle.interval.proofs.Sameness.{same_put, same_is}
use Rattle.interval.proofs.ProperPieces.{Proper, put_format}
use Rattle.interval.proofs.FractionInside.{fraction_inside}
use Rattle.interval.proofs.MiddleInside.{middle_inside}
use Rattle.interval.proofs.CutPoint.{cut_good}
use Rattle.interval.proofs.CutAnswers.{first_answered, later_answered}
use Rattle.interval.proofs.RustChain.{rust_point, chain_is}
use Rattle.interval.proofs.SplitByCut.{split_by_cut}
use Rattle.interval.proofs.BoundBits.{read_back}
use Rattle.queue.specs.declared.Block.{Block}
use Rattle.queue.specs.declared.Last.{Last}
use Rattle.queue.specs.Queue.{appended, measured}
use Rattle.queue.specs.Answers.{appended_number, appended_last, appended_used, measured_number, measured_count, measured_last}
use Rattle.queue.proofs.QueuePromises.{append_zero_exactly, append_value, measure_value}
use Rattle.worked.specs.Words.{write_says, read_says, pixel_says, halves_says, halvable_says, inside_says}
use Rattle.worked.specs.Words.{midpoint_says, cut_point_says, fraction_says, divisible_says, first_cut_says, later_cut_says, from_bits_says}
use Rattle.worked.specs.Words.{between, zero0, three3, point3, point4}

-- ---- POINTS OF AN INTERVAL

-- a point lies between the bounds
abbrev pub LiesIn : Interval → Float → Type 0
LiesIn x c = (le x.lower c ≡ true) × (le c x.upper ≡ true)

-- between the bounds with their zeros put is between the bounds
lies_put : (x : Interval) (c : Float) → LiesIn (put_interval x) c → LiesIn x c
unfolding put_interval
lies_put x c h = (sym (as_le_left true x.lower c) ∙ h.0, sym (as_le_right false c x.upper) ∙ h.1)

-- the point of an answer that is not refused
point_is : (t : Bool) (c : Float) → t ≡ true → point_value (point_answer t c) ≡ c
point_is t c e = ap (λ (z : Bool). point_value (point_answer z c)) e

lies_answered : (x : Interval) (integer : Bool) (c : Float) → legal_interval x integer ≡ true → LiesIn (put_interval x) c
    → LiesIn x (point_value (point_answer (legal_interval x integer) c))
lies_answered x integer c h i = subst (LiesIn x) (sym (point_is (legal_interval x integer) c h)) (lies_put x c i)

-- `simple_fraction`: "The result lies between the bounds"
pub fraction_between : (x : Interval) → InFormat x → legal_interval x false ≡ true → LiesIn x (fraction_says x).1
fraction_between x f h = lies_answered x false _ h (fraction_inside (put_interval x) false (put_format x f) (put_legal x false ∙ h))

-- "finite bounds give the exact midpoint rounded once ... The whole line gives 0, [a,+inf] the largest finite number, [-inf,b] its negative": this lies
-- between the bounds too
pub midpoint_between : (x : Interval) → InFormat x → legal_interval x false ≡ true → LiesIn x (midpoint_says x).1
midpoint_between x f h = lies_answered x false _ h (middle_inside (put_interval x) (put_format x f) (put_legal x false ∙ h))

-- and so is the cut point, "rounded to whole for an integer parameter"
pub cut_point_between : (x : Interval) (integer : Bool) → InFormat x → legal_interval x integer ≡ true
    → LiesIn x (cut_point_says integer x).1 × (integer ≡ true → whole_bound (cut_point_says integer x).1 ≡ true)
cut_point_between x integer f h =
    let c = cut_point_of (put_interval x) integer in
    let d = cut_good (put_interval x) integer (put_format x f) (put_legal x integer ∙ h) in
    (lies_answered x integer c h (d.low, d.high), λ e. ap whole_bound (point_is (legal_interval x integer) c h) ∙ d.whole e)

-- ---- CUTS

-- one to three pieces, each legal, with its zeros put (`Proper`)
abbrev pub CutWell : Bool → List Interval → Type 0
CutWell integer l = Every (Proper integer) l × (1 ≤ length l) × (length l ≤ 3)

-- "First cut: [a,a], [a,b], [b,b] without illegal ones"
pub first_pieces : (x : Interval) (integer : Bool) → InFormat x → legal_interval x integer ≡ true → CutWell integer (first_cut_says integer x).1
first_pieces x integer f h =
    let a = first_answered x integer f h (pieces_at (legal_interval x integer) (first_cut (put_interval x) integer)) refl in
    (a.proper, a.some, a.most)

-- "Later cut at c: [a,c], [c,c], [c,b]"
pub later_pieces : (x : Interval) (integer : Bool) → InFormat x → legal_interval x integer ≡ true → CutWell integer (later_cut_says integer x).1
later_pieces x integer f h =
    let a = later_answered x integer f h (pieces_at (legal_interval x integer) (later_cut (put_interval x) integer)) refl in
    (a.proper, a.some, a.most)

-- ---- CODES

-- what an answer of the reader says
abbrev said : Result Number Refusal → ℕ × ℕ × ℕ
said r = (answer_number r, read_value r, read_count r)

-- "longer codes than needed are read", whatever follows them
pub longer_read : (z x : ℕ) (rest : List ℕ) → z ≤ 7 → x < 2 ^ (7 * (z + 1)) → read_says (long_code z x ++ rest) ≡ (0, x, z + 1)
longer_read z x rest few h = ap said (read_long z x rest few h)

-- and what was written is read
pub written_read : (x : ℕ) (rest : List ℕ) → x < 2 ^ 56 → read_says ((write_says x).1 ++ rest) ≡ (0, x, length (write_says x).1)
unfolding small_code
written_read x rest h = ap said (read_written x rest h)

-- "The writer takes z by range": no code of the number is shorter
pub shortest : (z x : ℕ) → z ≤ 7 → x < 2 ^ (7 * (z + 1)) → length (write_says x).1 ≤ length (long_code z x)
unfolding small_code
shortest z x few h = rw (length_long z x) (length_upto x (z + 1) (omega arith) (omega arith) h)

-- ---- PAIRS OF READINGS: where two functions or two readings answer one question, they answer the same

-- "a zero handed in or read with the other sign is legal and put so": an interval and the same with its zeros put have one answer
alike : {A : Type 0} (says : Bool → Interval → A) (x : Interval) (integer : Bool)
    → says (legal_interval (put_interval x) integer) (put_interval (put_interval x)) ≡ says (legal_interval x integer) (put_interval x)
alike says x integer = λ i. says (put_legal x integer i) (put_again x i)

pub zeros_alike : (x : Interval) (integer : Bool)
    → (midpoint_says (put_interval x) ≡ midpoint_says x)
    × (fraction_says (put_interval x) ≡ fraction_says x)
    × (cut_point_says integer (put_interval x) ≡ cut_point_says integer x)
    × (divisible_says integer (put_interval x) ≡ divisible_says integer x)
    × (first_cut_says integer (put_interval x) ≡ first_cut_says integer x)
    × (later_cut_says integer (put_interval x) ≡ later_cut_says integer x)
zeros_alike x integer = (
  alike (λ t y. let a = point_answer t (midpoint_of y) in (answer_number a, point_value a)) x false,
  alike (λ t y. let a = point_answer t (simple_fraction y.lower y.upper) in (answer_number a, point_value a)) x false,
  alike (λ t y. let a = point_answer t (cut_point_of y integer) in (answer_number a, point_value a)) x integer,
  alike (λ t y. let a = whether_at t (subdivisible y integer) in (answer_number a, whether_value a)) x integer,
  alike (λ t y. let a = pieces_at t (first_cut y integer) in (answer_number a, pieces_of a)) x integer,
  alike (λ t y. let a = pieces_at t (later_cut y integer) in (answer_number a, pieces_of a)) x integer,
)

-- "the two count as equal": intervals are the same before their zeros are put as after, and once put, the same is equal in every bit
pub same_alike : (x y : Interval) → same_interval (put_interval x) (put_interval y) ≡ same_interval x y
same_alike = same_put

pub same_equal : (x y : Interval) → InFormat x → InFormat y → put_interval x ≡ x → put_interval y ≡ y → same_interval x y ≡ true → x ≡ y
same_equal = same_is

-- the cut point by the four kinds, and by the Rust's chain of tests
pub cut_point_by_chain : (x : Interval) (integer : Bool) → InFormat x → legal_interval x integer ≡ true
    → (cut_point_says integer x).1 ≡ rust_point (put_interval x) integer
cut_point_by_chain x integer f h =
    point_is (legal_interval x integer) (cut_point_of (put_interval x) integer) h
    ∙ sym (chain_is (put_interval x) integer (put_format x f) (put_legal x integer ∙ h))

-- "subdivisible if its midpoint (rounded to whole for integers) equals neither bound": by the midpoint, or by the cut point
pub divisible_by_cut : (x : Interval) (integer : Bool) → InFormat x → legal_interval x integer ≡ true
    → subdivisible (put_interval x) integer ≡ ne (put_interval x).lower (cut_point_says integer x).1 && ne (put_interval x).upper (cut_point_says integer x).1
divisible_by_cut x integer f h =
    let y = put_interval x in
    split_by_cut y integer (put_format x f) (put_legal x integer ∙ h)
    ∙ sym (ap (λ (c : Float). ne y.lower c && ne y.upper c) (point_is (legal_interval x integer) (cut_point_of y integer) h))

-- an interval handed in, or read from the bit patterns that `bits_of` gives of its bounds
pub bits_alike : (x : Interval) (integer : Bool) → InFormat x → legal_interval x integer ≡ true → put_interval x ≡ x
    → from_bits_says integer (to_bits binary64 x.lower) (to_bits binary64 x.upper) ≡ (0, x)
bits_alike x integer f h p = ap (λ (a : Result Interval Refusal). (answer_number a, from_bits_value a)) (read_back x integer f h p)

-- a code read from all the bytes that follow, or from the first eight or more
pub eight_enough : (k : ℕ) (s : List ℕ) → 8 ≤ k → get_or s 0 0 < 256 → read_says (take k s) ≡ read_says s
eight_enough k s h b = ap said (read_first k s h b)

-- "Its pixel is i times 2^k uncut ... or i / 2^(-k) rounded down": by the signed level, or by the one formula on the rank
pub pixel_by_level : (c : Coordinate) → legal ordinary_floor c ≡ true → pixel_says c ≡ (0, pixel_at_level (level c.rank) c.index)
unfolding pixel_asked
pixel_by_level c h =
    ap (λ (a : Result ℕ Refusal). (answer_number a, pixel_value a)) (cond_yes (legal ordinary_floor c) (Ok (pixel c.rank c.index)) (Err R.Damaged) h)
    ∙ ap (λ (p : ℕ). (0, p)) (pixel_level c.rank c.index)

-- a coordinate begins inside a side: by the places along it, or by its pixel
pub inside_by_pixel : (c : Coordinate) (side : ℕ) → legal ordinary_floor c ≡ true → (inside_says c side).1 ≡ whether_value (Ok (ltb (pixel_says c).1 side))
unfolding inside_asked
inside_by_pixel c side h =
    ap whether_value (cond_yes (legal ordinary_floor c) (Ok (inside side c.rank c.index)) (Err R.Damaged) h
    ∙ ap Ok (inside_pixel side c.rank c.index ∙ ap (λ (p : ℕ). ltb p side) (sym own)))
  where
    own : (pixel_says c).1 ≡ pixel c.rank c.index
    own = unfold pixel_asked in ap pixel_value (cond_yes (legal ordinary_floor c) (Ok (pixel c.rank c.index)) (Err R.Damaged) h)

-- "It is subdivisible if k > -32": the halves are given exactly then, where their indices stay under 2^47
high_legal : (c : Coordinate) → legal ordinary_floor c ≡ true → c.index < 2 ^ 46
    → above_floor ordinary_floor c.rank ≡ true → legal ordinary_floor (high_half c) ≡ true
unfolding in_range
high_legal c h i a =
    let r = ranged ordinary_floor c.rank c.index h in
    let k : 16 < c.rank = ltb-true 16 c.rank a in
    and_both (leb 16 (c.rank - 1) && ltb (c.rank - 1) 64) (ltb (2 * c.index + 1) (2 ^ 47))
    (and_both (leb 16 (c.rank - 1)) (ltb (c.rank - 1) 64) (le-leb 16 (c.rank - 1) (omega (arith, k))) (lt-ltb (c.rank - 1) 64 (omega (arith, r.high))))
    (lt-ltb (2 * c.index + 1) (2 ^ 47) (omega (arith, i)))

pub halves_if_halvable : (c : Coordinate) → legal ordinary_floor c ≡ true → c.index < 2 ^ 46 → ((halves_says c).0 ≡ 0) ↔ ((halvable_says c).1 ≡ 1)
unfolding halves_asked subdivisible_asked
halves_if_halvable c h i = go (above_floor ordinary_floor c.rank) refl
  where
    go : (t : Bool) → above_floor ordinary_floor c.rank ≡ t
        → (answer_number {A = Halves} (cond (legal ordinary_floor c && (t && legal ordinary_floor (high_half c))) (Ok (record { low = low_half c; high = high_half c })) (Err R.Damaged)) ≡ 0)
        ↔ (whether_value (cond (legal ordinary_floor c) (Ok t) (Err R.Damaged)) ≡ 1)
    go true e = rw (h, high_legal c h i e) (λ _. refl, λ _. refl)
    go false e = rw h (λ z. absurd (omega arith), λ z. absurd (omega arith))

-- a code's length and the memory after it: as measured before, and as append answers once it is done
pub measured_as_appended : (ring : List ℕ) (head used set : ℕ) (back : Last) (b : Block) → appended_number (appended (length ring) head used set back b) ≡ 0
    → (measured_number (measured set back b) ≡ 0)
    × (appended_used (appended (length ring) head used set back b) ≡ used + measured_count (measured set back b))
    × (appended_last (appended (length ring) head used set back b) ≡ measured_last (measured set back b))
measured_as_appended ring head used set back b e =
    let (fits, can, room) = (append_zero_exactly ring head used set back b).0 e in
    rw (append_value ring head used set back b fits can room, measure_value set back b can) (refl, refl, refl)

-- ---- INSTANCES of what is asked for above: [0.3,0.4], the integers [0,3], index 5 on level 2, and 0 in eight bytes
pub instances :
    (InFormat (between point3 point4) × (legal_interval (between point3 point4) false ≡ true))
    × (InFormat (between zero0 three3) × (legal_interval (between zero0 three3) true ≡ true))
    × (legal ordinary_floor (record { index = 5; rank = 50 }) ≡ true)
    × (long_code 7 0 ≡ 0x80 ∷ 0 ∷ 0 ∷ 0 ∷ 0 ∷ 0 ∷ 0 ∷ 0 ∷ [])
unfolding legal_interval le lt eq of_bits whole_bound in_units in_range long_code little_endian
instances = (
  ((of_bits-fits binary64 point3, of_bits-fits binary64 point4), refl),
  ((of_bits-fits binary64 zero0, of_bits-fits binary64 three3), refl),
  refl,
  refl,
)
