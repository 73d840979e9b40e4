-- What every piece of a cut is: legal, put, and of f64s (`Proper`); and lists of one to three pieces (`Few`).
-- Assumes nothing.
use Rattle.std.proofs.Common.{◌≡◌, ◌≤◌, Bool, true, false, ◌&&◌, ◌||◌, T, List, [], ◌∷◌, length, refl, ◌∙◌, arith}
use lib.Ieee.{Float, nan, inf, fin, binary64, lt, le, eq, fits}
use lib.Ieee.Fits.{inf-fits}
use lib.Ieee.Scale.{finite}
use Rattle.base.proofs.Test.{and_left, and_right, and_both, or_right}
use Rattle.interval.specs.declared.Interval.{Interval}
use Rattle.interval.specs.Bounds.{whole_bound, legal_bounds, legal_interval, put_interval, InFormat, zero_as}
use Rattle.interval.specs.Cuts.{pair_of, span_of}
use Rattle.interval.specs.Answers.{pieces_from, pieces_of}
use Rattle.interval.proofs.Zeros.{as_fits}
use Rattle.interval.proofs.Legality.{legal_from, put_again, put_legal}
use Rattle.interval.proofs.Sameness.{eq_self_high}

pub record Proper (integer : Bool) (p : Interval) : Type 0 where
  pub legal : legal_interval p integer ≡ true
  pub put : put_interval p ≡ p
  pub format : InFormat p

-- one to three
abbrev pub Few : List Interval → Type 0
Few [] = T false
Few (p ∷ []) = T true
Few (p ∷ q ∷ []) = T true
Few (p ∷ q ∷ r ∷ []) = T true
Few (p ∷ q ∷ r ∷ s ∷ l) = T false

pub few_count : (l : List Interval) → Few l → (1 ≤ length l) × (length l ≤ 3)
few_count [] h = absurd h
few_count (p ∷ []) h = (omega arith, omega arith)
few_count (p ∷ q ∷ []) h = (omega arith, omega arith)
few_count (p ∷ q ∷ r ∷ []) h = (omega arith, omega arith)
few_count (p ∷ q ∷ r ∷ s ∷ l) h = absurd h

-- an answer holds its pieces, three at most
pub pieces_back : (l : List Interval) → length l ≤ 3 → pieces_of (pieces_from l) ≡ l
pieces_back [] h = refl
pieces_back (p ∷ []) h = refl
pieces_back (p ∷ q ∷ []) h = refl
pieces_back (p ∷ q ∷ r ∷ []) h = refl
pieces_back (p ∷ q ∷ r ∷ s ∷ l) h = absurd (omega arith)

pub few_back : (l : List Interval) → Few l → pieces_of (pieces_from l) ≡ l
few_back l h = pieces_back l (few_count l h).1

pub put_format : (x : Interval) → InFormat x → InFormat (put_interval x)
unfolding put_interval
put_format x f = (as_fits true x.lower f.0, as_fits false x.upper f.1)

-- ---- a span of legal bounds
pub span_proper : (a b : Float) (integer : Bool) → T (fits binary64 a) → T (fits binary64 b) → legal_bounds a b ≡ true → (integer ≡ true → (whole_bound a ≡ true) × (whole_bound b ≡ true)) → Proper integer (span_of a b)
unfolding put_interval
span_proper a b integer f g h w =
    let x : Interval = record { lower = a; upper = b } in
    record { legal = put_legal x integer ∙ legal_from x integer h w; put = put_again x; format = (as_fits true a f, as_fits false b g) }

-- ---- its parts
pub order_of : (a b : Float) → legal_bounds a b ≡ true → le a b ≡ true
order_of a b h = and_left (le a b) (lt a (inf false)) (and_left (le a b && lt a (inf false)) (lt (inf true) b) h)

pub low_of : (a b : Float) → legal_bounds a b ≡ true → lt a (inf false) ≡ true
low_of a b h = and_right (le a b) (lt a (inf false)) (and_left (le a b && lt a (inf false)) (lt (inf true) b) h)

pub high_of : (a b : Float) → legal_bounds a b ≡ true → lt (inf true) b ≡ true
high_of a b h = and_right (le a b && lt a (inf false)) (lt (inf true) b) h

pub bounds_from : (a b : Float) → le a b ≡ true → lt a (inf false) ≡ true → lt (inf true) b ≡ true → legal_bounds a b ≡ true
bounds_from a b p q r = and_both (le a b && lt a (inf false)) (lt (inf true) b) (and_both (le a b) (lt a (inf false)) p q) r

pub number_low : (c : Float) → T (finite c) → lt c (inf false) ≡ true
unfolding lt
number_low nan g = absurd g
number_low (inf s) g = absurd g
number_low (fin s m e) g = refl

pub number_high : (c : Float) → T (finite c) → lt (inf true) c ≡ true
unfolding lt
number_high nan g = absurd g
number_high (inf s) g = absurd g
number_high (fin s m e) g = refl

pub le_self : (a c : Float) → le a c ≡ true → le c c ≡ true
le_self a c h = after_taking (or_right (lt c c) (eq c c) (eq_self_high a c h))
  where
    after_taking : lt c c || eq c c ≡ true → le c c ≡ true
    after_taking = unfold le in λ e. e

-- the point [c, c]
pub point_bounds : (a c : Float) → le a c ≡ true → T (finite c) → legal_bounds c c ≡ true
point_bounds a c h g = bounds_from c c (le_self a c h) (number_low c g) (number_high c g)

-- the whole line
pub line_proper : (integer : Bool) → Proper integer (pair_of (inf true) (inf false))
line_proper integer =
    record { legal = legal_from (pair_of (inf true) (inf false)) integer in_order (λ e. (line_whole true, line_whole false)); put = line_put; format = (inf-fits binary64 true, inf-fits binary64 false) }
  where
    in_order : legal_bounds (inf true) (inf false) ≡ true
    in_order = unfold le lt in refl

    line_whole : (s : Bool) → whole_bound (inf s) ≡ true
    line_whole s = unfold whole_bound in refl

    line_put : put_interval (pair_of (inf true) (inf false)) ≡ pair_of (inf true) (inf false)
    line_put = unfold put_interval zero_as in refl
