-- Document 01, the paragraph on cuts: when a parameter can be divided, and the pieces of its first and its later cut, as lists.
-- Both cuts are defined for every legal interval, divisible or not.
use Rattle.std.specs.Prelude.{ℕ, ◌*◌, ◌^◌, Bool, true, false, cond, not, ◌&&◌, List, [], ◌∷◌, ◌++◌, ◌-ℤ◌, ◌==◌, unsigned_abs, Float}
use Rattle.std.specs.Float.Ieee.{ne}
use Rattle.std.specs.Float.Ieee.Scale.{finite}
use Rattle.interval.specs.declared.Interval.{Interval}
use Rattle.interval.specs.Bounds.{in_units, legal_interval, put_interval, same_interval}
use Rattle.interval.specs.Middle.{whole_if}
use Rattle.interval.specs.Kinds.{midpoint_of, cut_point_of}

-- subdivisible: neither bound is the midpoint, or for an integer parameter the whole number nearest to it
unfoldable pub subdivisible : Interval → Bool → Bool
subdivisible x integer = ne x.lower (whole_if integer (midpoint_of x)) && ne x.upper (whole_if integer (midpoint_of x))

-- the width of an interval is k: upper less lower, exactly; no infinite end has a width
unfoldable pub width_is : ℕ → Interval → Bool
width_is k x = finite x.lower && finite x.upper && unsigned_abs (in_units x.upper -ℤ in_units x.lower) == k * 2 ^ 1074

-- the bounds a and b
abbrev pub pair_of : Float → Float → Interval
pair_of a b = record { lower = a; upper = b }

-- the piece [a, b], put
abbrev pub span_of : Float → Float → Interval
span_of a b = put_interval (pair_of a b)

-- the pieces of which a test holds
unfoldable pub keep_if : (Interval → Bool) → List Interval → List Interval
keep_if f [] = []
keep_if f (p ∷ l) = cond (f p) (p ∷ keep_if f l) (keep_if f l)

-- what follows p, each piece left out that is the same as the one kept before it
unfoldable pub unlike_next : Interval → List Interval → List Interval
unlike_next p [] = []
unlike_next p (q ∷ l) = cond (same_interval p q) (unlike_next p l) (q ∷ unlike_next q l)

-- the pieces without a repeat next to its equal
abbrev pub deduped : List Interval → List Interval
deduped [] = []
deduped (p ∷ l) = p ∷ unlike_next p l

-- an interval between its two ends, without what is no interval
unfoldable pub legal_three : Interval → List Interval
legal_three x =
    keep_if (λ p. legal_interval p false)
    (span_of x.lower x.lower ∷ span_of x.lower x.upper ∷ span_of x.upper x.upper ∷ [])

-- the first cut: all of these for a real parameter, repeats too; for an integer parameter neither what is 1 wide nor a repeat
unfoldable pub first_cut : Interval → Bool → List Interval
first_cut x integer = cond integer (deduped (keep_if (λ p. not (width_is 1 p)) (legal_three x))) (legal_three x)

-- a piece of an integer parameter that is 2 wide and subdivisible: only its middle is left
unfoldable pub narrowed : Interval → Interval
narrowed p = cond (width_is 2 p && subdivisible p true) (span_of (midpoint_of p) (midpoint_of p)) p

-- a piece of an integer parameter that is 1 wide: nothing is left
unfoldable pub thinned : Interval → List Interval
thinned p = cond (width_is 1 p) [] (narrowed p ∷ [])

-- what is left of all pieces
abbrev pub thinned_all : List Interval → List Interval
thinned_all [] = []
thinned_all (p ∷ l) = thinned p ++ thinned_all l

-- an interval divided at c, with c between the parts
abbrev pub three_at : Interval → Float → List Interval
three_at x c = span_of x.lower c ∷ span_of c c ∷ span_of c x.upper ∷ []

-- the later cut, at the cut point
unfoldable pub later_cut : Interval → Bool → List Interval
later_cut x integer = cond integer (thinned_all (three_at x (cut_point_of x true))) (three_at x (cut_point_of x false))
