-- The answers of the public functions: what was asked for where the interval is legal, and the refusal with number 3 where it is not.
-- At the end, document 01's values of an answer; one that a refused call does not have is +0, no piece, or [-0, +0]. Its number is `answer_number`,
-- and yes or no `whether_value`.
use Rattle.std.specs.Prelude.{ℕ, Bool, Result, Ok, Err, true, false, cond, List, [], ◌∷◌, length, pos, from_bits, Float}
use Rattle.std.specs.Float.{fin, binary64}
use Rattle.refusal.specs.declared.Refusal.{Refusal}
use Rattle.refusal.specs.declared.Refusal.TheVariants as R
use Rattle.interval.specs.declared.Interval.{Interval}
use Rattle.interval.specs.declared.Pieces.{Pieces}
use Rattle.interval.specs.declared.Pieces.TheVariants.{One, Two, Three}
use Rattle.interval.specs.Bounds.{legal_interval, put_interval}

-- the point c
abbrev pub point_answer : Bool → Float → Result Float Refusal
point_answer true c = Ok c
point_answer false c = Err R.Parameter

-- yes or no
abbrev pub whether_at : Bool → Bool → Result Bool Refusal
whether_at true b = Ok b
whether_at false b = Err R.Parameter

-- one to three pieces, as every cut of a legal interval has
abbrev pub pieces_from : List Interval → Result Pieces Refusal
pieces_from [] = Err R.Parameter
pieces_from (p ∷ []) = Ok (One p)
pieces_from (p ∷ q ∷ []) = Ok (Two p q)
pieces_from (p ∷ q ∷ r ∷ l) = Ok (Three p q r)

-- the pieces, or 3 where the interval is not legal
abbrev pub pieces_at : Bool → List Interval → Result Pieces Refusal
pieces_at true l = pieces_from l
pieces_at false l = Err R.Parameter

-- the bounds that two bit patterns stand for; a NaN's pattern stands for a NaN, which is no legal bound
abbrev pub bounds_from : ℕ → ℕ → Interval
bounds_from a b = record { lower = from_bits binary64 a; upper = from_bits binary64 b }

-- the interval that they stand for, put
unfoldable pub answer_from_bits : ℕ → ℕ → Bool → Result Interval Refusal
answer_from_bits a b integer = cond (legal_interval (bounds_from a b) integer) (Ok (put_interval (bounds_from a b))) (Err R.Parameter)

-- A POINT
abbrev pub point_value : Result Float Refusal → Float
point_value (Ok c) = c
point_value (Err why) = fin false 0 (pos 0)

-- THE PIECES OF A CUT, in order, and how many they are
abbrev pub listed : Pieces → List Interval
listed (One p) = p ∷ []
listed (Two p q) = p ∷ q ∷ []
listed (Three p q r) = p ∷ q ∷ r ∷ []

abbrev pub pieces_of : Result Pieces Refusal → List Interval
pieces_of (Ok p) = listed p
pieces_of (Err why) = []

abbrev pub pieces_count : Result Pieces Refusal → ℕ
pieces_count a = length (pieces_of a)

-- AN INTERVAL FROM BITS
abbrev pub from_bits_value : Result Interval Refusal → Interval
from_bits_value (Ok x) = x
from_bits_value (Err why) = record { lower = fin true 0 (pos 0); upper = fin false 0 (pos 0) }
