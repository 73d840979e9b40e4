-- How the leaves' answers cross to other languages, by their numbers and the values that their crates define, and how a coordinate comes in: with document 01's
-- signed level.
use Rattle.std.specs.Prelude.{Bool, cond, Result, Float, List, [], ◌∷◌, ℕ, ◌+◌, ◌-◌, ltb, ℤ, pos, negsuc}
use Rattle.coordinate.specs.declared.Coordinate as Inner
use Rattle.coordinate.specs.declared.Halves.{Halves}
use Rattle.interval.specs.declared.Pieces as Cut
use Rattle.small.specs.declared.Code as SmallCode
use Rattle.small.specs.declared.Number as SmallNumber
use Rattle.interval.specs.declared.Interval.{Interval}
use Rattle.refusal.specs.declared.Refusal.{Refusal}
use Rattle.refusal.specs.Number.{answer_number, whether_value}
use Rattle.coordinate.specs.Answers.{pixel_value, halves_low, halves_high}
use Rattle.interval.specs.Answers.{point_value, pieces_of, pieces_count}
use Rattle.small.specs.Answers.{code_head, code_tail, code_count, read_value, read_count}
use Rattle.queue.specs.Block.{whole_line}
use Rattle.capi.specs.declared.records.Coordinate.{Coordinate}
use Rattle.capi.specs.declared.records.Number.{Number}
use Rattle.capi.specs.declared.records.Point.{Point}
use Rattle.capi.specs.declared.records.Pieces.{Pieces}
use Rattle.capi.specs.declared.records.Code.{Code}
use Rattle.capi.specs.declared.records.Read.{Read}
use Rattle.capi.specs.declared.records.Halved.{Halved}
use Rattle.capi.specs.Engine.{coordinate_record}

-- the rank of a level, which is k + 48 from -48 to 15; for any other level 64, which no legal coordinate has (`negsuc n` is -(n + 1))
abbrev pub rank_of : ℤ → ℕ
rank_of (pos k) = cond (ltb k 16) (k + 48) 64
rank_of (negsuc n) = cond (ltb n 48) (47 - n) 64

abbrev pub coordinate_from : Coordinate → Inner.Coordinate
coordinate_from c = record { index = c.index; rank = rank_of c.level }

-- a point
abbrev pub point_record : Result Float Refusal → Point
point_record a = record { refusal = answer_number a; value = point_value a }

-- yes or no
abbrev pub whether_record : Result Bool Refusal → Number
whether_record a = record { refusal = answer_number a; value = whether_value a }

-- one to three pieces; the places behind them hold the whole line
abbrev pub three_places : List Interval → List Interval
three_places [] = whole_line ∷ whole_line ∷ whole_line ∷ []
three_places (p ∷ []) = p ∷ whole_line ∷ whole_line ∷ []
three_places (p ∷ q ∷ []) = p ∷ q ∷ whole_line ∷ []
three_places (p ∷ q ∷ r ∷ l) = p ∷ q ∷ r ∷ []

abbrev pub pieces_record : Result Cut.Pieces Refusal → Pieces
pieces_record a = record { refusal = answer_number a; count = pieces_count a; at = three_places (pieces_of a) }

-- a small number's code
abbrev pub code_record : Result SmallCode.Code Refusal → Code
code_record a = record { refusal = answer_number a; head = code_head a; tail = code_tail a; count = code_count a }

-- a small number read
abbrev pub read_record : Result SmallNumber.Number Refusal → Read
read_record a = record { refusal = answer_number a; value = read_value a; count = read_count a }

-- a pixel
abbrev pub pixel_record : Result ℕ Refusal → Number
pixel_record a = record { refusal = answer_number a; value = pixel_value a }

-- two halves
abbrev pub halves_record : Result Halves Refusal → Halved
halves_record a = record { refusal = answer_number a; low = coordinate_record (halves_low a); high = coordinate_record (halves_high a) }
