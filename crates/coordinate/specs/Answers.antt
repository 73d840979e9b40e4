-- Document 01's values of an answer: those that a refused call does not have are 0, or the coordinate of index and level 0. Its number is
-- `answer_number`, and yes or no `whether_value`.
use Rattle.std.specs.Prelude.{ℕ, Result, Ok, Err}
use Rattle.refusal.specs.declared.Refusal.{Refusal}
use Rattle.coordinate.specs.declared.Coordinate.{Coordinate}
use Rattle.coordinate.specs.declared.Halves.{Halves}

-- the pixel
abbrev pub pixel_value : Result ℕ Refusal → ℕ
pixel_value (Ok p) = p
pixel_value (Err why) = 0

-- the two halves
abbrev pub blank_coordinate : Coordinate
blank_coordinate = record { index = 0; rank = 48 }

abbrev pub halves_low : Result Halves Refusal → Coordinate
halves_low (Ok h) = h.low
halves_low (Err why) = blank_coordinate

abbrev pub halves_high : Result Halves Refusal → Coordinate
halves_high (Ok h) = h.high
halves_high (Err why) = blank_coordinate
