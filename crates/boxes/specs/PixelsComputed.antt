-- Only private contracts cite this page: what the functions of an axis ask of a coordinate, so that its parts fit a word.
use Rattle.std.specs.Prelude.{◌^◌, ◌≤◌, ◌<◌}
use Rattle.coordinate.specs.declared.Coordinate.{Coordinate}
use Rattle.boxes.specs.Pixels.{ends_at}

pub record Placed (c : Coordinate) : Type 0 where
  pub low : 16 ≤ c.rank
  pub high : c.rank < 64
  pub index : c.index < 2 ^ 47
  pub ends : ends_at c ≤ 2 ^ 47
