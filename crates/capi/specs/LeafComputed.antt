-- Only a private contract cites this page: the coordinate that stands beside a refusal, (0, level 0).
use Rattle.std.specs.Prelude.{pos}
use Rattle.capi.specs.declared.records.Coordinate.{Coordinate}

abbrev pub no_coordinate : Coordinate
no_coordinate = record { index = 0; level = pos 0 }
