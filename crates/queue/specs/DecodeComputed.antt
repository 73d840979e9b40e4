-- What the reader's own functions answer on the way to `decode`: private contracts cite these, no public one does.
use Rattle.std.specs.Prelude.{List, ℕ, ◌+◌, drop, Option, Some, None}
use Rattle.interval.specs.declared.Interval.{Interval}
use Rattle.queue.specs.declared.Last.{Last}
use Rattle.queue.specs.declared.directions.Direction.{Direction}
use Rattle.queue.specs.Directions.{in_use}
use Rattle.queue.specs.Block.{is_integer, recalled}
use Rattle.queue.specs.Decode.{parameter_read}

-- a parameter that was read at a place: where its bytes end stands in place of their count
abbrev pub ends_at : ℕ → Option (Interval × ℕ) → Option (Interval × ℕ)
ends_at at (Some (p, n)) = Some (p, at + n)
ends_at at None = None

-- the parameter along a direction, read at a place
unfoldable pub parameter_along : ℕ → Last → List ℕ → Direction → ℕ → Option (Interval × ℕ)
parameter_along set last s d at = ends_at at (parameter_read (in_use set d) (is_integer d) (recalled last d) (drop at s))
