-- The block as the queue keeps it, and what is remembered of it. Document 01, "The queue's bytes" (the starting
-- values) and "Intervals and their cutting" (how zeros are put). Our choice: an unused parameter is the whole line.
use Rattle.std.specs.Prelude.{Bool, true, false, cond, ℕ}
use Rattle.interval.specs.declared.Interval.{Interval}
use Rattle.interval.specs.Bounds.{put_interval}
pub use Rattle.interval.specs.Bounds.{whole_line}
use Rattle.queue.specs.declared.Block.{Block}
use Rattle.queue.specs.declared.Last.{Last}
use Rattle.queue.specs.declared.directions.Direction.{Direction}
use Rattle.queue.specs.declared.directions.Direction.TheVariants as D
use Rattle.queue.specs.Directions.{in_use}

-- m, n and n_theta are integer parameters, t is a real one
abbrev pub is_integer : Direction → Bool
is_integer D.XY = false
is_integer D.M = true
is_integer D.N = true
is_integer D.Theta = true
is_integer D.T = false

-- a block's parameter; xy is none, and stands for the whole line
abbrev pub parameter_of : Block → Direction → Interval
parameter_of b D.XY = whole_line
parameter_of b D.M = b.m
parameter_of b D.N = b.n
parameter_of b D.Theta = b.theta
parameter_of b D.T = b.t

-- the block with another interval for a parameter
abbrev pub with_parameter : Block → Direction → Interval → Block
with_parameter b D.XY p = b
with_parameter b D.M p = record { x = b.x; y = b.y; m = p; n = b.n; theta = b.theta; t = b.t; dir = b.dir }
with_parameter b D.N p = record { x = b.x; y = b.y; m = b.m; n = p; theta = b.theta; t = b.t; dir = b.dir }
with_parameter b D.Theta p = record { x = b.x; y = b.y; m = b.m; n = b.n; theta = p; t = b.t; dir = b.dir }
with_parameter b D.T p = record { x = b.x; y = b.y; m = b.m; n = b.n; theta = b.theta; t = p; dir = b.dir }

-- what is remembered of a parameter
abbrev pub recalled : Last → Direction → Interval
recalled last D.XY = whole_line
recalled last D.M = last.m
recalled last D.N = last.n
recalled last D.Theta = last.theta
recalled last D.T = last.t

-- a parameter as the queue keeps it
abbrev pub as_queued_at : Bool → Interval → Interval
as_queued_at used p = cond used (put_interval p) whole_line

-- a block as the queue keeps it: used parameters put, unused ones the whole line
unfoldable pub as_queued : ℕ → Block → Block
as_queued set b =
    record {
      x = b.x;
      y = b.y;
      m = as_queued_at (in_use set D.M) b.m;
      n = as_queued_at (in_use set D.N) b.n;
      theta = as_queued_at (in_use set D.Theta) b.theta;
      t = as_queued_at (in_use set D.T) b.t;
      dir = b.dir;
    }

-- what is remembered of a block, by the writer that queued it and by the reader that took it
unfoldable pub remembered : Block → Last
remembered b = record { x = b.x.index; y = b.y.index; m = b.m; n = b.n; theta = b.theta; t = b.t }

-- what is remembered before the first block: document 01's starting values
unfoldable pub starting_last : Last
starting_last = record { x = 0; y = 0; m = whole_line; n = whole_line; theta = whole_line; t = whole_line }
