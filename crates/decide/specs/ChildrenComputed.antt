-- Only private contracts cite this page: how a block is cut, as the code counts its children.
use Rattle.std.specs.Prelude.{Bool, true, false, cond, ℕ, length, Some}
use Rattle.coordinate.specs.declared.Coordinate.{Coordinate}
use Rattle.interval.specs.declared.Interval.{Interval}
use Rattle.interval.specs.Bounds.{legal_interval, put_interval}
use Rattle.interval.specs.Cuts.{later_cut}
use Rattle.queue.specs.declared.directions.Direction.{Direction}
use Rattle.queue.specs.declared.directions.Direction.TheVariants as D
use Rattle.decide.specs.declared.Chosen.{Chosen}
use Rattle.decide.specs.declared.children.Cut.{Cut}
use Rattle.decide.specs.ChildAt.{is_kept, half_of}

-- the quarters, by which of the high halves are listed
abbrev pub quarter_count : Bool → Bool → ℕ
quarter_count right above = cond right (cond above 4 2) (cond above 2 1)

abbrev pub quarters_cut : Chosen → Coordinate → Coordinate → Cut
quarters_cut p x y =
    record {
      along = Some D.XY;
      right = is_kept x.rank (half_of x true) p.width;
      count = quarter_count (is_kept x.rank (half_of x true) p.width) (is_kept x.rank (half_of y true) p.height);
    }

-- the pieces of a parameter's later cut; one that is not legal has none
unfoldable pub later_count : Interval → Bool → ℕ
later_count x integer = cond (legal_interval x integer) (length (later_cut (put_interval x) integer)) 0

abbrev pub pieces_cut : Direction → Interval → Bool → Cut
pieces_cut d x integer = record { along = Some d; right = false; count = later_count x integer }
