-- Only private contracts cite this page: what the code relies on when it takes an interval apart by its kind.
use Rattle.std.specs.Prelude.{Bool, true, ◌&&◌}
use Rattle.std.specs.Float.Ieee.Scale.{finite}
use Rattle.interval.specs.declared.kind.Kind.{Kind}
use Rattle.interval.specs.declared.kind.Kind.TheVariants.{Whole, UpTo, From, Between}

-- what a kind carries is finite
abbrev pub finite_ends : Kind → Bool
finite_ends Whole = true
finite_ends (UpTo b) = finite b
finite_ends (From a) = finite a
finite_ends (Between a b) = finite a && finite b
