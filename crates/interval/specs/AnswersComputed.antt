-- Only private contracts cite this page: what is known of an interval that passed the test of a public function.
use Rattle.std.specs.Prelude.{◌≡◌, Bool, true}
use Rattle.interval.specs.declared.Interval.{Interval}
use Rattle.interval.specs.Bounds.{legal_interval, put_interval}

-- y is x, put; both are legal
abbrev pub IsChecked : Interval → Bool → Interval → Type 0
IsChecked x integer y =
    (y ≡ put_interval x) × (put_interval y ≡ y) × (legal_interval x integer ≡ true) × (legal_interval y integer ≡ true)
