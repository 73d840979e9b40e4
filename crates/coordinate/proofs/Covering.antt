-- Which pixels an index covers, said pixel by pixel: a block's rectangle, `rectangle_of` in image, is proved to hold just these.
use mathlib.Core.Bool.{Bool, ◌&&◌}
use Prim.Native.Nat.{ℕ, ◌+◌, ◌-◌, ◌^◌}
use lib.Dec.{leb, ltb}
use Rattle.coordinate.specs.Axis.{pixel}

-- does an index cover pixel p? The 2^k pixels from its own on; from level 0 down that one alone
unfoldable pub covers1 : ℕ → ℕ → ℕ → Bool
covers1 rank i p = leb (pixel rank i) p && ltb p (pixel rank i + 2 ^ (rank - 48))
