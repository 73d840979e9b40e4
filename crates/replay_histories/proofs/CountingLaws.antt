-- What closing a part leaves of the counts.
use mathlib.Core.Path.{◌≡◌}
use native.Mathlib.Omega.{arith}
use Rattle.replay_histories.specs.declared.tally.CallScore.{CallScore}
use Rattle.replay_histories.specs.Counting.{calls, closed}

-- a part that is closed has the same calls
pub closed_calls : (t r : CallScore) → r ≡ closed t → calls r ≡ calls t
closed_calls t r h = rw h (omega arith)
