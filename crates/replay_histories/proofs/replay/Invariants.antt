-- Each pass counts one call at most.
use Rattle.std.proofs.Common.{◌≤◌}
use Rattle.replay_histories.specs.Counting.{calls}
use Rattle.replay_histories.proofs.replay.Given as goal

abbrev pub invariant-loop-pass : goal.invariant-loop-pass
invariant-loop-pass g l = calls l.score ≤ l._pass
