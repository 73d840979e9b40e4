-- Each pass counts one record.
use Rattle.std.proofs.Common.{◌≡◌}
use Rattle.replay_blocks.specs.Replay.{records}
use Rattle.replay_blocks.proofs.replay.Given as goal

abbrev pub invariant-loop-pass : goal.invariant-loop-pass
invariant-loop-pass g l = records l.score ≡ l._pass
