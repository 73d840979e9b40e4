-- The words so far spell the bytes that were read so far.
use Rattle.std.proofs.Common.{◌≤◌, ◌-◌, length, take, flat_map}
use Rattle.std.specs.Int.{w64, to_le_bytes}
use Rattle.std.specs.Io.KnownBytes.{Consumes}
use Rattle.replay_lists.proofs.list.read_words.Given as goal

abbrev pub invariant-groups : goal.invariant-groups
invariant-groups g l = record {
  within : l.done ≤ length l.words;
  spelled : Consumes (g.R.Read.remaining l.initial.from) (g.R.Read.remaining l.from) (flat_map (to_le_bytes w64) (take l.done l.words));
}

abbrev pub decreases-groups : goal.decreases-groups
decreases-groups g l = length l.words - l.done
