-- The words so far spell as many bytes.
use Rattle.std.proofs.Common.{◌≡◌, ◌*◌, take, flat_map}
use Rattle.std.specs.Int.{w64, to_le_bytes}
use Rattle.replay_lists.proofs.list.put_words.Given as goal

abbrev pub invariant-loop-i : goal.invariant-loop-i
invariant-loop-i l = record {
  spelled : flat_map (to_le_bytes w64) (take l.i l.words) ≡ take (8 * l.i) l.bytes;
}
