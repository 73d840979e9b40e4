-- The entries so far were read, each of its size.
use Rattle.std.proofs.Common.{◌*◌}
use Rattle.replay_lists.specs.Reading.{Reads}
use Rattle.replay_lists.proofs.list.play_entries.Given as goal

abbrev pub invariant-loop-played : goal.invariant-loop-played
invariant-loop-played g l = Reads (l.played * g.E.Entry.size) (g.R.Read.remaining l.initial.from) (g.R.Read.remaining l.from)
