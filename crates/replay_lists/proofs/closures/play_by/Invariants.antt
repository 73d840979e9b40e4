-- What played may play again, and has played so many entries.
use Rattle.replay_lists.specs.Playing.{PlayedMany}
use Rattle.replay_lists.proofs.closures.play_by.Given as goal

abbrev pub invariant-loop-played : goal.invariant-loop-played
invariant-loop-played g l =
    g.B.Playing.may l.by × PlayedMany g.B.Playing.gives g.B.Playing.plays l.played l.fn.from l.fn.closures l.from l.by
