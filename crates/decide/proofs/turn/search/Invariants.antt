use mathlib.Core.Path.{◌≡◌}
use Rattle.decide.specs.Turn.{searched}
use Rattle.decide.proofs.TurnLaws.{found_after}
use Rattle.decide.proofs.turn.search.Given as goal

abbrev pub invariant-loop-i : goal.invariant-loop-i
invariant-loop-i l = found_after l.p l.c l.start l.n l.i ≡ searched l.p l.c l.start
