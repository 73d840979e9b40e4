use mathlib.Core.Path.{◌≡◌}
use Rattle.image.proofs.DrawLaws.{drawn_to}
use Rattle.image.proofs.stretches.draw_part.Given as goal

abbrev pub invariant-loop-i : goal.invariant-loop-i
invariant-loop-i l = l.out ≡ drawn_to l.taken l.i l.cells l.initial.out
