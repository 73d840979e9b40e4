use mathlib.Core.Path.{◌≡◌}
use Prim.Native.Nat.{◌-◌, ◌*◌, ◌/◌, ◌≤◌}
use lib.ListN.{length}
use Rattle.image.proofs.DrawLaws.{drawn_to}
use Rattle.image.proofs.stretches.draw_stretch.Given as goal

abbrev pub invariant-loop-part : goal.invariant-loop-part
invariant-loop-part l = (l.part ≤ length l.cells / 16) × (length l.out ≡ length l.initial.out) × (l.out ≡ drawn_to l.taken (16 * l.part) l.cells l.initial.out)

abbrev pub decreases-loop-part : goal.decreases-loop-part
decreases-loop-part l = length l.cells / 16 - l.part
