use mathlib.Core.Path.{◌≡◌}
use Prim.Native.Nat.{◌-◌, ◌≤◌}
use Rattle.explain.specs.Reasons.{block_behind}
use Rattle.explain.proofs.walking.block_behind.Given as goal

abbrev pub invariant-loop-i : goal.invariant-loop-i
invariant-loop-i l = (l._i ≤ l.before) × (block_behind (l.before - l._i) l.ring l.p.set l.t ≡ block_behind l.before l.ring l.p.set l.initial.t)

abbrev pub decreases-loop-i : goal.decreases-loop-i
decreases-loop-i l = l.before - l._i
