use Rattle.std.proofs.Common.{◌≡◌, ℕ, ◌<◌, length, take, drop, get_or}
use Rattle.queue.specs.RingComputed.{bytes}
use Rattle.queue.proofs.read.gather.Given as goal

abbrev pub invariant-loop-i : goal.invariant-loop-i
invariant-loop-i l =
    (length l.out ≡ length l.initial.out) × (take l.i l.out ≡ take l.i (drop l.at (bytes l.held)))
    × ((k : ℕ) → k < l.i → get_or l.out k 0 < 256)
