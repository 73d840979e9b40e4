-- Only private contracts cite this page: the bytes of the two stretches, and the short way to store.
use Rattle.std.specs.Prelude.{Bool, ◌&&◌, List, ◌++◌, ℕ, ◌+◌, ◌-◌, leb}
use Rattle.queue.specs.declared.ring.Stretches.{Stretches}
use Rattle.queue.specs.Ring.{wrapped}

-- what a ring holds, from its two stretches
abbrev pub bytes : Stretches → List ℕ
bytes s = s.older.now ++ s.newer.now

-- so many bytes fit behind those that are used, and before the end
abbrev pub straight_room : ℕ → ℕ → ℕ → ℕ → Bool
straight_room count len head used = leb count (len - wrapped len (head + used)) && leb count (len - used)
