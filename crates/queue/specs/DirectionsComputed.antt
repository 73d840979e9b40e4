-- How directions are counted one by one: a private contract cites this, no public one does.
use Rattle.std.specs.Prelude.{Bool, cond, ℕ}

-- 1 for yes, 0 for no
abbrev pub ones : Bool → ℕ
ones b = cond b 1 0
