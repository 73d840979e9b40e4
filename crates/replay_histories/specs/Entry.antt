-- What a byte of the list stands for, and how an entry is counted.
use Rattle.std.specs.Prelude.{◌≡◌, ℕ, ◌==◌, if◌then◌else◌, List, [], ◌∷◌, Option, ◌⊎◌}
use Rattle.std.specs.Io.KnownBytes.{Consumes, IsAtEnd}
use Rattle.replay_histories.specs.declared.list.Entry.{Entry}
use Rattle.replay_histories.specs.declared.list.Entry.TheVariants as E
use Rattle.replay_histories.specs.declared.tables.Tables.{Tables}
use Rattle.replay_histories.specs.declared.tally.CallScore.{CallScore}
use Rattle.replay_histories.specs.Counting.{closed, CountedBy}

-- 0 ends the list, 255 a part of it, and any other byte is a call's number
abbrev pub entry_of : ℕ → Entry
entry_of code = if code == 0 then E.End else if code == 255 then E.PartEnd else E.Call code

-- a byte that was read: the list's next one, or 0 at its end
abbrev pub IsNextByte : Option (List ℕ) → Option (List ℕ) → ℕ → Type 0
IsNextByte left leaves byte = Consumes left leaves (byte ∷ []) ⊎ (IsAtEnd leaves × Consumes left leaves [] × (byte ≡ 0))

-- a call counts by what it left, the end of a part closes it, and the end of the list counts nothing
abbrev pub CountedAs : Entry → Tables → Tables → CallScore → CallScore → Type 0
CountedAs (E.Call number) wanted left old new = CountedBy (wanted ≡ left) old new
CountedAs E.PartEnd wanted left old new = new ≡ closed old
CountedAs E.End wanted left old new = new ≡ old
