-- What reading takes of the bytes that a list has left.
use Rattle.std.specs.Prelude.{◌≡◌, Option, List, ℕ, ◌+◌, ◌*◌, ◌<◌, ◌≤◌, length}
use Rattle.std.specs.Io.KnownBytes.{Consumes, IsAtEnd}
use Rattle.replay_lists.specs.Words.{first_or_zeros}

-- so many bytes were read
abbrev pub Reads : ℕ → Option (List ℕ) → Option (List ℕ) → Type 0
Reads n left leaves = (bytes : List ℕ) × (length bytes ≡ n) × Consumes left leaves bytes

-- fewer were
abbrev pub ReadsFewer : ℕ → Option (List ℕ) → Option (List ℕ) → Type 0
ReadsFewer n left leaves = (bytes : List ℕ) × (length bytes < n) × Consumes left leaves bytes

-- fewer were, and no more are left
abbrev pub Ends : ℕ → Option (List ℕ) → Option (List ℕ) → Type 0
Ends n left leaves = IsAtEnd leaves × ReadsFewer n left leaves

-- the next n bytes were read, with zeros in the place of those that the list does not have
abbrev pub ReadsFirst : ℕ → Option (List ℕ) → Option (List ℕ) → List ℕ → Type 0
ReadsFirst n left leaves bytes =
    (read : List ℕ) × (length read ≤ n) × (length read < n → IsAtEnd leaves) × Consumes left leaves read × (bytes ≡ first_or_zeros n read)

-- the entries of a list were read, each of so many bytes: so many of them, and then fewer bytes than another has, behind which there are no more
abbrev pub ReadsAll : ℕ → ℕ → Option (List ℕ) → Option (List ℕ) → Type 0
ReadsAll size count left leaves = IsAtEnd leaves × ((cut : ℕ) × (cut < size) × Reads (count * size + cut) left leaves)

-- fewer of them than so many, and then no more bytes than another has
abbrev pub ReadsSome : ℕ → ℕ → Option (List ℕ) → Option (List ℕ) → Type 0
ReadsSome size most left leaves = (count : ℕ) × (count < most) × ((cut : ℕ) × (cut ≤ size) × Reads (count * size + cut) left leaves)
