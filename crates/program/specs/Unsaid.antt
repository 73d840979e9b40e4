-- What a program's work leaves that could not read its input, or not write its text.
use Rattle.std.specs.Prelude.{◌≡◌, ◌⊎◌, Option, List, ℕ, ◌<◌, ◌≤◌, ◌++◌, length, take, drop}
use Rattle.std.specs.Io.KnownBytes.{Appends, Consumes, IsAtEnd, Keeps}

-- a buffer begins with a text, and goes on as before
abbrev pub HasText : List ℕ → List ℕ → List ℕ → Type 0
HasText text old new = new ≡ text ++ drop (length text) old

-- an output has taken some of a text's first bytes, and not all
abbrev pub IsCut : List ℕ → Option (List ℕ) → Option (List ℕ) → Type 0
IsCut text held holds = (n : ℕ) × (n < length text) × Appends held holds (take n text)

-- The first bytes of a buffer were read from an input that had `left` and now `leaves`. Then a read failed, before the buffer was full: the buffer of the text,
-- `old` and now `new`, and the output, which `held` and now `holds`, are as before. Or, all read, a write failed: the buffer has the text of those bytes, and
-- the output is cut.
abbrev pub Unsaid : (List ℕ → List ℕ) → List ℕ → Option (List ℕ) → Option (List ℕ) → List ℕ → List ℕ → Option (List ℕ) → Option (List ℕ) → Type 0
Unsaid text read left leaves old new held holds =
    (n : ℕ) × (n ≤ length read) × Consumes left leaves (take n read)
    × (((n < length read) × (new ≡ old) × Keeps held holds)
    ⊎ ((n < length read → IsAtEnd leaves) × HasText (text (take n read)) old new × IsCut (text (take n read)) held holds))
