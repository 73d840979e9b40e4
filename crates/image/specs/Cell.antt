-- The meaning of a cell: document 01, "Picture and step". All that is done to cells, read of them and counted is defined on meanings;
-- the 64-bit codes stand in `true_code`, `given_up_code`, `cell_code` and `meaning_of` alone.
--
--   code                 meaning     sentence
--   0 to 4294967295      Named n     the last queued block that covers the pixel has the number n
--   4294967296           Marked      True: the pixel holds a solution
--   4294967297           GivenUp     no block is left that could be cut further
--   larger               Other n     damage: no picture holds it
--
--             a covering block is queued (Name, Fill)
--                  ┌────────┐
--                  ▼        │         no direction left (GiveUp)
--   setup ──────► Named ────┴──────────────────────────────► GivenUp
--                  │                                           │  ▲
--                  │ solution found (Mark)      Mark           ▼  │ GiveUp, within a step
--                  └──────────────────────────────────────► Marked
use Rattle.std.specs.Prelude.{Bool, true, false, not, cond, List, [], ◌∷◌, map, ℕ, ◌+◌, ◌*◌, ◌/◌, leb, ltb, eqb}
use Rattle.image.specs.declared.Op.{Op}
use Rattle.image.specs.declared.Op.TheVariants as O
use Rattle.image.specs.declared.CellKind.{CellKind}
use Rattle.image.specs.declared.CellKind.TheVariants as K
use Rattle.image.specs.declared.Reading.{Reading}
use Rattle.image.specs.declared.Reading.TheVariants as R
use Rattle.image.specs.declared.CellTally.{CellTally}

-- what stands in a cell: the table's four meanings
pub data Cell : Type 0 where
  Named : ℕ → Cell
  Marked : Cell
  GivenUp : Cell
  Other : ℕ → Cell

-- the code of True, above all numbers of blocks
abbrev pub true_code : ℕ
true_code = 4294967296

-- the code of what is given up
abbrev pub given_up_code : ℕ
given_up_code = 4294967297

-- from a meaning to its code
unfoldable pub cell_code : Cell → ℕ
cell_code (Named n) = n
cell_code Marked = true_code
cell_code GivenUp = given_up_code
cell_code (Other n) = n

-- and back: the table, read from the top
unfoldable pub meaning_of : ℕ → Cell
meaning_of n = cond (ltb n true_code) (Named n) (cond (eqb n true_code) Marked (cond (eqb n given_up_code) GivenUp (Other n)))

-- a number that a block can have
abbrev pub is_number : ℕ → Bool
is_number n = ltb n true_code

-- the meanings of lent cells
abbrev pub meanings : List ℕ → List Cell
meanings l = map meaning_of l

-- the codes of meanings, as they are lent
abbrev pub codes : List Cell → List ℕ
codes l = map cell_code l

-- what is done to a cell: a marked pixel is True; a queued block takes over the cells that name the taken block (from) or a later one;
-- giving up spares nothing, not even True; and a new picture's cells all name one block
unfoldable pub done_to : Op → Cell → Cell
done_to O.Mark c = Marked
done_to (O.Name from to) (Named n) = cond (leb from n) (Named to) (Named n)
done_to (O.Name from to) Marked = Marked
done_to (O.Name from to) GivenUp = GivenUp
done_to (O.Name from to) (Other n) = Other n
done_to O.GiveUp c = GivenUp
done_to (O.Fill to) c = Named to

-- what a block is to be named is a block's number
unfoldable pub nameable : Op → Bool
nameable O.Mark = true
nameable (O.Name from to) = is_number to
nameable O.GiveUp = true
nameable (O.Fill to) = is_number to

-- what a cell reads: the block that it names has been taken, and so it is False, or is still to come; what is given up stays Uncertain, and
-- damage decides nothing
unfoldable pub reading : ℕ → Cell → Reading
reading taken (Named n) = cond (leb taken n) R.Uncertain R.False
reading taken Marked = R.True
reading taken GivenUp = R.Uncertain
reading taken (Other n) = R.Uncertain

-- the bytes of a picture buffer
abbrev pub byte_of : Reading → ℕ
byte_of R.False = 0
byte_of R.Uncertain = 1
byte_of R.True = 2

-- the byte of a cell's code
abbrev pub shown_byte : ℕ → ℕ → ℕ
shown_byte taken n = byte_of (reading taken (meaning_of n))

-- the characters of a printed row: . ? #
abbrev pub character_of : Reading → ℕ
character_of R.False = 46
character_of R.Uncertain = 63
character_of R.True = 35

-- is the cell True?
unfoldable pub is_marked : Cell → Bool
is_marked (Named n) = false
is_marked Marked = true
is_marked GivenUp = false
is_marked (Other n) = false

-- is it given up?
unfoldable pub is_given_up : Cell → Bool
is_given_up (Named n) = false
is_given_up Marked = false
is_given_up GivenUp = true
is_given_up (Other n) = false

-- the damage that a block or a picture is refused for
unfoldable pub is_damaged : Cell → Bool
is_damaged (Named n) = false
is_damaged Marked = false
is_damaged GivenUp = false
is_damaged (Other n) = true

-- the cells that are looked for: those that are not True, the given-up ones, the damaged ones
unfoldable pub of_kind : CellKind → Cell → Bool
of_kind K.Unmarked c = not (is_marked c)
of_kind K.GivenUp c = is_given_up c
of_kind K.Damaged c = is_damaged c

-- how many cells of a list pass a test
unfoldable pub count_of : (Cell → Bool) → List Cell → ℕ
count_of test [] = 0
count_of test (c ∷ l) = cond (test c) 1 0 + count_of test l

-- is the reading True?
unfoldable pub is_true : Reading → Bool
is_true R.False = false
is_true R.Uncertain = false
is_true R.True = true

-- is it False?
unfoldable pub is_false : Reading → Bool
is_false R.False = true
is_false R.Uncertain = false
is_false R.True = false

-- is it Uncertain?
unfoldable pub is_uncertain : Reading → Bool
is_uncertain R.False = false
is_uncertain R.Uncertain = true
is_uncertain R.True = false

-- cells by what they read, and those that are given up, which read Uncertain as well
unfoldable pub tallied : ℕ → List Cell → CellTally
tallied taken l = record {
  trues = count_of (λ c. is_true (reading taken c)) l;
  falses = count_of (λ c. is_false (reading taken c)) l;
  uncertain = count_of (λ c. is_uncertain (reading taken c)) l;
  givenup = count_of is_given_up l;
}

-- document 02, (i): the share is 1000 times the settled pixels divided by all pixels, rounded down; of no pixels it is 0
unfoldable pub share_of : ℕ → ℕ → ℕ
share_of settled pixels = 1000 * settled / pixels
