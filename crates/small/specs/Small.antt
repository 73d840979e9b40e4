-- Document 01, "Small numbers": the code of a number x is a head byte and z tail bytes.
-- The head holds the low 7 - z bits of x, then a 1, then z zeros; the tail holds the rest of x, lowest byte first.
--
--    z  x up to            head bits  x bits in head  x bits in tail
--    0  0x7f               xxxxxxx1   0 to 6          none
--    1  0x3fff             xxxxxx10   0 to 5          6 to 13
--    2  0x1fffff           xxxxx100   0 to 4          5 to 20
--    3  0xfffffff          xxxx1000   0 to 3          4 to 27
--    4  0x7ffffffff        xxx10000   0 to 2          3 to 34
--    5  0x3ffffffffff      xx100000   0 and 1         2 to 41
--    6  0x1ffffffffffff    x1000000   0               1 to 48
--    7  0xffffffffffffff   10000000   none            0 to 55
use Rattle.std.specs.Prelude.{cond, Result, Ok, Err, List, [], ◌∷◌, ℕ, ◌+◌, ◌-◌, ◌*◌, ◌/◌, ◌%◌, ◌^◌, leb, ltb, eqb, length, take}
use Rattle.std.specs.Int.Count.{count_trailing_zeros}
use Rattle.base.specs.Bytes.{little_endian, of_little_endian}
use Rattle.refusal.specs.declared.Refusal.{Refusal}
use Rattle.refusal.specs.declared.Refusal.TheVariants as R
use Rattle.small.specs.declared.Code.{Code}
use Rattle.small.specs.declared.Number.{Number}

-- document 01's head byte for z tail bytes: x with a 1 below it, moved up by z, cut to a byte
abbrev pub head_byte : ℕ → ℕ → ℕ
head_byte z x = ((2 * x + 1) * 2 ^ z) % 256

-- document 01's tail: x without the 7 - z bits that the head has room for
abbrev pub tail_number : ℕ → ℕ → ℕ
tail_number z x = x / 2 ^ (7 - z)

-- how the writer picks z: the eight ranges of document 01 by their last numbers, and 9 past them all
unfoldable pub tail_of : ℕ → Result ℕ Refusal
tail_of x =
    cond (leb x 0x7f) (Ok 0)
    (cond (leb x 0x3fff) (Ok 1)
    (cond (leb x 0x1fffff) (Ok 2)
    (cond (leb x 0xfffffff) (Ok 3)
    (cond (leb x 0x7ffffffff) (Ok 4)
    (cond (leb x 0x3ffffffffff) (Ok 5)
    (cond (leb x 0x1ffffffffffff) (Ok 6)
    (cond (leb x 0xffffffffffffff) (Ok 7)
    (Err R.TooLarge))))))))

-- the code with z tail bytes, once z is picked
abbrev pub code_with : ℕ → Result ℕ Refusal → Result Code Refusal
code_with x (Ok z) = Ok (record { head = head_byte z x; tail = tail_number z x; count = z })
code_with x (Err r) = Err r

-- what the writer answers for x
unfoldable pub code_of : ℕ → Result Code Refusal
code_of x = code_with x (tail_of x)

-- the bytes of a code: the head, then the tail from its lowest byte; none where there is no code
abbrev pub code_bytes : Result Code Refusal → List ℕ
code_bytes (Ok c) = c.head ∷ little_endian c.count c.tail
code_bytes (Err r) = []

-- the bytes that the writer gives x, below 2^56 the fewest
unfoldable pub small_code : ℕ → List ℕ
small_code x = code_bytes (code_of x)

-- the bytes of x with z tail bytes, where fewer might do: the reader takes these too
unfoldable pub long_code : ℕ → ℕ → List ℕ
long_code z x = code_bytes (code_with x (Ok z))

-- what this head says with the bytes behind it: 10 if there are fewer than z, else the number that z of them and the head hold
unfoldable pub read_behind : ℕ → ℕ → List ℕ → Result Number Refusal
read_behind head z rest =
    cond (ltb (length rest) z) (Err R.EndsEarly)
    (Ok (record { x = head / 2 ^ (z + 1) + of_little_endian (take z rest) * 2 ^ (7 - z); count = z + 1 }))

-- what the reader answers: 10 without a head, 11 for a head of 0 whatever follows, else by z, the zeros at the head's low end
unfoldable pub read_small : List ℕ → Result Number Refusal
read_small [] = Err R.EndsEarly
read_small (head ∷ rest) = cond (eqb head 0) (Err R.HeadZero) (read_behind head (count_trailing_zeros 8 head) rest)
