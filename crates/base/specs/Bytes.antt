-- Bytes of a number, and the number of bytes, in both orders.
use Rattle.std.specs.Prelude.{List, [], ◌∷◌, ◌++◌, ℕ, zero, suc, ◌+◌, ◌*◌, ◌/◌, ◌%◌}

-- the n low bytes of v, lowest first
unfoldable pub little_endian : ℕ → ℕ → List ℕ
little_endian zero v = []
little_endian (suc n) v = v % 256 ∷ little_endian n (v / 256)

-- the number whose bytes, lowest first, these are
unfoldable pub of_little_endian : List ℕ → ℕ
of_little_endian [] = 0
of_little_endian (b ∷ bs) = b + 256 * of_little_endian bs

-- the n low bytes of v, highest first
unfoldable pub big_endian : ℕ → ℕ → List ℕ
big_endian zero v = []
big_endian (suc n) v = big_endian n (v / 256) ++ (v % 256 ∷ [])

-- the number whose bytes, highest first, these are, after those of v
unfoldable pub of_big_endian_from : ℕ → List ℕ → ℕ
of_big_endian_from v [] = v
of_big_endian_from v (b ∷ bs) = of_big_endian_from (v * 256 + b) bs

-- the number whose bytes, highest first, these are
abbrev pub of_big_endian : List ℕ → ℕ
of_big_endian l = of_big_endian_from 0 l
