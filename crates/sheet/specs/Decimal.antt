-- Numbers as text.
use Rattle.std.specs.Prelude.{cond, List, [], ◌∷◌, ℕ, zero, suc, ◌+◌, ◌/◌, ◌%◌, ◌^◌, ltb}

-- the decimal digit of n at a place, counted from the lowest, as a character
abbrev pub digit_at : ℕ → ℕ → ℕ
digit_at n k = 48 + n / 10 ^ k % 10

-- the digits at the k lowest places, the highest first
unfoldable pub digits_below : ℕ → ℕ → List ℕ
digits_below zero n = []
digits_below (suc k) n = digit_at n k ∷ digits_below k n

-- the least k with n < 10^k, from k on, of so many tries
unfoldable pub places_from : ℕ → ℕ → ℕ → ℕ
places_from zero k n = k
places_from (suc tries) k n = cond (ltb n (10 ^ k)) k (places_from tries (k + 1) n)

-- how many digits n has: one at least, and 20 for the largest 64-bit numbers
abbrev pub digit_count : ℕ → ℕ
digit_count n = places_from 19 1 n

-- a 64-bit number in decimal
unfoldable pub decimal_text : ℕ → List ℕ
decimal_text n = digits_below (digit_count n) n
