-- A number as std reads it out of bytes is the number of those bytes.
use Rattle.std.proofs.Common.{◌≡◌, ℕ, ◌+◌, ◌*◌, ◌<◌, List, length, get_or, refl, ap, take, arith}
use Rattle.std.proofs.lemmas.List.{take_all}
use Rattle.std.specs.Int.{w16, w64, from_be_bytes}
use Rattle.base.specs.Bytes.{of_big_endian, of_big_endian_from}
use Rattle.base.proofs.BytesLaws.{big_more}

-- one byte more
more : (bs : List ℕ) (i j : ℕ) → j ≡ i + 1 → i < length bs → of_big_endian (take j bs) ≡ of_big_endian (take i bs) * 256 + get_or bs i 0
more bs i j e h = rw e (big_more bs i h)

none : (bs : List ℕ) → of_big_endian (take 0 bs) ≡ 0
unfolding of_big_endian_from
none bs = refl

all : (n : ℕ) (bs : List ℕ) → length bs ≡ n → of_big_endian (take n bs) ≡ of_big_endian bs
all n bs h = ap of_big_endian (take_all n bs (omega arith))

pub two_bytes : (bs : List ℕ) → length bs ≡ 2 → from_be_bytes w16 bs ≡ of_big_endian bs
two_bytes bs h = omega (arith, none bs, more bs 0 1 refl (omega arith), more bs 1 2 refl (omega arith), all 2 bs h)

pub eight_bytes : (bs : List ℕ) → length bs ≡ 8 → from_be_bytes w64 bs ≡ of_big_endian bs
eight_bytes bs h =
    let from : (i : ℕ) → i < 8 → i < length bs = λ i l. omega arith in
    omega (
      arith,
      none bs,
      more bs 0 1 refl (from 0 (omega arith)),
      more bs 1 2 refl (from 1 (omega arith)),
      more bs 2 3 refl (from 2 (omega arith)),
      more bs 3 4 refl (from 3 (omega arith)),
      more bs 4 5 refl (from 4 (omega arith)),
      more bs 5 6 refl (from 5 (omega arith)),
      more bs 6 7 refl (from 6 (omega arith)),
      more bs 7 8 refl (from 7 (omega arith)),
      all 8 bs h,
    )
