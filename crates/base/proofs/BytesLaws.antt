-- Laws of bytes: what is written in a number of bytes is read back. Assumes nothing.
use mathlib.Core.Path.{◌≡◌, refl, ap, ◌∙◌}
use mathlib.Core.List.{List, [], ◌∷◌, ◌++◌}
use Prim.Native.Nat.{ℕ, zero, suc, ◌+◌, ◌*◌, ◌/◌, ◌%◌, ◌^◌, ◌<◌}
use native.Mathlib.Omega.{arith}
use lib.Arith.{digits_lt}
use lib.Pow.{pow-add}
use lib.ListN.{length, get_or, take, length-append}
use lib.Seq.{take-suc}
use native.Mathlib.Numerals.{add-one}
use Rattle.base.specs.Bytes.{little_endian, of_little_endian, big_endian, of_big_endian_from, of_big_endian}

pub length_little : (n v : ℕ) → length (little_endian n v) ≡ n
unfolding little_endian
length_little zero v = refl
length_little (suc n) v = ap suc (length_little n (v / 256))

pub length_big : (n v : ℕ) → length (big_endian n v) ≡ n
unfolding big_endian
length_big zero v = refl
length_big (suc n) v = simp (length-append, length_big n (v / 256)) (omega arith)

pub little_round : (n v : ℕ) → v < 2 ^ (8 * n) → of_little_endian (little_endian n v) ≡ v
unfolding little_endian of_little_endian
little_round zero v h = omega arith
little_round (suc n) v h =
    let e : 8 * suc n ≡ 8 * n + 8 = omega arith in
    let g : v < 2 ^ (8 * n) * 256 = rw (e, pow-add) at h in
    rw (little_round n (v / 256) (omega arith)) (omega arith)

from_append : (v : ℕ) (l m : List ℕ) → of_big_endian_from v (l ++ m) ≡ of_big_endian_from (of_big_endian_from v l) m
unfolding of_big_endian_from
from_append v [] m = refl
from_append v (b ∷ l) m = from_append (v * 256 + b) l m

-- one byte more behind
pub big_more : (l : List ℕ) (j : ℕ) → j < length l → of_big_endian (take (j + 1) l) ≡ of_big_endian (take j l) * 256 + get_or l j 0
unfolding of_big_endian_from
big_more l j h = rw (add-one, take-suc l j 0) (from_append 0 (take j l) (get_or l j 0 ∷ []))

-- a number of k bytes and a byte behind them
pub big_lt : (k v b : ℕ) → v < 2 ^ (8 * k) → b < 256 → v * 256 + b < 2 ^ (8 * (k + 1))
big_lt k v b h g =
    let e : 8 * (k + 1) ≡ 8 * k + 8 = omega arith in
    rw (e, pow-add) (digits_lt h g)

pub big_round : (n v : ℕ) → v < 2 ^ (8 * n) → of_big_endian (big_endian n v) ≡ v
unfolding big_endian of_big_endian_from
big_round zero v h = omega arith
big_round (suc n) v h =
    let e : 8 * suc n ≡ 8 * n + 8 = omega arith in
    let g : v < 2 ^ (8 * n) * 256 = rw (e, pow-add) at h in
    from_append 0 (big_endian n (v / 256)) (v % 256 ∷ [])
    ∙ rw (big_round n (v / 256) (omega arith)) (omega arith)
