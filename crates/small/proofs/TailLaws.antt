-- Laws of a tail's number, read from its last byte to its first. Assumes nothing.
use mathlib.Core.Path.{◌≡◌, refl, ap, ◌∙◌, subst}
use mathlib.Core.List.{List, [], ◌∷◌}
use Prim.Native.Nat.{ℕ, zero, suc, ◌+◌, ◌*◌, ◌%◌, ◌^◌, ◌≤◌, ◌<◌}
use native.Mathlib.Omega.{arith}
use lib.Arith.{digits_lt}
use lib.ListN.{length, get_or, take}
use lib.Pow.{pow-add, pow_pos, pow_mono}
use Rattle.std.specs.List.{fold}
use Rattle.std.proofs.Common.{reverse}
use Rattle.std.specs.Int.Bits.{bit_or}
use Rattle.std.proofs.lemmas.Grind.{fold-append, or_after_shift}
use Rattle.std.proofs.lemmas.List.{reverse-append, take_all}
use Rattle.base.specs.Bytes.{of_little_endian}

-- n bytes give a number below 2^(8n)
pub taken_lt : (n : ℕ) (l : List ℕ) → ((i : ℕ) → get_or l i 0 < 256) → of_little_endian (take n l) < 2 ^ (8 * n)
unfolding of_little_endian
taken_lt zero l h = pow_pos 0
taken_lt (suc n) [] h = pow_pos (8 * suc n)
taken_lt (suc n) (b ∷ l) h =
    let rest : of_little_endian (take n l) < 2 ^ (8 * n) = taken_lt n l (λ i. h (suc i)) in
    let e : 8 * suc n ≡ 8 * n + 8 = omega arith in
    rw (e, pow-add) (omega (arith, digits_lt rest (h 0)))

-- a byte put below a word, as words are shifted
abbrev pub put_below : ℕ → ℕ → ℕ
put_below t b = bit_or (t * 2 ^ 8 % 2 ^ 64) b

-- eight bytes or fewer, from the last on
pub tail_folded : (s : List ℕ) → length s ≤ 8 → ((i : ℕ) → get_or s i 0 < 256) → fold put_below 0 (reverse s) ≡ of_little_endian s
unfolding of_little_endian
tail_folded [] few bytes = refl
tail_folded (b ∷ l) few bytes =
    let v : ℕ = of_little_endian l in
    let under : v < 2 ^ (8 * length l) = subst (λ (k : List ℕ). of_little_endian k < 2 ^ (8 * length l)) (take_all (length l) l (omega arith)) (taken_lt (length l) l (λ i. bytes (suc i))) in
    let room : v * 256 < 2 ^ 64 = omega (arith, pow_mono {i = 8 * length l} {j = 56} (omega arith)) in
    ap (fold put_below 0) (reverse-append (b ∷ []) l)
    ∙ fold-append put_below 0 (reverse l) (b ∷ [])
    ∙ ap (λ (t : ℕ). put_below t b) (tail_folded l (omega arith) (λ i. bytes (suc i)))
    ∙ or_after_shift v 256 (2 ^ 64) b refl (bytes 0) room
    ∙ omega arith
