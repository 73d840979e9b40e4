-- Laws of trailing zeros: which z a head byte shows. Assumes nothing.
use mathlib.Core.Path.{◌≡◌, refl, sym, ap, ◌∙◌}
use Prim.Native.Nat.{ℕ, zero, suc, ◌+◌, ◌-◌, ◌*◌, ◌/◌, ◌%◌, ◌^◌, ◌≤◌, ◌<◌, suc-le-suc}
use native.Mathlib.Omega.{arith}
use native.Mathlib.Nat.{pow-suc, zero-lt-suc}
use native.Mathlib.Numerals.{add-one}
use lib.Pow.{shr-shr, shl-shr, mod-mod-pow, field}
use lib.Bits.{shifted_even, shifted_half}
use lib.Count.{count_trailing_zeros, under, trailing_of_zero}
use Rattle.small.specs.Small.{head_byte}

-- a number that is not 0 has fewer trailing zeros than digits
pub zeros_lt : (k n : ℕ) → (n ≡ 0 → ⊥) → n < 2 ^ k → count_trailing_zeros k n < k
unfolding count_trailing_zeros
zeros_lt zero n p h = absurd (p (omega arith))
zeros_lt (suc k) n p h = go (n % 2) refl (λ e. zeros_lt k (n / 2) (λ q. p (omega arith)) (omega (arith, pow-suc 2 k)))
  where
    go : (r : ℕ) → n % 2 ≡ r → (n % 2 ≡ 0 → count_trailing_zeros k (n / 2) < k) → under r (count_trailing_zeros k (n / 2)) < suc k
    go zero e rest = suc-le-suc (rest e)
    go (suc r) e rest = zero-lt-suc k

-- only the k low digits count
zeros_low : (k n : ℕ) → count_trailing_zeros k (n % 2 ^ k) ≡ count_trailing_zeros k n
unfolding count_trailing_zeros
zeros_low zero n = refl
zeros_low (suc k) n =
    let e : n % 2 ^ suc k % 2 ≡ n % 2 = rw add-one at (mod-mod-pow n k 1) in
    let f : n % 2 ^ suc k / 2 ≡ n / 2 % 2 ^ k = rw add-one at (field n k 1) in
    rw (e, f, zeros_low k (n / 2))

-- an odd number times 2^z has z of them
zeros_shifted : (k z m : ℕ) → z < k → count_trailing_zeros k ((2 * m + 1) * 2 ^ z) ≡ z
unfolding count_trailing_zeros
zeros_shifted zero z m h = absurd (omega arith)
zeros_shifted (suc k) zero m h = let e : (2 * m + 1) * 1 % 2 ≡ 1 = omega arith in rw e
zeros_shifted (suc k) (suc z) m h = rw (shifted_even, shifted_half, zeros_shifted k z m (omega arith))

-- a head byte shows the z it was made with
pub head_zeros : (z x : ℕ) → z ≤ 7 → count_trailing_zeros 8 (head_byte z x) ≡ z
head_zeros z x h = zeros_low 8 ((2 * x + 1) * 2 ^ z) ∙ zeros_shifted 8 z x (omega arith)

-- and is not 0
pub head_some : (z x : ℕ) → z ≤ 7 → head_byte z x ≡ 0 → ⊥
head_some z x h e = omega (arith, sym (head_zeros z x h) ∙ ap (count_trailing_zeros 8) e ∙ trailing_of_zero 8)

-- above its zeros and the 1 it holds the low bits of x
pub head_bits : (z x : ℕ) → z ≤ 7 → head_byte z x / 2 ^ (z + 1) ≡ x % 2 ^ (7 - z)
head_bits z x h =
    let w : ℕ = (2 * x + 1) * 2 ^ z in
    let e : 8 ≡ (7 - z) + (z + 1) = omega arith in
    let half : (2 * x + 1) / 2 ≡ x = omega arith in
    let q : w / 2 ^ (z + 1) ≡ x = sym (shr-shr w z 1) ∙ ap (λ (k : ℕ). k / 2) (shl-shr (2 * x + 1) z) ∙ half in
    ap (λ (k : ℕ). w % 2 ^ k / 2 ^ (z + 1)) e ∙ field w (7 - z) (z + 1) ∙ ap (λ (k : ℕ). k % 2 ^ (7 - z)) q
