-- A number xor another, xor that other again, is the number. Assumes nothing.
use mathlib.Core.Path.{◌≡◌, refl, ap, ap₂, ◌∙◌}
use Prim.Native.Nat.{ℕ, zero, suc, ◌+◌, ◌*◌, ◌/◌, ◌%◌, ◌<◌}
use native.Mathlib.Omega.{arith}
use native.Mathlib.Nat.{mod-lt, div-add-mod'}
use lib.Arith.{bin_ind, digits_div, digits_mod}
use lib.Bits.{bit_xor, differ, xor_step, xor_zero_l, xor_zero_r}
use lib.Dec.{lit<}

bit_cases : (P : ℕ → Type 0) (n : ℕ) → n < 2 → P 0 → P 1 → P n
bit_cases P zero h p q = p
bit_cases P (suc zero) h p q = q
bit_cases P (suc (suc n)) h p q = absurd (omega arith)

differ_lt : (a b : ℕ) → a < 2 → b < 2 → differ a b < 2
differ_lt a b h k =
    bit_cases (λ (x : ℕ). differ x b < 2) a h k (bit_cases (λ (y : ℕ). differ 1 y < 2) b k (lit< tt) (lit< tt))

differ_twice : (a b : ℕ) → a < 2 → b < 2 → differ a (differ b a) ≡ b
differ_twice a b h k =
    bit_cases (λ (x : ℕ). differ x (differ b x) ≡ b) a h
    (bit_cases (λ (y : ℕ). differ 0 (differ y 0) ≡ y) b k refl refl)
    (bit_cases (λ (y : ℕ). differ 1 (differ y 1) ≡ y) b k refl refl)

pub xor_cancel : (a b : ℕ) → bit_xor a (bit_xor b a) ≡ b
xor_cancel = bin_ind (λ (a : ℕ). (b : ℕ) → bit_xor a (bit_xor b a) ≡ b)
    (λ b. xor_zero_l (bit_xor b 0) ∙ xor_zero_r b)
    (λ a ih b.
    let two : 0 < 2 = lit< tt in
    let da : a % 2 < 2 = mod-lt a two in
    let db : b % 2 < 2 = mod-lt b two in
    let y : bit_xor b a ≡ bit_xor (b / 2) (a / 2) * 2 + differ (b % 2) (a % 2) = xor_step b a in
    let yh : bit_xor b a / 2 ≡ bit_xor (b / 2) (a / 2) =
    ap (λ (n : ℕ). n / 2) y ∙ digits_div (bit_xor (b / 2) (a / 2)) (differ_lt _ _ db da) in
    let yl : bit_xor b a % 2 ≡ differ (b % 2) (a % 2) =
    ap (λ (n : ℕ). n % 2) y ∙ digits_mod (bit_xor (b / 2) (a / 2)) (differ_lt _ _ db da) in
    xor_step a (bit_xor b a)
    ∙ ap₂ (λ (m n : ℕ). m * 2 + n) (ap (bit_xor (a / 2)) yh ∙ ih (b / 2))
    (ap (differ (a % 2)) yl ∙ differ_twice _ _ da db)
    ∙ div-add-mod' b 2)
