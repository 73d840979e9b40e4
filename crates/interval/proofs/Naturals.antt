-- Facts of natural numbers over variables: the numbers that they are applied to are too large to be computed with. Assumes nothing.
use Rattle.std.proofs.Common.{◌≡◌, ℕ, zero, suc, ◌+◌, ◌-◌, ◌*◌, ◌<◌, ◌≤◌, refl, subst, lt_irrefl, zero-lt-suc, mul-pos, arith}

pub at_most_zero : (a : ℕ) → a ≤ 0 → a ≡ 0
at_most_zero a h = omega arith

pub at_most_pred : (a b : ℕ) → a < b → a ≤ b - 1
at_most_pred a b h = omega arith

pub add_lt : (a b c : ℕ) → b < c → a + b < a + c
add_lt a b c h = omega arith

pub sum_self : (a : ℕ) → a + a ≡ a * 2
sum_self a = omega arith

pub twice_pos : (a : ℕ) → 0 < a → 0 < a * 2
twice_pos a h = omega arith

pub half_less : (a b : ℕ) → a * 2 < b → a < b
half_less a b h = omega arith

pub first_zero : (a b : ℕ) → 0 < b → a * b ≡ 0 → a ≡ 0
first_zero zero b h e = refl
first_zero (suc a) b h e = absurd (lt_irrefl 0 (subst (λ (z : ℕ). 0 < z) e (mul-pos (zero-lt-suc a) h)))
