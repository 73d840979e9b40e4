-- Laws of verdict bytes. Assumes nothing.
use mathlib.Core.Path.{◌≡◌, sym, ap, ap₂, ◌∙◌}
use mathlib.Core.Bool.{Bool, true, false, ◌&&◌, ◌||◌}
use Prim.Native.Nat.{ℕ, suc, ◌+◌, ◌-◌, ◌*◌, ◌/◌, ◌%◌, ◌^◌, ◌≤◌, ◌<◌}
use native.Mathlib.Omega.{arith}
use native.Mathlib.Nat.{mod-lt, pow-suc}
use lib.Bits.{bit_xor, xor_block, xor_self, xor_zero_r}
use lib.Count.{count_leading_zeros, leading_length, leading_unique, leading_le, leading_top}
use lib.Dec.{leb, ltb, eqb, lit<}
use borrow.Author.Tests.{le-leb, lt-leb, eq-eqb, ne_eqb, eqb-false}
use lib.Pow.{pow_pos, pow_mono}
use Rattle.base.proofs.Test.{by_test}
use Rattle.decide.specs.declared.verdict.Outcome.TheVariants as O
use Rattle.decide.specs.Verdict.{legal_verdict, first_point, undecided_outcome, verdict_outcome, outcome_of, cost_of, area_of}

-- zeros above count as leading ones
pub leading_wider : (k j r : ℕ) → r < 2 ^ k → count_leading_zeros (k + j) r ≡ count_leading_zeros k r + j
leading_wider k j r h =
    let s = leading_length k r h in
    sym (leading_unique (k + j) r (count_leading_zeros k r + j) s.0 (omega (arith, s.1)) s.2 s.3)

-- 0x60 takes result and area bit of an undecided verdict with a sample area away
pub xor_points : (v : ℕ) → v / 32 ≡ 3 → bit_xor v 0x60 ≡ v % 32
xor_points v e =
    let d : v ≡ 3 * 2 ^ 5 + v % 32 = omega arith in
    let l : v % 32 < 2 ^ 5 = mod-lt v (lit< tt) in
    ap (λ (n : ℕ). bit_xor n 0x60) d ∙ xor_block 5 3 3 (v % 32) 0 l (lit< tt)
    ∙ ap₂ (λ (m n : ℕ). m * 2 ^ 5 + n) (xor_self 3) (xor_zero_r (v % 32)) ∙ omega arith

-- the leading zeros of the xor are the point's place and two more
pub place_of_first : (v : ℕ) → v / 32 ≡ 3 → count_leading_zeros 8 (bit_xor v 0x60) ≡ first_point v + 2
unfolding first_point
place_of_first v e = rw (xor_points v e) (leading_wider 5 3 (v % 32) (mod-lt v (lit< tt)) ∙ omega arith)

pub place_small : (v : ℕ) → first_point v ≤ 6
unfolding first_point
place_small v = omega (arith, leading_le 5 (v % 32))

-- WHICH ARE LEGAL, by the child's level

pub legal_above : (rank v : ℕ) → 48 ≤ rank → (ltb (v / 64) 3 && eqb (v % 64) 0) ≡ legal_verdict rank v
unfolding legal_verdict
legal_above rank v h = rw (le-leb 48 rank h)

pub legal_below : (rank v : ℕ) → rank < 48
    → (ltb (v / 64) 3 && (eqb (v % 32) 0 || (eqb (v / 64) 1 && eqb (v / 32 % 2) 1))) ≡ legal_verdict rank v
unfolding legal_verdict
legal_below rank v h = rw (lt-leb 48 rank h)

-- WHAT BECOMES OF A CHILD

pub undecided_found : (v n : ℕ) → (v / 32 % 2 ≡ 0 → ⊥) → (v % 32 ≡ 0 → ⊥) → n ≡ first_point v → O.Point n ≡ undecided_outcome v
unfolding undecided_outcome
undecided_found v n e f g = rw (eq-eqb (v / 32 % 2) 1 (omega arith), ne_eqb (v % 32) 0 f, g)

-- THE POINTS

-- a point bit that is set stands at one of five places
pub place_of_five : (v : ℕ) → (v % 32 ≡ 0 → ⊥) → first_point v ≤ 5
unfolding first_point
place_of_five v h = let t = leading_top 5 (v % 32) (omega arith) (mod-lt v (lit< tt)) in omega (arith, t.1)

-- bits after the first that is set play no part: r is whatever they say
pub later_points : (place left r : ℕ) → place + left ≡ 5 → 0 < place → r < 2 ^ left
    → undecided_outcome (96 + (2 ^ left + r)) ≡ O.Point place
unfolding first_point
later_points place left r e p h =
    let l : 2 ^ left ≤ 2 ^ 4 = pow_mono {i = left} {j = 4} (omega arith) in
    let z = pow_pos left in
    let d = pow-suc 2 left in
    let m : (96 + (2 ^ left + r)) % 32 ≡ 2 ^ left + r = omega arith in
    let a : (96 + (2 ^ left + r)) / 32 ≡ 3 = omega arith in
    let o : (96 + (2 ^ left + r)) / 32 % 2 ≡ 1 = rw a in
    let n : place ≡ count_leading_zeros 5 ((96 + (2 ^ left + r)) % 32) + 1 =
    rw m (omega (arith, leading_unique 5 (2 ^ left + r) (place - 1) (suc left) (omega arith) (omega arith) (omega arith))) in
    sym (undecided_found (96 + (2 ^ left + r)) place (λ q. omega arith) (λ q. omega arith) n)

-- THE COST

cost_undecided : (v : ℕ) → cost_of (undecided_outcome v) ≤ 6
unfolding undecided_outcome
cost_undecided v =
    by_test (λ o. cost_of o ≤ 6) (area_of v) _ _
    (λ a. by_test (λ o. cost_of o ≤ 6) (eqb (v % 32) 0) _ _ (λ e. omega arith) (λ e. omega (arith, place_of_five v (eqb-false (v % 32) 0 e))))
    (λ a. omega arith)

-- a child costs six evaluations at most: one for itself and five points
pub cost_of_child : (rank v : ℕ) (all : Bool) → cost_of (outcome_of rank v all) ≤ 6
unfolding verdict_outcome
cost_of_child rank v true = omega arith
cost_of_child rank v false =
    by_test (λ o. cost_of o ≤ 6) (eqb (v / 64) 0) _ _ (λ e. omega arith)
    (λ e. by_test (λ o. cost_of o ≤ 6) (eqb (v / 64) 1) _ _ (λ f. cost_undecided v)
    (λ f. by_test (λ o. cost_of o ≤ 6) (leb 48 rank || area_of v) _ _ (λ g. omega arith) (λ g. omega arith)))
