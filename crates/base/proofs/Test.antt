-- Laws of tests: what holds of a choice by what its test says. Assumes nothing.
use mathlib.Core.Path.{◌≡◌, refl, sym, ap, ◌∙◌}
use mathlib.Core.Logic.{◌⊎◌, inl, inr}
use mathlib.Core.Bool.{Bool, true, false, cond, ◌&&◌, ◌||◌, beq, true≢false, false≢true}
use Prim.Native.Nat.{ℕ, ◌≤◌, ◌<◌}
use lib.Dec.{T, leb, ltb}
use borrow.Author.Tests.{leb-true, leb-false, ltb-true, ltb-false}

-- a test as a type and as an equation
pub T→≡ : (b : Bool) → T b → b ≡ true
T→≡ true t = refl
T→≡ false t = absurd t

pub ≡→T : {b : Bool} → b ≡ true → T b
≡→T e = rw e tt

pub ¬T→≡ : (b : Bool) → (T b → ⊥) → b ≡ false
¬T→≡ true h = absurd (h tt)
¬T→≡ false h = refl

-- a test has one of two answers
pub cases : {P : Type 0} (t : Bool) → (t ≡ true → P) → (t ≡ false → P) → P
cases true f g = f refl
cases false f g = g refl

-- what holds of both answers, each under its test, holds of the one that is chosen
pub by_test : {A : Type 0} (P : A → Type 0) (t : Bool) (a b : A) → (t ≡ true → P a) → (t ≡ false → P b) → P (cond t a b)
by_test P true a b f g = f refl
by_test P false a b f g = g refl

pub by_leb : {A : Type 0} (P : A → Type 0) (m n : ℕ) (a b : A) → (m ≤ n → P a) → (n < m → P b) → P (cond (leb m n) a b)
by_leb P m n a b f g = by_test P (leb m n) a b (λ e. f (leb-true m n e)) (λ e. g (leb-false m n e))

pub by_ltb : {A : Type 0} (P : A → Type 0) (m n : ℕ) (a b : A) → (m < n → P a) → (n ≤ m → P b) → P (cond (ltb m n) a b)
by_ltb P m n a b f g = by_test P (ltb m n) a b (λ e. f (ltb-true m n e)) (λ e. g (ltb-false m n e))

-- the choice, where the test is known
pub cond_yes : {A : Type 0} (t : Bool) (a b : A) → t ≡ true → cond t a b ≡ a
cond_yes t a b e = ap (λ (u : Bool). cond u a b) e

pub cond_no : {A : Type 0} (t : Bool) (a b : A) → t ≡ false → cond t a b ≡ b
cond_no t a b e = ap (λ (u : Bool). cond u a b) e

-- both tests of a conjunction, and back
pub and_left : (a b : Bool) → a && b ≡ true → a ≡ true
and_left true b e = refl
and_left false b e = absurd (false≢true e)

pub and_right : (a b : Bool) → a && b ≡ true → b ≡ true
and_right true b e = e
and_right false b e = absurd (false≢true e)

pub and_both : (a b : Bool) → a ≡ true → b ≡ true → a && b ≡ true
and_both a b p q = ap (λ (u : Bool). u && b) p ∙ q

-- of six in a row
pub and_six : (a b c d e f : Bool) → a && b && c && d && e && f ≡ true → (a ≡ true) × (b ≡ true) × (c ≡ true) × (d ≡ true) × (e ≡ true) × (f ≡ true)
and_six a b c d e f t =
    let t5 = and_left (a && b && c && d && e) f t in
    let t4 = and_left (a && b && c && d) e t5 in
    let t3 = and_left (a && b && c) d t4 in
    let t2 = and_left (a && b) c t3 in
    (and_left a b t2, and_right a b t2, and_right (a && b) c t3, and_right (a && b && c) d t4, and_right (a && b && c && d) e t5, and_right (a && b && c && d && e) f t)

-- a test that the other implies adds nothing
pub and_implied : (a b : Bool) → (a ≡ true → b ≡ true) → a && b ≡ a
and_implied true b h = h refl
and_implied false b h = refl

-- a disjunction, by its second test; by which of the two; and where neither holds
pub or_right : (a b : Bool) → b ≡ true → a || b ≡ true
or_right true b e = refl
or_right false b e = e

pub or_parts : (a b : Bool) → a || b ≡ true → (a ≡ true) ⊎ (b ≡ true)
or_parts true b e = inl refl
or_parts false b e = inr e

pub or_neither : (a b : Bool) → a || b ≡ false → (a ≡ false) × (b ≡ false)
or_neither true b e = absurd (true≢false e)
or_neither false b e = (refl, e)

-- two equal tests
pub beq_true : (a b : Bool) → beq a b ≡ true → a ≡ b
beq_true true true e = refl
beq_true true false e = absurd (false≢true e)
beq_true false true e = absurd (false≢true e)
beq_true false false e = refl

pub beq_self : (a : Bool) → beq a a ≡ true
beq_self true = refl
beq_self false = refl

-- the same, as types
pub both_of : (a b : Bool) → T (a && b) → T a × T b
both_of true b h = (tt, h)
both_of false b h = absurd h

pub of_both : (a b : Bool) → T a → T b → T (a && b)
of_both true b h k = k
of_both false b h k = h

pub of_left : (a b : Bool) → T a → T (a || b)
of_left true b h = h
of_left false b h = absurd h

pub of_right : (a b : Bool) → T b → T (a || b)
of_right true b h = tt
of_right false b h = h

pub either_of : {P : Type 0} (a b : Bool) → (T a → P) → (T b → P) → T (a || b) → P
either_of true b f g h = f h
either_of false b f g h = g h

-- two tests that follow from each other are one
pub both_ways : (a b : Bool) → (a ≡ true → b ≡ true) → (b ≡ true → a ≡ true) → a ≡ b
both_ways true b f g = sym (f refl)
both_ways false true f g = g refl
both_ways false false f g = refl

pub same_tests : (a b : Bool) → (T a → T b) → (T b → T a) → a ≡ b
same_tests a b f g = both_ways a b (λ e. T→≡ b (f (≡→T e))) (λ e. T→≡ a (g (≡→T e)))
