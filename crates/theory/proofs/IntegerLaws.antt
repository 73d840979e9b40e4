-- The integers in order: nothing lies between a number and the next. Assumes nothing.
use mathlib.Core.Path.{◌≡◌, ap}
use mathlib.Core.Logic.{◌⊎◌, inl, inr, ⊎_elim}
use Prim.Native.Nat.{ℕ, zero, suc, ◌<◌}
use native.Mathlib.Decide.{dec_lt}
use native.Mathlib.Omega.{arith}
use lib.Dec.{T, leb→le, ltb→lt, le→leb, lt→ltb}
use lib.IntN.{ℤ, pos, negsuc, suc_ℤ}
use lib.Signed.{le_z, lt_z, ◌≤ℤ◌, ◌<ℤ◌, <ℤ-≤ℤ_trans, <ℤ_irrefl}
use Rattle.base.proofs.Test.{both_of}
use Rattle.theory.specs.Cuts.{same_integer}

three : (a b : ℕ) → (a < b) ⊎ ((a ≡ b) ⊎ (b < a))
three a b = elim (dec_lt a b) [ yes k ↦ inl k | no k ↦ elim (dec_lt b a) [ yes l ↦ inr (inr l) | no l ↦ inr (inl (omega arith)) ] ]

less : {a b : ℤ} → T (lt_z a b) → a <ℤ b
less t = record { lt = t }

pub compare : (a b : ℤ) → (a <ℤ b) ⊎ ((a ≡ b) ⊎ (b <ℤ a))
compare (pos a) (pos b) = ⊎_elim (λ h. inl (less (lt→ltb a b h))) (⊎_elim (λ e. inr (inl (ap pos e))) (λ h. inr (inr (less (lt→ltb b a h))))) (three a b)
compare (pos a) (negsuc b) = inr (inr (less tt))
compare (negsuc a) (pos b) = inl (less tt)
compare (negsuc a) (negsuc b) = ⊎_elim (λ h. inr (inr (less (lt→ltb a b h)))) (⊎_elim (λ e. inr (inl (ap negsuc e))) (λ h. inl (less (lt→ltb b a h))))
    (three a b)

pub equal_or_less : (a b : ℤ) → a ≤ℤ b → (a ≡ b) ⊎ (a <ℤ b)
equal_or_less a b h = ⊎_elim (λ l. inr l) (⊎_elim (λ e. inl e) (λ l. absurd (<ℤ_irrefl (<ℤ-≤ℤ_trans l h)))) (compare a b)

below : (a b : ℤ) → T (lt_z a b) → T (le_z a b)
below (pos a) (pos b) t = let h = ltb→lt a b t in le→leb a b (omega arith)
below (pos a) (negsuc b) t = t
below (negsuc a) (pos b) t = tt
below (negsuc a) (negsuc b) t = let h = ltb→lt b a t in le→leb b a (omega arith)

pub less_trans : {a b c : ℤ} → a <ℤ b → b <ℤ c → a <ℤ c
less_trans {a} {b} {c} h k = <ℤ-≤ℤ_trans h (record { le = below b c k.lt })

pub less_next : (a : ℤ) → a <ℤ suc_ℤ a
less_next (pos a) = less (lt→ltb a (suc a) (omega arith))
less_next (negsuc zero) = less tt
less_next (negsuc (suc a)) = less (lt→ltb a (suc a) (omega arith))

no_gap : (a x : ℤ) → T (lt_z a x) → T (lt_z x (suc_ℤ a)) → ⊥
no_gap (pos a) (pos x) h k = let l = ltb→lt a x h in let m = ltb→lt x (suc a) k in omega arith
no_gap (pos a) (negsuc x) h k = h
no_gap (negsuc zero) (pos x) h k = let m = ltb→lt x 0 k in omega arith
no_gap (negsuc zero) (negsuc x) h k = let l = ltb→lt x 0 h in omega arith
no_gap (negsuc (suc a)) (pos x) h k = k
no_gap (negsuc (suc a)) (negsuc x) h k = let l = ltb→lt x (suc a) h in let m = ltb→lt a x k in omega arith

pub none_between : (a x : ℤ) → a <ℤ x → ¬ (x <ℤ suc_ℤ a)
none_between a x h k = no_gap a x h.lt k.lt

pub same_integer_lem : (a b : ℤ) → T (same_integer a b) → a ≡ b
same_integer_lem a b t = go a b (both_of (le_z a b) (le_z b a) t)
  where
    go : (a b : ℤ) → T (le_z a b) × T (le_z b a) → a ≡ b
    go (pos a) (pos b) h = let l = leb→le a b h.0 in let m = leb→le b a h.1 in ap pos (omega arith)
    go (pos a) (negsuc b) h = absurd h.0
    go (negsuc a) (pos b) h = absurd h.1
    go (negsuc a) (negsuc b) h = let l = leb→le b a h.0 in let m = leb→le a b h.1 in ap negsuc (omega arith)
