-- Laws of sums over a list, of a list with some members left out, and of what holds of every member and of some. Assumes nothing.
use mathlib.Core.Path.{◌≡◌, refl, ap}
use mathlib.Core.Logic.{inl, inr}
use mathlib.Core.List.{List, [], ◌∷◌, ◌++◌, map, Sublistᴰ}
use Prim.Native.Nat.{ℕ, ◌+◌, ◌≤◌}
use native.Mathlib.Omega.{arith}
use Rattle.base.specs.Lists.{Every, Some}
use Rattle.theory.specs.Levels.{sum_over}

module _ {A : Type 0} where
  pub sum_append : (f : A → ℕ) (l r : List A) → sum_over f (l ++ r) ≡ sum_over f l + sum_over f r
  unfolding sum_over
  sum_append f [] r = omega arith
  sum_append f (a ∷ l) r = let h = sum_append f l r in omega arith

  pub sum_same : (f g : A → ℕ) (l : List A) → Every (λ a. f a ≡ g a) l → sum_over f l ≡ sum_over g l
  unfolding sum_over
  sum_same f g [] h = refl
  sum_same f g (a ∷ l) h = let r = sum_same f g l h.1 in omega (arith, h.0)

  -- what is left when some members are left out
  pub fewer_sum : {l r : List A} (f : A → ℕ) → Sublistᴰ l r → sum_over f l ≤ sum_over f r
  unfolding sum_over
  fewer_sum f Sublistᴰ.slnil = omega arith
  fewer_sum f (Sublistᴰ.cons h) = let r = fewer_sum f h in omega arith
  fewer_sum f (Sublistᴰ.cons-cons e h) = let r = fewer_sum f h in omega (arith, ap f e)

  pub fewer_every : {l r : List A} (P : A → Type 0) → Sublistᴰ l r → Every P r → Every P l
  fewer_every P Sublistᴰ.slnil k = tt
  fewer_every P (Sublistᴰ.cons h) k = fewer_every P h k.1
  fewer_every P (Sublistᴰ.cons-cons e h) k = (rw e k.0, fewer_every P h k.1)

  -- ---- every member, and some member

  pub every_right : (P : A → Type 0) (l r : List A) → Every P (l ++ r) → Every P r
  every_right P [] r h = h
  every_right P (a ∷ l) r h = every_right P l r h.1

  pub every_left : (P : A → Type 0) (l r : List A) → Every P (l ++ r) → Every P l
  every_left P [] r h = tt
  every_left P (a ∷ l) r h = (h.0, every_left P l r h.1)

  pub some_with : (P Q R : A → Type 0) (l : List A) → ((a : A) → P a → Q a → R a) → Every P l → Some Q l → Some R l
  unfolding Some
  some_with P Q R [] f h k = k
  some_with P Q R (a ∷ l) f h (inl k) = inl (f a h.0 k)
  some_with P Q R (a ∷ l) f h (inr k) = inr (some_with P Q R l f h.1 k)

  pub none_with : (P Q : A → Type 0) (l : List A) → ((a : A) → P a → ¬ Q a) → Every P l → ¬ Some Q l
  unfolding Some
  none_with P Q [] f h k = k
  none_with P Q (a ∷ l) f h (inl k) = f a h.0 k
  none_with P Q (a ∷ l) f h (inr k) = none_with P Q l f h.1 k

pub some_of_map : {A B : Type 0} (P : B → Type 0) (f : A → B) (l : List A) → Some P (map f l) → Some (λ a. P (f a)) l
unfolding Some
some_of_map P f [] h = h
some_of_map P f (a ∷ l) (inl h) = inl h
some_of_map P f (a ∷ l) (inr h) = inr (some_of_map P f l h)
