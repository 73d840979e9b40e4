-- Laws of every member of a list, of each pair of members in order, of some member, and of the member at a place. Assumes nothing.
use mathlib.Core.Path.{◌≡◌, refl}
use mathlib.Core.Logic.{inl, inr}
use mathlib.Core.List.{List, [], ◌∷◌, ◌++◌, map}
use Prim.Native.Nat.{ℕ, zero, suc, ◌<◌}
use native.Mathlib.Omega.{arith}
use lib.ListN.{length, get_or}
use Rattle.base.specs.Lists.{Every, Some}

-- ---- every member

module _ {A : Type 0} where
  pub every_all : (P : A → Type 0) → ((a : A) → P a) → (l : List A) → Every P l
  every_all P f [] = tt
  every_all P f (a ∷ l) = (f a, every_all P f l)

  pub every_also : (P Q : A → Type 0) → ((a : A) → P a → Q a) → (l : List A) → Every P l → Every Q l
  every_also P Q f [] h = tt
  every_also P Q f (a ∷ l) h = (f a h.0, every_also P Q f l h.1)

  pub every_both : (P Q R : A → Type 0) → ((a : A) → P a → Q a → R a) → (l : List A) → Every P l → Every Q l → Every R l
  every_both P Q R f [] h k = tt
  every_both P Q R f (a ∷ l) h k = (f a h.0 k.0, every_both P Q R f l h.1 k.1)

  pub every_append : (P : A → Type 0) (l r : List A) → Every P l → Every P r → Every P (l ++ r)
  every_append P [] r h k = k
  every_append P (a ∷ l) r h k = (h.0, every_append P l r h.1 k)

  pub every_of_map : {B : Type 0} (P : B → Type 0) (f : A → B) (l : List A) → Every P (map f l) → Every (λ a. P (f a)) l
  every_of_map P f [] h = tt
  every_of_map P f (a ∷ l) h = (h.0, every_of_map P f l h.1)

  -- each pair, the earlier member first
  abbrev pub Pairs : (A → A → Type 0) → List A → Type 0
  Pairs R [] = Unit {0}
  Pairs R (a ∷ l) = Every (R a) l × Pairs R l

  -- members that all have P are related in pairs where two that have it are
  pub every_pairs : (P : A → Type 0) (R : A → A → Type 0) → ((a b : A) → P a → P b → R a b) → (l : List A) → Every P l → Pairs R l
  every_pairs P R f [] h = tt
  every_pairs P R f (a ∷ l) h = (every_also P (R a) (λ b. f a b h.0) l h.1, every_pairs P R f l h.1)

pub every_map : {A B : Type 0} (P : A → Type 0) (Q : B → Type 0) (g : A → B) → ((a : A) → P a → Q (g a)) → (l : List A) → Every P l → Every Q (map g l)
every_map P Q g f [] h = tt
every_map P Q g f (a ∷ l) h = (f a h.0, every_map P Q g f l h.1)

-- ---- some member

module _ {A : Type 0} where
  pub some_left : (P : A → Type 0) (l r : List A) → Some P l → Some P (l ++ r)
  unfolding Some
  some_left P [] r h = absurd h
  some_left P (a ∷ l) r (inl h) = inl h
  some_left P (a ∷ l) r (inr h) = inr (some_left P l r h)

  pub some_right : (P : A → Type 0) (l r : List A) → Some P r → Some P (l ++ r)
  unfolding Some
  some_right P [] r h = h
  some_right P (a ∷ l) r h = inr (some_right P l r h)

  pub some_mono : (P Q : A → Type 0) (l : List A) → ((a : A) → P a → Q a) → Some P l → Some Q l
  unfolding Some
  some_mono P Q [] f h = h
  some_mono P Q (a ∷ l) f (inl h) = inl (f a h)
  some_mono P Q (a ∷ l) f (inr h) = inr (some_mono P Q l f h)

  pub some_map : {B : Type 0} (P : B → Type 0) (f : A → B) (l : List A) → Some (λ a. P (f a)) l → Some P (map f l)
  unfolding Some
  some_map P f [] h = h
  some_map P f (a ∷ l) (inl h) = inl h
  some_map P f (a ∷ l) (inr h) = inr (some_map P f l h)

-- ---- the member at a place

module _ {A : Type 0} where
  pub map_at : (f : A → ℕ) (l : List A) (i : ℕ) (d : A) → i < length l → get_or (map f l) i 0 ≡ f (get_or l i d)
  map_at f [] i d h = absurd (omega arith)
  map_at f (c ∷ l) zero d h = refl
  map_at f (c ∷ l) (suc i) d h = map_at f l i d (omega arith)
