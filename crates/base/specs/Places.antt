-- The first and the last member of a list that pass a test, by their places, which count from 1; 0 is none. Of what happened in order, kept with the latest
-- first: the latest that passes, by its number from 1, and what is said of it.
use Rattle.std.specs.Prelude.{◌≡◌, Bool, false, cond, ◌||◌, List, [], ◌∷◌, ◌++◌, ℕ, suc, T, length}
use Rattle.base.specs.Lists.{Every}

-- does some member pass the test?
unfoldable pub any_of : {A : Type 0} → (A → Bool) → List A → Bool
any_of f [] = false
any_of f (a ∷ l) = f a || any_of f l

-- the place of the first that passes, where places count from i
unfoldable pub first_from : {A : Type 0} → (A → Bool) → ℕ → List A → ℕ
first_from f i [] = 0
first_from f i (a ∷ l) = cond (f a) i (first_from f (suc i) l)

-- that of the last, where `found` is the one found before
unfoldable pub last_from : {A : Type 0} → (A → Bool) → ℕ → ℕ → List A → ℕ
last_from f found i [] = found
last_from f found i (a ∷ l) = last_from f (cond (f a) i found) (suc i) l

abbrev pub first_place : {A : Type 0} → (A → Bool) → List A → ℕ
first_place f l = first_from f 1 l

abbrev pub last_place : {A : Type 0} → (A → Bool) → List A → ℕ
last_place f l = last_from f 0 1 l

-- what is said of the last that passes; `none` where none does
unfoldable pub last_value : {A B : Type 0} → (A → Bool) → (A → B) → B → List A → B
last_value f g none [] = none
last_value f g none (a ∷ l) = last_value f g (cond (f a) (g a) none) l

-- place k of the list passes the test, and it is the first that does
pub record IsFirst {A : Type 0} (f : A → Bool) (l : List A) (k : ℕ) : Type 0 where
  pub before : List A
  pub this : A
  pub behind : List A
  pub in_order : l ≡ before ++ (this ∷ behind)
  pub number : k ≡ suc (length before)
  pub such : T (f this)
  pub none_before : Every (λ a. ¬ T (f a)) before

-- and it is the last that does
pub record IsLast {A : Type 0} (f : A → Bool) (l : List A) (k : ℕ) : Type 0 where
  pub before : List A
  pub this : A
  pub behind : List A
  pub in_order : l ≡ before ++ (this ∷ behind)
  pub number : k ≡ suc (length before)
  pub such : T (f this)
  pub none_behind : Every (λ a. ¬ T (f a)) behind

-- of what happened, the latest first: the number of the latest that passes; 0 if there is none
unfoldable pub latest_number : {A : Type 0} → (A → Bool) → List A → ℕ
latest_number f [] = 0
latest_number f (e ∷ h) = cond (f e) (suc (length h)) (latest_number f h)

-- what is said of it; `none` if there is none
unfoldable pub latest_value : {A B : Type 0} → (A → Bool) → (A → B) → B → List A → B
latest_value f g none [] = none
latest_value f g none (e ∷ h) = cond (f e) (g e) (latest_value f g none h)

-- this is the latest that passes: as many happened before it as `before` holds, and what happened since does not pass
pub record Latest {A : Type 0} (f : A → Bool) (h : List A) : Type 0 where
  pub since : List A
  pub this : A
  pub before : List A
  pub in_order : h ≡ since ++ (this ∷ before)
  pub such : T (f this)
  pub none_since : Every (λ e. ¬ T (f e)) since
