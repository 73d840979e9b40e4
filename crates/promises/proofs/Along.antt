-- What is said of a thing over one end is said of it over an equal end: of the thing, and of what was said of it. Assumes nothing.
use mathlib.Core.Path.{◌≡◌, subst}

module _ {A : Type 0} (F : A → Type 0) (P : (s : A) → F s → Type 0) {s t : A} (e : s ≡ t) (x : F s) (y : P s x) where
  unfoldable pub along : P t (subst F e x)
  along = coe 0 1 (i. P (e i) (coe 0 i (j. F (e j)) x)) y

  pub along_both : (Q : (s : A) (x : F s) → P s x → Type 0) → Q s x y → Q t (subst F e x) along
  unfolding along
  along_both Q z = coe 0 1 (i. Q (e i) (coe 0 i (j. F (e j)) x) (coe 0 i (k. P (e k) (coe 0 k (j. F (e j)) x)) y)) z
