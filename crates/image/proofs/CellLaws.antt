-- Laws of a cell's meaning, of what is done to it and of what it reads. Assumes nothing.
use mathlib.Core.Path.{◌≡◌, refl, ap₂}
use mathlib.Core.Bool.{Bool, true, false, not, cond, ◌&&◌}
use mathlib.Core.List.{List, [], ◌∷◌}
use Prim.Native.Nat.{ℕ, ◌<◌}
use native.Mathlib.Omega.{arith}
use lib.Dec.{leb, ltb, eqb}
use borrow.Author.Tests.{ltb-true, ltb-false, eqb-true, eqb-false, lt-ltb, le-ltb, ne_eqb}
use Rattle.base.proofs.Test.{cases, cond_yes}
use Rattle.image.specs.declared.Op.{Op}
use Rattle.image.specs.declared.Op.TheVariants as O
use Rattle.image.specs.declared.CellKind.TheVariants as K
use Rattle.image.specs.declared.Reading.TheVariants as R
use Rattle.image.specs.Cell.{Cell, Named, Marked, GivenUp, Other, true_code, given_up_code, cell_code, meaning_of, is_number}
use Rattle.image.specs.Cell.{meanings, codes, done_to, nameable, reading, is_marked, is_given_up, is_damaged, of_kind}
use Rattle.image.specs.RowsComputed.{touched}

-- THE CODES, ONE BY ONE

pub means_named : (n : ℕ) → n < true_code → meaning_of n ≡ Named n
unfolding meaning_of
means_named n h = cond_yes (ltb n true_code) _ _ (lt-ltb n true_code h)

pub means_marked : meaning_of true_code ≡ Marked
unfolding meaning_of
means_marked = refl

pub means_given_up : meaning_of given_up_code ≡ GivenUp
unfolding meaning_of
means_given_up = refl

pub means_other : (n : ℕ) → given_up_code < n → meaning_of n ≡ Other n
unfolding meaning_of
means_other n h = rw (le-ltb n true_code (omega arith), ne_eqb n true_code (λ e. omega arith), ne_eqb n given_up_code (λ e. omega arith))

-- what holds of each meaning at its codes holds of every code
pub by_code : (P : ℕ → Cell → Type 0) → ((n : ℕ) → n < true_code → P n (Named n)) → P true_code Marked → P given_up_code GivenUp
    → ((n : ℕ) → given_up_code < n → P n (Other n)) → (n : ℕ) → P n (meaning_of n)
by_code P named marked given other n =
    cases (ltb n true_code) (λ e. (let h = ltb-true n true_code e in rw (means_named n h) (named n h)))
    (λ e.
    cases (eqb n true_code) (λ f. (let g = eqb-true n true_code f in rw (g, means_marked) marked))
    (λ f.
    cases (eqb n given_up_code) (λ g. (let k = eqb-true n given_up_code g in rw (k, means_given_up) given))
    (λ g. (let h : given_up_code < n = omega (arith, ltb-false n true_code e, eqb-false n true_code f, eqb-false n given_up_code g) in rw (means_other n h) (other n h)))))

-- ONE TO ONE

-- a meaning that a code can have
unfoldable pub has_code : Cell → Bool
has_code (Named n) = is_number n
has_code Marked = true
has_code GivenUp = true
has_code (Other n) = ltb given_up_code n

pub code_meaning : (n : ℕ) → cell_code (meaning_of n) ≡ n
unfolding cell_code
code_meaning = by_code (λ n c. cell_code c ≡ n) (λ n h. refl) refl refl (λ n h. refl)

pub meaning_proper : (n : ℕ) → has_code (meaning_of n) ≡ true
unfolding has_code
meaning_proper = by_code (λ n c. has_code c ≡ true) (λ n h. lt-ltb n true_code h) refl refl (λ n h. lt-ltb given_up_code n h)

pub meaning_code : (c : Cell) → has_code c ≡ true → meaning_of (cell_code c) ≡ c
unfolding has_code cell_code
meaning_code (Named n) h = means_named n (ltb-true n true_code h)
meaning_code Marked h = means_marked
meaning_code GivenUp h = means_given_up
meaning_code (Other n) h = means_other n (ltb-true given_up_code n h)

-- the codes of lent cells' meanings are the cells
pub codes_meanings : (l : List ℕ) → codes (meanings l) ≡ l
codes_meanings [] = refl
codes_meanings (n ∷ l) = ap₂ ◌∷◌ (code_meaning n) (codes_meanings l)

-- what a block can be named leaves a meaning that has a code
pub done_proper : (op : Op) (c : Cell) → nameable op ≡ true → has_code c ≡ true → has_code (done_to op c) ≡ true
unfolding done_to nameable has_code
done_proper O.Mark c h p = refl
done_proper (O.Name from to) (Named n) h p = cases (leb from n) (λ e. rw e h) (λ e. rw e p)
done_proper (O.Name from to) Marked h p = refl
done_proper (O.Name from to) GivenUp h p = refl
done_proper (O.Name from to) (Other n) h p = p
done_proper O.GiveUp c h p = refl
done_proper (O.Fill to) c h p = h

pub touched_meaning : (op : Op) (n : ℕ) → nameable op ≡ true → meaning_of (touched op n) ≡ done_to op (meaning_of n)
touched_meaning op n h = meaning_code (done_to op (meaning_of n)) (done_proper op (meaning_of n) h (meaning_proper n))

-- WHAT IS DONE TO A CODE

pub touched_name : (from to n : ℕ) → touched (O.Name from to) n ≡ cond (leb from n && ltb n true_code) to n
unfolding done_to cell_code
touched_name from to =
    by_code (λ n c. cell_code (done_to (O.Name from to) c) ≡ cond (leb from n && ltb n true_code) to n)
    (λ n h. rw (lt-ltb n true_code h) (go (leb from n) to n))
    (cases (leb from true_code) (λ e. rw e) (λ e. rw e))
    (cases (leb from given_up_code) (λ e. rw e) (λ e. rw e))
    (λ n h. cases (leb from n) (λ e. rw (e, le-ltb n true_code (omega arith))) (λ e. rw e))
  where
    go : (b : Bool) (to n : ℕ) → cell_code (cond b (Named to) (Named n)) ≡ cond (b && true) to n
    go true to n = refl
    go false to n = refl

-- READINGS AND KINDS

pub reads_true_lem : (taken n : ℕ) → n ≡ true_code → reading taken (meaning_of n) ≡ R.True
unfolding reading
reads_true_lem taken n e = rw (e, means_marked)

pub reads_beyond : (taken n : ℕ) → true_code < n → reading taken (meaning_of n) ≡ R.Uncertain
unfolding reading
reads_beyond taken n h =
    by_code (λ n c. true_code < n → reading taken c ≡ R.Uncertain) (λ n k h. absurd (omega arith)) (λ h. absurd (omega arith)) (λ h. refl) (λ n k h. refl) n h

pub reads_number : (taken n : ℕ) → n < true_code → reading taken (meaning_of n) ≡ cond (leb taken n) R.Uncertain R.False
unfolding reading
reads_number taken n h = rw (means_named n h)

pub unmarked_code : (n : ℕ) → of_kind K.Unmarked (meaning_of n) ≡ not (eqb n true_code)
unfolding of_kind is_marked
unmarked_code = by_code (λ n c. not (is_marked c) ≡ not (eqb n true_code)) (λ n h. rw (ne_eqb n true_code (λ e. omega arith))) refl refl (λ n h. rw (ne_eqb n true_code (λ e. omega arith)))

pub abandoned_code : (n : ℕ) → of_kind K.GivenUp (meaning_of n) ≡ eqb n given_up_code
unfolding of_kind is_given_up
abandoned_code = by_code (λ n c. is_given_up c ≡ eqb n given_up_code) (λ n h. rw (ne_eqb n given_up_code (λ e. omega arith))) refl refl (λ n h. rw (ne_eqb n given_up_code (λ e. omega arith)))

pub damaged_code : (n : ℕ) → of_kind K.Damaged (meaning_of n) ≡ ltb given_up_code n
unfolding of_kind is_damaged
damaged_code = by_code (λ n c. is_damaged c ≡ ltb given_up_code n) (λ n h. rw (le-ltb given_up_code n (omega arith))) refl refl (λ n h. rw (lt-ltb given_up_code n h))
