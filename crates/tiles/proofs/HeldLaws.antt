-- Laws of the cells that a rectangle holds, which `image` does not have: whether some passes a test, the sum of the counts, and rectangles that count alike.
-- Assumes nothing.
use mathlib.Core.Path.{◌≡◌, refl, sym, ap, ap₂, ◌∙◌}
use mathlib.Core.Logic.{◌↔◌, ⊎_elim}
use mathlib.Core.Bool.{Bool, true, cond, ◌||◌, false≢true}
use mathlib.Core.List.{List, [], ◌∷◌}
use Prim.Native.Nat.{ℕ, zero, suc, ◌+◌, ◌≤◌, ◌<◌}
use native.Mathlib.Nat.{zero-add, add-zero}
use native.Mathlib.Omega.{arith}
use lib.Dec.{leb}
use lib.ListN.{length, get_or}
use Rattle.base.proofs.Test.{cases, cond_yes, cond_no, or_parts, or_right}
use Rattle.image.specs.declared.PixelRange.{PixelRange}
use Rattle.image.specs.Cell.{Cell, Named, Marked, GivenUp, Other, reading, is_true, is_false, is_uncertain, is_given_up, count_of, tallied}
use Rattle.image.specs.Range.{holds_cell}
use Rattle.image.specs.Painting.{keep_at, held_cells, some_of}

-- SOME

-- some of the elements whose places pass a test passes another exactly if there is a place with such an element
kept_some : (test : Cell → Bool) (t : ℕ → Bool) (i : ℕ) (l : List Cell) (d : Cell) → some_of test (keep_at t i l) ≡ true
    → (k : ℕ) × (k < length l) × (t (i + k) ≡ true) × (test (get_or l k d) ≡ true)
unfolding some_of
kept_some test t i [] d e = absurd (false≢true e)
kept_some test t i (c ∷ l) d e =
    cases (t i)
    (λ q. ⊎_elim
    (λ f. (0, omega arith, ap t (add-zero i) ∙ q, f))
    (λ f. later (kept_some test t (suc i) l d f))
    (or_parts (test c) (some_of test (keep_at t (suc i) l)) (sym (ap (some_of test) (cond_yes (t i) (c ∷ keep_at t (suc i) l) (keep_at t (suc i) l) q)) ∙ e)))
    (λ q. later (kept_some test t (suc i) l d (sym (ap (some_of test) (cond_no (t i) (c ∷ keep_at t (suc i) l) (keep_at t (suc i) l) q)) ∙ e)))
  where
    later : (k : ℕ) × (k < length l) × (t (suc i + k) ≡ true) × (test (get_or l k d) ≡ true)
        → (k : ℕ) × (k < suc (length l)) × (t (i + k) ≡ true) × (test (get_or (c ∷ l) k d) ≡ true)
    later (k, h, p, f) = (suc k, omega arith, ap t (let s : i + suc k ≡ suc i + k = omega arith in s) ∙ p, f)

some_kept : (test : Cell → Bool) (t : ℕ → Bool) (i : ℕ) (l : List Cell) (d : Cell) (k : ℕ) → k < length l → t (i + k) ≡ true → test (get_or l k d) ≡ true
    → some_of test (keep_at t i l) ≡ true
unfolding some_of
some_kept test t i [] d k h p f = absurd (omega arith)
some_kept test t i (c ∷ l) d zero h p f =
    ap (some_of test) (cond_yes (t i) (c ∷ keep_at t (suc i) l) (keep_at t (suc i) l) (sym (ap t (add-zero i)) ∙ p))
    ∙ ap (λ (b : Bool). b || some_of test (keep_at t (suc i) l)) f
some_kept test t i (c ∷ l) d (suc k) h p f =
    let rest = some_kept test t (suc i) l d k (omega arith) (sym (ap t (let s : i + suc k ≡ suc i + k = omega arith in s)) ∙ p) f in
    cases (t i)
    (λ q.
    ap (some_of test) (cond_yes (t i) (c ∷ keep_at t (suc i) l) (keep_at t (suc i) l) q) ∙ or_right (test c) (some_of test (keep_at t (suc i) l)) rest)
    (λ q. ap (some_of test) (cond_no (t i) (c ∷ keep_at t (suc i) l) (keep_at t (suc i) l) q) ∙ rest)

-- of a rectangle's cells
pub held_some : (test : Cell → Bool) (width : ℕ) (r : PixelRange) (l : List Cell) (d : Cell)
    → (some_of test (held_cells width r l) ≡ true) ↔ ((i : ℕ) × (i < length l) × (holds_cell width r i ≡ true) × (test (get_or l i d) ≡ true))
unfolding held_cells
held_some test width r l d = (
  (λ e. (let (k, h, p, f) = kept_some test (holds_cell width r) 0 l d e in (k, h, sym (ap (holds_cell width r) (zero-add k)) ∙ p, f))),
  (λ (k, h, p, f). some_kept test (holds_cell width r) 0 l d k h (ap (holds_cell width r) (zero-add k) ∙ p) f),
)

-- COUNTED

-- a cell reads one of three ways, and a given-up one Uncertain
one_reading : (taken : ℕ) (c : Cell)
    → (cond (is_true (reading taken c)) 1 0 + cond (is_false (reading taken c)) 1 0 + cond (is_uncertain (reading taken c)) 1 0 ≡ 1)
    × (cond (is_given_up c) 1 0 ≤ cond (is_uncertain (reading taken c)) 1 0)
unfolding is_true is_false is_uncertain is_given_up reading
one_reading taken (Named n) = cases (leb taken n) (λ e. rw e (refl, omega arith)) (λ e. rw e (refl, omega arith))
one_reading taken Marked = (refl, omega arith)
one_reading taken GivenUp = (refl, omega arith)
one_reading taken (Other n) = (refl, omega arith)

pub tally_adds : (taken : ℕ) (l : List Cell)
    → ((tallied taken l).trues + (tallied taken l).falses + (tallied taken l).uncertain ≡ length l) × ((tallied taken l).givenup ≤ (tallied taken l).uncertain)
unfolding tallied count_of
tally_adds taken [] = (refl, omega arith)
tally_adds taken (c ∷ l) = let e = tally_adds taken l in let f = one_reading taken c in (omega arith, omega arith)

-- two lists whose kept elements pass two tests alike
kept_count : (test test' : Cell → Bool) (t : ℕ → Bool) (i : ℕ) (l l' : List Cell) (d : Cell) → length l ≡ length l'
    → ((k : ℕ) → k < length l → t (i + k) ≡ true → test (get_or l k d) ≡ test' (get_or l' k d)) → count_of test (keep_at t i l) ≡ count_of test' (keep_at t i l')
unfolding count_of
kept_count test test' t i [] [] d e f = refl
kept_count test test' t i [] (c' ∷ l') d e f = absurd (omega arith)
kept_count test test' t i (c ∷ l) [] d e f = absurd (omega arith)
kept_count test test' t i (c ∷ l) (c' ∷ l') d e f =
    let rest = kept_count test test' t (suc i) l l' d (omega arith)
    (λ k h p. f (suc k) (omega arith) (ap t (let s : i + suc k ≡ suc i + k = omega arith in s) ∙ p)) in
    cases (t i)
    (λ q.
    let now : test c ≡ test' c' = f 0 (omega arith) (ap t (add-zero i) ∙ q) in
    ap (count_of test) (cond_yes (t i) (c ∷ keep_at t (suc i) l) (keep_at t (suc i) l) q)
    ∙ ap₂ (λ (b : Bool) (n : ℕ). cond b 1 0 + n) now rest
    ∙ sym (ap (count_of test') (cond_yes (t i) (c' ∷ keep_at t (suc i) l') (keep_at t (suc i) l') q)))
    (λ q.
    ap (count_of test) (cond_no (t i) (c ∷ keep_at t (suc i) l) (keep_at t (suc i) l) q)
    ∙ rest
    ∙ sym (ap (count_of test') (cond_no (t i) (c' ∷ keep_at t (suc i) l') (keep_at t (suc i) l') q)))

held_count : (test test' : Cell → Bool) (width : ℕ) (r : PixelRange) (l l' : List Cell) (d : Cell) → length l ≡ length l'
    → ((j : ℕ) → j < length l → holds_cell width r j ≡ true → test (get_or l j d) ≡ test' (get_or l' j d))
    → count_of test (held_cells width r l) ≡ count_of test' (held_cells width r l')
unfolding held_cells
held_count test test' width r l l' d e f =
    kept_count test test' (holds_cell width r) 0 l l' d e (λ k h p. f k h (sym (ap (holds_cell width r) (zero-add k)) ∙ p))

-- a rectangle counts alike where each of its cells reads alike and is given up alike
pub held_tally : (width : ℕ) (r : PixelRange) (taken taken' : ℕ) (l l' : List Cell) (d : Cell) → length l ≡ length l'
    → ((j : ℕ) → j < length l → holds_cell width r j ≡ true
    → (reading taken (get_or l j d) ≡ reading taken' (get_or l' j d)) × (is_given_up (get_or l j d) ≡ is_given_up (get_or l' j d)))
    → tallied taken (held_cells width r l) ≡ tallied taken' (held_cells width r l')
unfolding tallied
held_tally width r taken taken' l l' d e f =
    let trues = held_count (λ c. is_true (reading taken c)) (λ c. is_true (reading taken' c)) width r l l' d e (λ j h p. ap is_true (f j h p).0) in
    let falses = held_count (λ c. is_false (reading taken c)) (λ c. is_false (reading taken' c)) width r l l' d e (λ j h p. ap is_false (f j h p).0) in
    let greys = held_count (λ c. is_uncertain (reading taken c)) (λ c. is_uncertain (reading taken' c)) width r l l' d e (λ j h p. ap is_uncertain (f j h p).0) in
    let ups = held_count is_given_up is_given_up width r l l' d e (λ j h p. (f j h p).1) in
    rw (trues, falses, greys, ups)
