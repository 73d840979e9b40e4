-- Laws of what a rectangle's cells show: some of a kind, every one, and the counts; and the passes of the loops. Assumes nothing.
use mathlib.Core.Path.{◌≡◌, refl, sym, ap, ◌∙◌}
use mathlib.Core.Logic.{◌↔◌}
use mathlib.Core.Bool.{Bool, true, false, not, cond, ◌&&◌, ◌||◌, true≢false, false≢true, or_assoc}
use mathlib.Core.List.{List, [], ◌∷◌, ◌++◌, map-append}
use Prim.Native.Nat.{ℕ, zero, suc, ◌+◌, ◌-◌, ◌*◌, ◌^◌, ◌≤◌, ◌<◌}
use native.Mathlib.Omega.{arith}
use native.Mathlib.Nat.{zero-add, add-zero, add_assoc}
use native.Mathlib.Numerals.{add-one}
use lib.Dec.{eqb}
use lib.ListN.{length, get_or, take, drop, drop_of_length-le}
use lib.ListN as L
use lib.Seq.{drop-cons}
use mir.Val.{bool_byte}
use Rattle.std.specs.Prelude.{Option, Some, None}
use Rattle.base.proofs.Test.{cases, cond_yes, cond_no, and_left, and_right, and_both}
use Rattle.image.specs.declared.CellKind.{CellKind}
use Rattle.image.specs.declared.CellKind.TheVariants as K
use Rattle.image.specs.declared.Reading.TheVariants as R
use Rattle.image.specs.declared.PixelRange.{PixelRange}
use Rattle.image.specs.declared.CellTally.{CellTally}
use Rattle.image.specs.Cell.{Cell, Named, Marked, GivenUp, Other, given_up_code, meaning_of, meanings, reading, is_marked, is_given_up, of_kind}
use Rattle.image.specs.Cell.{count_of, is_true, is_false, is_uncertain, tallied}
use Rattle.image.specs.Range.{holds_cell, picture_ready}
use Rattle.image.specs.Painting.{keep_at, held_cells, some_of, every_of, some_seen, all_true_seen, tally_answer}
use Rattle.image.specs.RowsComputed.{tally_sum, SmallTally}
use Rattle.image.proofs.AtLaws.{keep_at_none, length_keep_at, keep_at_stretch, keep_at_map}
use Rattle.image.proofs.CellLaws.{abandoned_code}
use Rattle.image.proofs.RangeLaws.{band, stretch_held, stretch_past, stretch_first, stretch_rest, band_none}

-- LISTS

pub some_append : (test : Cell → Bool) (l m : List Cell) → some_of test (l ++ m) ≡ (some_of test l || some_of test m)
unfolding some_of
some_append test [] m = refl
some_append test (c ∷ l) m = rw (some_append test l m) (sym (or_assoc (test c) (some_of test l) (some_of test m)))

-- every one passes exactly if none fails
pub every_some : (test : Cell → Bool) (l : List Cell) → every_of test l ≡ not (some_of (λ c. not (test c)) l)
unfolding every_of some_of
every_some test [] = refl
every_some test (c ∷ l) = rw (every_some test l) (go (test c) (some_of (λ c. not (test c)) l))
  where
    go : (a b : Bool) → (a && not b) ≡ not (not a || b)
    go true b = refl
    go false b = refl

pub unmarked_some : (l : List Cell) → some_of (of_kind K.Unmarked) l ≡ some_of (λ c. not (is_marked c)) l
unfolding of_kind some_of
unmarked_some [] = refl
unmarked_some (c ∷ l) = ap (λ (b : Bool). not (is_marked c) || b) (unmarked_some l)

pub count_append : (test : Cell → Bool) (l m : List Cell) → count_of test (l ++ m) ≡ count_of test l + count_of test m
unfolding count_of
count_append test [] m = sym (zero-add (count_of test m))
count_append test (c ∷ l) m = let e = count_append test l m in omega arith

pub count_le : (test : Cell → Bool) (l : List Cell) → count_of test l ≤ length l
unfolding count_of
count_le test [] = omega arith
count_le test (c ∷ l) = go (test c) (count_le test l)
  where
    go : (b : Bool) → count_of test l ≤ length l → cond b 1 0 + count_of test l ≤ suc (length l)
    go true h = omega arith
    go false h = omega arith

-- none passes exactly if none is counted
pub count_none : (test : Cell → Bool) (l : List Cell) → (count_of test l ≡ 0) ↔ (every_of (λ c. not (test c)) l ≡ true)
unfolding count_of every_of
count_none test [] = ((λ e. refl), (λ e. refl))
count_none test (c ∷ l) = go (test c) (count_none test l)
  where
    go : (b : Bool) → (count_of test l ≡ 0) ↔ (every_of (λ c. not (test c)) l ≡ true)
        → (cond b 1 0 + count_of test l ≡ 0) ↔ ((not b && every_of (λ c. not (test c)) l) ≡ true)
    go true h = ((λ e. absurd (omega arith)), (λ e. absurd (false≢true e)))
    go false h = ((λ e. h.0 (omega arith)), (λ e. (let f = h.1 e in omega arith)))

pub tally_append : (taken : ℕ) (l m : List Cell) → tallied taken (l ++ m) ≡ tally_sum (tallied taken l) (tallied taken m)
unfolding tallied
tally_append taken l m = simp count_append

pub tally_small : (taken : ℕ) (l : List Cell) → length l < 2 ^ 62 → SmallTally (tallied taken l)
unfolding tallied
tally_small taken l h = record {
  trues = omega (arith, count_le (λ c. is_true (reading taken c)) l);
  falses = omega (arith, count_le (λ c. is_false (reading taken c)) l);
  uncertain = omega (arith, count_le (λ c. is_uncertain (reading taken c)) l);
  givenup = omega (arith, count_le is_given_up l);
}

-- ONE CELL

given_up_reads : (taken : ℕ) (c : Cell) → is_given_up c ≡ true → reading taken c ≡ R.Uncertain
unfolding is_given_up reading
given_up_reads taken (Named n) e = absurd (false≢true e)
given_up_reads taken Marked e = absurd (false≢true e)
given_up_reads taken GivenUp e = refl
given_up_reads taken (Other n) e = absurd (false≢true e)

pub one_true : (taken : ℕ) (c : Cell) → reading taken c ≡ R.True → tallied taken (c ∷ []) ≡ record { trues = 1; falses = 0; uncertain = 0; givenup = 0 }
unfolding tallied count_of is_true is_false is_uncertain
one_true taken c e =
    let g : is_given_up c ≡ false = cases (is_given_up c) (λ t. absurd (true≢false (sym (ap is_true e) ∙ ap is_true (given_up_reads taken c t)))) (λ t. t) in
    rw (e, g)

pub one_false : (taken : ℕ) (c : Cell) → reading taken c ≡ R.False → tallied taken (c ∷ []) ≡ record { trues = 0; falses = 1; uncertain = 0; givenup = 0 }
unfolding tallied count_of is_true is_false is_uncertain
one_false taken c e =
    let g : is_given_up c ≡ false = cases (is_given_up c) (λ t. absurd (true≢false (sym (ap is_false e) ∙ ap is_false (given_up_reads taken c t)))) (λ t. t) in
    rw (e, g)

pub one_uncertain : (taken n : ℕ) → reading taken (meaning_of n) ≡ R.Uncertain
    → tallied taken (meaning_of n ∷ []) ≡ record { trues = 0; falses = 0; uncertain = 1; givenup = bool_byte (eqb n given_up_code) }
unfolding tallied count_of is_true is_false is_uncertain of_kind
one_uncertain taken n e = let g = abandoned_code n in cases (eqb n given_up_code) (λ t. rw (e, g, t)) (λ t. rw (e, g, t))

-- CELL BY CELL

keep_every : (test : Cell → Bool) (t : ℕ → Bool) (i : ℕ) (l : List Cell) (d : Cell) → every_of test (keep_at t i l) ≡ true
    → (k : ℕ) → k < length l → t (i + k) ≡ true → test (get_or l k d) ≡ true
unfolding every_of
keep_every test t i [] d e k h p = absurd (omega arith)
keep_every test t i (c ∷ l) d e zero h p =
    let q : t i ≡ true = sym (ap t (add-zero i)) ∙ p in
    and_left (test c) (every_of test (keep_at t (suc i) l)) (sym (ap (every_of test) (cond_yes (t i) (c ∷ keep_at t (suc i) l) (keep_at t (suc i) l) q)) ∙ e)
keep_every test t i (c ∷ l) d e (suc k) h p =
    let s : i + suc k ≡ suc i + k = omega arith in
    keep_every test t (suc i) l d
    (cases (t i)
    (λ q. and_right (test c) (every_of test (keep_at t (suc i) l)) (sym (ap (every_of test) (cond_yes (t i) (c ∷ keep_at t (suc i) l) (keep_at t (suc i) l) q)) ∙ e))
    (λ q. sym (ap (every_of test) (cond_no (t i) (c ∷ keep_at t (suc i) l) (keep_at t (suc i) l) q)) ∙ e))
    k (omega arith) (sym (ap t s) ∙ p)

every_keep : (test : Cell → Bool) (t : ℕ → Bool) (i : ℕ) (l : List Cell) (d : Cell)
    → ((k : ℕ) → k < length l → t (i + k) ≡ true → test (get_or l k d) ≡ true) → every_of test (keep_at t i l) ≡ true
unfolding every_of
every_keep test t i [] d f = refl
every_keep test t i (c ∷ l) d f =
    let rest = every_keep test t (suc i) l d (λ k h p. f (suc k) (omega arith) (ap t (let s : i + suc k ≡ suc i + k = omega arith in s) ∙ p)) in
    cases (t i)
    (λ q.
    ap (every_of test) (cond_yes (t i) (c ∷ keep_at t (suc i) l) (keep_at t (suc i) l) q)
    ∙ and_both (test c) (every_of test (keep_at t (suc i) l)) (f 0 (omega arith) (ap t (add-zero i) ∙ q)) rest)
    (λ q. ap (every_of test) (cond_no (t i) (c ∷ keep_at t (suc i) l) (keep_at t (suc i) l) q) ∙ rest)

-- every cell that a rectangle holds passes a test exactly if each place that it holds does
pub every_held : (test : Cell → Bool) (width : ℕ) (r : PixelRange) (l : List Cell) (d : Cell) → every_of test (held_cells width r l) ≡ true
    → (i : ℕ) → i < length l → holds_cell width r i ≡ true → test (get_or l i d) ≡ true
unfolding held_cells
every_held test width r l d e i h p = keep_every test (holds_cell width r) 0 l d e i h (ap (holds_cell width r) (zero-add i) ∙ p)

pub held_every : (test : Cell → Bool) (width : ℕ) (r : PixelRange) (l : List Cell) (d : Cell)
    → ((i : ℕ) → i < length l → holds_cell width r i ≡ true → test (get_or l i d) ≡ true) → every_of test (held_cells width r l) ≡ true
unfolding held_cells
held_every test width r l d f = every_keep test (holds_cell width r) 0 l d (λ k h p. f k h (sym (ap (holds_cell width r) (zero-add k)) ∙ p))

-- TURNS OF THE ROWS' LOOPS

-- the cells that the rows from one on hold
unfoldable pub held_from : ℕ → ℕ → ℕ → ℕ → ℕ → List ℕ → List Cell
held_from width left right row bottom l = meanings (keep_at (holds_cell width (band left right row bottom)) 0 l)

pub held_all : (width : ℕ) (r : PixelRange) (l : List ℕ) → held_from width r.left r.right r.top r.bottom l ≡ held_cells width r (meanings l)
unfolding held_from held_cells
held_all width r l = sym (keep_at_map meaning_of (holds_cell width r) 0 l)

pub held_end : (width left right row bottom : ℕ) (l : List ℕ) → row ≡ bottom → held_from width left right row bottom l ≡ []
unfolding held_from
held_end width left right row bottom l e =
    rw e (ap meanings (keep_at_none (holds_cell width (band left right bottom bottom)) 0 l (λ j p q. band_none width left right bottom j)))

pub held_pass : (width left right row bottom start end : ℕ) (l : List ℕ) → left ≤ right → right ≤ width → row < bottom
    → start ≡ row * width + left → end ≡ row * width + right → end ≤ length l
    → held_from width left right row bottom l ≡ meanings (take (end - start) (drop start l)) ++ held_from width left right (row + 1) bottom l
unfolding held_from
held_pass width left right row bottom start end l across fits more s e long =
    ap meanings (keep_at_stretch (holds_cell width (band left right row bottom)) (holds_cell width (band left right (row + 1) bottom)) start (end - start) l (omega arith)
    (λ j p. stretch_first width left right row bottom fits more j (omega arith))
    (λ j p q. stretch_held width left right row bottom fits more j (omega arith) (omega arith))
    (λ j p. stretch_rest width left right row bottom fits more j (λ a b. omega arith))
    (λ j p. stretch_past width left right row bottom fits more j (omega arith)))
    ∙ map-append meaning_of (take (end - start) (drop start l)) (keep_at (holds_cell width (band left right (row + 1) bottom)) 0 l)

pub held_length : (width left right row bottom : ℕ) (l : List ℕ) → length (held_from width left right row bottom l) ≤ length l
unfolding held_from
held_length width left right row bottom l =
    omega (arith, L.length-map (keep_at (holds_cell width (band left right row bottom)) 0 l) meaning_of, length_keep_at (holds_cell width (band left right row bottom)) 0 l)

-- TURNS OF A ROW'S LOOPS

pub drop_meanings : (row : List ℕ) (i : ℕ) → i < length row → meanings (drop i row) ≡ meaning_of (get_or row i 0) ∷ meanings (drop (i + 1) row)
drop_meanings row i h = rw (add-one, drop-cons row i 0 h)

-- a cell is looked at, and then those after it
pub find_next : (test : Cell → Bool) (row : List ℕ) (i : ℕ) (b : Bool) → i < length row → b ≡ test (meaning_of (get_or row i 0))
    → (b || some_of test (meanings (drop (i + 1) row))) ≡ some_of test (meanings (drop i row))
unfolding some_of
find_next test row i b h e = rw (e, drop_meanings row i h)

pub find_end : (test : Cell → Bool) (row : List ℕ) (i : ℕ) → length row ≤ i → some_of test (meanings (drop i row)) ≡ false
unfolding some_of
find_end test row i h = ap (λ (l : List ℕ). some_of test (meanings l)) (drop_of_length-le row h)

-- SUMS OF COUNTS

-- no counts yet
abbrev pub no_tally : CellTally
no_tally = record { trues = 0; falses = 0; uncertain = 0; givenup = 0 }

pub tally_start : (d t : CellTally) → (d.trues ≡ 0) × ((d.falses ≡ 0) × ((d.uncertain ≡ 0) × (d.givenup ≡ 0))) → tally_sum d t ≡ t
tally_start d t (a, (b, (c, e))) = rw (a, b, c, e) (simp zero-add)

plus_none : (t : CellTally) → tally_sum t no_tally ≡ t
plus_none t = simp add-zero

plus_assoc : (t u v : CellTally) → tally_sum (tally_sum t u) v ≡ tally_sum t (tally_sum u v)
plus_assoc t u v = simp add_assoc

pub tally_none : (taken : ℕ) (t : CellTally) (l : List Cell) → l ≡ [] → tally_sum t (tallied taken l) ≡ t
unfolding tallied count_of
tally_none taken t l e = rw e (plus_none t)

-- what is counted so far, and what is left, together
pub tally_pass : (taken : ℕ) (t u t₁ total : CellTally) (l m : List Cell) → tally_sum t (tallied taken (l ++ m)) ≡ total → u ≡ tallied taken l
    → t₁ ≡ tally_sum t u → tally_sum t₁ (tallied taken m) ≡ total
tally_pass taken t u t₁ total l m e f g =
    ap (λ (x : CellTally). tally_sum x (tallied taken m)) (g ∙ ap (tally_sum t) f) ∙ plus_assoc t (tallied taken l) (tallied taken m)
    ∙ ap (tally_sum t) (sym (tally_append taken l m)) ∙ e

-- no part is larger than the whole
pub part_small : (t u v : CellTally) → tally_sum t u ≡ v → SmallTally v → SmallTally t
part_small t u v e s = record {
  trues = omega (arith, ap (λ (x : CellTally). x.trues) e, s.trues);
  falses = omega (arith, ap (λ (x : CellTally). x.falses) e, s.falses);
  uncertain = omega (arith, ap (λ (x : CellTally). x.uncertain) e, s.uncertain);
  givenup = omega (arith, ap (λ (x : CellTally). x.givenup) e, s.givenup);
}

-- THE ANSWERS

pub seen_outside : (width height : ℕ) (r : PixelRange) (kind : CellKind) (l : List ℕ) → picture_ready width height r (length l) ≡ false
    → some_seen width height r kind l ≡ None
unfolding some_seen
seen_outside width height r kind l e = cond_no (picture_ready width height r (length l)) _ _ e

pub seen_answered : (width height : ℕ) (r : PixelRange) (kind : CellKind) (l : List ℕ) (b : Bool) → picture_ready width height r (length l) ≡ true
    → b ≡ some_of (of_kind kind) (held_cells width r (meanings l)) → some_seen width height r kind l ≡ Some b
unfolding some_seen
seen_answered width height r kind l b e f = cond_yes (picture_ready width height r (length l)) _ _ e ∙ ap Some (sym f)

-- the answer to the opposite question
abbrev pub opposite : Option Bool → Option Bool
opposite (Some b) = Some (not b)
opposite None = None

-- every one is True exactly if none is not
pub all_opposite : (width height : ℕ) (r : PixelRange) (l : List ℕ) → all_true_seen width height r l ≡ opposite (some_seen width height r K.Unmarked l)
unfolding all_true_seen some_seen
all_opposite width height r l =
    ap (λ (b : Bool). cond (picture_ready width height r (length l)) (Some b) None)
    (every_some is_marked (held_cells width r (meanings l)) ∙ ap not (sym (unmarked_some (held_cells width r (meanings l)))))
    ∙ go (picture_ready width height r (length l)) (some_of (of_kind K.Unmarked) (held_cells width r (meanings l)))
  where
    go : (a b : Bool) → cond a (Some (not b)) None ≡ opposite (cond a (Some b) None)
    go true b = refl
    go false b = refl

pub tally_outside : (width height : ℕ) (r : PixelRange) (taken : ℕ) (l : List ℕ) → picture_ready width height r (length l) ≡ false
    → tally_answer width height r taken l ≡ None
unfolding tally_answer
tally_outside width height r taken l e = cond_no (picture_ready width height r (length l)) _ _ e

pub tally_answered : (width height : ℕ) (r : PixelRange) (taken : ℕ) (l : List ℕ) → picture_ready width height r (length l) ≡ true
    → tally_answer width height r taken l ≡ Some (tallied taken (held_cells width r (meanings l)))
unfolding tally_answer
tally_answered width height r taken l e = cond_yes (picture_ready width height r (length l)) _ _ e
