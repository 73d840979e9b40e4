-- Laws of the counts of up to 256 cells in one number: what a cell adds by the two halves of its code, the sum, the counts from it, and a
-- tile row by row. Assumes nothing.
use mathlib.Core.Path.{◌≡◌, refl, sym, ap, ◌∙◌}
use mathlib.Core.Bool.{Bool, true, false, cond}
use mathlib.Core.List.{List, [], ◌∷◌, ◌++◌}
use Prim.Native.Nat.{ℕ, zero, suc, ◌+◌, ◌-◌, ◌*◌, ◌/◌, ◌%◌, ◌≤◌, ◌<◌}
use native.Mathlib.Nat.{zero-add, add-zero}
use native.Mathlib.Omega.{arith}
use lib.Bits.{bit_or, bit_and, or_add_and, and_le_l, and_le_r, or_zero_l, or_zero_r}
use lib.Dec.{leb, ltb, eqb}
use lib.ListN.{length, drop, length-map, length-append, length-take, length-drop}
use mir.Val.{bool_byte}
use borrow.Author.Tests as T
use borrow.Author.Tests.{lt-ltb, le-ltb, le-leb, eq-eqb, ne_eqb, leb-true, leb-false}
use Rattle.std.specs.List.{sum_by}
use Rattle.std.proofs.lemmas.List.Sums.{sum_by_from}
use Rattle.base.proofs.Test.{cases, and_left, and_right}
use Rattle.image.specs.declared.Reading.TheVariants as R
use Rattle.image.specs.declared.Reading.{Reading}
use Rattle.image.specs.declared.PixelRange.{PixelRange}
use Rattle.image.specs.declared.CellTally.{CellTally}
use Rattle.image.specs.Cell.{Cell, Named, Marked, GivenUp, Other, given_up_code, meaning_of, meanings, reading, is_given_up}
use Rattle.image.specs.Cell.{count_of, is_true, is_false, is_uncertain, tallied}
use Rattle.image.specs.Painting.{held_cells}
use Rattle.image.specs.RowsComputed.{ReadyRows, row_cells, tile_shaped, tally_sum, packed_tally, unpacked_tally, settled_weight, false_weight, untaken_tally}
use Rattle.image.proofs.CellLaws.{by_code}
use Rattle.image.proofs.RangeLaws.{row_fits}
use Rattle.image.proofs.CountLaws.{count_le, tally_append}
use Rattle.image.proofs.RegionLaws.{rows_from, rows_all, rows_over, rows_next}

-- WHAT A CELL ADDS

-- an even number beside it leaves 1 only where it is 0
pub one_of_two : (high low : ℕ) → bit_or high (2 * (low / 2)) ≡ 1 → (high ≡ 1) × (low < 2)
one_of_two high low e =
    let s = or_add_and high (2 * (low / 2)) in
    let p = and_le_l high (2 * (low / 2)) in
    let q = and_le_r high (2 * (low / 2)) in
    go (bit_or high (2 * (low / 2))) (bit_and high (2 * (low / 2))) e s p q
  where
    go : (o a : ℕ) → o ≡ 1 → o + a ≡ high + 2 * (low / 2) → a ≤ high → a ≤ 2 * (low / 2) → (high ≡ 1) × (low < 2)
    go o a e s p q = (omega arith, omega arith)

two_of_one : (high low : ℕ) → high ≡ 1 → low < 2 → bit_or high (2 * (low / 2)) ≡ 1
two_of_one high low e h = let z : 2 * (low / 2) ≡ 0 = omega arith in rw (z, e) (or_zero_r 1)

pub settled_yes : (high low : ℕ) → bit_or high (2 * (low / 2)) ≡ 1 → low + 1024 ≡ settled_weight high low
settled_yes high low e = let t = one_of_two high low e in rw (eq-eqb high 1 t.0, lt-ltb low 2 t.1)

pub settled_not : (high low : ℕ) → (bit_or high (2 * (low / 2)) ≡ 1 → ⊥) → 0 ≡ settled_weight high low
settled_not high low f =
    cases (eqb high 1)
    (λ e.
    cases (ltb low 2)
    (λ t. absurd (f (two_of_one high low (T.eqb-true high 1 e) (T.ltb-true low 2 t))))
    (λ t. rw (e, t)))
    (λ e. rw e)

zero_byte : (b : Bool) → bool_byte b ≡ 0 → b ≡ false
zero_byte true e = absurd (omega arith)
zero_byte false e = refl

pub false_yes : (high low last : ℕ) → bit_or high (bool_byte (ltb last low)) ≡ 0 → 1048576 ≡ false_weight high low (last + 1)
false_yes high low last e =
    let t = go (bit_or high (bool_byte (ltb last low))) (bit_and high (bool_byte (ltb last low))) (bool_byte (ltb last low)) e
    (or_add_and high (bool_byte (ltb last low))) (and_le_l high (bool_byte (ltb last low))) (and_le_r high (bool_byte (ltb last low))) in
    rw (eq-eqb high 0 t.0, lt-ltb low (last + 1) (omega (arith, T.ltb-false last low (zero_byte (ltb last low) t.1))))
  where
    go : (o a b : ℕ) → o ≡ 0 → o + a ≡ high + b → a ≤ high → a ≤ b → (high ≡ 0) × (b ≡ 0)
    go o a b e s p q = (omega arith, omega arith)

pub false_not : (high low last : ℕ) → (bit_or high (bool_byte (ltb last low)) ≡ 0 → ⊥) → 0 ≡ false_weight high low (last + 1)
false_not high low last f =
    cases (eqb high 0)
    (λ e.
    cases (ltb low (last + 1))
    (λ t. absurd (f (both high (ltb last low) (T.eqb-true high 0 e) (le-ltb last low (omega (arith, T.ltb-true low (last + 1) t))))))
    (λ t. rw (e, t)))
    (λ e. rw e)
  where
    both : (h : ℕ) (b : Bool) → h ≡ 0 → b ≡ false → bit_or h (bool_byte b) ≡ 0
    both h b e f = rw (e, f) (or_zero_r 0)

-- a cell is not both
pub either_weight : (high low taken : ℕ) → bit_or (settled_weight high low) (false_weight high low taken) ≡ settled_weight high low + false_weight high low taken
either_weight high low taken =
    cases (eqb high 1)
    (λ e.
    let z : eqb high 0 ≡ false = ne_eqb high 0 (λ k. (let w = T.eqb-true high 1 e in absurd (omega arith))) in
    rw z (or_zero_r (settled_weight high low) ∙ sym (add-zero (settled_weight high low))))
    (λ e. rw e (or_zero_l (false_weight high low taken) ∙ sym (zero-add (false_weight high low taken))))

-- what a code adds by its two halves
abbrev weight_of : ℕ → ℕ → ℕ
weight_of taken n = settled_weight (n / 4294967296) (n % 4294967296) + false_weight (n / 4294967296) (n % 4294967296) taken

-- the weights of a code are its packed counts
pub weigh_cell : (taken n : ℕ) → settled_weight (n / 4294967296) (n % 4294967296) + false_weight (n / 4294967296) (n % 4294967296) taken
    ≡ packed_tally (tallied taken (meaning_of n ∷ []))
unfolding tallied count_of reading is_given_up is_true is_false is_uncertain
weigh_cell taken n =
    by_code (λ n c. weight_of taken n ≡ packed_tally (tallied taken (c ∷ [])))
    (λ n h. (let d : n / 4294967296 ≡ 0 = omega arith in let m : n % 4294967296 ≡ n = omega arith in rw (d, m) (named n)))
    refl
    refl
    (λ n h. other n h (n / 4294967296) (n % 4294967296) (omega arith) (omega arith))
    n
  where
    named : (n : ℕ) → settled_weight 0 n + false_weight 0 n taken ≡ packed_tally (tallied taken (Named n ∷ []))
    named n =
        cases (leb taken n) (λ e. rw (e, le-ltb n taken (leb-true taken n e))) (λ e. rw (e, lt-ltb n taken (leb-false taken n e)))

    other : (n : ℕ) → given_up_code < n → (high low : ℕ) → n ≡ high * 4294967296 + low → low < 4294967296
        → settled_weight high low + false_weight high low taken ≡ 0
    other n h high low e k =
        let a : settled_weight high low ≡ 0 =
        cases (eqb high 1) (λ t. (let w = T.eqb-true high 1 t in rw (t, le-ltb low 2 (omega arith)))) (λ t. rw t) in
        let b : false_weight high low taken ≡ 0 = (let z : eqb high 0 ≡ false = ne_eqb high 0 (λ z. absurd (omega arith)) in rw z) in
        rw (a, b)

-- THE SUM

packed_sum : (t u : CellTally) → packed_tally (tally_sum t u) ≡ packed_tally t + packed_tally u
packed_sum t u = omega arith

pub packed_none : (taken : ℕ) → packed_tally (tallied taken []) ≡ 0
unfolding tallied count_of
packed_none taken = refl

-- what is summed so far, and what is left, together
pub packed_pass : (taken p v total : ℕ) (l m : List Cell) → p + packed_tally (tallied taken (l ++ m)) ≡ total → v ≡ packed_tally (tallied taken l)
    → (p + v) + packed_tally (tallied taken m) ≡ total
packed_pass taken p v total l m e f =
    let s = ap packed_tally (tally_append taken l m) ∙ packed_sum (tallied taken l) (tallied taken m) in
    go (packed_tally (tallied taken l)) (packed_tally (tallied taken m)) (packed_tally (tallied taken (l ++ m))) e f s
  where
    go : (a b c : ℕ) → p + c ≡ total → v ≡ a → c ≡ a + b → (p + v) + b ≡ total
    go a b c e f s = omega arith

-- each count is at most 256, and so their number is small
pub packed_small : (taken : ℕ) (l : List Cell) → length l ≤ 256 → packed_tally (tallied taken l) < 536870912
unfolding tallied
packed_small taken l h =
    go (count_of is_given_up l) (count_of (λ c. is_true (reading taken c)) l) (count_of (λ c. is_false (reading taken c)) l)
    (count_le is_given_up l) (count_le (λ c. is_true (reading taken c)) l) (count_le (λ c. is_false (reading taken c)) l)
  where
    go : (g t f : ℕ) → g ≤ length l → t ≤ length l → f ≤ length l → g + 1024 * (t + g) + 1048576 * f < 536870912
    go g t f p q r = omega arith

-- cell by cell, as the library sums
abbrev pub packed_cell : ℕ → ℕ → ℕ
packed_cell taken n = packed_tally (tallied taken (meaning_of n ∷ []))

pub packed_each : (taken : ℕ) (l : List ℕ) → packed_tally (tallied taken (meanings l)) ≡ sum_by (packed_cell taken) l
packed_each taken [] = packed_none taken
packed_each taken (n ∷ l) =
    let s = ap packed_tally (tally_append taken (meaning_of n ∷ []) (meanings l)) ∙ packed_sum (tallied taken (meaning_of n ∷ [])) (tallied taken (meanings l)) in
    omega (arith, s, packed_each taken l, sum_by_from (packed_cell taken) (0 + packed_cell taken n) l)

pub packed_few : (taken : ℕ) (l : List ℕ) → length l ≤ 16 → sum_by (packed_cell taken) l < 4294967296
packed_few taken l h =
    let small = packed_small taken (meanings l) (omega (arith, length-map l meaning_of)) in
    let e = packed_each taken l in
    omega arith

-- THE COUNTS FROM IT

-- every cell is counted once
count_all : (taken : ℕ) (l : List Cell)
    → count_of (λ c. is_true (reading taken c)) l + count_of (λ c. is_false (reading taken c)) l + count_of (λ c. is_uncertain (reading taken c)) l ≡ length l
unfolding count_of is_true is_false is_uncertain
count_all taken [] = refl
count_all taken (c ∷ l) =
    go (reading taken c) (count_of (λ c. is_true (reading taken c)) l) (count_of (λ c. is_false (reading taken c)) l)
    (count_of (λ c. is_uncertain (reading taken c)) l) (count_all taken l)
  where
    go : (r : Reading) (t f u : ℕ) → t + f + u ≡ length l
        → cond (is_true r) 1 0 + t + (cond (is_false r) 1 0 + f) + (cond (is_uncertain r) 1 0 + u) ≡ suc (length l)
    go R.True t f u e = omega arith
    go R.False t f u e = omega arith
    go R.Uncertain t f u e = omega arith

-- the three places of the number
module _ (n g t f u : ℕ) (p : g ≤ 256) (q : n ≤ 256) (e : t + f + u ≡ n) where
  low_place : (g + 1024 * (t + g) + 1048576 * f) % 1024 ≡ g
  low_place = omega arith

  middle_place : (g + 1024 * (t + g) + 1048576 * f) / 1024 % 1024 ≡ t + g
  middle_place = let d : (g + 1024 * (t + g) + 1048576 * f) / 1024 ≡ t + g + 1024 * f = omega arith in rw d (omega arith)

  high_place : (g + 1024 * (t + g) + 1048576 * f) / 1048576 ≡ f
  high_place = omega arith

  places_ask : let v = g + 1024 * (t + g) + 1048576 * f in (v % 1024 ≤ v / 1024 % 1024) × (v / 1024 % 1024 - v % 1024 + v / 1048576 ≤ n)
  places_ask = rw (low_place, middle_place, high_place) (omega arith, omega arith)

  places_back : unpacked_tally n (g + 1024 * (t + g) + 1048576 * f) ≡ record { trues = t; falses = f; uncertain = u; givenup = g }
  places_back =
      let a : t + g - g ≡ t = omega arith in
      let b : n - t - f ≡ u = omega arith in
      rw (low_place, middle_place, high_place, a, b)

-- what `unpack` asks for, and that it gives the counts back
pub unpack_asks : (taken n v : ℕ) (l : List Cell) → length l ≡ n → n ≤ 256 → v ≡ packed_tally (tallied taken l)
    → (v % 1024 ≤ v / 1024 % 1024) × (v / 1024 % 1024 - v % 1024 + v / 1048576 ≤ n)
unfolding tallied
unpack_asks taken n v l h k e =
    rw e (places_ask n (count_of is_given_up l) (count_of (λ c. is_true (reading taken c)) l) (count_of (λ c. is_false (reading taken c)) l)
    (count_of (λ c. is_uncertain (reading taken c)) l) (omega (arith, count_le is_given_up l)) k (count_all taken l ∙ h))

pub unpack_packed : (taken n v : ℕ) (l : List Cell) → length l ≡ n → n ≤ 256 → v ≡ packed_tally (tallied taken l) → unpacked_tally n v ≡ tallied taken l
unfolding tallied
unpack_packed taken n v l h k e =
    rw e (places_back n (count_of is_given_up l) (count_of (λ c. is_true (reading taken c)) l) (count_of (λ c. is_false (reading taken c)) l)
    (count_of (λ c. is_uncertain (reading taken c)) l) (omega (arith, count_le is_given_up l)) k (count_all taken l ∙ h))

-- THE ROWS OF A TILE

pub less_more : (n : ℕ) → 0 < n → n - 1 + 1 ≡ n
less_more n h = omega arith

module _ (width : ℕ) (r : PixelRange) (l : List ℕ) (h : ReadyRows width r (length l)) (s : tile_shaped r ≡ true) where
  pub tile_right : r.right ≡ r.left + 16
  tile_right =
      omega (arith, h.across, T.eqb-true (r.right - r.left) 16 (and_left (eqb (r.right - r.left) 16) (leb (r.bottom - r.top) 16) s))

  pub tile_rows : r.bottom - r.top ≤ 16
  tile_rows = leb-true (r.bottom - r.top) 16 (and_right (eqb (r.right - r.left) 16) (leb (r.bottom - r.top) 16) s)

  pub row_sixteen : (row : ℕ) → row < r.bottom → length (row_cells width r row l) ≡ 16
  row_sixteen row k =
      let start = row * width + r.left in
      omega (arith, tile_right, row_fits width r (length l) row h k, length-take (row * width + r.right - start) (drop start l), length-drop start l)

  -- sixteen for each row
  tile_cells : (k row : ℕ) → row + k ≡ r.bottom → length (rows_from width r l row) ≡ 16 * k
  tile_cells zero row e = ap length (rows_over width r l row (omega arith))
  tile_cells (suc k) row e =
      let m : row < r.bottom = omega arith in
      omega (
        arith,
        ap length (rows_next width r l h row m),
        length-append (meanings (row_cells width r row l)) (rows_from width r l (row + 1)),
        length-map (row_cells width r row l) meaning_of,
        row_sixteen row m,
        tile_cells k (row + 1) (omega arith),
      )

  pub tile_all : length (rows_from width r l r.top) ≡ 16 * (r.bottom - r.top)
  tile_all = tile_cells (r.bottom - r.top) r.top (omega (arith, h.down))

  pub tile_small : (taken : ℕ) → packed_tally (tallied taken (held_cells width r (meanings l))) < 536870912
  tile_small taken =
      rw (← rows_all width r l) (packed_small taken (rows_from width r l r.top) (omega (arith, tile_all, tile_rows)))

  -- a row more is summed
  pub tile_summed : (taken p v row total : ℕ) (m : List ℕ) → row < r.bottom → p + packed_tally (tallied taken (rows_from width r l row)) ≡ total
      → m ≡ row_cells width r row l → v ≡ packed_tally (tallied taken (meanings m))
      → (p + v) + packed_tally (tallied taken (rows_from width r l (row + 1))) ≡ total
  tile_summed taken p v row total m k e f g =
      packed_pass taken p v total (meanings (row_cells width r row l)) (rows_from width r l (row + 1)) (rw (rows_next width r l h row k) at e) (rw f at g)

  -- all rows are
  pub tile_end : (taken p row total : ℕ) → row ≡ r.bottom → p + packed_tally (tallied taken (rows_from width r l row)) ≡ total → p ≡ total
  tile_end taken p row total k e = omega (arith, rw (rows_over width r l row k) at e, packed_none taken)

  pub tile_asks : (taken v : ℕ) → v ≡ packed_tally (tallied taken (held_cells width r (meanings l)))
      → (v % 1024 ≤ v / 1024 % 1024) × (v / 1024 % 1024 - v % 1024 + v / 1048576 ≤ 16 * (r.bottom - r.top))
  tile_asks taken v e =
      unpack_asks taken (16 * (r.bottom - r.top)) v (rows_from width r l r.top) tile_all (omega (arith, tile_rows)) (rw (← rows_all width r l) at e)

  pub tile_back : (taken v : ℕ) → v ≡ packed_tally (tallied taken (held_cells width r (meanings l)))
      → unpacked_tally (16 * (r.bottom - r.top)) v ≡ tallied taken (held_cells width r (meanings l))
  tile_back taken v e =
      rw (← rows_all width r l) (unpack_packed taken (16 * (r.bottom - r.top)) v (rows_from width r l r.top) tile_all (omega (arith, tile_rows)) (rw (← rows_all width r l) at e))

-- WHERE NO BLOCK HAS BEEN TAKEN

none_false : (l : List Cell) → count_of (λ c. is_false (reading 0 c)) l ≡ 0
unfolding count_of reading is_false
none_false [] = refl
none_false (Named n ∷ l) = let e = none_false l in let z : leb 0 n ≡ true = le-leb 0 n (omega arith) in rw z (omega arith)
none_false (Marked ∷ l) = let e = none_false l in omega arith
none_false (GivenUp ∷ l) = let e = none_false l in omega arith
none_false (Other n ∷ l) = let e = none_false l in omega arith

same_true : (a b : ℕ) (l : List Cell) → count_of (λ c. is_true (reading a c)) l ≡ count_of (λ c. is_true (reading b c)) l
unfolding count_of reading is_true
same_true a b [] = refl
same_true a b (Named n ∷ l) = let e = same_true a b l in go (leb a n) (leb b n) e
  where
    go : (x y : Bool) → count_of (λ c. is_true (reading a c)) l ≡ count_of (λ c. is_true (reading b c)) l
        → cond (is_true (cond x R.Uncertain R.False)) 1 0 + count_of (λ c. is_true (reading a c)) l
        ≡ cond (is_true (cond y R.Uncertain R.False)) 1 0 + count_of (λ c. is_true (reading b c)) l
    go true true e = omega arith
    go true false e = omega arith
    go false true e = omega arith
    go false false e = omega arith
same_true a b (Marked ∷ l) = let e = same_true a b l in omega arith
same_true a b (GivenUp ∷ l) = let e = same_true a b l in omega arith
same_true a b (Other n ∷ l) = let e = same_true a b l in omega arith

pub untaken_counts : (l : List Cell) → untaken_tally (tallied 1 l) ≡ tallied 0 l
unfolding tallied
untaken_counts l =
    let f = none_false l in
    let t = same_true 1 0 l in
    let u : count_of (λ c. is_uncertain (reading 1 c)) l + count_of (λ c. is_false (reading 1 c)) l ≡ count_of (λ c. is_uncertain (reading 0 c)) l =
    omega (arith, count_all 0 l, count_all 1 l, f, t) in
    rw (t, u, f)
