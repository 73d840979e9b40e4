-- Laws of painting: cell by cell, list by list, and the passes of the loops. Assumes nothing.
use mathlib.Core.Path.{◌≡◌, refl, sym, ap, ap₂, ◌∙◌}
use mathlib.Core.Bool.{Bool, true, false, cond, ◌&&◌, true≢false}
use mathlib.Core.List.{List, [], ◌∷◌, ◌++◌, map, append_assoc, append-nil}
use Prim.Native.Nat.{ℕ, suc, ◌+◌, ◌-◌, ◌*◌, ◌≤◌, ◌<◌}
use native.Mathlib.Omega.{arith}
use native.Mathlib.Nat.{zero-add}
use native.Mathlib.Numerals.{add-one}
use lib.ListN.{length, get_or, take, drop, set, replicate, drop_of_length-le}
use lib.ListN as L
use lib.Seq.{take_all, take-suc-set, drop-set-lt, drop-cons}
use Rattle.base.proofs.Test.{cases, cond_yes, cond_no, and_right}
use Rattle.image.specs.declared.Op.{Op}
use Rattle.image.specs.declared.PixelRange.{PixelRange}
use Rattle.image.specs.Cell.{Cell, cell_code, meaning_of, meanings, codes, done_to, nameable}
use Rattle.image.specs.Range.{in_stretch, holds_cell, in_picture, picture_ready}
use Rattle.image.specs.Painting.{map_at, painted, paintable, painted_cells}
use Rattle.image.specs.RowsComputed.{touched}
use Rattle.image.proofs.AtLaws.{length_map_at, get_d_map_at, map_at_ext, map_at_none, map_at_map_at, map_at_stretch}
use Rattle.image.proofs.CellLaws.{code_meaning, touched_meaning}
use Rattle.image.proofs.RangeLaws.{between_in, between_bounds, between_out, band, stretch_held, stretch_past, stretch_rest, band_none, beyond_not_held}

-- CELL BY CELL

pub painted_length : (width : ℕ) (r : PixelRange) (op : Op) (l : List Cell) → length (painted width r op l) ≡ length l
unfolding painted
painted_length width r op l = length_map_at (λ i c. cond (holds_cell width r i) (done_to op c) c) 0 l

-- a cell afterwards is a function of what it was and of whether the rectangle holds it
pub painted_cell : (width : ℕ) (r : PixelRange) (op : Op) (l : List Cell) (i : ℕ) (d : Cell) → i < length l
    → get_or (painted width r op l) i d ≡ cond (holds_cell width r i) (done_to op (get_or l i d)) (get_or l i d)
unfolding painted
painted_cell width r op l i d h = get_d_map_at (λ i c. cond (holds_cell width r i) (done_to op c) c) 0 l i d h ∙ rw zero-add

pub painted_inside : (width : ℕ) (r : PixelRange) (op : Op) (l : List Cell) (i : ℕ) (d : Cell) → i < length l → holds_cell width r i ≡ true
    → get_or (painted width r op l) i d ≡ done_to op (get_or l i d)
painted_inside width r op l i d h t = painted_cell width r op l i d h ∙ cond_yes (holds_cell width r i) _ _ t

pub painted_outside : (width : ℕ) (r : PixelRange) (op : Op) (l : List Cell) (i : ℕ) (d : Cell) → i < length l → holds_cell width r i ≡ false
    → get_or (painted width r op l) i d ≡ get_or l i d
painted_outside width r op l i d h t = painted_cell width r op l i d h ∙ cond_no (holds_cell width r i) _ _ t

-- cells beyond the pixels keep their value
pub painted_beyond : (width height : ℕ) (r : PixelRange) (op : Op) (l : List Cell) (i : ℕ) (d : Cell) → in_picture width height r ≡ true
    → i < length l → width * height ≤ i
    → get_or (painted width r op l) i d ≡ get_or l i d
painted_beyond width height r op l i d t h k = painted_outside width r op l i d h (beyond_not_held width height r i t k)

-- THE LENT CELLS

meant : (t : ℕ → Bool) (op : Op) (i : ℕ) (l : List ℕ) → nameable op ≡ true
    → map meaning_of (map cell_code (map_at (λ j c. cond (t j) (done_to op c) c) i (map meaning_of l))) ≡ map_at (λ j c. cond (t j) (done_to op c) c) i (map meaning_of l)
meant t op i [] h = refl
meant t op i (n ∷ l) h = ap₂ ◌∷◌ (go (t i)) (meant t op (suc i) l h)
  where
    go : (b : Bool) → meaning_of (cell_code (cond b (done_to op (meaning_of n)) (meaning_of n))) ≡ cond b (done_to op (meaning_of n)) (meaning_of n)
    go true = touched_meaning op n h
    go false = ap meaning_of (code_meaning n)

-- it is done by the two tests
pub paintable_as : (width height : ℕ) (r : PixelRange) (op : Op) (n : ℕ) (a b : Bool) → picture_ready width height r n ≡ a → nameable op ≡ b
    → paintable width height r op n ≡ (a && b)
unfolding paintable
paintable_as width height r op n a b e f = ap₂ (λ (s t : Bool). s && t) e f

-- their meanings are painted, where it is done
pub painted_meanings : (width height : ℕ) (r : PixelRange) (op : Op) (l : List ℕ) → paintable width height r op (length l) ≡ true
    → meanings (painted_cells width height r op l) ≡ painted width r op (meanings l)
unfolding painted_cells paintable painted
painted_meanings width height r op l t =
    ap meanings (cond_yes (picture_ready width height r (length l) && nameable op) (codes (map_at (λ i c. cond (holds_cell width r i) (done_to op c) c) 0 (meanings l))) l t)
    ∙ meant (holds_cell width r) op 0 l (and_right (picture_ready width height r (length l)) (nameable op) t)

-- and else they are as they were
pub painted_not : (width height : ℕ) (r : PixelRange) (op : Op) (l : List ℕ) → paintable width height r op (length l) ≡ false
    → painted_cells width height r op l ≡ l
unfolding painted_cells
painted_not width height r op l t = cond_no (paintable width height r op (length l)) _ _ t

pub painted_done : (width height : ℕ) (r : PixelRange) (op : Op) (l : List ℕ) → paintable width height r op (length l) ≡ true
    → painted_cells width height r op l ≡ codes (painted width r op (meanings l))
unfolding painted_cells
painted_done width height r op l t = cond_yes (paintable width height r op (length l)) _ _ t

pub painted_cells_length : (width height : ℕ) (r : PixelRange) (op : Op) (l : List ℕ) → length (painted_cells width height r op l) ≡ length l
painted_cells_length width height r op l =
    cases (paintable width height r op (length l))
    (λ t. ap length (painted_done width height r op l t) ∙ L.length-map (painted width r op (meanings l)) cell_code ∙ painted_length width r op (meanings l) ∙ L.length-map l meaning_of)
    (λ t. ap length (painted_not width height r op l t))

-- TURNS OF THE ROWS' LOOP

-- what the rows from one on make of the codes
unfoldable pub paint_from : ℕ → ℕ → ℕ → ℕ → ℕ → Op → List ℕ → List ℕ
paint_from width left right row bottom op l = map_at (λ i n. cond (holds_cell width (band left right row bottom) i) (touched op n) n) 0 l

coded : (t : ℕ → Bool) (op : Op) (i : ℕ) (l : List ℕ)
    → map_at (λ j n. cond (t j) (touched op n) n) i l ≡ map cell_code (map_at (λ j c. cond (t j) (done_to op c) c) i (map meaning_of l))
coded t op i [] = refl
coded t op i (n ∷ l) = ap₂ ◌∷◌ (go (t i)) (coded t op (suc i) l)
  where
    go : (b : Bool) → cond b (touched op n) n ≡ cell_code (cond b (done_to op (meaning_of n)) (meaning_of n))
    go true = refl
    go false = sym (code_meaning n)

-- all rows make what is asked
pub paint_all : (width : ℕ) (r : PixelRange) (op : Op) (l : List ℕ)
    → paint_from width r.left r.right r.top r.bottom op l ≡ codes (painted width r op (meanings l))
unfolding paint_from painted
paint_all width r op l = coded (holds_cell width r) op 0 l

-- no row makes nothing
pub paint_end : (width left right row bottom : ℕ) (op : Op) (l : List ℕ) → row ≡ bottom → paint_from width left right row bottom op l ≡ l
unfolding paint_from
paint_end width left right row bottom op l e =
    rw e (map_at_ext (λ i n. cond (holds_cell width (band left right bottom bottom) i) (touched op n) n) (λ i n. n) 0 l
    (λ j n p q. cond_no (holds_cell width (band left right bottom bottom) j) _ _ (band_none width left right bottom j)) ∙ map_at_none 0 l)

-- a row, and then the rows after it
pub paint_pass : (width left right row bottom start end : ℕ) (op : Op) (l ys : List ℕ) → left ≤ right → right ≤ width → row < bottom
    → start ≡ row * width + left → end ≡ row * width + right → end ≤ length l → ys ≡ map (touched op) (take (end - start) (drop start l))
    → paint_from width left right (row + 1) bottom op (take start l ++ (ys ++ drop (end - start) (drop start l))) ≡ paint_from width left right row bottom op l
unfolding paint_from
paint_pass width left right row bottom start end op l ys across fits more s e long y =
    ap (λ (m : List ℕ). map_at after 0 (take start l ++ (m ++ drop (end - start) (drop start l)))) y
    ∙ ap (map_at after 0) (sym (map_at_stretch stretch (touched op) start (end - start) l (omega arith)
    (λ j n p q. cond_yes (in_stretch start end j) _ _ (between_in start end j p (omega arith)))
    (λ j n p. cond_no (in_stretch start end j) _ _ (between_out start end j (λ a b. omega arith)))
    (λ j n p. cond_no (in_stretch start end j) _ _ (between_out start end j (λ a b. omega arith)))))
    ∙ map_at_map_at after stretch 0 l
    ∙ map_at_ext (λ j n. after j (stretch j n)) before 0 l (λ j n p q. cases (in_stretch start end j) (on j n) (off j n))
  where
    after : ℕ → ℕ → ℕ
    after j n = cond (holds_cell width (band left right (row + 1) bottom) j) (touched op n) n

    before : ℕ → ℕ → ℕ
    before j n = cond (holds_cell width (band left right row bottom) j) (touched op n) n

    stretch : ℕ → ℕ → ℕ
    stretch j n = cond (in_stretch start end j) (touched op n) n

    on : (j n : ℕ) → in_stretch start end j ≡ true → after j (stretch j n) ≡ before j n
    on j n t =
        let b = between_bounds start end j t in
        cond_no (holds_cell width (band left right (row + 1) bottom) j) _ _ (stretch_past width left right row bottom fits more j (omega (arith, b.1)))
        ∙ cond_yes (in_stretch start end j) _ _ t
        ∙ sym (cond_yes (holds_cell width (band left right row bottom) j) _ _ (stretch_held width left right row bottom fits more j (omega (arith, b.0)) (omega (arith, b.1))))

    off : (j n : ℕ) → in_stretch start end j ≡ false → after j (stretch j n) ≡ before j n
    off j n t =
        ap (after j) (cond_no (in_stretch start end j) _ _ t)
        ∙ ap (λ (b : Bool). cond b (touched op n) n)
        (sym (stretch_rest width left right row bottom fits more j (λ p q. true≢false (sym (between_in start end j (omega arith) (omega arith)) ∙ t))))

-- A ROW

-- what gives all elements one value fills the row
pub filled : (v : ℕ) (row : List ℕ) → replicate (length row) v ≡ map (λ n. v) row
filled v [] = refl
filled v (n ∷ row) = ap (λ (l : List ℕ). v ∷ l) (filled v row)

-- the elements from one on are still to be changed
unfoldable pub row_from : (ℕ → ℕ) → ℕ → List ℕ → List ℕ
row_from g i row = take i row ++ map g (drop i row)

pub row_start : (g : ℕ → ℕ) (row : List ℕ) → row_from g 0 row ≡ map g row
unfolding row_from
row_start g row = refl

pub row_end : (g : ℕ → ℕ) (i : ℕ) (row : List ℕ) → length row ≤ i → row_from g i row ≡ row
unfolding row_from
row_end g i row h = rw (take_all i row h, drop_of_length-le row h) (append-nil row)

pub row_pass : (g : ℕ → ℕ) (i v : ℕ) (row : List ℕ) → i < length row → v ≡ g (get_or row i 0) → row_from g (i + 1) (set row i v) ≡ row_from g i row
unfolding row_from
row_pass g i v row h e =
    rw (add-one, take-suc-set row i v h, drop-set-lt (suc i) row i v (omega arith))
    (append_assoc (take i row) (v ∷ []) (map g (drop (suc i) row))
    ∙ ap (λ (m : List ℕ). take i row ++ m) (ap (λ (x : ℕ). x ∷ map g (drop (suc i) row)) e ∙ sym (ap (map g) (drop-cons row i 0 h))))
