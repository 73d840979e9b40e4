-- The cells that a finished step leaves: their codes mean what was meant, and no pixel's cell becomes damaged. Where none is, no tile holds one.
-- Assumes nothing.
use mathlib.Core.Path.{◌≡◌, refl, sym, ap, ap₂, ◌∙◌}
use mathlib.Core.Bool.{Bool, true, false, not, cond, ◌&&◌, ◌||◌, true≢false}
use mathlib.Core.List.{List, [], ◌∷◌}
use Prim.Native.Nat.{ℕ, suc, ◌+◌, ◌-◌, ◌*◌, ◌/◌, ◌%◌, ◌^◌, ◌≤◌, ◌<◌}
use native.Mathlib.Omega.{arith}
use lib.Dec.{leb}
use native.Mathlib.Decide.{dec_lt}
use lib.ListN.{length, get_or}
use lib.ListN as L
use borrow.Author.Tests.{lt-ltb, le-leb}
use Rattle.std.specs.Prelude.{Some}
use Rattle.base.specs.Event.{Event, marks, queues, gives_up, queued_by}
use Rattle.base.specs.Lists.{Every}
use Rattle.image.specs.declared.Op.{Op}
use Rattle.image.specs.declared.Op.TheVariants as O
use Rattle.image.specs.declared.PixelRange.{PixelRange}
use Rattle.image.specs.Cell.{Cell, Named, Marked, GivenUp, Other, meanings, meaning_of, codes, done_to, nameable, is_damaged, of_kind}
use Rattle.image.specs.Range.{holds_cell, rectangle_of, in_picture, picture_ready, whole_picture}
use Rattle.image.specs.Painting.{map_at, painted, pixel_cell, held_cells, some_of, every_of, some_seen}
use Rattle.image.proofs.CellLaws.{has_code, meaning_code, meaning_proper, done_proper}
use Rattle.image.proofs.PaintLaws.{painted_length}
use Rattle.image.proofs.BlockLaws.{painted_pixel, whole_every}
use Rattle.image.proofs.RangeLaws.{cell_pixel, beyond_not_held, whole_in_picture}
use Rattle.image.proofs.CountLaws.{held_every}
use Rattle.tiles.specs.Tiles.{touched_tiles, touched_damaged}
use Rattle.tiles.proofs.PlaceLaws.{touched_in_picture}
use Rattle.queue.specs.declared.Block.{Block}
use Rattle.decide.specs.declared.Chosen.{Chosen}
use Rattle.plan.specs.Plan.{painted_under, cells_after}
use Rattle.plan.proofs.CoverLaws.{covers}
use Rattle.implicit.specs.Record.{pixel_count, pixel_cells}
use Rattle.implicit.specs.Step.{World, finished, events_of, world_left, step_with}
use Rattle.implicit.proofs.StepLawsWent.{went}

-- CODES

abbrev pub Coded : Cell → Type 0
Coded c = has_code c ≡ true

pub meanings_coded : (l : List ℕ) → Every Coded (meanings l)
meanings_coded [] = tt
meanings_coded (n ∷ l) = (meaning_proper n, meanings_coded l)

pub codes_back : (l : List Cell) → Every Coded l → meanings (codes l) ≡ l
codes_back [] h = refl
codes_back (c ∷ l) h = ap₂ ◌∷◌ (meaning_code c h.0) (codes_back l h.1)

coded_at : (t : ℕ → Bool) (op : Op) (i : ℕ) (l : List Cell) → nameable op ≡ true → Every Coded l → Every Coded (map_at (λ j c. cond (t j) (done_to op c) c) i l)
coded_at t op i [] k h = tt
coded_at t op i (c ∷ l) k h = (go (t i), coded_at t op (suc i) l k h.1)
  where
    go : (b : Bool) → Coded (cond b (done_to op c) c)
    go true = done_proper op c k h.0
    go false = h.0

pub coded_painted : (width : ℕ) (r : PixelRange) (op : Op) (l : List Cell) → nameable op ≡ true → Every Coded l → Every Coded (painted width r op l)
unfolding painted
coded_painted width r op l k h = coded_at (holds_cell width r) op 0 l k h

-- all cells have codes after the events, if all new numbers are numbers of blocks
pub coded_after : (p : Chosen) (b : Block) (number new : ℕ) (es : List (Event Block)) (l : List Cell) → new + length (queued_by es) ≤ 2 ^ 32 → Every Coded l
    → Every Coded (cells_after p b number new es l)
unfolding cells_after queued_by nameable
coded_after p b number new [] l k h = h
coded_after p b number new (marks c ∷ es) l k h =
    coded_after p b number new es (painted_under p c O.Mark l) k (coded_painted p.width (rectangle_of c.x c.y p.width p.height) O.Mark l refl h)
coded_after p b number new (queues c ∷ es) l k h =
    coded_after p b number (suc new) es (painted_under p c (O.Name number new) l) (omega arith)
    (coded_painted p.width (rectangle_of c.x c.y p.width p.height) (O.Name number new) l (lt-ltb new 4294967296 (omega arith)) h)
coded_after p b number new (gives_up ∷ es) l k h =
    coded_after p b number new es (painted_under p b O.GiveUp l) k (coded_painted p.width (rectangle_of b.x b.y p.width p.height) O.GiveUp l refl h)

-- the cells of the picture are still there
pub still_enough : (p : Chosen) (c : Block) (op : Op) (l : List Cell) → p.width * p.height ≤ length l → p.width * p.height ≤ length (painted_under p c op l)
still_enough p c op l h = rw (painted_length p.width (rectangle_of c.x c.y p.width p.height) op l) h

-- DAMAGE

abbrev pub Whole : Cell → Type 0
Whole c = is_damaged c ≡ false

pub done_whole : (op : Op) (c : Cell) → Whole c → Whole (done_to op c)
unfolding done_to is_damaged
done_whole O.Mark c h = refl
done_whole (O.Name from to) (Named n) h = go (leb from n)
  where
    go : (t : Bool) → Whole (cond t (Named to) (Named n))
    go true = refl
    go false = refl
done_whole (O.Name from to) Marked h = refl
done_whole (O.Name from to) GivenUp h = refl
done_whole (O.Name from to) (Other n) h = h
done_whole O.GiveUp c h = refl
done_whole (O.Fill to) c h = refl

-- every pixel's cell is undamaged
abbrev pub PixelsWhole : Chosen → List Cell → Type 0
PixelsWhole p l = (x y : ℕ) → x < p.width → y < p.height → Whole (pixel_cell p.width p.height x y l)

whole_painted : (p : Chosen) (c : Block) (op : Op) (l : List Cell) → p.width * p.height ≤ length l → PixelsWhole p l → PixelsWhole p (painted_under p c op l)
whole_painted p c op l h k x y i j =
    rw (painted_pixel c.x c.y p.width p.height l h op x y i j) (go (covers c x y))
  where
    go : (t : Bool) → let v = pixel_cell p.width p.height x y l in Whole (cond t (done_to op v) v)
    go true = done_whole op (pixel_cell p.width p.height x y l) (k x y i j)
    go false = k x y i j

pub whole_after : (p : Chosen) (b : Block) (number new : ℕ) (es : List (Event Block)) (l : List Cell) → p.width * p.height ≤ length l → PixelsWhole p l
    → PixelsWhole p (cells_after p b number new es l)
unfolding cells_after
whole_after p b number new [] l h k = k
whole_after p b number new (marks c ∷ es) l h k = whole_after p b number new es (painted_under p c O.Mark l) (still_enough p c O.Mark l h) (whole_painted p c O.Mark l h k)
whole_after p b number new (queues c ∷ es) l h k =
    whole_after p b number (suc new) es (painted_under p c (O.Name number new) l) (still_enough p c (O.Name number new) l h) (whole_painted p c (O.Name number new) l h k)
whole_after p b number new (gives_up ∷ es) l h k = whole_after p b number new es (painted_under p b O.GiveUp l) (still_enough p b O.GiveUp l h) (whole_painted p b O.GiveUp l h k)

-- where every cell passes as undamaged none is damaged
pub not_damaged : (test : Cell → Bool) (l : List Cell) → every_of (λ c. not (test c)) l ≡ true → some_of test l ≡ false
unfolding every_of some_of
not_damaged test [] e = refl
not_damaged test (c ∷ l) e = go (test c) (not_damaged test l) e
  where
    go : (t : Bool) → (every_of (λ c. not (test c)) l ≡ true → some_of test l ≡ false) → (not t && every_of (λ c. not (test c)) l) ≡ true
        → (t || some_of test l) ≡ false
    go true ih h = let z : ◌≡◌ {A = ℕ} 0 1 = cc in absurd (omega arith)
    go false ih h = ih h

-- a pixel's cell by its place
whole_at : (p : Chosen) (l : List Cell) → PixelsWhole p l → (j : ℕ) → j < p.width * p.height → is_damaged (get_or l j (Named 0)) ≡ false
whole_at p l k j h =
    let (x_in, y_in, is) = cell_pixel p.width p.height j h in
    rw is at (k (j % p.width) (p.height - 1 - j / p.width) x_in y_in)

-- then no cell that a rectangle of the picture holds is damaged,
whole_held : (p : Chosen) (r : PixelRange) (l : List Cell) → in_picture p.width p.height r ≡ true → PixelsWhole p l
    → some_of is_damaged (held_cells p.width r l) ≡ false
whole_held p r l inside k =
    not_damaged is_damaged (held_cells p.width r l)
    (held_every (λ c. not (is_damaged c)) p.width r l (Named 0)
    (λ j h t. elim (dec_lt j (p.width * p.height)) [
      | yes i ↦ ap not (whole_at p l k j i)
      | no i ↦ absurd (true≢false (sym t ∙ beyond_not_held p.width p.height r j inside (omega arith)))
    ]))

-- nor one in a tile that a rectangle touches
pub whole_touched : (p : Chosen) (r : PixelRange) (cells : List ℕ) → in_picture p.width p.height r ≡ true → pixel_count p ≤ length cells
    → PixelsWhole p (meanings cells) → touched_damaged p.width p.height r cells ≡ Some false
unfolding touched_damaged some_seen of_kind picture_ready
whole_touched p r cells inside enough k =
    let all = touched_tiles p.width p.height r in
    let all_inside = touched_in_picture p.width p.height r inside in
    rw (inside, le-leb (pixel_count p) (length cells) enough, all_inside, whole_held p all (meanings cells) all_inside k)

-- none passes a test, so that all fail it
none_passes : (test : Cell → Bool) (l : List Cell) → some_of test l ≡ false → every_of (λ c. not (test c)) l ≡ true
unfolding some_of every_of
none_passes test [] e = refl
none_passes test (c ∷ l) e = go (test c) (none_passes test l) e
  where
    go : (t : Bool) → (some_of test l ≡ false → every_of (λ c. not (test c)) l ≡ true) → (t || some_of test l) ≡ false → (not t && every_of (λ c. not (test c)) l) ≡ true
    go true f h = absurd (true≢false h)
    go false f h = f h

-- THE PIXELS AS THEY ARE LENT

-- what a look at all of them says
pub looked_whole : (p : Chosen) (cells : List ℕ) → pixel_count p ≤ length cells → some_of is_damaged (pixel_cells p cells) ≡ false → PixelsWhole p (meanings cells)
looked_whole p cells enough e x y i j =
    let f = (whole_every p.width p.height (meanings cells) (rw (L.length-map cells meaning_of) enough) (λ c. not (is_damaged c))).0
    (none_every (pixel_cells p cells) e) x y i j in
    not_true (is_damaged (pixel_cell p.width p.height x y (meanings cells))) f
  where
    not_true : (t : Bool) → not t ≡ true → t ≡ false
    not_true true h = absurd (true≢false (sym h))
    not_true false h = refl

    none_every : (l : List Cell) → some_of is_damaged l ≡ false → every_of (λ c. not (is_damaged c)) l ≡ true
    none_every l h = none_passes is_damaged l h

-- and the other way
pub whole_looked : (p : Chosen) (cells : List ℕ) → PixelsWhole p (meanings cells) → some_of is_damaged (pixel_cells p cells) ≡ false
whole_looked p cells k = whole_held p (whole_picture p.width p.height) (meanings cells) (whole_in_picture p.width p.height) k

-- a finished step keeps them so
pub step_whole : (tape : Bool) (w : World) (vs : List ℕ) (left : World) (e n : ℕ) → step_with tape w vs ≡ finished left e n
    → PixelsWhole w.state.chosen (meanings w.cells) → PixelsWhole left.state.chosen (meanings left.cells)
unfolding world_left
step_whole tape w vs left e n h k =
    let g = went tape w vs left e n h in
    let p = w.state.chosen in
    let es = events_of w g.block g.own in
    let l = meanings w.cells in
    let after = cells_after p g.block w.state.taken w.state.queued es l in
    let coded = coded_after p g.block w.state.taken w.state.queued es l g.numbers (meanings_coded w.cells) in
    let whole : PixelsWhole p (meanings (codes after)) =
    rw (codes_back after coded) (whole_after p g.block w.state.taken w.state.queued es l (rw (L.length-map w.cells meaning_of) g.cells_enough) k) in
    rw g.leaves whole
