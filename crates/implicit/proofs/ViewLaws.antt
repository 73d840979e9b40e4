-- Laws of the picture and the counts: the pixels' cells, the answers by the tests that lead there, byte by byte, and the sums. Assumes nothing.
use mathlib.Core.Path.{◌≡◌, refl, sym, ap, ◌∙◌}
use mathlib.Core.Logic.{◌↔◌}
use mathlib.Core.Bool.{Bool, true, false, not, cond}
use mathlib.Core.List.{List, [], ◌∷◌, ◌++◌, map, map-map}
use Prim.Native.Nat.{ℕ, zero, suc, ◌+◌, ◌-◌, ◌^◌, ◌≤◌, ◌<◌}
use native.Mathlib.Omega.{arith}
use lib.Dec.{leb}
use lib.ListN.{length, get_or, take, drop, length-append, length-drop}
use lib.ListN as L
use lib.Seq.{length-take-le, take_at, drop_at}
use borrow.Author.Tests.{le-leb, lt-leb, leb-true, not-true, not-false}
use Rattle.std.specs.Prelude.{Result, Ok, Err, Option, Some, None}
use Rattle.base.proofs.ListLaws.{map_at}
use Rattle.refusal.specs.declared.Refusal.{Refusal}
use Rattle.refusal.specs.declared.Refusal.TheVariants as R
use Rattle.image.specs.declared.CellKind.TheVariants as K
use Rattle.image.specs.declared.Reading.{Reading}
use Rattle.image.specs.declared.Reading.TheVariants as G
use Rattle.image.specs.declared.CellTally.{CellTally}
use Rattle.image.specs.declared.PixelRange.{PixelRange}
use Rattle.image.specs.Cell.{Cell, Named, Marked, GivenUp, Other, meaning_of, meanings, reading, byte_of, shown_byte}
use Rattle.image.specs.Cell.{is_damaged, is_given_up, of_kind, count_of, is_true, is_false, is_uncertain, tallied, share_of}
use Rattle.image.specs.Range.{cell_index, whole_picture}
use Rattle.image.specs.Painting.{pixel_cell, some_of, tally_answer, drawn_bytes}
use Rattle.image.proofs.RangeLaws.{cell_below}
use Rattle.image.proofs.CountLaws.{tally_answered}
use Rattle.image.proofs.ShareLaws.{share_all}
use Rattle.image.proofs.DrawLaws.{drawn_all}
use Rattle.decide.specs.declared.Chosen.{Chosen}
use Rattle.implicit.specs.declared.state.State.{State}
use Rattle.implicit.specs.declared.state.Tally.{Tally}
use Rattle.implicit.specs.Record.{pixel_count, pixel_cells, sound_record}
use Rattle.implicit.specs.View.{cells_sound, picture_bytes, picture_left, picture_answer, counts_from, counts_of, counts_answer}
use Rattle.implicit.proofs.RecordLaws.{sound_chosen, pixels_some, pixels_most, pixel_cells_lem, pixel_cells_length, pixel_cell_at, whole_ready}

-- DAMAGED CELLS

damaged_some : (l : List Cell) → some_of (of_kind K.Damaged) l ≡ some_of is_damaged l
unfolding of_kind some_of
damaged_some [] = refl
damaged_some (c ∷ l) = rw (damaged_some l)

take_meanings : (k : ℕ) (l : List ℕ) → meanings (take k l) ≡ take k (meanings l)
take_meanings zero [] = refl
take_meanings zero (n ∷ l) = refl
take_meanings (suc k) [] = refl
take_meanings (suc k) (n ∷ l) = ap (λ (r : List Cell). meaning_of n ∷ r) (take_meanings k l)

-- no pixel's cell is damaged exactly if none of the first cells is
pub fine_as : (s : State) (cells : List ℕ) (n : ℕ) (b : Bool) → b ≡ some_of (of_kind K.Damaged) (meanings (take n cells)) → n ≡ pixel_count s.chosen
    → not b ≡ cells_sound s cells
fine_as s cells n b f e =
    ap not (f ∙ damaged_some (meanings (take n cells))
    ∙ ap (some_of is_damaged) (take_meanings n cells ∙ ap (λ (k : ℕ). take k (meanings cells)) e ∙ sym (pixel_cells_lem s.chosen cells)))

-- THE ANSWERS, BY THE TESTS THAT LEAD THERE

-- what the code's test says
pub test_passed : (t x : Bool) → t ≡ x → not t ≡ false → x ≡ true
test_passed t x e h = sym e ∙ not-false t h

pub test_failed : (t x : Bool) → t ≡ x → not t ≡ true → x ≡ false
test_failed t x e h = sym e ∙ not-true t h

module _ (s : State) (cells : List ℕ) (room : ℕ) where
  pub refused_record : sound_record s.len s ≡ false → picture_answer s cells room ≡ Err R.Damaged
  unfolding picture_answer
  refused_record h = rw h

  pub refused_cells : sound_record s.len s ≡ true → length cells < pixel_count s.chosen → picture_answer s cells room ≡ Err R.Cells
  unfolding picture_answer
  refused_cells h k = rw (h, lt-leb (pixel_count s.chosen) (length cells) k)

  pub refused_room : sound_record s.len s ≡ true → pixel_count s.chosen ≤ length cells → room < pixel_count s.chosen
      → picture_answer s cells room ≡ Err R.Picture
  unfolding picture_answer
  refused_room h k m = rw (h, le-leb (pixel_count s.chosen) (length cells) k, lt-leb (pixel_count s.chosen) room m)

  pub refused_cell : sound_record s.len s ≡ true → pixel_count s.chosen ≤ length cells → pixel_count s.chosen ≤ room → cells_sound s cells ≡ false
      → picture_answer s cells room ≡ Err R.Damaged
  unfolding picture_answer
  refused_cell h k m f = rw (h, le-leb (pixel_count s.chosen) (length cells) k, le-leb (pixel_count s.chosen) room m, f)

-- what a picture that can be drawn has
pub record Viewable (s : State) (cells : List ℕ) (room : ℕ) : Type 0 where
  pub record_sound : sound_record s.len s ≡ true
  pub enough : pixel_count s.chosen ≤ length cells
  pub room_left : pixel_count s.chosen ≤ room
  pub cells_fine : cells_sound s cells ≡ true

pub viewable_drawn : (s : State) (cells : List ℕ) (room : ℕ) → Viewable s cells room → picture_answer s cells room ≡ Ok tt
unfolding picture_answer
viewable_drawn s cells room v =
    rw (v.record_sound, le-leb (pixel_count s.chosen) (length cells) v.enough, le-leb (pixel_count s.chosen) room v.room_left, v.cells_fine)

abbrev Called : Type 0
Called = Result (Unit {0}) Refusal

never : (why : Refusal) {P : Type 0} → ◌≡◌ {A = Called} (Err why) (Ok tt) → P
never why e = let z : ◌≡◌ {A = ℕ} 0 1 = cc in absurd (omega arith)

four : (a b c d : Bool)
    → ◌≡◌ {A = Called} (cond a (cond b (cond c (cond d (Ok tt) (Err R.Damaged)) (Err R.Picture)) (Err R.Cells)) (Err R.Damaged)) (Ok tt)
    → (a ≡ true) × (b ≡ true) × (c ≡ true) × (d ≡ true)
four true true true true e = (refl, refl, refl, refl)
four true true true false e = never R.Damaged e
four true true false d e = never R.Picture e
four true false c d e = never R.Cells e
four false b c d e = never R.Damaged e

pub drawn_viewable : (s : State) (cells : List ℕ) (room : ℕ) → picture_answer s cells room ≡ Ok tt → Viewable s cells room
unfolding picture_answer
drawn_viewable s cells room e =
    let n = pixel_count s.chosen in
    let f = four (sound_record s.len s) (leb n (length cells)) (leb n room) (cells_sound s cells) e in
    record { record_sound = f.0; enough = leb-true n (length cells) f.1; room_left = leb-true n room f.2; cells_fine = f.3 }

-- the counts are refused as a picture is that has room
abbrev pub counted_if : Called → Tally → Result Tally Refusal
counted_if (Ok u) n = Ok n
counted_if (Err why) n = Err why

pub counts_as_picture : (s : State) (cells : List ℕ) (room : ℕ) → room ≡ pixel_count s.chosen
    → counted_if (picture_answer s cells room) (counts_of s cells) ≡ counts_answer s cells
unfolding picture_answer counts_answer
counts_as_picture s cells room e =
    rw (le-leb (pixel_count s.chosen) room (omega arith))
    (go (sound_record s.len s) (leb (pixel_count s.chosen) (length cells)) (cells_sound s cells))
  where
    go : (a b d : Bool)
        → counted_if (cond a (cond b (cond d (Ok tt) (Err R.Damaged)) (Err R.Cells)) (Err R.Damaged)) (counts_of s cells)
        ≡ cond a (cond b (cond d (Ok (counts_of s cells)) (Err R.Damaged)) (Err R.Cells)) (Err R.Damaged)
    go true true true = refl
    go true true false = refl
    go true false d = refl
    go false b d = refl

pub counts_done : (s : State) (cells : List ℕ) (room : ℕ) → room ≡ pixel_count s.chosen
    → picture_answer s cells room ≡ Ok tt → counts_answer s cells ≡ Ok (counts_of s cells)
counts_done s cells room e d = sym (counts_as_picture s cells room e) ∙ ap (λ (a : Called). counted_if a (counts_of s cells)) d

pub counts_refused : (s : State) (cells : List ℕ) (room : ℕ) (why : Refusal) → room ≡ pixel_count s.chosen → picture_answer s cells room ≡ Err why
    → counts_answer s cells ≡ Err why
counts_refused s cells room why e d = sym (counts_as_picture s cells room e) ∙ ap (λ (a : Called). counted_if a (counts_of s cells)) d

-- BYTE BY BYTE

bytes_shown : (s : State) (cells : List ℕ) → map (shown_byte s.taken) (take (pixel_count s.chosen) cells) ≡ picture_bytes s cells
unfolding picture_bytes
bytes_shown s cells =
    sym (map-map (λ c. byte_of (reading s.taken c)) meaning_of (take (pixel_count s.chosen) cells))
    ∙ ap (map (λ c. byte_of (reading s.taken c))) (take_meanings (pixel_count s.chosen) cells ∙ sym (pixel_cells_lem s.chosen cells))

-- the first bytes drawn, and the rest as it was
pub left_drawn : (s : State) (n : ℕ) (cells out ys : List ℕ) → ys ≡ drawn_bytes s.taken (take n cells) (take n out)
    → n ≡ pixel_count s.chosen → n ≤ length cells → n ≤ length out → ys ++ drop n out ≡ picture_left s cells out
unfolding picture_left
left_drawn s n cells out ys f e h k =
    let y = f ∙ drawn_all s.taken (take n cells) (take n out) (length-take-le n cells h ∙ sym (length-take-le n out k)) in
    ap (λ (l : List ℕ). l ++ drop n out) y ∙ rw e (ap (λ (l : List ℕ). l ++ drop (pixel_count s.chosen) out) (bytes_shown s cells))

-- a byte for each pixel
pub picture_length : (s : State) (cells : List ℕ) → pixel_count s.chosen ≤ length cells → length (picture_bytes s cells) ≡ pixel_count s.chosen
unfolding picture_bytes
picture_length s cells h = L.length-map (pixel_cells s.chosen cells) (λ c. byte_of (reading s.taken c)) ∙ pixel_cells_length s.chosen cells h

-- and the one of the pixel in column x that is the y-th from the bottom is that of its cell's reading
pub picture_byte : (s : State) (cells : List ℕ) (x y : ℕ) → pixel_count s.chosen ≤ length cells → x < s.chosen.width → y < s.chosen.height
    → get_or (picture_bytes s cells) (cell_index s.chosen.width s.chosen.height x y) 0
    ≡ byte_of (reading s.taken (pixel_cell s.chosen.width s.chosen.height x y (meanings cells)))
unfolding picture_bytes
picture_byte s cells x y h a b =
    let p = s.chosen in
    let i = cell_index p.width p.height x y in
    let n = pixel_cells_length p cells h in
    let k = cell_below p.width p.height x y a b in
    map_at (λ c. byte_of (reading s.taken c)) (pixel_cells p cells) i (Named 0) (omega arith)
    ∙ ap (λ (c : Cell). byte_of (reading s.taken c)) (pixel_cell_at p cells x y a b)

-- the buffer: as long as it was, the picture first, the bytes beyond as they were
module _ (s : State) (cells out : List ℕ) (enough : pixel_count s.chosen ≤ length cells) (room : pixel_count s.chosen ≤ length out) where
  pub left_length : length (picture_left s cells out) ≡ length out
  unfolding picture_left
  left_length =
      let n = picture_length s cells enough in
      length-append (picture_bytes s cells) (drop (pixel_count s.chosen) out) ∙ omega (arith, length-drop (pixel_count s.chosen) out)

  pub left_picture : take (pixel_count s.chosen) (picture_left s cells out) ≡ picture_bytes s cells
  unfolding picture_left
  left_picture = take_at (picture_bytes s cells) (drop (pixel_count s.chosen) out) (pixel_count s.chosen) (picture_length s cells enough)

  pub left_beyond : drop (pixel_count s.chosen) (picture_left s cells out) ≡ drop (pixel_count s.chosen) out
  unfolding picture_left
  left_beyond = drop_at (picture_bytes s cells) (drop (pixel_count s.chosen) out) (pixel_count s.chosen) (picture_length s cells enough)

-- THE COUNTS

-- a cell reads one of three ways
one_reading : (g : Reading) → cond (is_true g) 1 0 + cond (is_false g) 1 0 + cond (is_uncertain g) 1 0 ≡ 1
unfolding is_true is_false is_uncertain
one_reading G.False = refl
one_reading G.Uncertain = refl
one_reading G.True = refl

pub tally_adds : (taken : ℕ) (l : List Cell) → (tallied taken l).trues + (tallied taken l).falses + (tallied taken l).uncertain ≡ length l
unfolding tallied count_of
tally_adds taken [] = refl
tally_adds taken (c ∷ l) = let e = tally_adds taken l in let f = one_reading (reading taken c) in omega arith

-- a given-up cell is uncertain too
given_up_reads : (taken : ℕ) (c : Cell) → cond (is_given_up c) 1 0 ≤ cond (is_uncertain (reading taken c)) 1 0
unfolding is_given_up is_uncertain reading
given_up_reads taken (Named n) = omega arith
given_up_reads taken Marked = omega arith
given_up_reads taken GivenUp = omega arith
given_up_reads taken (Other n) = omega arith

pub given_up_uncertain : (taken : ℕ) (l : List Cell) → (tallied taken l).givenup ≤ (tallied taken l).uncertain
unfolding tallied count_of
given_up_uncertain taken [] = omega arith
given_up_uncertain taken (c ∷ l) = let h = given_up_uncertain taken l in let k = given_up_reads taken c in omega arith

pub settled_few : (p : Chosen) (taken : ℕ) (l : List ℕ) (t : CellTally) → pixel_count p ≤ length l
    → t ≡ tallied taken (pixel_cells p l) → t.trues + t.falses ≤ pixel_count p
settled_few p taken l t h e =
    let a = tally_adds taken (pixel_cells p l) in
    let n = pixel_cells_length p l h in
    let k = tallied taken (pixel_cells p l) in
    let f : t.trues + t.falses ≡ k.trues + k.falses = ap (λ (u : CellTally). u.trues + u.falses) e in
    omega arith

-- what `image` counts of the whole picture
pub whole_tallied : (s : State) (cells : List ℕ) (r : PixelRange) (a : Option CellTally) → pixel_count s.chosen ≤ length cells
    → r ≡ whole_picture s.chosen.width s.chosen.height → a ≡ tally_answer s.chosen.width s.chosen.height r s.taken cells
    → a ≡ Some (tallied s.taken (pixel_cells s.chosen cells))
whole_tallied s cells r a enough e f =
    let p = s.chosen in
    f ∙ ap (λ (x : PixelRange). tally_answer p.width p.height x s.taken cells) e
    ∙ tally_answered p.width p.height (whole_picture p.width p.height) s.taken cells (whole_ready p (length cells) enough)

pub same_tally : (a : Option CellTally) (k t : CellTally) → a ≡ Some k → a ≡ Some t → t ≡ k
same_tally a k t e f = cc

pub never_outside : (a : Option CellTally) (k : CellTally) {P : Type 0} → a ≡ Some k → a ≡ None → P
never_outside a k e f = let z : ◌≡◌ {A = ℕ} 0 1 = cc in absurd (omega arith)

-- as many as the pixels, or fewer, fit 32 bits
pub pixels_fit : (s : State) (n : ℕ) → sound_record s.len s ≡ true → n ≤ pixel_count s.chosen → n < 2 ^ 32
pixels_fit s n h k = omega (arith, pixels_most s.chosen (sound_chosen s.len s h))

pub counts_from_as : (s : State) (t : CellTally) (pixels share : ℕ) → share ≡ share_of (t.trues + t.falses) pixels → pixels ≡ pixel_count s.chosen
    → record { trues = t.trues; falses = t.falses; uncertain = t.uncertain; givenup = t.givenup; queued = s.queued - s.taken; share = share }
    ≡ counts_from s t
unfolding counts_from
counts_from_as s t pixels share f e = rw (f, e)

-- the three readings add up to the pixels, and the given-up cells are among the uncertain ones
pub counts_add : (s : State) (cells : List ℕ) → pixel_count s.chosen ≤ length cells
    → (counts_of s cells).trues + (counts_of s cells).falses + (counts_of s cells).uncertain ≡ pixel_count s.chosen
unfolding counts_from
counts_add s cells h = tally_adds s.taken (pixel_cells s.chosen cells) ∙ pixel_cells_length s.chosen cells h

pub counts_given_up : (s : State) (cells : List ℕ) → (counts_of s cells).givenup ≤ (counts_of s cells).uncertain
unfolding counts_from
counts_given_up s cells = given_up_uncertain s.taken (pixel_cells s.chosen cells)

-- what is answered, of a record and cells as they must be
pub counted_viewable : (s : State) (cells : List ℕ) (t : Tally) → counts_answer s cells ≡ Ok t
    → Viewable s cells (pixel_count s.chosen) × (t ≡ counts_of s cells)
counted_viewable s cells t e = go (picture_answer s cells n) refl
  where
    n : ℕ
    n = pixel_count s.chosen

    go : (d : Called) → picture_answer s cells n ≡ d → Viewable s cells n × (t ≡ counts_of s cells)
    go (Ok tt) f = let g = sym e ∙ counts_done s cells n refl f in (drawn_viewable s cells n f, cc)
    go (Err why) f = let g = sym e ∙ counts_refused s cells n why refl f in let z : ◌≡◌ {A = ℕ} 0 1 = cc in absurd (omega arith)

-- the share is 1000 exactly if every pixel is settled, so exactly if none is uncertain
pub counts_settled : (s : State) (cells : List ℕ) → sound_record s.len s ≡ true → pixel_count s.chosen ≤ length cells
    → ((counts_of s cells).share ≡ 1000) ↔ ((counts_of s cells).trues + (counts_of s cells).falses ≡ pixel_count s.chosen)
unfolding counts_from
counts_settled s cells h k =
    share_all ((counts_of s cells).trues + (counts_of s cells).falses) (pixel_count s.chosen) (pixels_some s.chosen (sound_chosen s.len s h))
    (omega (arith, counts_add s cells k))

pub share_certain : (s : State) (cells : List ℕ) → sound_record s.len s ≡ true → pixel_count s.chosen ≤ length cells
    → ((counts_of s cells).share ≡ 1000) ↔ ((counts_of s cells).uncertain ≡ 0)
share_certain s cells h k =
    let n = counts_add s cells k in
    let all = counts_settled s cells h k in
    ((λ e. omega (arith, n, all.0 e)), (λ e. all.1 (omega (arith, n, e))))
