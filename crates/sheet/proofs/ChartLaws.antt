-- Laws of the printed text: what each answer of the engine prints, and that the picture's bytes show the readings. Assumes nothing.
use mathlib.Core.Path.{◌≡◌, refl, sym, ap, ◌∙◌}
use mathlib.Core.Bool.{◌&&◌}
use mathlib.Core.List.{List, [], ◌∷◌, ◌++◌, map, map-append}
use Prim.Native.Nat.{ℕ, ◌+◌, ◌*◌, ◌≤◌}
use native.Mathlib.Nat.{mul-le-mul_right}
use native.Mathlib.Omega.{arith}
use lib.ListN.{length, drop, length-map}
use borrow.Author.Tests.{leb-true}
use Rattle.std.specs.Prelude.{Result, Ok, Err}
use Rattle.base.proofs.Test.{and_left}
use Rattle.refusal.specs.declared.Refusal.{Refusal}
use Rattle.image.specs.declared.Reading.{Reading}
use Rattle.image.specs.declared.Reading.TheVariants as G
use Rattle.image.specs.Cell.{Cell, reading, byte_of, character_of}
use Rattle.decide.specs.Damage.{legal_side, legal_set, legal_chosen}
use Rattle.implicit.specs.declared.state.State.{State}
use Rattle.implicit.specs.declared.state.Tally.{Tally}
use Rattle.implicit.specs.Record.{pixel_count, pixel_cells}
use Rattle.implicit.specs.Setup.{cleared, setup_answer, ring_begun, cells_begun}
use Rattle.implicit.specs.Step.{world_of}
use Rattle.implicit.specs.Run.{run_of}
use Rattle.implicit.specs.View.{picture_bytes, picture_left, picture_answer, if_done, counts_answer}
use Rattle.implicit.proofs.RecordLaws.{sound_chosen}
use Rattle.implicit.proofs.ViewLaws.{Viewable, viewable_drawn, picture_length, counted_viewable}
use Rattle.sheet.specs.declared.head.Order.{Order}
use Rattle.sheet.specs.Text.{rows_of, characters, refused_text}
use Rattle.sheet.specs.ChartComputed.{symbol_of}
use Rattle.sheet.specs.Printed.{fresh_ring, fresh_cells, ran_text, order_text}
use Rattle.sheet.proofs.RowLaws.{rows_front}

-- WHAT THE BYTES SHOW

symbol_shows : (g : Reading) → symbol_of (byte_of g) ≡ character_of g
symbol_shows G.False = refl
symbol_shows G.Uncertain = refl
symbol_shows G.True = refl

all_shown : (taken : ℕ) (l : List Cell) → map symbol_of (map (λ c. byte_of (reading taken c)) l) ≡ map (λ c. character_of (reading taken c)) l
all_shown taken [] = refl
all_shown taken (c ∷ l) = rw (symbol_shows (reading taken c), all_shown taken l)

pub bytes_shown : (s : State) (cells : List ℕ) → map symbol_of (picture_bytes s cells) ≡ characters s cells
unfolding characters picture_bytes
bytes_shown s cells = all_shown s.taken (pixel_cells s.chosen cells)

pub rows_shown : (s : State) (cells rest : List ℕ) → pixel_count s.chosen ≤ length cells
    → rows_of s.chosen.width s.chosen.height (map symbol_of (picture_bytes s cells ++ rest)) ≡ rows_of s.chosen.width s.chosen.height (characters s cells)
rows_shown s cells rest h =
    let p = s.chosen in
    ap (rows_of p.width p.height) (map-append symbol_of (picture_bytes s cells) rest)
    ∙ rows_front p.width p.height (map symbol_of (picture_bytes s cells)) (map symbol_of rest) (length-map (picture_bytes s cells) symbol_of ∙ picture_length s cells h)
    ∙ ap (rows_of p.width p.height) (bytes_shown s cells)

-- A CHART THAT IS COUNTED

module _ (s : State) (cells : List ℕ) (n : Tally) (counted : counts_answer s cells ≡ Ok n) where
  -- it can be drawn
  viewable : Viewable s cells (pixel_count s.chosen)
  viewable = (counted_viewable s cells n counted).0

  pub counted_drawn : (room : ℕ) → length cells ≤ room → picture_answer s cells room ≡ Ok tt
  counted_drawn room h =
      let v = viewable in
      viewable_drawn s cells room (record { record_sound = v.record_sound; enough = v.enough; room_left = omega (arith, v.enough); cells_fine = v.cells_fine })

  wide_enough : 1 ≤ s.chosen.width
  unfolding legal_chosen
  wide_enough =
      let p = s.chosen in
      let e = sound_chosen s.len s viewable.record_sound in
      let w = legal_side p.width in
      leb-true 1 p.width (and_left _ _ (and_left w (legal_side p.height) (and_left (w && legal_side p.height) (legal_set p.set) e)))

  -- its rows are few
  pub counted_room : length cells ≡ 4096 → (s.chosen.width * s.chosen.height ≤ 4096) × ((s.chosen.width + 1) * s.chosen.height ≤ 8192)
  counted_room h =
      let w = s.chosen.width in
      let y = s.chosen.height in
      let a : w * y ≤ 4096 = omega (arith, viewable.enough) in
      let b : 1 * y ≤ w * y = mul-le-mul_right y wide_enough in
      (a, omega (arith, a, b))

  -- the picture that is drawn into a buffer shows it
  pub counted_shown : (out left : List ℕ) (d : Result (Unit {0}) Refusal) → length cells ≤ length out → d ≡ picture_answer s cells (length out)
      → left ≡ if_done d (picture_left s cells out) out
      → rows_of s.chosen.width s.chosen.height (map symbol_of left) ≡ rows_of s.chosen.width s.chosen.height (characters s cells)
  unfolding picture_left
  counted_shown out left d h e f =
      let g : d ≡ Ok tt = e ∙ counted_drawn (length out) h in
      let k : left ≡ picture_bytes s cells ++ drop (pixel_count s.chosen) out = f ∙ ap (λ (x : Result (Unit {0}) Refusal). if_done x (picture_bytes s cells ++ drop (pixel_count s.chosen) out) out) g in
      rw k (rows_shown s cells (drop (pixel_count s.chosen) out) viewable.enough)

-- WHAT EACH ANSWER PRINTS

-- of cells that were found fresh
module _ (o : Order) (tape found : List ℕ) (fresh : found ≡ fresh_cells) (a : Result State Refusal)
    (is_a : a ≡ setup_answer (cleared o.chosen) o.ranges (length fresh_ring) (length found)) where
  answer_fresh : setup_answer (cleared o.chosen) o.ranges (length fresh_ring) (length fresh_cells) ≡ a
  answer_fresh = sym (is_a ∙ ap (λ l. setup_answer (cleared o.chosen) o.ranges (length fresh_ring) (length l)) fresh)

  pub text_ready : (s : State) (ring cells : List ℕ) → a ≡ Ok s → ring ≡ ring_begun (cleared o.chosen) o.ranges fresh_ring found
      → cells ≡ cells_begun (cleared o.chosen) o.ranges fresh_ring found → ran_text (run_of o.budget (world_of s ring cells) tape) ≡ order_text o tape
  unfolding order_text
  text_ready s ring cells e r c = rw (answer_fresh ∙ e, r, c, fresh)

  pub text_not_ready : (why : Refusal) → a ≡ Err why → refused_text why ≡ order_text o tape
  unfolding order_text
  text_not_ready why e = rw (answer_fresh ∙ e)
