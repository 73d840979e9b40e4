-- A setup that fills a table, and a table filled from a record: 17 in its place, and all else as without a table. Assumes nothing.
use mathlib.Core.Path.{◌≡◌, refl, sym, ap, ◌∙◌}
use mathlib.Core.Bool.{Bool, true, false, not, ◌&&◌, false≢true}
use mathlib.Core.List.{List}
use Prim.Native.Nat.{ℕ, ◌-◌, ◌≤◌}
use native.Mathlib.Omega.{arith}
use lib.Dec.{leb}
use lib.ListN as L
use lib.ListN.{length}
use borrow.Author.Tests.{le-leb}
use Rattle.std.specs.Prelude.{Result, Ok, Err}
use Rattle.base.proofs.Test.{cases}
use Rattle.refusal.specs.declared.Refusal.{Refusal}
use Rattle.refusal.specs.declared.Refusal.TheVariants as R
use Rattle.image.specs.declared.Op.{Op}
use Rattle.image.specs.declared.Op.TheVariants as O
use Rattle.image.specs.declared.PixelRange.{PixelRange}
use Rattle.image.specs.Cell.{meanings, meaning_of, cell_code}
use Rattle.image.specs.Range.{whole_picture, picture_ready}
use Rattle.image.specs.Painting.{painted, paintable, painted_cells}
use Rattle.image.proofs.RangeLaws.{whole_in_picture}
use Rattle.image.proofs.PaintLaws.{painted_length}
use Rattle.tiles.specs.Tiles.{recountable, table_recounted}
use Rattle.tiles.proofs.RecountLaws.{recounted_done, recount_whole}
use Rattle.decide.specs.declared.Chosen.{Chosen}
use Rattle.decide.specs.Damage.{legal_side}
use Rattle.implicit.specs.declared.state.State.{State}
use Rattle.implicit.specs.declared.state.Ranges.{Ranges}
use Rattle.implicit.specs.Record.{refused_unless, pixel_count, sound_record}
use Rattle.implicit.specs.Setup.{first_blocks, setup_refusal, start_record, start_ring, start_cells}
use Rattle.implicit.specs.View.{picture_answer, if_done}
use Rattle.implicit.specs.Tiled.{room_for_tiles, table_of, tiled_setup_refusal, tiled_setup_answer, tiled_ring_begun, tiled_cells_begun, table_begun}
use Rattle.implicit.specs.Tiled.{fill_answer, table_filled}
use Rattle.implicit.proofs.RecordLaws.{sound_record_lem}
use Rattle.implicit.proofs.SetupLawsRefusal.{begun_sides, accepted}
use Rattle.implicit.proofs.ViewLaws.{drawn_viewable}

-- WHAT THE CODE TESTS

pub table_test : (a a' b b' : Bool) (n n' count : ℕ) (d d' : Bool) → a ≡ a' → b ≡ b' → n ≡ n' → d ≡ d'
    → ((a && b) && (leb n count && not d)) ≡ ((a' && b') && (leb n' count && not d'))
table_test a a' b b' n n' count d d' e f g h = rw (e, f, g, h)

pub filling_test : (a a' : Bool) (n n' count : ℕ) (d d' : Bool) → a ≡ a' → n ≡ n' → d ≡ d'
    → (a && (leb n count && not d)) ≡ (a' && (leb n' count && not d'))
filling_test a a' n n' count d d' e g h = rw (e, g, h)

-- the third of a chain of tests is the first that fails
third_fails : {A : Type 0} (x y z : Bool) (first second third rest : A) → (x && (y && not z)) ≡ true
    → refused_unless first x (refused_unless second y (refused_unless third z rest)) ≡ third
third_fails true true true first second third rest e = absurd (false≢true e)
third_fails true true false first second third rest e = refl
third_fails true false z first second third rest e = absurd (false≢true e)
third_fails false y z first second third rest e = absurd (false≢true e)

-- it is not, so that leaving it out changes nothing
third_passes : {A : Type 0} (x y z : Bool) (first second third rest : A) → (x && (y && not z)) ≡ false
    → refused_unless first x (refused_unless second y (refused_unless third z rest)) ≡ refused_unless first x (refused_unless second y rest)
third_passes true true true first second third rest e = refl
third_passes true true false first second third rest e = absurd (false≢true (sym e))
third_passes true false z first second third rest e = refl
third_passes false y z first second third rest e = refl

-- then, where the others pass, it passes too
third_passed : (x y z : Bool) → (x && (y && not z)) ≡ false → x ≡ true → y ≡ true → z ≡ true
third_passed true true true e f g = refl
third_passed true true false e f g = absurd (false≢true (sym e))
third_passed true false z e f g = absurd (false≢true g)
third_passed false y z e f g = absurd (false≢true f)

-- A TABLE RECOUNTED WHOLE

pub all_recounted : (p : Chosen) (taken : ℕ) (cells table : List ℕ) → 1 ≤ p.width → 1 ≤ p.height → pixel_count p ≤ length cells
    → room_for_tiles p (length table) ≡ true
    → table_recounted p.width p.height (whole_picture p.width p.height) taken cells table ≡ table_of p taken cells table
unfolding recountable picture_ready
all_recounted p taken cells table w h enough room =
    recounted_done p.width p.height (whole_picture p.width p.height) taken cells table
    (rw (whole_in_picture p.width p.height, le-leb (pixel_count p) (length cells) enough, room))
    ∙ recount_whole p.width p.height taken (meanings cells) table w h

pub painted_as_many : (width height : ℕ) (r : PixelRange) (op : Op) (l : List ℕ) → length (painted_cells width height r op l) ≡ length l
unfolding painted_cells
painted_as_many width height r op l =
    cases (paintable width height r op (length l))
    (λ e. rw e (L.length-map (painted width r op (meanings l)) cell_code ∙ painted_length width r op (meanings l) ∙ L.length-map l meaning_of))
    (λ e. rw e)

-- THE SETUP

-- the cells that an accepted setup leaves are counted whole
cells_filled : (p : Chosen) (r : Ranges) (ring cells table : List ℕ) → setup_refusal p r (length ring) (length cells) ≡ Ok tt
    → room_for_tiles p (length table) ≡ true
    → table_recounted p.width p.height (whole_picture p.width p.height) 0 (start_cells p r cells) table ≡ table_of p 0 (start_cells p r cells) table
unfolding start_cells
cells_filled p r ring cells table b room =
    let k = accepted p r (length ring) (length cells) b in
    let as_many = painted_as_many p.width p.height (whole_picture p.width p.height) (O.Fill (length (first_blocks p r) - 1)) cells in
    all_recounted p 0 (start_cells p r cells) table k.width_some k.height_some (omega (arith, k.cells, as_many)) room

-- and its table is long enough, where it was not refused by 17
room_known : (p : Chosen) (r : Ranges) (ring cells table : List ℕ) → setup_refusal p r (length ring) (length cells) ≡ Ok tt
    → ((legal_side p.width && legal_side p.height) && (leb (pixel_count p) (length cells) && not (room_for_tiles p (length table)))) ≡ false
    → room_for_tiles p (length table) ≡ true
room_known p r ring cells table b h =
    third_passed (legal_side p.width && legal_side p.height) (leb (pixel_count p) (length cells)) (room_for_tiles p (length table)) h
    (begun_sides p r (length ring) (length cells) b)
    (le-leb (pixel_count p) (length cells) (accepted p r (length ring) (length cells) b).cells)

module _ (p : Chosen) (r : Ranges) (ring cells table : List ℕ) (t : Bool)
    (is_t : t ≡ ((legal_side p.width && legal_side p.height) && (leb (pixel_count p) (length cells) && not (room_for_tiles p (length table))))) where
  abbrev tiled : Result (Unit {0}) Refusal
  tiled = tiled_setup_refusal p r (length ring) (length cells) (length table)

  abbrev plain : Result (Unit {0}) Refusal
  plain = setup_refusal p r (length ring) (length cells)

  -- what is promised of a setup that took a table
  abbrev Begins : Result State Refusal → List ℕ → List ℕ → List ℕ → Type 0
  Begins a ring' cells' table' =
      (a ≡ tiled_setup_answer p r (length ring) (length cells) (length table))
      × ((ring' ≡ tiled_ring_begun p r ring (length cells) (length table))
      × ((cells' ≡ tiled_cells_begun p r (length ring) cells (length table)) × (table' ≡ table_begun p r (length ring) cells table)))

  pub setup_short : t ≡ true → Begins (Err R.Table) ring cells table
  unfolding tiled_setup_answer tiled_ring_begun tiled_cells_begun table_begun tiled_setup_refusal
  setup_short h =
      let e : tiled ≡ Err R.Table =
      third_fails (legal_side p.width && legal_side p.height) (leb (pixel_count p) (length cells)) (room_for_tiles p (length table)) _ _ _ _ (sym is_t ∙ h) in
      rw e (refl, (refl, (refl, refl)))

  module _ (h : t ≡ false) where
    same_refusal : tiled ≡ plain
    unfolding tiled_setup_refusal setup_refusal
    same_refusal =
        third_passes (legal_side p.width && legal_side p.height) (leb (pixel_count p) (length cells)) (room_for_tiles p (length table)) _ _ _ _ (sym is_t ∙ h)

    pub setup_refused : (q : Chosen) (why : Refusal) → q ≡ p → Err why ≡ setup_refusal q r (length ring) (length cells) → Begins (Err why) ring cells table
    unfolding tiled_setup_answer tiled_ring_begun tiled_cells_begun table_begun
    setup_refused q why kept e = let b : tiled ≡ Err why = same_refusal ∙ sym (rw kept at e) in rw b (refl, (refl, (refl, refl)))

    pub setup_filled : (q : Chosen) (s : State) (ring' cells' table' : List ℕ) → q ≡ p → Ok tt ≡ setup_refusal q r (length ring) (length cells)
        → s ≡ start_record q r (length ring) → ring' ≡ start_ring q r ring → cells' ≡ start_cells q r cells
        → table' ≡ table_recounted q.width q.height (whole_picture q.width q.height) 0 cells' table → Begins (Ok s) ring' cells' table'
    unfolding tiled_setup_answer tiled_ring_begun tiled_cells_begun table_begun
    setup_filled q s ring' cells' table' kept e is_s is_ring is_cells f =
        let begun : plain ≡ Ok tt = sym (rw kept at e) in
        let b : tiled ≡ Ok tt = same_refusal ∙ begun in
        let counted : table' ≡ table_recounted p.width p.height (whole_picture p.width p.height) 0 cells' table = rw kept at f in
        let filled : cells' ≡ start_cells p r cells = rw kept at is_cells in
        rw b (
          ap Ok (rw kept at is_s),
          (
            rw kept at is_ring,
            (
              filled,
              counted ∙ ap (λ (l : List ℕ). table_recounted p.width p.height (whole_picture p.width p.height) 0 l table) filled
                  ∙ cells_filled p r ring cells table begun (room_known p r ring cells table begun (sym is_t ∙ h)),
            ),
          ),
        )

-- A TABLE FILLED

module _ (s : State) (cells table : List ℕ) (t : Bool)
    (is_t : t ≡ (sound_record s.len s && (leb (pixel_count s.chosen) (length cells) && not (room_for_tiles s.chosen (length table))))) where
  abbrev Filled : Result (Unit {0}) Refusal → List ℕ → Type 0
  Filled d table' = (d ≡ fill_answer s cells (length table)) × (table' ≡ if_done d (table_filled s cells table) table)

  pub fill_short : t ≡ true → Filled (Err R.Table) table
  unfolding fill_answer
  fill_short h =
      (sym (third_fails (sound_record s.len s) (leb (pixel_count s.chosen) (length cells)) (room_for_tiles s.chosen (length table)) _ _ _ _ (sym is_t ∙ h)), refl)

  module _ (h : t ≡ false) (n : ℕ) (is_n : n ≡ pixel_count s.chosen) (a : Result (Unit {0}) Refusal) (is_a : a ≡ picture_answer s cells n) where
    as_drawn : a ≡ fill_answer s cells (length table)
    unfolding fill_answer picture_answer
    as_drawn =
        let k = le-leb (pixel_count s.chosen) (pixel_count s.chosen) (omega arith) in
        is_a ∙ rw (is_n, k)
        (sym (third_passes (sound_record s.len s) (leb (pixel_count s.chosen) (length cells)) (room_for_tiles s.chosen (length table)) _ _ _ _ (sym is_t ∙ h)))

    pub fill_refused : (why : Refusal) → a ≡ Err why → Filled (Err why) table
    fill_refused why e = (sym e ∙ as_drawn, refl)

    pub fill_done : (table' : List ℕ) → a ≡ Ok tt
        → table' ≡ table_recounted s.chosen.width s.chosen.height (whole_picture s.chosen.width s.chosen.height) s.taken cells table
        → Filled (Ok tt) table'
    fill_done table' e f =
        let v = drawn_viewable s cells n (sym is_a ∙ e) in
        let q = (sound_record_lem s.len s v.record_sound).chosen in
        let room = third_passed (sound_record s.len s) (leb (pixel_count s.chosen) (length cells)) (room_for_tiles s.chosen (length table))
        (sym is_t ∙ h) v.record_sound (le-leb (pixel_count s.chosen) (length cells) v.enough) in
        (sym e ∙ as_drawn, f ∙ all_recounted s.chosen s.taken cells table q.width_some q.height_some v.enough room)
