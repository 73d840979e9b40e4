-- What a sheet prints, once it is taken: `refused 1`, `refused 3`, or the chart of its run. Neither does setup find the cells or the ring short, nor are the run
-- and its counts refused. FOR READERS, at the end: `Prints` and
-- `taken_prints`, of a chart's characters `character_shows` and `dot_means_no`, and of its share `share_printed`. Assumes nothing.
use mathlib.Core.Path.{◌≡◌, refl, sym, ap, ◌∙◌}
use mathlib.Core.Logic.{◌↔◌}
use mathlib.Core.Bool.{true, false, not, ◌&&◌}
use mathlib.Core.List.{List, [], ◌∷◌, ◌++◌, map}
use Prim.Native.Nat.{ℕ, ◌+◌, ◌-◌, ◌*◌, ◌≤◌, ◌<◌}
use native.Mathlib.Omega.{arith}
use lib.Dec.{leb, eqb}
use lib.Ieee.{binary64, fits}
use lib.Ieee.Bits.{of_bits-fits}
use lib.ListN.{length, drop, get_or, length-append, length-replicate, length-map}
use lib.Seq.{get_or-append-add}
use borrow.Author.Tests.{le-leb, ltb-false, not-true}
use Rattle.std.specs.Prelude.{Result, Ok, Err}
use Rattle.base.proofs.Test.{cases, and_left, and_right, by_test}
use Rattle.base.specs.Lists.{Every}
use Rattle.base.proofs.ListLaws.{every_also}
use Rattle.refusal.specs.declared.Refusal.TheVariants as R
use Rattle.refusal.specs.declared.Refusal.{Refusal}
use Rattle.interval.specs.Bounds.{InFormat}
use Rattle.image.specs.declared.Reading.{Reading}
use Rattle.image.specs.declared.Reading.TheVariants as Reads
use Rattle.image.specs.Cell.{Cell, Named, meanings, reading, character_of}
use Rattle.image.specs.Range.{cell_index}
use Rattle.image.specs.Painting.{pixel_cell}
use Rattle.image.proofs.RangeLaws.{cell_below}
use Rattle.queue.specs.declared.Block.{Block}
use Rattle.queue.specs.declared.Last.{Last}
use Rattle.queue.specs.declared.directions.Direction.{Direction}
use Rattle.queue.specs.declared.directions.Direction.TheVariants as D
use Rattle.queue.specs.Directions.{in_use}
use Rattle.queue.specs.Block.{whole_line, starting_last, remembered}
use Rattle.queue.specs.Code.{encode, can_queue, indices_known}
use Rattle.queue.specs.Queue.{queue_codes}
use Rattle.queue.proofs.QueueLaws.{can_code}
use Rattle.queue.proofs.QueueableLaws.{encode_few}
use Rattle.queue.proofs.RoundTrip.{CanQueue, Known}
use Rattle.queue.proofs.KeptLaws.{known_after, known_start}
use Rattle.decide.specs.declared.Chosen.{Chosen}
use Rattle.decide.specs.Damage.{legal_side}
use Rattle.implicit.specs.declared.state.Ranges.{Ranges}
use Rattle.implicit.specs.declared.state.State.{State}
use Rattle.implicit.specs.declared.state.Tally.{Tally}
use Rattle.implicit.specs.Record.{pixel_count, pixel_cells}
use Rattle.implicit.specs.Setup.{cleared, ranges_legal, first_blocks, first_bytes, setup_refusal, start_record, setup_answer, ring_begun, cells_begun}
use Rattle.implicit.specs.Step.{World, world_of}
use Rattle.implicit.specs.Run.{RunEnd, has_run, run_from, run_of}
use Rattle.implicit.specs.View.{counts_of, counts_answer}
use Rattle.implicit.specs.Answers.{setup_number, setup_state}
use Rattle.implicit.proofs.RecordLaws.{pixel_cells_length, pixel_cell_at}
use Rattle.implicit.proofs.SetupLawsBlocks.{RangesHeld, FirstBlock, first_blocks_lem, first_count, first_can}
use Rattle.theory.specs.Colours.{HasSolution, FalseRight}
use Rattle.promises.specs.Chart.{Pixel, covers_in}
use Rattle.promises.specs.Steps.{Asked, BegunAs, reads_in}
use Rattle.promises.specs.Judgements.{EveryAnswer}
use Rattle.promises.specs.Mixes.{Measures, Mix, question_of}
use Rattle.promises.proofs.Linked.{begun_reached, steps_reached}
use Rattle.promises.proofs.NeverDamaged.{counts_answered}
use Rattle.promises.proofs.Promises.{run_reaches, share_whole, white_means_no}
use Rattle.sheet.specs.Layout.{number_in, sheet_set, zero_bits, places_in, bounds_in, range_in, ranges_in, order_in, too_large, taken_sheet}
use Rattle.sheet.specs.Text.{run_line, count_line, rows_of, characters, chart_text, refused_text}
use Rattle.sheet.specs.Printed.{fresh_ring, fresh_cells, ran_text, started_text, order_text, text_of}
use Rattle.base.proofs.ListLaws.{map_at}
use Rattle.sheet.proofs.RowLaws.{row_at}

-- A SHEET'S RANGES ARE OF f64s

bounds_held : (s : List ℕ) (at : ℕ) → InFormat (bounds_in s at)
unfolding bounds_in
bounds_held s at = (of_bits-fits binary64 (number_in s at 8), of_bits-fits binary64 (number_in s (at + 8) 8))

line_held : InFormat whole_line
unfolding fits
line_held = (tt, tt)

range_held : (s : List ℕ) (set : ℕ) (d : Direction) (at : ℕ) → InFormat (range_in s set d at)
unfolding range_in
range_held s set d at = by_test InFormat (in_use set d) (bounds_in s at) whole_line (λ _. bounds_held s at) (λ _. line_held)

ranges_held : (s : List ℕ) (set : ℕ) → RangesHeld (ranges_in s set)
unfolding ranges_in
ranges_held s set = (range_held s set D.M 9, range_held s set D.N (places_in set).n, range_held s set D.Theta (places_in set).theta, range_held s set D.T (places_in set).t)

-- CELLS AND RING ARE ENOUGH FOR THE SETUP

codes_few : (set : ℕ) (last : Last) (bs : List Block) → Known last → Every (CanQueue set) bs → length (queue_codes set last bs) ≤ 83 * length bs
unfolding queue_codes
codes_few set last [] k e = omega arith
codes_few set last (b ∷ bs) k e =
    let c = can_code set last b k e.0 in
    let f = encode_few set last b (and_left (can_queue set b) (indices_known last) c) (and_right (can_queue set b) (indices_known last) c) in
    let r = codes_few set (remembered b) bs (known_after set b e.0) e.1 in
    omega (arith, f, r, length-append (encode set last b) (queue_codes set (remembered b) bs))

-- 81 blocks of 83 bytes at most
first_few : (p : Chosen) (r : Ranges) → RangesHeld r → ranges_legal p.set r ≡ true → length (first_bytes p r) ≤ 6723
unfolding first_bytes
first_few p r held ok =
    let n = first_count p r held ok in
    let f = codes_few p.set starting_last (first_blocks p r) known_start (every_also (FirstBlock p) (CanQueue p.set) (first_can p) (first_blocks p r) (first_blocks_lem p r held ok)) in
    omega (arith, f, n.1)

few_pixels : (s : List ℕ) → taken_sheet s ≡ true → legal_side (number_in s 0 2) && legal_side (number_in s 2 2) ≡ true → number_in s 0 2 * number_in s 2 2 ≤ 4096
unfolding taken_sheet
few_pixels s e h =
    let w = number_in s 0 2 in
    let y = number_in s 2 2 in
    let a = leb (places_in (sheet_set s)).tape (length s) && eqb (zero_bits s) 0 && leb (length s) 16384 in
    let n : too_large w y ≡ false = not-true (too_large w y) (and_right a (not (too_large w y)) e) in
    ltb-false 4096 (w * y) (rw h at n)

-- NEITHER THE RUN NOR ITS COUNTS ARE REFUSED

module _ (a : Asked) {w : World} (z : BegunAs a w) (budget : ℕ) (tape : List ℕ) where
  run_begins : run_of budget w tape ≡ has_run (run_from budget w tape)
  unfolding run_of
  run_begins =
      let k = (begun_reached a w z).keeps in
      rw (k.record_is_sound, le-leb (pixel_count w.state.chosen) (length w.cells) k.enough)

  counts_known : (e : RunEnd) → run_of budget w tape ≡ has_run e
      → counts_answer e.world.state e.world.cells ≡ Ok (counts_of e.world.state e.world.cells)
  counts_known e h =
      let k = steps_reached a.chosen (begun_reached a w z) (run_reaches budget w tape e h).0 in
      counts_answered e.world k.blocks k.keeps

-- WHAT IS PRINTED

-- what the setup of a sheet is called with, on this ring and these cells
abbrev pub asked_in : List ℕ → List ℕ → List ℕ → Asked
asked_in s ring cells = record { chosen = cleared (order_in s).chosen; ranges = (order_in s).ranges; ring = ring; cells = cells }

-- what it answers
abbrev pub answer_to : Asked → Result State Refusal
answer_to a = setup_answer a.chosen a.ranges (length a.ring) (length a.cells)

-- the record, ring and cells that it leaves if it is accepted
abbrev pub begun_by : Asked → World
begun_by a = world_of (start_record a.chosen a.ranges (length a.ring)) (ring_begun a.chosen a.ranges a.ring a.cells) (cells_begun a.chosen a.ranges a.ring a.cells)

-- the chart of a run's end
abbrev pub chart_at : RunEnd → List ℕ
chart_at e = chart_text e.world.state e.world.cells e.steps e.evaluations e.ending (counts_of e.world.state e.world.cells)

-- the three texts of a sheet whose setup is called with `a`: a refusal by 1 or by 3, which is the setup's, or, the setup accepted, the chart of the run
-- from what it leaves, by the sheet's budget and tape
pub data Prints (s : List ℕ) (a : Asked) : List ℕ → Type 0 where
  prints_1 : answer_to a ≡ Err R.Side → Prints s a (refused_text R.Side)
  prints_3 : answer_to a ≡ Err R.Parameter → Prints s a (refused_text R.Parameter)
  prints_chart : BegunAs a (begun_by a) → (e : RunEnd) → run_of (order_in s).budget (begun_by a) (drop (order_in s).tape s) ≡ has_run e → Prints s a (chart_at e)

-- whatever the ring and the cells held
module _ (s ring cells : List ℕ) (taken : taken_sheet s ≡ true) (nr : length ring ≡ 16384) (nc : length cells ≡ 4096) where
  abbrev a : Asked
  a = asked_in s ring cells

  -- an accepted setup
  run_prints : answer_to a ≡ Ok (begun_by a).state → Prints s a (ran_text (run_of (order_in s).budget (begun_by a) (drop (order_in s).tape s)))
  unfolding order_in
  run_prints f =
      let z : BegunAs a (begun_by a) = record { accepted = ap setup_number f; state = ap setup_state f; ring = refl; cells = refl; held = ranges_held s (sheet_set s) } in
      let b = run_begins a z (order_in s).budget (drop (order_in s).tape s) in
      rw (b, counts_known a z (order_in s).budget (drop (order_in s).tape s) _ b) (prints_chart z _ b)

  started_prints : Prints s a (started_text (order_in s) (drop (order_in s).tape s) (begun_by a).ring (begun_by a).cells (answer_to a))
  unfolding order_in setup_answer setup_refusal
  started_prints =
      let p = a.chosen in
      let r = a.ranges in
      cases (legal_side p.width && legal_side p.height) (λ h.
      let c₁ = le-leb (pixel_count p) (length cells) (omega (arith, few_pixels s taken h, nc)) in
      cases (ranges_legal p.set r) (λ ok.
      let c₂ = le-leb (length (first_bytes p r)) (length ring) (omega (arith, first_few p r (ranges_held s (sheet_set s)) ok, nr)) in
      let f : answer_to a ≡ Ok (begun_by a).state = rw (h, c₁, ok, c₂) in
      rw f (run_prints f))
      (λ no. (let f : answer_to a ≡ Err R.Parameter = rw (h, c₁, no) in rw f (prints_3 f))))
      (λ h. (let f : answer_to a ≡ Err R.Side = rw h in rw f (prints_1 f)))

-- A SHEET THAT IS TAKEN prints one of the three, on a fresh ring and fresh cells
pub taken_prints : (s : List ℕ) → taken_sheet s ≡ true → Prints s (asked_in s fresh_ring fresh_cells) (text_of s)
unfolding text_of order_text
taken_prints s e = rw e (started_prints s fresh_ring fresh_cells e (length-replicate {A = ℕ} 16384 0) (length-replicate {A = ℕ} 4096 0))

-- THE CHARACTER PRINTED AT A ROW AND A COLUMN

-- its place in the chart's text: behind the two lines, rows from the top, each with its line end, columns from the left
abbrev pub place_in : RunEnd → ℕ → ℕ → ℕ
place_in e row column =
    let s = e.world.state in
    length (run_line s.chosen.width s.chosen.height e.steps e.evaluations e.ending ++ count_line (counts_of s e.world.cells))
    + (row * (s.chosen.width + 1) + column)

-- of a pixel's own cell
character_at : (p : Chosen) (s : State) (cells : List ℕ) → s.chosen ≡ p → pixel_count s.chosen ≤ length cells → (x y : ℕ) → x < p.width → y < p.height
    → get_or (rows_of s.chosen.width s.chosen.height (characters s cells)) ((p.height - 1 - y) * (s.chosen.width + 1) + x) 0
    ≡ character_of (reading s.taken (pixel_cell p.width p.height x y (meanings cells)))
unfolding characters
character_at p s cells e enough x y a b =
    rw (← e) (at_pixel (rw e a) (rw e b))
  where
    at_pixel : x < s.chosen.width → y < s.chosen.height
        → get_or (rows_of s.chosen.width s.chosen.height (map (λ c. character_of (reading s.taken c)) (pixel_cells s.chosen cells)))
        ((s.chosen.height - 1 - y) * (s.chosen.width + 1) + x) 0
        ≡ character_of (reading s.taken (pixel_cell s.chosen.width s.chosen.height x y (meanings cells)))
    at_pixel a b =
        let c = s.chosen in
        let f : Cell → ℕ = λ c. character_of (reading s.taken c) in
        let i = cell_index c.width c.height x y in
        let n = pixel_cells_length c cells enough in
        let k = cell_below c.width c.height x y a b in
        row_at c.width c.height (map f (pixel_cells c cells)) (c.height - 1 - y) x (omega arith) a (omega (arith, length-map (pixel_cells c cells) f, n))
        ∙ map_at f (pixel_cells c cells) i (Named 0) (omega (arith, n, k))
        ∙ ap f (pixel_cell_at c cells x y a b)

question_uncertain : (r : Reading) → character_of r ≡ 63 → r ≡ Reads.Uncertain
question_uncertain Reads.False e = absurd (omega (arith, e))
question_uncertain Reads.Uncertain e = refl
question_uncertain Reads.True e = absurd (omega (arith, e))

same_counts : {t n : Tally} → ◌≡◌ {A = Result Tally Refusal} (Ok t) (Ok n) → t ≡ n
same_counts e = cc

module _ (a : Asked) {w : World} (z : BegunAs a w) (budget : ℕ) (tape : List ℕ) (e : RunEnd) (h : run_of budget w tape ≡ has_run e) where
  -- it is the pixel's reading: # for True, . for False, ? for Uncertain; y counts from the bottom
  pub character_shows : (q : Pixel a.chosen)
      → get_or (chart_at e) (place_in e (a.chosen.height - 1 - q.y) q.x) 0 ≡ character_of (reads_in a.chosen e.world q)
  unfolding reads_in
  character_shows q =
      let s = e.world.state in
      let cells = e.world.cells in
      let lines = run_line s.chosen.width s.chosen.height e.steps e.evaluations e.ending ++ count_line (counts_of s cells) in
      let rows = rows_of s.chosen.width s.chosen.height (characters s cells) in
      let k = steps_reached a.chosen (begun_reached a w z) (run_reaches budget w tape e h).0 in
      get_or-append-add lines rows ((a.chosen.height - 1 - q.y) * (s.chosen.width + 1) + q.x) 0
      ∙ character_at a.chosen s cells k.chosen k.keeps.enough q.x q.y q.x_in q.y_in

  -- the share that the second line ends with, by `chart_text` and `count_line`, is 1000 exactly if no pixel's character is ?
  pub share_printed : ((counts_of e.world.state e.world.cells).share ≡ 1000)
      ↔ ((q : Pixel a.chosen) → ¬ (get_or (chart_at e) (place_in e (a.chosen.height - 1 - q.y) q.x) 0 ≡ 63))
  share_printed =
      let (t, answered, whole) = share_whole a z e.steps e.world (run_reaches budget w tape e h).0 in
      let counted = sym answered ∙ counts_known a z budget tape e h in
      let same : t.share ≡ (counts_of e.world.state e.world.cells).share = ap (λ (n : Tally). n.share) (same_counts counted) in (
        (λ f q g. whole.0 (same ∙ f) q (question_uncertain (reads_in a.chosen e.world q) (sym (character_shows q) ∙ g))),
        (λ f. sym same ∙ whole.1 (λ q g. f q (character_shows q ∙ ap character_of g))),
      )

dot_false : (r : Reading) → character_of r ≡ 46 → r ≡ Reads.False
dot_false Reads.False e = refl
dot_false Reads.Uncertain e = absurd (omega (arith, e))
dot_false Reads.True e = absurd (omega (arith, e))

-- so, if every false verdict that the run took was right, the pixel of a printed . holds no solution
module _ (M : Measures) (Solves : Mix M → Type 0) (a : Asked) {w : World} (z : BegunAs a w) where
  pub dot_means_no : (budget : ℕ) (tape : List ℕ) (e : RunEnd) (h : run_of budget w tape ≡ has_run e)
      → EveryAnswer a.chosen (FalseRight (covers_in a.chosen) (question_of M a.chosen a.ranges Solves)) (run_reaches budget w tape e h).0
      → (q : Pixel a.chosen) → get_or (chart_at e) (place_in e (a.chosen.height - 1 - q.y) q.x) 0 ≡ 46
      → ¬ HasSolution (question_of M a.chosen a.ranges Solves) q
  dot_means_no budget tape e h right q dot =
      white_means_no M Solves a z e.steps e.world (run_reaches budget w tape e h).0 right q
      (dot_false (reads_in a.chosen e.world q) (sym (character_shows a z budget tape e h q) ∙ dot))
