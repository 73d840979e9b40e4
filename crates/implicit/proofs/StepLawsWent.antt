-- What a finished step has been through, that nothing else is asked of it, and what follows for a run: its bytes and evaluations are few, and the picture and the buffers' lengths stay.
-- Assumes nothing.
use Rattle.std.specs.Prelude.{Result, Ok, Err}
use Rattle.queue.specs.declared.QueueError.{QueueError}
use Rattle.queue.specs.Queue.{front_taken}
use mathlib.Core.Path.{◌≡◌, refl, sym, ap, ◌∙◌}
use mathlib.Core.Bool.{Bool, true, false}
use mathlib.Core.List.{List, [], ◌∷◌}
use Prim.Native.Nat.{ℕ, suc, ◌+◌, ◌^◌, ◌≤◌}
use native.Mathlib.Omega.{arith}
use lib.Dec.{leb, ltb}
use lib.ListN as L
use lib.ListN.{length, take}
use borrow.Author.Tests.{leb-true, eqb-true, le-leb}
use Rattle.base.proofs.Test.{cond_yes}
use Rattle.base.specs.Event.{Event, marks, queues, gives_up}
use Rattle.refusal.specs.declared.Refusal.{Refusal}
use Rattle.refusal.specs.declared.Refusal.TheVariants as R
use Rattle.image.specs.Cell.{Cell, meanings, meaning_of, cell_code}
use Rattle.image.specs.declared.Op.TheVariants as O
use Rattle.image.specs.Range.{rectangle_of}
use Rattle.image.proofs.PaintLaws.{painted_length}
use Rattle.queue.specs.declared.Block.{Block}
use Rattle.queue.specs.declared.Last.{Last}
use Rattle.queue.specs.declared.Taken.{Taken}
use Rattle.queue.specs.Ring.{wrapped}
use Rattle.queue.proofs.RingLaws.{length_stored}
use Rattle.decide.specs.declared.Chosen.{Chosen}
use Rattle.decide.specs.Children.{children_of}
use Rattle.decide.specs.Verdict.{all_legal}
use Rattle.plan.specs.Plan.{evaluations, cells_after, painted_under}
use Rattle.decide.proofs.ListingLaws.{children_few}
use Rattle.plan.proofs.EventLaws.{evaluations_few}
use Rattle.implicit.specs.Record.{pixel_count, sound_record}
use Rattle.implicit.specs.Listing.{front_of}
use Rattle.implicit.specs.Step.{World, StepEnd, finished, unless, enough_verdicts, outcomes_of, events_of, new_blocks, new_bytes, world_left, block_sound, judged, after_taking, step_with}

-- all that a finished step has been through: the block that it took, the checks that it passed, the world that it leaves
pub record Went (tape : Bool) (w : World) (vs : List ℕ) (left : World) (evals bytes : ℕ) : Type 0 where
  pub block : Block
  pub last : Last
  pub head : ℕ
  pub used : ℕ
  pub own : List ℕ
  pub record_is_sound : sound_record (length w.ring) w.state ≡ true
  pub cells_enough : pixel_count w.state.chosen ≤ length w.cells
  pub not_empty : ltb w.state.taken w.state.queued ≡ true
  pub front_read : front_of w.state w.ring ≡ front_taken block last head used
  pub undamaged_block : block_sound w.state.chosen w.cells block ≡ true
  pub enough : enough_verdicts tape (length (children_of w.state.chosen block)) (length vs) ≡ true
  pub own_is : own ≡ take (length (children_of w.state.chosen block)) vs
  pub legal : all_legal (children_of w.state.chosen block) own ≡ true
  pub numbers : w.state.queued + length (new_blocks w block own) ≤ 2 ^ 32
  pub room : used + length (new_bytes w block own) ≤ length w.ring
  pub leaves : left ≡ world_left w block last head used own
  pub cost : evals ≡ evaluations (outcomes_of w block own)
  pub bytes_are : bytes ≡ length (children_of w.state.chosen block)

pub passed : (why : Refusal) (t : Bool) (rest : StepEnd) (left : World) (e n : ℕ) → unless why t rest ≡ finished left e n → (t ≡ true) × (rest ≡ finished left e n)
unfolding unless
passed why true rest left e n h = (refl, h)
passed why false rest left e n h = let z : ◌≡◌ {A = ℕ} 0 1 = cc in absurd (omega arith)

pub went : (tape : Bool) (w : World) (vs : List ℕ) (left : World) (e n : ℕ) → step_with tape w vs ≡ finished left e n → Went tape w vs left e n
unfolding step_with after_taking judged
went tape w vs left e n h =
    let a = passed R.Damaged (sound_record (length w.ring) w.state) _ left e n h in
    let b = passed R.Cells (leb (pixel_count w.state.chosen) (length w.cells)) _ left e n a.1 in
    let c = passed R.Empty (ltb w.state.taken w.state.queued) _ left e n b.1 in
    go a.0 (leb-true (pixel_count w.state.chosen) (length w.cells) b.0) c.0 (front_of w.state w.ring) refl c.1
  where
    go : sound_record (length w.ring) w.state ≡ true → pixel_count w.state.chosen ≤ length w.cells → ltb w.state.taken w.state.queued ≡ true
        → (t : Result Taken QueueError) → front_of w.state w.ring ≡ t → after_taking tape w vs t ≡ finished left e n → Went tape w vs left e n
    go x y z (Ok t) f g =
        let cs = children_of w.state.chosen t.block in
        let own = take (length cs) vs in
        let d = passed R.Damaged (block_sound w.state.chosen w.cells t.block) _ left e n g in
        let m = passed R.Verdicts (enough_verdicts tape (length cs) (length vs)) _ left e n d.1 in
        let l = passed R.Verdict (all_legal cs own) _ left e n m.1 in
        let q = passed R.Numbers (leb (w.state.queued + length (new_blocks w t.block own)) (2 ^ 32)) _ left e n l.1 in
        let r = passed R.Room (leb (t.used + length (new_bytes w t.block own)) (length w.ring)) _ left e n q.1 in
        let k = r.1 in
        record {
          block = t.block;
          last = t.last;
          head = t.head;
          used = t.used;
          own = own;
          record_is_sound = x;
          cells_enough = y;
          not_empty = z;
          front_read = f;
          undamaged_block = d.0;
          enough = m.0;
          own_is = refl;
          legal = l.0;
          numbers = leb-true (w.state.queued + length (new_blocks w t.block own)) (2 ^ 32) q.0;
          room = leb-true (t.used + length (new_bytes w t.block own)) (length w.ring) r.0;
          leaves = (let j : world_left w t.block t.last t.head t.used own ≡ left = cc in sym j);
          cost = (let j : evaluations (outcomes_of w t.block own) ≡ e = cc in sym j);
          bytes_are = (let j : length cs ≡ n = cc in sym j);
        }
    go x y z (Err why) f g = let u : ◌≡◌ {A = ℕ} 0 1 = cc in absurd (omega arith)

-- and a step that passes all of that is finished
pub goes : (tape : Bool) (w : World) (vs : List ℕ) (b : Block) (last : Last) (head used : ℕ) → let cs = children_of w.state.chosen b in let own = take (length cs) vs in
    sound_record (length w.ring) w.state ≡ true → pixel_count w.state.chosen ≤ length w.cells → ltb w.state.taken w.state.queued ≡ true
    → front_of w.state w.ring ≡ front_taken b last head used → block_sound w.state.chosen w.cells b ≡ true → enough_verdicts tape (length cs) (length vs) ≡ true
    → all_legal cs own ≡ true → w.state.queued + length (new_blocks w b own) ≤ 2 ^ 32 → used + length (new_bytes w b own) ≤ length w.ring
    → step_with tape w vs ≡ finished (world_left w b last head used own) (evaluations (outcomes_of w b own)) (length cs)
unfolding step_with after_taking judged unless
goes tape w vs b last head used x y z f d m l q r =
    let cs = children_of w.state.chosen b in
    let own = take (length cs) vs in
    cond_yes (sound_record (length w.ring) w.state) _ _ x
    ∙ cond_yes (leb (pixel_count w.state.chosen) (length w.cells)) _ _ (le-leb (pixel_count w.state.chosen) (length w.cells) y)
    ∙ cond_yes (ltb w.state.taken w.state.queued) _ _ z
    ∙ ap (after_taking tape w vs) f
    ∙ cond_yes (block_sound w.state.chosen w.cells b) _ _ d
    ∙ cond_yes (enough_verdicts tape (length cs) (length vs)) _ _ m
    ∙ cond_yes (all_legal cs own) _ _ l
    ∙ cond_yes (leb (w.state.queued + length (new_blocks w b own)) (2 ^ 32)) _ _ (le-leb (w.state.queued + length (new_blocks w b own)) (2 ^ 32) q)
    ∙ cond_yes (leb (used + length (new_bytes w b own)) (length w.ring)) _ _ (le-leb (used + length (new_bytes w b own)) (length w.ring) r)

-- FEW BYTES, FEW EVALUATIONS

enough_fits : (tape : Bool) (children verdicts : ℕ) → enough_verdicts tape children verdicts ≡ true → children ≤ verdicts
enough_fits true children verdicts e = leb-true children verdicts e
enough_fits false children verdicts e = omega (arith, eqb-true verdicts children e)

-- a finished step takes at most four bytes, no more than there are, and at most 24 evaluations
pub step_few : (tape : Bool) (w : World) (vs : List ℕ) (left : World) (e n : ℕ) → step_with tape w vs ≡ finished left e n → (n ≤ 4) × (n ≤ length vs) × (e ≤ 24)
step_few tape w vs left e n h =
    let g = went tape w vs left e n h in
    let c = children_few w.state.chosen g.block in (
      omega (arith, g.bytes_are),
      omega (arith, g.bytes_are, enough_fits tape (length (children_of w.state.chosen g.block)) (length vs) g.enough),
      omega (arith, g.cost, evaluations_few w.state.chosen (meanings w.cells) (children_of w.state.chosen g.block) g.own),
    )

-- WHAT STAYS

cells_stay : (p : Chosen) (b : Block) (number new : ℕ) (es : List (Event Block)) (l : List Cell) → length (cells_after p b number new es l) ≡ length l
unfolding cells_after
cells_stay p b number new [] l = refl
cells_stay p b number new (marks c ∷ es) l = cells_stay p b number new es (painted_under p c O.Mark l) ∙ painted_length p.width (rectangle_of c.x c.y p.width p.height) O.Mark l
cells_stay p b number new (queues c ∷ es) l = cells_stay p b number (suc new) es (painted_under p c (O.Name number new) l) ∙ painted_length p.width (rectangle_of c.x c.y p.width p.height) (O.Name number new) l
cells_stay p b number new (gives_up ∷ es) l = cells_stay p b number new es (painted_under p b O.GiveUp l) ∙ painted_length p.width (rectangle_of b.x b.y p.width p.height) O.GiveUp l

pub record Stays (w left : World) : Type 0 where
  pub chosen : left.state.chosen ≡ w.state.chosen
  pub ring : length left.ring ≡ length w.ring
  pub cells : length left.cells ≡ length w.cells

left_stays : (w : World) (b : Block) (last : Last) (head used : ℕ) (vs : List ℕ) → Stays w (world_left w b last head used vs)
unfolding world_left
left_stays w b last head used vs = record {
  chosen = refl;
  ring = length_stored (new_bytes w b vs) w.ring (wrapped (length w.ring) (head + used));
  cells =
      L.length-map (cells_after w.state.chosen b w.state.taken w.state.queued (events_of w b vs) (meanings w.cells)) cell_code
      ∙ cells_stay w.state.chosen b w.state.taken w.state.queued (events_of w b vs) (meanings w.cells)
      ∙ L.length-map w.cells meaning_of;
}

pub step_stays : (tape : Bool) (w : World) (vs : List ℕ) (left : World) (e n : ℕ) → step_with tape w vs ≡ finished left e n → Stays w left
step_stays tape w vs left e n h = let g = went tape w vs left e n h in rw g.leaves (left_stays w g.block g.last g.head g.used g.own)
