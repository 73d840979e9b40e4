-- The step, stage by stage: what its decision says, and that the check of the room and the writing are the definition's. Assumes nothing.
use Rattle.std.specs.Prelude.{Ok}
use Rattle.queue.specs.declared.QueueError.{QueueError}
use Rattle.queue.specs.Queue.{front_taken}
use mathlib.Core.Path.{◌≡◌, refl, sym, ap, ◌∙◌}
use mathlib.Core.Bool.{Bool, true, false, cond}
use mathlib.Core.List.{List, [], ◌∷◌}
use Prim.Native.Nat.{ℕ, ◌+◌, ◌-◌, ◌^◌, ◌≤◌}
use native.Mathlib.Omega.{arith}
use native.Mathlib.Nat.{zero-add}
use lib.Dec.{leb, ltb}
use lib.ListN.{length, take, replicate, length-append, length-replicate}
use borrow.Author.Tests.{leb-true, leb-false, lt-ltb, le-leb, lt-leb}
use Rattle.std.specs.Prelude.{Result, Err, Ok}
use Rattle.base.proofs.Test.{cases, by_test}
use Rattle.base.specs.Event.{queued_by}
use Rattle.refusal.specs.declared.Refusal.{Refusal}
use Rattle.refusal.specs.declared.Refusal.TheVariants as R
use Rattle.image.specs.declared.Op.TheVariants as Op
use Rattle.image.specs.Cell as Cells
use Rattle.queue.specs.declared.Block.{Block}
use Rattle.queue.specs.declared.Last.{Last}
use Rattle.queue.specs.declared.Taken.{Taken}
use Rattle.queue.specs.Ring.{stored_behind}
use Rattle.queue.specs.Code.{indices_known}
use Rattle.queue.specs.Queue as Queue
use Rattle.queue.specs.Queue.{taken}
use Rattle.decide.specs.declared.Chosen.{Chosen}
use Rattle.decide.specs.declared.verdict.Outcome.{Outcome}
use Rattle.decide.specs.declared.verdict.Outcome.TheVariants as Out
use Rattle.decide.specs.Damage.{sound}
use Rattle.decide.specs.Children.{children_of}
use Rattle.decide.specs.ChildAt.{cut_of}
use Rattle.decide.specs.Turn.{turned}
use Rattle.decide.specs.Verdict.{all_legal, outcome_of, is_marking}
use Rattle.decide.proofs.ListingLaws.{children_few}
use Rattle.plan.specs.declared.Judged.{Judged}
use Rattle.plan.specs.Plan.{painted_under, all_true, outcomes, incomplete_count, evaluations, mark_events, turn_events, events_for, cells_after}
use Rattle.plan.specs.AtOnce.{children_by, judged_as, judged_of}
use Rattle.plan.proofs.JudgedLaws.{cut_children, judged_in_order, marks_queue_none}
use Rattle.implicit.specs.declared.state.State.{State}
use Rattle.implicit.specs.declared.deciding.Decided.{Decided}
use Rattle.implicit.specs.declared.fitting.Size.{Size}
use Rattle.implicit.specs.declared.commit.Behind.{Behind}
use Rattle.implicit.specs.declared.state.Finished.{Finished}
use Rattle.implicit.specs.declared.state.Refused.{Refused}
use Rattle.implicit.specs.Record.{pixel_count, sound_record, put_last}
use Rattle.implicit.specs.Listing.{front_of}
use Rattle.implicit.specs.Step.{World, world_of, StepEnd, refused, finished, unless, enough_verdicts, outcomes_of}
use Rattle.implicit.specs.Step.{events_of, new_blocks, new_bytes, world_left, block_sound, judged, after_taking}
use Rattle.implicit.specs.Step.{step_with, EndsAs}
use Rattle.implicit.specs.StepComputed.{decision_judged, decision_on, decision_from, decision_of, Four}
use Rattle.implicit.specs.StepComputed.{turn_of, size_of, size_check, room_check, marked_for}
use Rattle.implicit.specs.StepComputed.{Carrying, carrying_of, committed, finished_by}
use Rattle.implicit.proofs.RecordLaws.{sound_record_lem}
use Rattle.implicit.proofs.StepLawsKept.{LastHeld, AllReady}
use Rattle.implicit.proofs.StepLawsComputed.{padded, marks_padded, turns_padded, sized_is, marked_length, marked_is, carried_is}
use Rattle.implicit.proofs.StepLawsFront.{front_known, front_head, front_used, block_whole, new_ready}

-- WHAT A DECISION SAYS

-- all that is known of a step that nothing has refused yet, but for numbers and room
pub record Gone (tape : Bool) (s : State) (ring cells vs : List ℕ) (g : Decided) : Type 0 where
  pub last : Last
  pub record_is_sound : sound_record (length ring) s ≡ true
  pub cells_enough : leb (pixel_count s.chosen) (length cells) ≡ true
  pub not_empty : ltb s.taken s.queued ≡ true
  pub front_read : front_of s ring ≡ front_taken g.block last g.head g.used
  pub block_is_sound : block_sound s.chosen cells g.block ≡ true
  pub enough : enough_verdicts tape (length (children_of s.chosen g.block)) (length vs) ≡ true
  pub cut_is : g.cut ≡ cut_of s.chosen g.block
  pub judged_is : g.judged ≡ judged_of s.chosen g.block (cut_of s.chosen g.block) (take (length (children_of s.chosen g.block)) vs) cells
  pub legal : g.judged.legal ≡ true

module _ (tape : Bool) (s : State) (ring cells vs : List ℕ) where
  abbrev world : World
  world = world_of s ring cells

  -- what becomes of the step
  abbrev pub Decides : Result Decided Refusal → Type 0
  Decides (Ok g) = Gone tape s ring cells vs g
  Decides (Err why) = step_with tape world vs ≡ refused why

  -- what is remembered of the children, in the definition's words
  judged_as_lem : (b : Block) (own : List ℕ) → sound s.chosen b ≡ true → leb (pixel_count s.chosen) (length cells) ≡ true
      → judged_of s.chosen b (cut_of s.chosen b) own cells ≡ judged_as (outcomes_of world b own) (all_legal (children_of s.chosen b) own)
  judged_as_lem b own ok h = judged_in_order s.chosen b ok own cells (leb-true (pixel_count s.chosen) (length cells) h)

  module _ (a : sound_record (length ring) s ≡ true) (h : leb (pixel_count s.chosen) (length cells) ≡ true) (e : ltb s.taken s.queued ≡ true) where
    block_decides : (b : Block) (last : Last) (head used : ℕ) → front_of s ring ≡ front_taken b last head used
        → Decides (decision_on s.chosen cells tape vs b head used)
    unfolding decision_on decision_judged step_with after_taking judged unless judged_as
    block_decides b last head used f =
        let cs = children_of s.chosen b in
        let own = take (length cs) vs in
        by_test Decides (block_sound s.chosen cells b) _ _
        (λ d. (let j = judged_as_lem b own (block_whole s ring b last head used f cells a d) h in
        by_test Decides (enough_verdicts tape (length cs) (length vs)) _ _
        (λ n. by_test Decides (judged_of s.chosen b (cut_of s.chosen b) own cells).legal _ _
        (λ l. record {
          last = last;
          record_is_sound = a;
          cells_enough = h;
          not_empty = e;
          front_read = f;
          block_is_sound = d;
          enough = n;
          cut_is = refl;
          judged_is = refl;
          legal = l;
        })
        (λ l. (let i : all_legal cs own ≡ false = sym (ap (λ (x : Judged). x.legal) j) ∙ l in rw (a, h, e, f, d, n, i))))
        (λ n. rw (a, h, e, f, d, n))))
        (λ d. rw (a, h, e, f, d))

    front_decides : (t : Result Taken QueueError) → front_of s ring ≡ t → Decides (decision_from s.chosen cells tape vs t)
    unfolding step_with after_taking unless
    front_decides (Ok t) f = block_decides t.block t.last t.head t.used f
    front_decides (Err why) f = rw (a, h, e, f)

  pub decides : Decides (decision_of s.chosen (sound_record (length ring) s) (ltb s.taken s.queued) (front_of s ring) cells tape vs)
  unfolding decision_of step_with unless
  decides =
      by_test Decides (sound_record (length ring) s) _ _
      (λ a. by_test Decides (leb (pixel_count s.chosen) (length cells)) _ _
      (λ h. by_test Decides (ltb s.taken s.queued) _ _ (λ e. front_decides a h e (front_of s ring) refl) (λ e. rw (a, h, e)))
      (λ h. rw (a, h)))
      (λ a. rw a)

-- WHAT IS KNOWN BEFORE THE FIRST WRITE

outcomes_few : (p : Chosen) (l : List Cells.Cell) (cs : List Block) (vs : List ℕ) → length (outcomes p l cs vs) ≤ length cs
unfolding outcomes
outcomes_few p l [] vs = omega arith
outcomes_few p l (c ∷ cs) [] = omega arith
outcomes_few p l (c ∷ cs) (v ∷ vs) =
    let o = outcome_of c.x.rank v (all_true p c l) in
    omega (arith, outcomes_few p (cond (is_marking o) (painted_under p c Op.Mark l) l) cs vs)

module _ (tape : Bool) (s : State) (ring cells vs : List ℕ) (g : Decided) (k : Gone tape s ring cells vs g) where
  abbrev here : World
  here = world_of s ring cells

  abbrev kids : List Block
  kids = children_of s.chosen g.block

  abbrev own : List ℕ
  own = take (length kids) vs

  abbrev ended : List Outcome
  ended = outcomes_of here g.block own

  pub back_known : indices_known (put_last s.back) ≡ true
  unfolding indices_known put_last
  back_known = let r = (sound_record_lem (length ring) s k.record_is_sound).back in rw (lt-ltb s.back.x (2 ^ 47) r.x, lt-ltb s.back.y (2 ^ 47) r.y)

  whole : sound s.chosen g.block ≡ true
  whole = block_whole s ring g.block k.last g.head g.used k.front_read cells k.record_is_sound k.block_is_sound

  in_ring : g.used ≤ length ring
  in_ring = front_used s ring g.block k.last g.head g.used k.front_read

  -- what is remembered
  remembers : g.judged ≡ judged_as ended (all_legal kids own)
  remembers = k.judged_is ∙ judged_as_lem tape s ring cells vs g.block own whole k.cells_enough

  places : g.judged.at ≡ padded ended (4 - length ended)
  unfolding judged_as
  places = ap (λ (j : Judged). j.at) remembers

  incomplete_as : g.judged.incomplete ≡ incomplete_count ended
  unfolding judged_as
  incomplete_as = ap (λ (j : Judged). j.incomplete) remembers

  evaluated_as : g.judged.evaluations ≡ evaluations ended
  unfolding judged_as
  evaluated_as = ap (λ (j : Judged). j.evaluations) remembers

  legal_as : all_legal kids own ≡ true
  unfolding judged_as
  legal_as = sym (ap (λ (j : Judged). j.legal) remembers) ∙ k.legal

  cut_kids : children_by g.cut g.block ≡ kids
  cut_kids = rw k.cut_is (cut_children s.chosen g.block whole)

  counted : g.cut.count ≡ length kids
  unfolding cut_of
  counted = rw k.cut_is

  turn_as : turn_of s.chosen g ≡ turned s.chosen g.block (incomplete_count ended)
  unfolding turned
  turn_as = rw incomplete_as

  -- the events, and the blocks that they queue
  turns_as : turn_events (turn_of s.chosen g) (children_by g.cut g.block) g.judged.at
      ≡ turn_events (turned s.chosen g.block (incomplete_count ended)) kids ended
  turns_as = rw (turn_as, cut_kids, places) (turns_padded (turned s.chosen g.block (incomplete_count ended)) kids ended (4 - length ended))

  marks_as : mark_events (children_by g.cut g.block) g.judged.at ≡ mark_events kids ended
  marks_as = rw (cut_kids, places) (marks_padded kids ended (4 - length ended))

  queued_as : queued_by (turn_events (turn_of s.chosen g) (children_by g.cut g.block) g.judged.at) ≡ new_blocks here g.block own
  unfolding events_for
  queued_as = ap queued_by turns_as ∙ sym (marks_queue_none kids ended (turn_events (turned s.chosen g.block (incomplete_count ended)) kids ended))

  pub four : Four g
  unfolding judged_as
  four =
      let n = 4 - length ended in
      let few = outcomes_few s.chosen (Cells.meanings cells) kids own in
      let most = children_few s.chosen g.block in
      let l : length (padded ended n) ≡ 4 = omega (
        arith,
        few,
        most,
        length-append ended (replicate n Out.Skipped),
        length-replicate n Out.Skipped,
      ) in
      (omega (arith, counted, most), ap length places ∙ l)

  module _ (held : LastHeld s.front) where
    ready : AllReady s.chosen.set (new_blocks here g.block own)
    ready = new_ready s ring g.block k.last g.head g.used k.front_read cells k.record_is_sound k.block_is_sound held own

    -- THE ROOM

    sizes : size_of s.chosen (put_last s.back) g ≡ record {
      queued = length (new_blocks here g.block own);
      total = length (new_bytes here g.block own);
      last = Queue.memory (put_last s.back) (new_blocks here g.block own);
    }
    sizes =
        let q = queued_as in
        let z : Size = record { queued = 0; total = 0; last = put_last s.back } in
        sized_is s.chosen (turn_of s.chosen g) z (children_by g.cut g.block) g.judged.at (rw q ready) back_known
        ∙ rw (q, zero-add (length (new_blocks here g.block own)), zero-add (length (new_bytes here g.block own)))

    abbrev leaves : StepEnd
    leaves = finished (world_left here g.block k.last g.head g.used own) (evaluations ended) (length kids)

    -- the step, once the room is checked
    abbrev after_check : Result (Unit {0}) Refusal → StepEnd
    after_check (Ok u) = leaves
    after_check (Err why) = refused why

    fits_same : (used n len : ℕ) → used ≤ len → leb n (len - used) ≡ leb (used + n) len
    fits_same used n len h =
        cases (leb n (len - used))
        (λ e. e ∙ sym (le-leb (used + n) len (omega (arith, leb-true n (len - used) e))))
        (λ e. e ∙ sym (lt-leb (used + n) len (omega (arith, leb-false n (len - used) e))))

    two_checks : (a b : Bool) (u v : Refusal)
        → after_check (cond a (cond b (Ok tt) (Err u)) (Err v)) ≡ cond a (cond b leaves (refused u)) (refused v)
    two_checks true true u v = refl
    two_checks true false u v = refl
    two_checks false b u v = refl

    pub step_room : step_with tape here vs ≡ after_check (room_check s.chosen s.queued s.back (length ring) g)
    unfolding step_with after_taking judged unless size_check
    step_room =
        let u = fits_same g.used (length (new_bytes here g.block own)) (length ring) in_ring in
        rw (k.record_is_sound, k.cells_enough, k.not_empty, k.front_read, k.block_is_sound, k.enough, legal_as, sizes, u)
        (sym (two_checks (leb (s.queued + length (new_blocks here g.block own)) (2 ^ 32))
        (leb (g.used + length (new_bytes here g.block own)) (length ring)) R.Room R.Numbers))

    -- THE WRITING

    module _ (passed : room_check s.chosen s.queued s.back (length ring) g ≡ Ok tt) where
      both : (s.queued + length (new_blocks here g.block own) ≤ 2 ^ 32) × (g.used + length (new_bytes here g.block own) ≤ length ring)
      unfolding size_check
      both =
          let n = s.queued + length (new_blocks here g.block own) in
          let l = length (new_bytes here g.block own) in
          let t = two_passed (leb n (2 ^ 32)) (leb l (length ring - g.used)) R.Room R.Numbers (rw sizes at passed) in
          (leb-true n (2 ^ 32) t.0, omega (arith, leb-true l (length ring - g.used) t.1, in_ring))
        where
          two_passed : (a b : Bool) (u v : Refusal) → ◌≡◌ {A = Result (Unit {0}) Refusal} (cond a (cond b (Ok tt) (Err u)) (Err v)) (Ok tt) → (a ≡ true) × (b ≡ true)
          two_passed true true u v e = (refl, refl)
          two_passed true false u v e = let z : ◌≡◌ {A = ℕ} 0 1 = cc in absurd (omega arith)
          two_passed false b u v e = let z : ◌≡◌ {A = ℕ} 0 1 = cc in absurd (omega arith)

      -- what is written is the definition's
      pub written : committed s.chosen s.taken s.queued s.back ring cells g ≡ record {
        queued = s.queued + length (new_blocks here g.block own);
        used = g.used + length (new_bytes here g.block own);
        back = Queue.memory (put_last s.back) (new_blocks here g.block own);
        ring = stored_behind ring g.head g.used (new_bytes here g.block own);
        cells = Cells.codes (cells_after s.chosen g.block s.taken s.queued (events_of here g.block own) (Cells.meanings cells));
      }
      unfolding committed events_for
      written =
          let p = s.chosen in
          let cs = children_by g.cut g.block in
          let es = g.judged.at in
          let fs = turn_events (turn_of p g) cs es in
          let q = queued_as in
          carried_is p s.taken g.head g.block (turn_of p g)
          (record { queued = s.queued; used = g.used; back = put_last s.back; ring = ring; cells = marked_for p cells g }) cs es
          (record {
            head_in = front_head s ring g.block k.last g.head g.used k.front_read;
            room = rw q both.1;
            numbers = rw q both.0;
            cells_enough = rw (marked_length p cells cs es) k.cells_enough;
            known = back_known;
            ready = rw q ready;
          })
          ∙ rw (q, marked_is p g.block s.taken s.queued cells cs es fs k.cells_enough, marks_as, turns_as)

      -- the answer
      pub ends_finished : (l : Behind) (ring' cells' : List ℕ) → carrying_of l ring' cells' ≡ committed s.chosen s.taken s.queued s.back ring cells g
          → EndsAs here (step_with tape here vs) (Ok (finished_by s l g)) ring' cells'
      unfolding world_left
      ends_finished l ring' cells' e =
          let w = e ∙ written in
          let q = ap (λ (x : Carrying). x.queued) w in
          let u = ap (λ (x : Carrying). x.used) w in
          let b = ap (λ (x : Carrying). x.back) w in
          let r = ap (λ (x : Carrying). x.ring) w in
          let c = ap (λ (x : Carrying). x.cells) w in
          let m = (front_known s ring g.block k.last g.head g.used k.front_read).remembers in
          rw (step_room, passed) (rw (q, u, b, evaluated_as, counted, m), r, c)

-- THE ANSWERS

-- a refused step leaves all as it was
pub ends_refused : (w : World) (e : StepEnd) (why : Refusal) → e ≡ refused why → EndsAs w e (Err (record { why = why; state = w.state })) w.ring w.cells
ends_refused w e why h = rw h (refl, refl, refl)

-- by a decision that was made where the record is sound or not
module _ (tape : Bool) (s : State) (ring cells vs : List ℕ) (t : Bool) (is_t : t ≡ sound_record (length ring) s) where
  abbrev pub decision : Result Decided Refusal
  decision = decision_of s.chosen t (ltb s.taken s.queued) (front_of s ring) cells tape vs

  abbrev pub Answers : Result Finished Refused → List ℕ → List ℕ → Type 0
  Answers a ring' cells' = EndsAs (world_of s ring cells) (step_with tape (world_of s ring cells) vs) a ring' cells'

  abbrev back_with : Refusal → Result Finished Refused
  back_with why = Err (record { why = why; state = s })

  decided : (d : Result Decided Refusal) → d ≡ decision → Decides tape s ring cells vs d
  decided d e = rw (e, is_t) (decides tape s ring cells vs)

  pub step_undecided : (why : Refusal) → Err why ≡ decision → Answers (back_with why) ring cells
  step_undecided why e = ends_refused (world_of s ring cells) (step_with tape (world_of s ring cells) vs) why (decided (Err why) e)

  module _ (g : Decided) (is_g : Ok g ≡ decision) where
    gone : Gone tape s ring cells vs g
    gone = decided (Ok g) is_g

    -- what the room's check asks, and carrying out
    pub room_asked : (s.queued ≤ 2 ^ 32) × (g.used ≤ length ring) × Four g
    room_asked = ((sound_record_lem (length ring) s gone.record_is_sound).numbers, in_ring tape s ring cells vs g gone, four tape s ring cells vs g gone)

    pub taken_asked : s.taken ≤ 2 ^ 32
    taken_asked = let r = sound_record_lem (length ring) s gone.record_is_sound in omega (arith, r.order, r.numbers)

    module _ (held : LastHeld s.front) where
      pub step_no_room : (why : Refusal) → Err why ≡ room_check s.chosen s.queued s.back (length ring) g → Answers (back_with why) ring cells
      step_no_room why e =
          ends_refused (world_of s ring cells) (step_with tape (world_of s ring cells) vs) why
          (step_room tape s ring cells vs g gone held ∙ ap (after_check tape s ring cells vs g gone held) (sym e))

      pub step_finished : (l : Behind) (f : Finished) (ring' cells' : List ℕ) → Ok tt ≡ room_check s.chosen s.queued s.back (length ring) g
          → carrying_of l ring' cells' ≡ committed s.chosen s.taken s.queued s.back ring cells g → f ≡ finished_by s l g → Answers (Ok f) ring' cells'
      step_finished l f ring' cells' e w i = rw i (ends_finished tape s ring cells vs g gone held (sym e) l ring' cells' w)
