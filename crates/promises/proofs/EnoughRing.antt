-- With room for what steps can add, none of them is refused by 6, and no run is stopped by it. Assumes nothing.
use mathlib.Core.Path.{◌≡◌, refl, sym, ap, ◌∙◌}
use mathlib.Core.Bool.{Bool, true, false}
use mathlib.Core.List.{List, [], ◌∷◌}
use Prim.Native.Nat.{ℕ, zero, suc, ◌+◌, ◌*◌, ◌≤◌, ◌<◌}
use native.Mathlib.Nat.{mul-le-mul_right}
use native.Mathlib.Omega.{arith}
use lib.Dec.{leb}
use lib.ListN.{length, take, drop}
use borrow.Author.Tests.{le-leb}
use Rattle.std.specs.Prelude.{Ok}
use Rattle.base.proofs.Test.{by_test}
use Rattle.base.specs.Lists.{Every}
use Rattle.base.proofs.ListLaws.{every_also}
use Rattle.refusal.specs.declared.Refusal.{Refusal}
use Rattle.refusal.specs.declared.Refusal.TheVariants as R
use Rattle.image.specs.Cell.{is_given_up}
use Rattle.image.specs.Painting.{some_of}
use Rattle.queue.specs.declared.Block.{Block}
use Rattle.queue.specs.declared.Last.{Last}
use Rattle.queue.specs.Queue.{queue_codes}
use Rattle.queue.proofs.RoundTrip.{CanQueue}
use Rattle.decide.specs.declared.Chosen.{Chosen}
use Rattle.decide.specs.Damage.{sound}
use Rattle.decide.specs.Children.{children_of}
use Rattle.plan.proofs.EventLaws.{queued_sound}
use Rattle.implicit.specs.declared.state.State.{State}
use Rattle.implicit.specs.declared.state.Ending.{Ending}
use Rattle.implicit.specs.declared.state.Ending.TheVariants as E
use Rattle.implicit.specs.Record.{put_last, pixel_cells, queue_empty}
use Rattle.implicit.specs.Room.{parameter_count, step_growth, enough_bytes, enough_ring}
use Rattle.implicit.specs.Setup.{first_bytes, start_record}
use Rattle.implicit.specs.Step.{World, StepEnd, refused, finished, unless, outcomes_of, new_blocks, new_bytes, world_left, judged}
use Rattle.implicit.specs.Step.{step_with, step_of, tape_step_of, step_answer}
use Rattle.implicit.specs.Run.{RunEnd, ended_as, RunResult, not_run, has_run, gone_on, empty_ending, run_from, run_of, run_answer}
use Rattle.implicit.specs.Answers.{step_number, stop_number, run_stop}
use Rattle.implicit.proofs.SetupLawsStart.{length_start}
use Rattle.implicit.proofs.RecordLaws.{sound_record_lem}
use Rattle.implicit.proofs.StepLawsWent.{step_stays}
use Rattle.promises.specs.Steps.{Asked, BegunAs, Steps, no_steps, then_step, then_move, NoMove}
use Rattle.promises.specs.EnoughRoom.{NeverSix, RunsPastSix}
use Rattle.promises.proofs.CodesFew.{Known47, code_least, siblings_few}
use Rattle.promises.proofs.Siblings.{Siblings, queued_siblings, in_all}
use Rattle.promises.proofs.Invariant.{Keeps, size, used', size_in, block_sound_lem, step_passes, step_empty}
use Rattle.promises.proofs.MoveKeeps.{move_keeps}
use Rattle.promises.proofs.StepKeeps.{took_front}
use Rattle.promises.proofs.NeverDamaged.{not_by}
use Rattle.promises.proofs.RunSteps.{run_steps, run_stops, has_run_lem, steps_follow, empty_stops, more_stops}
use Rattle.promises.proofs.Linked.{Reached, steps_reached, begun_by, begun_passed, begun_reached}

-- WHAT A STEP ADDS to the bytes used

-- new blocks behind what is remembered take what a step adds, and what the code of the block that was taken had at least
new_few : (set : ℕ) (b : Block) (last : Last) (q : List Block) → Siblings set b q → Every (CanQueue set) q → Known47 last
    → length (queue_codes set last q) ≤ step_growth set + 5 + 2 * parameter_count set
new_few set b last [] s f k = unfold queue_codes in omega arith
new_few set b last (c ∷ q) s f k =
    in_all set s.along (length q) (length (queue_codes set last (c ∷ q))) s.few s.used
    (siblings_few set s.i s.j s.along b c q last k s.each f)

known_put : (l : Last) → Known47 l → Known47 (put_last l)
unfolding put_last
known_put l k = k

module _ (w : World) (c : Block) (rest : List Block) (k : Keeps w (c ∷ rest)) where
  abbrev p : Chosen
  p = w.state.chosen

  freed : 5 + 2 * parameter_count p.set ≤ size w c rest k
  freed =
      let f = (sound_record_lem (length w.ring) w.state k.record_is_sound).front in
      code_least p.set w.state.front c (f.x, f.y) k.holds.all.0

  queued : (vs : List ℕ) → length (new_bytes w c vs) ≤ step_growth p.set + 5 + 2 * parameter_count p.set
  queued vs =
      let s = (sound_record_lem (length w.ring) w.state k.record_is_sound).back in
      let all = queued_sound p c (block_sound_lem w c rest k) (outcomes_of w c vs) k.holds.all.0.fine in
      let can = every_also (λ d. (sound p d ≡ true) × CanQueue p.set d) (CanQueue p.set) (λ d t. t.1) (new_blocks w c vs) all in
      new_few p.set c (put_last w.state.back) (new_blocks w c vs) (queued_siblings p c (block_sound_lem w c rest k) (outcomes_of w c vs)) can
      (known_put w.state.back (s.x, s.y))

  grows : (vs : List ℕ) → used' w c rest k + length (new_bytes w c vs) ≤ w.state.used + step_growth p.set
  grows vs = omega (arith, freed, queued vs, size_in w c rest k)

  -- with that much room it is not refused by 6
  has_room : w.state.used + step_growth p.set ≤ length w.ring → (own : List ℕ) (end : StepEnd) → ¬ (step_number (step_answer w.state end) ≡ 6)
      → ¬ (step_number (step_answer w.state (unless R.Room (leb (used' w c rest k + length (new_bytes w c own)) (length w.ring)) end)) ≡ 6)
  unfolding unless
  has_room room own end n = rw (le-leb (used' w c rest k + length (new_bytes w c own)) (length w.ring) (omega (arith, grows own))) n

  not_for_room : w.state.used + step_growth p.set ≤ length w.ring → (tape : Bool) (vs : List ℕ)
      → ¬ (step_number (step_answer w.state (step_with tape w vs)) ≡ 6)
  unfolding judged
  not_for_room room tape vs e =
      not_by w.state 6 R.Verdicts _ _ (λ f. omega arith)
      (not_by w.state 6 R.Verdict _ _ (λ f. omega arith)
      (not_by w.state 6 R.Numbers _ _ (λ f. omega arith) (has_room room (take (length (children_of p c)) vs) _ (λ f. omega arith))))
      (rw (step_passes w c rest k tape vs) at e)

-- so no step is, on any world of which the invariant holds
pub room_enough : (w : World) (q : List Block) → Keeps w q → w.state.used + step_growth w.state.chosen.set ≤ length w.ring
    → (tape : Bool) (vs : List ℕ) → ¬ (step_number (step_answer w.state (step_with tape w vs)) ≡ 6)
room_enough w [] k room tape vs e = let f = rw (step_empty w k tape vs) at e in omega (arith, f)
room_enough w (c ∷ rest) k room tape vs e = not_for_room w c rest k room tape vs e

-- STEPS AND MOVES

module _ (p : Chosen) {w₀ : World} (h : Reached p w₀) where
  one_grows : (w : World) → Reached p w → (vs : List ℕ) (left : World) (evals bytes : ℕ) → step_of w vs ≡ finished left evals bytes
      → left.state.used ≤ w.state.used + step_growth p.set
  unfolding world_left
  one_grows w r vs left evals bytes e = go r.blocks r.keeps
    where
      go : (q : List Block) → Keeps w q → left.state.used ≤ w.state.used + step_growth p.set
      go [] k = let f = step_empty w k false vs in let z : ◌≡◌ {A = ℕ} 0 1 = cc in absurd (omega arith)
      go (c ∷ rest) k =
          let t = took_front w c rest k vs left evals bytes e in
          let u : left.state.used ≡ used' w c rest k + length (new_bytes w c vs) = ap (λ (v : World). v.state.used) t.left_is in
          let s : step_growth w.state.chosen.set ≡ step_growth p.set = ap (λ (o : Chosen). step_growth o.set) r.chosen in
          omega (arith, u, grows w c rest k vs, s)

  -- what steps add in all; a move adds nothing
  pub steps_use : {m : ℕ} {w : World} → Steps m w₀ w → w.state.used ≤ w₀.state.used + m * step_growth p.set
  steps_use no_steps = omega arith
  steps_use (then_step {w' = w} {w'' = left} r vs evals bytes e) = omega (arith, steps_use r, one_grows w (steps_reached p h r) vs left evals bytes e)
  steps_use (then_move {w'' = w''} r m) = let k = steps_reached p h r in omega (arith, steps_use r, (move_keeps m k.blocks k.keeps).used)

  pub steps_enough : (n m : ℕ) (w : World) → Steps m w₀ w → m < n → w₀.state.used + n * step_growth p.set ≤ length w.ring
      → (tape : Bool) (vs : List ℕ) → ¬ (step_number (step_answer w.state (step_with tape w vs)) ≡ 6)
  steps_enough n m w r less room tape vs =
      let l = mul-le-mul_right {m = suc m} {n = n} (step_growth p.set) less in
      let k = steps_reached p h r in
      let s : step_growth w.state.chosen.set ≡ step_growth p.set = ap (λ (o : Chosen). step_growth o.set) k.chosen in
      room_enough w k.blocks k.keeps (omega (arith, steps_use r, l, s, room)) tape vs

-- without a move the ring is as long as it was
pub same_ring : {n : ℕ} {w w' : World} (r : Steps n w w') → NoMove r → length w'.ring ≡ length w.ring
unfolding NoMove
same_ring no_steps a = refl
same_ring (then_step {w' = w} {w'' = left} r vs evals bytes e) a = (step_stays false w vs left evals bytes e).ring ∙ same_ring r a
same_ring (then_move r m) a = absurd a

-- RUNS

-- a run that stops has steps left in its budget
abbrev StopsEarly : ℕ → RunEnd → Type 0
StopsEarly budget e = (why : Refusal) → e.ending ≡ E.Stop why → e.steps < budget

gone_early : (left : ℕ) (w : World) (s : StepEnd) (rest : World → ℕ → RunEnd) → ((v : World) (n : ℕ) → StopsEarly left (rest v n))
    → StopsEarly (suc left) (gone_on w s rest)
gone_early left w (refused reason) rest ih why e = omega arith
gone_early left w (finished next evals bytes) rest ih why e = omega (arith, ih next bytes why e)

stops_early : (budget : ℕ) (w : World) (tape : List ℕ) → StopsEarly budget (run_from budget w tape)
unfolding run_from
stops_early zero w tape =
    by_test (StopsEarly zero) (queue_empty w.state) (ended_as w (empty_ending w.state.chosen w.cells)) (ended_as w E.More)
    (λ t why e. empty_stops why (some_of is_given_up (pixel_cells w.state.chosen w.cells)) e) (λ t why e. more_stops why e)
stops_early (suc left) w tape =
    by_test (StopsEarly (suc left)) (queue_empty w.state) (ended_as w (empty_ending w.state.chosen w.cells))
    (gone_on w (tape_step_of w tape) (λ next bytes. run_from left next (drop bytes tape)))
    (λ t why e. empty_stops why (some_of is_given_up (pixel_cells w.state.chosen w.cells)) e)
    (λ t. gone_early left w (tape_step_of w tape) (λ next bytes. run_from left next (drop bytes tape)) (λ v n. stops_early left v (drop n tape)))

module _ (p : Chosen) {w₀ : World} (h : Reached p w₀) where
  pub runs_enough : (n m : ℕ) (w : World) → Steps m w₀ w → (budget : ℕ) → m + budget ≤ n → w₀.state.used + n * step_growth p.set ≤ length w.ring
      → (tape : List ℕ) → ¬ (run_stop (run_answer w.state (run_of budget w tape)) ≡ 6)
  runs_enough n m w r budget few room tape = ran (run_of budget w tape) refl
    where
      ended : (e : RunEnd) → run_of budget w tape ≡ has_run e → (g : Ending) → e.ending ≡ g → ¬ (stop_number g ≡ 6)
      ended e a E.Done s k = omega arith
      ended e a E.Limit s k = omega arith
      ended e a E.More s k = omega arith
      ended e a (E.Stop why) s k =
          let (all, v, l, c, alone) = run_steps budget w tape e a in
          let is = has_run_lem budget w tape e a in
          let early = stops_early budget w tape why (ap (λ (x : RunEnd). x.ending) (sym is) ∙ s) in
          let same : e.steps ≡ (run_from budget w tape).steps = ap (λ (x : RunEnd). x.steps) is in
          let (rest, f) = run_stops budget w tape e why a s in
          let both = (steps_follow (m + e.steps) refl r all).0 in
          steps_enough p h n (m + e.steps) e.world both (omega (arith, early, same)) (omega (arith, room, same_ring all alone)) true rest
          (ap (λ (x : StepEnd). step_number (step_answer e.world.state x)) f ∙ k)

      ran : (a : RunResult) → run_of budget w tape ≡ a → ¬ (run_stop (run_answer w.state a) ≡ 6)
      ran (not_run why) a k = omega arith
      ran (has_run e) a k = ended e a e.ending refl k

-- FROM AN ACCEPTED SETUP

module _ (a : Asked) {w₀ : World} (z : BegunAs a w₀) where
  begun_used : w₀.state.used ≡ length (first_bytes a.chosen a.ranges)
  unfolding start_record
  begun_used = ap (λ (s : State). s.used) (begun_by a w₀ z).state

  begun_ring : length w₀.ring ≡ length a.ring
  begun_ring = length_start a.chosen a.ranges a.ring w₀.ring (z.ring ∙ (begun_by a w₀ z).ring_is)

  begun_enough : (n room : ℕ) → enough_bytes a.chosen a.ranges n ≤ room → w₀.state.used + n * step_growth a.chosen.set ≤ room
  unfolding enough_bytes
  begun_enough n room e = omega (arith, begun_used, e)

  pub six_never : NeverSix a w₀
  six_never n m w r less e = steps_enough a.chosen (begun_reached a w₀ z) n m w r less (begun_enough n (length w.ring) e)

  pub six_stops_none : RunsPastSix a w₀
  six_stops_none n m w r budget few e = runs_enough a.chosen (begun_reached a w₀ z) n m w r budget few (begun_enough n (length w.ring) e)

  -- the entry's answer
  pub ring_answered : (n : ℕ) → enough_ring a.chosen a.ranges n ≡ Ok (enough_bytes a.chosen a.ranges n)
  unfolding enough_ring
  ring_answered n =
      let g = begun_passed a w₀ z in
      let w = a.chosen.width in
      let h = a.chosen.height in
      rw (le-leb 1 w g.width_some, le-leb w 32768 g.width_most, le-leb 1 h g.height_some, le-leb h 32768 g.height_most, g.ranges)

  pub begun_ring_stays : {n : ℕ} {w : World} (r : Steps n w₀ w) → NoMove r → length w.ring ≡ length a.ring
  begun_ring_stays r alone = same_ring r alone ∙ begun_ring
