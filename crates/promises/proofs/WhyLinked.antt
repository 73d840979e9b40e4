-- The history of the engine's steps, by their outcomes, is `theory`'s history, by their judgements; so the steps that mark a pixel, take a block
-- that covers it or give it up are the same in both. And the real cutting keeps every pixel covered. Assumes nothing.
use Rattle.std.specs.Prelude.{Option}
use mathlib.Core.Path.{◌≡◌, refl, sym, ap, ap₂, ◌∙◌, subst}
use mathlib.Core.Logic.{inl}
use mathlib.Core.Bool.{Bool, true, false, cond, ◌&&◌}
use mathlib.Core.List.{List, [], ◌∷◌, map}
use Prim.Native.Nat.{ℕ, suc, ◌≤◌}
use native.Mathlib.Omega.{arith}
use lib.Dec.{T}
use lib.ListN.{length}
use borrow.Author.Tests.{ltb-true}
use Rattle.base.specs.Lists.{Every, Some}
use Rattle.base.specs.Places.{any_of, latest_number}
use Rattle.base.proofs.ListLaws.{every_also}
use Rattle.base.proofs.PlacesNamed.{any_map, number_map}
use Rattle.theory.specs.Runs.{EveryStep}
use Rattle.theory.specs.Colours.{Judgement, judgement, judged_child, StepByVerdicts}
use Rattle.theory.specs.Shapes.{quarters, covers_pixel}
use Rattle.theory.specs.Why.{Past, history_of, ends_marked, ends_denied, ends_stuck, KeepsCovered, marks_it, denies_it, marks_in_step, takes_over, gives_it_up}
use Rattle.theory.specs.Why.{mark_step, up_step, taken_step}
use Rattle.theory.proofs.Theorems.{quarters_keep_covered}
use Rattle.theory.proofs.ListLaws.{some_of_map}
use Rattle.image.specs.declared.Op.TheVariants as Op
use Rattle.image.specs.Cell.{Cell, meanings}
use Rattle.coordinate.specs.Axis.{ordinary_floor}
use Rattle.queue.specs.declared.Block.{Block}
use Rattle.queue.specs.declared.directions.Direction.{Direction}
use Rattle.queue.specs.declared.directions.Direction.TheVariants as D
use Rattle.std.specs.declared.option.Option.TheVariants as A
use Rattle.decide.specs.declared.Chosen.{Chosen}
use Rattle.decide.specs.declared.verdict.Outcome.{Outcome}
use Rattle.decide.specs.declared.verdict.Outcome.TheVariants as O
use Rattle.decide.specs.Damage.{sound, direction_of}
use Rattle.decide.specs.Children.{children_xy, children_cut, children_along, children_of}
use Rattle.decide.specs.Verdict.{outcome_of, is_marking, is_incomplete}
use Rattle.decide.specs.Turn.{Turned, turned}
use Rattle.decide.specs.Turn as T
use Rattle.decide.proofs.ListingLaws.{cut_along, cut_count}
use Rattle.plan.specs.Plan.{painted_under, all_true, outcomes, incomplete_count}
use Rattle.plan.proofs.PlaceLaws.{InPlace, cut_in_place}
use Rattle.implicit.specs.Step.{World, outcomes_of}
use Rattle.explain.specs.History.{Answered, answered_by, PastStep, past_step}
use Rattle.explain.specs.Reasons.{is_denied, is_nowhere, turned_in, finds_none, marks_here, denies_here, marks_in, takes_here, gives_up_here}
use Rattle.promises.specs.Chart.{Pixel, place_of_block, covers_in, queued_blocks}
use Rattle.promises.specs.Steps.{Steps, no_steps, then_step, then_move}
use Rattle.promises.specs.Judgements.{said_by, after_turning, becomes, judgements_with, judgements_of}
use Rattle.promises.specs.Why.{past_with, past_in, over_pixel}
use Rattle.promises.proofs.Snapshots.{snapshot_of}
use Rattle.promises.proofs.Along.{along_both}
use Rattle.promises.proofs.Linked.{Reached, Linked, steps_reached, step_linked, move_same, StepsFrom, in_theory, over_move}
use Rattle.promises.proofs.Judgements.{cutting_of, same_covers_in, step_by_judgements}
use Rattle.promises.proofs.JudgementPlaces.{children_places}
use Rattle.promises.proofs.ColoursHold.{judged_linked, every_judged}

-- ---- answers as judgements

-- an answer in the words of `theory`, where `next` is the search for a direction; and a step
abbrev pub judgement_for : (Block → Turned) → Answered → Judgement Block
judgement_for next a = judgement a.child (said_by a.child.x.rank a.verdict) (becomes next a.child a.outcome)

abbrev pub past_of : Chosen → PastStep → Past Block
past_of p e = record { block = e.block; judgements = map (judgement_for (turned_in p e)) e.answers }

judgements_answered : (next : Block → Turned) (cs : List Block) (vs : List ℕ) (os : List Outcome)
    → judgements_with next cs vs os ≡ map (judgement_for next) (answered_by cs vs os)
unfolding judgements_with answered_by
judgements_answered next [] vs os = refl
judgements_answered next (c ∷ cs) [] os = refl
judgements_answered next (c ∷ cs) (v ∷ vs) [] = refl
judgements_answered next (c ∷ cs) (v ∷ vs) (o ∷ os) =
    ap (λ (ts : List (Judgement Block)). judgement c (said_by c.x.rank v) (becomes next c o) ∷ ts) (judgements_answered next cs vs os)

pub outcomes_answered : (p : Chosen) (l : List Cell) (cs : List Block) (vs : List ℕ)
    → map (λ (a : Answered). a.outcome) (answered_by cs vs (outcomes p l cs vs)) ≡ outcomes p l cs vs
unfolding answered_by outcomes
outcomes_answered p l [] vs = refl
outcomes_answered p l (c ∷ cs) [] = refl
outcomes_answered p l (c ∷ cs) (v ∷ vs) =
    let o = outcome_of c.x.rank v (all_true p c l) in
    ap (λ (os : List Outcome). o ∷ os) (outcomes_answered p (cond (is_marking o) (painted_under p c Op.Mark l) l) cs vs)

-- a step in both words
step_same : (w : World) (b : Block) (vs : List ℕ)
    → judgements_of w.state.chosen b (meanings w.cells) vs ≡ (past_of w.state.chosen (past_step w vs b)).judgements
unfolding judgements_of
step_same w b vs =
    let p = w.state.chosen in
    let os = outcomes_of w b vs in
    judgements_answered (turned p b (incomplete_count os)) (children_of p b) vs os
    ∙ ap (λ (found : List Outcome). map (judgement_for (turned p b (incomplete_count found))) (answered_by (children_of p b) vs os))
    (sym (outcomes_answered p (meanings w.cells) (children_of p b) vs))

step_same_in : (p : Chosen) (w : World) (b : Block) (vs : List ℕ) → w.state.chosen ≡ p
    → judgements_of p b (meanings w.cells) vs ≡ (past_of p (past_step w vs b)).judgements
step_same_in p w b vs e =
    subst (λ (o : Chosen). judgements_of o b (meanings w.cells) vs ≡ (past_of o (past_step w vs b)).judgements) e (step_same w b vs)

same_past : (b : Block) (t u : List (Judgement Block)) → t ≡ u
    → ◌≡◌ {A = Past Block} record { block = b; judgements = t } record { block = b; judgements = u }
same_past b t u e = ap (λ (ts : List (Judgement Block)). record { block = b; judgements = ts }) e

module _ (p : Chosen) {w : World} (h : Reached p w) where
  -- THE HISTORY
  pub history_is : {n : ℕ} {w' : World} (r : Steps n w w')
      → history_of (covers_in p) (cutting_of p) false (in_theory p h r) (every_judged p h r) ≡ map (past_of p) (past_in r)
  unfolding history_of past_in in_theory over_move every_judged judged_linked step_by_judgements EveryStep
  history_is no_steps = refl
  history_is (then_step {w' = w'} {w'' = w''} r vs evals bytes e) =
      one (step_linked p w' (steps_reached p h r) vs w'' evals bytes e) (history_is r)
    where
      one : (l : Linked p w' vs w'') {old : List (Past Block)} → old ≡ map (past_of p) (past_in r)
          → record { block = l.step.front; judgements = judgements_of p l.step.front (meanings w'.cells) vs } ∷ old
          ≡ map (past_of p) (past_with w' vs (queued_blocks w') (past_in r))
      one l {old} i =
          ap₂ ◌∷◌ (same_past l.step.front _ _ (step_same_in p w' l.step.front vs l.chosen)) i
          ∙ unfold past_with in ap (λ (q : List Block). map (past_of p) (past_with w' vs q (past_in r))) (sym l.step.at_front)
  history_is (then_move {n = n} {w' = w'} {w'' = w''} r m) =
      along_both (StepsFrom p n (snapshot_of p w)) (λ s x. EveryStep (covers_in p) false (StepByVerdicts (covers_in p) (cutting_of p) false) x)
      (move_same p w' (steps_reached p h r) w'' m) (in_theory p h r) (every_judged p h r)
      (λ s x j. history_of (covers_in p) (cutting_of p) false x j ≡ map (past_of p) (past_in r)) (history_is r)

-- ---- nothing is left out of it

children_answered : (p : Chosen) (cs : List Block) (vs : List ℕ) (l : List Cell) → length vs ≡ length cs
    → map (λ (a : Answered). a.child) (answered_by cs vs (outcomes p l cs vs)) ≡ cs
unfolding answered_by outcomes
children_answered p [] vs l n = refl
children_answered p (c ∷ cs) [] l n = absurd (omega arith)
children_answered p (c ∷ cs) (v ∷ vs) l n = ap (λ (ds : List Block). c ∷ ds) (children_answered p cs vs _ (omega arith))

-- the answers of a step are about all children of its block
abbrev pub OfAllChildren : Chosen → PastStep → Type 0
OfAllChildren p e = map (λ (a : Answered). a.child) e.answers ≡ children_of p e.block

module _ (p : Chosen) {w : World} (h : Reached p w) where
  pub past_whole : {n : ℕ} {w' : World} (r : Steps n w w') → (length (past_in r) ≡ n) × Every (OfAllChildren p) (past_in r)
  unfolding past_in past_with
  past_whole no_steps = (refl, tt)
  past_whole (then_step {w' = w'} {w'' = w''} r vs evals bytes e) =
      let l = step_linked p w' (steps_reached p h r) vs w'' evals bytes e in rw l.step.at_front (one _ (past_in r) l (past_whole r))
    where
      one : (n : ℕ) (past : List PastStep) (l : Linked p w' vs w'') → (length past ≡ n) × Every (OfAllChildren p) past
          → (suc (length past) ≡ suc n) × (OfAllChildren p (past_step w' vs l.step.front) × Every (OfAllChildren p) past)
      one n past l (counted, all) = (
        ap suc counted,
        (
          rw l.chosen (children_answered p (children_of p l.step.front) vs (meanings w'.cells) l.verdicts),
          all,
        ),
      )
  past_whole (then_move r m) = past_whole r

-- ---- tests

-- what becomes of an answer's child, by its outcome
module _ (next : Block → Turned) (a : Answered) where
  abbrev Said : Outcome → Judgement Block
  Said o = judgement a.child (said_by a.child.x.rank a.verdict) (becomes next a.child o)

  marked_test : ends_marked (judgement_for next a) ≡ is_marking a.outcome
  marked_test = go a.outcome
    where
      turning : (t : Turned) → ends_marked (judgement a.child (said_by a.child.x.rank a.verdict) (after_turning t)) ≡ false
      turning (T.To d) = unfold ends_marked after_turning in refl
      turning T.Nowhere = unfold ends_marked after_turning in refl

      go : (o : Outcome) → ends_marked (Said o) ≡ is_marking o
      go O.Skipped = unfold ends_marked becomes in refl
      go O.False = unfold ends_marked becomes in refl
      go O.Area = unfold ends_marked becomes in refl
      go (O.Point place) = unfold ends_marked becomes in refl
      go (O.Incomplete tried) = unfold becomes in turning (next a.child)

  denied_test : ends_denied (judgement_for next a) ≡ is_denied a.outcome
  denied_test = go a.outcome
    where
      turning : (t : Turned) → ends_denied (judgement a.child (said_by a.child.x.rank a.verdict) (after_turning t)) ≡ false
      turning (T.To d) = unfold ends_denied after_turning in refl
      turning T.Nowhere = unfold ends_denied after_turning in refl

      go : (o : Outcome) → ends_denied (Said o) ≡ is_denied o
      go O.Skipped = unfold ends_denied becomes in refl
      go O.False = unfold ends_denied becomes in refl
      go O.Area = unfold ends_denied becomes in refl
      go (O.Point place) = unfold ends_denied becomes in refl
      go (O.Incomplete tried) = unfold becomes in turning (next a.child)

  stuck_test : ends_stuck (judgement_for next a) ≡ is_incomplete a.outcome && is_nowhere (next a.child)
  stuck_test = go a.outcome
    where
      turning : (t : Turned) → ends_stuck (judgement a.child (said_by a.child.x.rank a.verdict) (after_turning t)) ≡ is_nowhere t
      turning (T.To d) = unfold ends_stuck after_turning in refl
      turning T.Nowhere = unfold ends_stuck after_turning in refl

      go : (o : Outcome) → ends_stuck (Said o) ≡ is_incomplete o && is_nowhere (next a.child)
      go O.Skipped = unfold ends_stuck becomes in refl
      go O.False = unfold ends_stuck becomes in refl
      go O.Area = unfold ends_stuck becomes in refl
      go (O.Point place) = unfold ends_stuck becomes in refl
      go (O.Incomplete tried) = unfold becomes in turning (next a.child)

module _ (p : Chosen) (q : Pixel p) where
  marks_same : (next : Block → Turned) (a : Answered) → marks_it (covers_in p) q (judgement_for next a) ≡ marks_here p (over_pixel p q) a
  unfolding marks_it marks_here judged_child
  marks_same next a = ap (λ (t : Bool). t && covers_in p a.child q) (marked_test next a)

  denies_same : (next : Block → Turned) (a : Answered) → denies_it (covers_in p) q (judgement_for next a) ≡ denies_here p (over_pixel p q) a
  unfolding denies_it denies_here judged_child
  denies_same next a = ap (λ (t : Bool). t && covers_in p a.child q) (denied_test next a)

  none_same : (e : PastStep) (a : Answered) → ends_stuck (judgement_for (turned_in p e) a) ≡ finds_none p e a
  unfolding finds_none
  none_same e a = stuck_test (turned_in p e) a

  -- the steps that pass in one are those that pass in the other
  marks_in_same : (e : PastStep) → marks_in_step (covers_in p) q (past_of p e) ≡ marks_in p (over_pixel p q) e
  unfolding marks_in
  marks_in_same e =
      any_map (judgement_for (turned_in p e)) (marks_it (covers_in p) q) (marks_here p (over_pixel p q)) (marks_same (turned_in p e)) e.answers

  pub denies_in_same : (e : PastStep)
      → any_of (denies_it (covers_in p) q) (past_of p e).judgements ≡ any_of (denies_here p (over_pixel p q)) e.answers
  denies_in_same e =
      any_map (judgement_for (turned_in p e)) (denies_it (covers_in p) q) (denies_here p (over_pixel p q)) (denies_same (turned_in p e)) e.answers

  gives_same : (e : PastStep) → gives_it_up (covers_in p) q (past_of p e) ≡ gives_up_here p (over_pixel p q) e
  unfolding gives_it_up gives_up_here
  gives_same e =
      ap (λ (t : Bool). covers_in p e.block q && t) (any_map (judgement_for (turned_in p e)) ends_stuck (finds_none p e) (none_same e) e.answers)

  pub takes_same : (e : PastStep) → takes_over (covers_in p) q (past_of p e) ≡ takes_here p (over_pixel p q) e
  unfolding takes_here
  takes_same e = refl

  -- THE NUMBERS of the latest
  pub mark_is : (h : List PastStep) → mark_step (covers_in p) q (map (past_of p) h) ≡ latest_number (marks_in p (over_pixel p q)) h
  mark_is = number_map (past_of p) (marks_in_step (covers_in p) q) (marks_in p (over_pixel p q)) marks_in_same

  pub up_is : (h : List PastStep) → up_step (covers_in p) q (map (past_of p) h) ≡ latest_number (gives_up_here p (over_pixel p q)) h
  up_is = number_map (past_of p) (gives_it_up (covers_in p) q) (gives_up_here p (over_pixel p q)) gives_same

  pub taken_is : (h : List PastStep) → taken_step (covers_in p) q (map (past_of p) h) ≡ latest_number (takes_here p (over_pixel p q)) h
  taken_is = number_map (past_of p) (takes_over (covers_in p) q) (takes_here p (over_pixel p q)) takes_same

-- ---- the cutting keeps every pixel covered

some_of_every : {A : Type 0} (P : A → Type 0) (l : List A) → Every P l → 1 ≤ length l → Some P l
unfolding Some
some_of_every P [] h n = absurd (omega arith)
some_of_every P (a ∷ l) h n = inl h.0

module _ (p : Chosen) (b : Block) (q : Pixel p) (ok : sound p b ≡ true) (c : T (covers_in p b q)) where
  abbrev Covered : Block → Type 0
  Covered k = T (covers_in p k q)

  covered_there : (d : Block) → InPlace b d → Covered d
  covered_there d i = rw (i.x, i.y) c

  cut_covered : (d : Direction) → Some Covered (children_cut b d)
  cut_covered d =
      some_of_every Covered (children_cut b d) (every_also (InPlace b) Covered covered_there (children_cut b d) (cut_in_place b d)) (cut_count b d).0

  are_xy : direction_of p b ≡ A.Some D.XY → children_of p b ≡ children_xy p b
  are_xy e = unfold children_of in rw (ok, e)

  xy_covered : direction_of p b ≡ A.Some D.XY → Some Covered (children_xy p b)
  xy_covered e =
      let up = ltb-true ordinary_floor b.x.rank (cut_along p b D.XY ok e refl) in
      let listed : map place_of_block (children_xy p b) ≡ quarters 48 p.width p.height (place_of_block b) =
      sym (ap (map place_of_block) (are_xy e)) ∙ children_places p b ok e in
      some_of_map (λ k. T (covers_pixel 48 k q)) place_of_block (children_xy p b)
      (rw listed (quarters_keep_covered p.width p.height 48 q (place_of_block b) (omega arith) c))

  along_covered : (a : Option Direction) → direction_of p b ≡ a → Some Covered (children_along p b a)
  along_covered (A.Some D.XY) e = xy_covered e
  along_covered (A.Some D.M) e = cut_covered D.M
  along_covered (A.Some D.N) e = cut_covered D.N
  along_covered (A.Some D.Theta) e = cut_covered D.Theta
  along_covered (A.Some D.T) e = cut_covered D.T
  along_covered A.None e = unfold Some in inl c

  children_covered : Some Covered (children_of p b)
  unfolding children_of
  children_covered = rw ok (along_covered (direction_of p b) refl)

pub real_covered : (p : Chosen) → KeepsCovered (covers_in p) (cutting_of p)
real_covered p = record { same_covers = λ c d q e. same_covers_in p c d q e; split_covers = λ b q k c. children_covered p b q k.0 c }
