-- The judgements of a real step are judgements in `theory`'s sense: one for each child, what becomes of a child follows from what its byte says, a child is
-- skipped exactly if all its cells are True, and the step's events are theirs. Assumes nothing.
use mathlib.Core.Path.{◌≡◌, refl, sym, ap, ap₂, ◌∙◌}
use mathlib.Core.Bool.{Bool, true, false, cond, not, ◌&&◌, ◌||◌}
use mathlib.Core.List.{List, [], ◌∷◌, ◌++◌, map}
use Prim.Native.Nat.{ℕ, ◌*◌, ◌/◌, ◌%◌, ◌≤◌}
use native.Mathlib.Omega.{arith}
use lib.Dec.{leb, eqb}
use lib.ListN.{length}
use Rattle.base.proofs.Test.{T→≡, by_test, cond_yes, cond_no}
use Rattle.base.specs.Event.{Event, marks, queues, gives_up}
use Rattle.base.specs.Lists.{Every}
use Rattle.base.proofs.ListLaws.{every_also}
use Rattle.image.specs.declared.Op.TheVariants as Op
use Rattle.image.specs.Cell.{Cell}
use Rattle.image.specs.Painting.{pixel_cell}
use Rattle.queue.specs.declared.Block.{Block}
use Rattle.decide.specs.declared.Chosen.{Chosen}
use Rattle.decide.specs.Turn.{Turned}
use Rattle.decide.specs.Turn as T
use Rattle.decide.specs.declared.verdict.Outcome.{Outcome}
use Rattle.decide.specs.declared.verdict.Outcome.TheVariants as O
use Rattle.decide.specs.Damage.{sound}
use Rattle.decide.specs.Children.{children_of}
use Rattle.decide.specs.Verdict.{result_of, area_of, points_of, first_point, undecided_outcome, verdict_outcome, outcome_of, is_marking}
use Rattle.decide.specs.Turn.{turned_to, turned}
use Rattle.plan.specs.Plan.{cells_after, painted_under, all_true, outcomes, incomplete_count, mark_events, turn_event, turn_events, events_for}
use Rattle.plan.proofs.CoverLaws.{true_pixels}
use Rattle.plan.proofs.ChildLaws.{ChildPlace, Fine, children_placed}
use Rattle.plan.proofs.QueuedLaws.{turns}
use Rattle.theory.specs.Cells.{Standing, marked_true}
use Rattle.theory.specs.Runs.{Snapshot, cell_after, FinishedStep}
use Rattle.theory.specs.Colours.{Said, said_false, said_true, said_undecided, Judgement, judgement, judged_child, marks_in_order, afterwards, Cutting, Follows}
use Rattle.theory.specs.Colours.{AllTrue, NotAllTrue, SkipRule, StepByVerdicts}
use Rattle.promises.specs.Chart.{Pixel, covers_in}
use Rattle.promises.specs.Judgements.{said_by, after_turning, becomes, judgements_with, judgements_of}
use Rattle.promises.proofs.Snapshots.{standing_at}
use Rattle.promises.proofs.Covering.{covers_as}
use Rattle.promises.proofs.Standings.{true_as}
use Rattle.promises.proofs.CellsKept.{still_enough, standing_after}
use Rattle.promises.proofs.NoneWithdrawn.{not_all_true}

-- how blocks are cut: a step has checked that the block it takes is undamaged, in a legal picture; its parameters are as the queue keeps them
abbrev pub cutting_of : Chosen → Cutting Block
cutting_of p = record { children = children_of p; Checked = λ b. (sound p b ≡ true) × Fine p.set b; Same = λ c d. d ≡ turned_to c d.dir }

-- what is the same but for its direction covers the same
pub same_covers_in : (p : Chosen) (c d : Block) (q : Pixel p) → d ≡ turned_to c d.dir → covers_in p d q ≡ covers_in p c q
same_covers_in p c d q e = ap (λ (b : Block). covers_in p b q) e

-- ---- what a byte says

-- what an outcome says
unfoldable said_as : Outcome → Said
said_as O.Skipped = said_undecided
said_as O.False = said_false
said_as O.Area = said_true
said_as (O.Point place) = said_true
said_as (O.Incomplete tried) = said_undecided

-- the engine makes of a byte what its bits say
said_outcome : (rank v : ℕ) → said_by rank v ≡ said_as (verdict_outcome rank v)
unfolding said_by said_as verdict_outcome undecided_outcome
said_outcome rank v = go (eqb (v / 64) 0) (eqb (v / 64) 1) (eqb (v / 32 % 2) 1) (eqb (v % 32) 0) (leb 48 rank)
  where
    go : (none one area empty high : Bool)
        → cond none said_false (cond (cond one (area && not empty) (high || area)) said_true said_undecided)
        ≡ said_as (cond none O.False (cond one (cond area (cond empty (O.Incomplete 5) (O.Point (first_point v))) (O.Incomplete 0)) (cond (high || area) O.Area (O.Incomplete 0))))
    go true one area empty high = refl
    go false true true true high = refl
    go false true true false high = refl
    go false true false empty high = refl
    go false false area empty true = refl
    go false false true empty false = refl
    go false false false empty false = refl

-- ---- events

module _ (next : Block → Turned) where
  marks_in_order_lem : (cs : List Block) (vs : List ℕ) (os : List Outcome) → length vs ≡ length cs → marks_in_order (judgements_with next cs vs os) ≡ mark_events cs os
  unfolding judgements_with marks_in_order mark_events becomes after_turning
  marks_in_order_lem [] vs os h = refl
  marks_in_order_lem (c ∷ cs) [] os h = absurd (omega arith)
  marks_in_order_lem (c ∷ cs) (v ∷ vs) [] h = refl
  marks_in_order_lem (c ∷ cs) (v ∷ vs) (O.Skipped ∷ os) h = marks_in_order_lem cs vs os (omega arith)
  marks_in_order_lem (c ∷ cs) (v ∷ vs) (O.False ∷ os) h = marks_in_order_lem cs vs os (omega arith)
  marks_in_order_lem (c ∷ cs) (v ∷ vs) (O.Area ∷ os) h = ap (λ (es : List (Event Block)). marks c ∷ es) (marks_in_order_lem cs vs os (omega arith))
  marks_in_order_lem (c ∷ cs) (v ∷ vs) (O.Point place ∷ os) h = ap (λ (es : List (Event Block)). marks c ∷ es) (marks_in_order_lem cs vs os (omega arith))
  marks_in_order_lem (c ∷ cs) (v ∷ vs) (O.Incomplete tried ∷ os) h = go (next c) (marks_in_order_lem cs vs os (omega arith))
    where
      go : (t : Turned) → marks_in_order (judgements_with next cs vs os) ≡ mark_events cs os
          → marks_in_order (judgement c (said_by c.x.rank v) (after_turning t) ∷ judgements_with next cs vs os) ≡ mark_events cs os
      go (T.To d) e = e
      go T.Nowhere e = e

  after : (cs : List Block) (vs : List ℕ) (os : List Outcome) → length vs ≡ length cs → afterwards (judgements_with next cs vs os) ≡ turn_events next cs os
  unfolding judgements_with afterwards turn_events becomes after_turning
  after [] vs os h = refl
  after (c ∷ cs) [] os h = absurd (omega arith)
  after (c ∷ cs) (v ∷ vs) [] h = refl
  after (c ∷ cs) (v ∷ vs) (O.Skipped ∷ os) h = after cs vs os (omega arith)
  after (c ∷ cs) (v ∷ vs) (O.False ∷ os) h = after cs vs os (omega arith)
  after (c ∷ cs) (v ∷ vs) (O.Area ∷ os) h = after cs vs os (omega arith)
  after (c ∷ cs) (v ∷ vs) (O.Point place ∷ os) h = after cs vs os (omega arith)
  after (c ∷ cs) (v ∷ vs) (O.Incomplete tried ∷ os) h = go (next c) (after cs vs os (omega arith))
    where
      go : (t : Turned) → afterwards (judgements_with next cs vs os) ≡ turn_events next cs os
          → afterwards (judgement c (said_by c.x.rank v) (after_turning t) ∷ judgements_with next cs vs os) ≡ turn_event t ∷ turn_events next cs os
      go (T.To d) e = ap (λ (es : List (Event Block)). queues d ∷ es) e
      go T.Nowhere e = ap (λ (es : List (Event Block)). gives_up ∷ es) e

  -- ---- children and verdicts

  each : (p : Chosen) (cs : List Block) (vs : List ℕ) (l : List Cell) → length vs ≡ length cs
      → map judged_child (judgements_with next cs vs (outcomes p l cs vs)) ≡ cs
  unfolding judgements_with outcomes judged_child
  each p [] vs l h = refl
  each p (c ∷ cs) [] l h = absurd (omega arith)
  each p (c ∷ cs) (v ∷ vs) l h = ap (λ (ds : List Block). c ∷ ds) (each p cs vs _ (omega arith))

  -- what becomes of a child that is looked at follows from its outcome
  follows_outcome : (p : Chosen) → ((c d : Block) → next c ≡ T.To d → d ≡ turned_to c d.dir) → (c : Block) (o : Outcome)
      → Follows (cutting_of p) (judgement c (said_as o) (becomes next c o))
  unfolding Follows becomes said_as after_turning
  follows_outcome p same c O.Skipped = tt
  follows_outcome p same c O.False = refl
  follows_outcome p same c O.Area = refl
  follows_outcome p same c (O.Point place) = refl
  follows_outcome p same c (O.Incomplete tried) = go (next c) (same c)
    where
      go : (t : Turned) → ((d : Block) → t ≡ T.To d → d ≡ turned_to c d.dir) → Follows (cutting_of p) (judgement c said_undecided (after_turning t))
      go (T.To d) f = (refl, f d refl)
      go T.Nowhere f = refl

  follows_one : (p : Chosen) → ((c d : Block) → next c ≡ T.To d → d ≡ turned_to c d.dir) → (c : Block) (v : ℕ) (all : Bool)
      → Follows (cutting_of p) (judgement c (said_by c.x.rank v) (becomes next c (outcome_of c.x.rank v all)))
  unfolding Follows becomes
  follows_one p same c v true = tt
  follows_one p same c v false = rw (said_outcome c.x.rank v) (follows_outcome p same c (verdict_outcome c.x.rank v))

  follows : (p : Chosen) → ((c d : Block) → next c ≡ T.To d → d ≡ turned_to c d.dir) → (cs : List Block) (vs : List ℕ) (l : List Cell)
      → Every (Follows (cutting_of p)) (judgements_with next cs vs (outcomes p l cs vs))
  unfolding judgements_with outcomes
  follows p same [] vs l = tt
  follows p same (c ∷ cs) [] l = tt
  follows p same (c ∷ cs) (v ∷ vs) l = (follows_one p same c v (all_true p c l), follows p same cs vs _)

-- ---- skipping

module _ (p : Chosen) (c : Block) (r : c.x.rank ≡ c.y.rank) (l : List Cell) (enough : p.width * p.height ≤ length l) where
  -- "all covered cells True", as a test and in `theory`'s words
  seen_all : all_true p c l ≡ true → AllTrue (covers_in p) (standing_at p l) c
  unfolding AllTrue standing_at
  seen_all e q t =
      true_as (pixel_cell p.width p.height q.x q.y l)
      (true_pixels p c l enough e q.x q.y q.x_in q.y_in (sym (covers_as p c q r) ∙ T→≡ (covers_in p c q) t))

  -- after the child's mark
  abbrev after_mark : List Cell
  after_mark = painted_under p c Op.Mark l

  mark_standing : (q : Pixel p) → standing_at p after_mark q ≡ cond (covers_in p c q) marked_true (standing_at p l q)
  unfolding cells_after cell_after
  mark_standing q = standing_after p c r 0 q 0 (marks c ∷ []) l enough (r, tt)

-- a child is skipped exactly if all its cells are True when it is looked at
module _ (p : Chosen) (next : Block → Turned) where
  -- what SkipRule asks of the child at hand and of those behind it
  skip_one : (cells : Pixel p → Standing) (c : Block) (s : Said) (o : Outcome) (ts : List (Judgement Block)) → ¬ (o ≡ O.Skipped)
      → NotAllTrue (covers_in p) cells c
      → (is_marking o ≡ true → SkipRule (covers_in p) (λ q. cond (covers_in p c q) marked_true (cells q)) ts)
      → (is_marking o ≡ false → SkipRule (covers_in p) cells ts) → SkipRule (covers_in p) cells (judgement c s (becomes next c o) ∷ ts)
  unfolding SkipRule becomes after_turning
  skip_one cells c s O.Skipped ts n one m k = absurd (n refl)
  skip_one cells c s O.False ts n one m k = (one, k refl)
  skip_one cells c s O.Area ts n one m k = (one, m refl)
  skip_one cells c s (O.Point place) ts n one m k = (one, m refl)
  skip_one cells c s (O.Incomplete tried) ts n one m k = go (next c)
    where
      go : (t : Turned) → SkipRule (covers_in p) cells (judgement c s (after_turning t) ∷ ts)
      go (T.To d) = (one, k refl)
      go T.Nowhere = (one, k refl)

  -- a byte alone skips nothing
  outcome_looked : (rank v : ℕ) → ¬ (verdict_outcome rank v ≡ O.Skipped)
  unfolding verdict_outcome undecided_outcome
  outcome_looked rank v =
      by_test (λ o. ¬ (o ≡ O.Skipped)) (eqb (result_of v) 0) O.False _ (λ e f. (let z : ◌≡◌ {A = ℕ} 0 1 = cc in omega arith))
      (λ e. by_test (λ o. ¬ (o ≡ O.Skipped)) (eqb (result_of v) 1) _ _
      (λ g. by_test (λ o. ¬ (o ≡ O.Skipped)) (area_of v) _ (O.Incomplete 0)
      (λ a. by_test (λ o. ¬ (o ≡ O.Skipped)) (eqb (points_of v) 0) (O.Incomplete 5) (O.Point (first_point v))
      (λ z f. (let z : ◌≡◌ {A = ℕ} 0 1 = cc in omega arith)) (λ z f. (let z : ◌≡◌ {A = ℕ} 0 1 = cc in omega arith)))
      (λ a f. (let z : ◌≡◌ {A = ℕ} 0 1 = cc in omega arith)))
      (λ g. by_test (λ o. ¬ (o ≡ O.Skipped)) (leb 48 rank || area_of v) O.Area (O.Incomplete 0)
      (λ a f. (let z : ◌≡◌ {A = ℕ} 0 1 = cc in omega arith)) (λ a f. (let z : ◌≡◌ {A = ℕ} 0 1 = cc in omega arith))))

  skips : (cs : List Block) (vs : List ℕ) → Every (λ c. c.x.rank ≡ c.y.rank) cs → (l : List Cell) → p.width * p.height ≤ length l
      → (cells : Pixel p → Standing) → ((q : Pixel p) → cells q ≡ standing_at p l q)
      → SkipRule (covers_in p) cells (judgements_with next cs vs (outcomes p l cs vs))
  unfolding SkipRule AllTrue NotAllTrue judgements_with outcomes becomes
  skips [] vs r l h cells same = tt
  skips (c ∷ cs) [] r l h cells same = tt
  skips (c ∷ cs) (v ∷ vs) r l h cells same = go (all_true p c l) refl (skips cs vs r.1)
    where
      Rest : List Cell → (Pixel p → Standing) → Type 0
      Rest m now = SkipRule (covers_in p) now (judgements_with next cs vs (outcomes p m cs vs))

      go : (all : Bool) → all_true p c l ≡ all
          → ((m : List Cell) → p.width * p.height ≤ length m → (now : Pixel p → Standing) → ((q : Pixel p) → now q ≡ standing_at p m q) → Rest m now)
          → SkipRule (covers_in p) cells (judgement c (said_by c.x.rank v) (becomes next c (outcome_of c.x.rank v all))
          ∷ judgements_with next cs vs (outcomes p (cond (is_marking (outcome_of c.x.rank v all)) (painted_under p c Op.Mark l) l) cs vs))
      go true e ih = ((λ q t. same q ∙ seen_all p c r.0 l h e q t), ih l h cells same)
      go false e ih =
          let o = verdict_outcome c.x.rank v in
          let am = painted_under p c Op.Mark l in
          let m = cond (is_marking o) am l in
          let one = not_all_true p c l r.0 h e in
          let k : p.width * p.height ≤ length m = by_test (λ n. p.width * p.height ≤ length n) (is_marking o) am l (λ f. still_enough p c Op.Mark l h) (λ f. h) in
          skip_one cells c (said_by c.x.rank v) o (judgements_with next cs vs (outcomes p m cs vs)) (outcome_looked c.x.rank v)
          (one.0, one.1, (λ f. one.2 (sym (same one.0) ∙ f)))
          (λ f. ih m k (λ q. cond (covers_in p c q) marked_true (cells q))
          (λ q. ap (λ (s : Standing). cond (covers_in p c q) marked_true s) (same q) ∙ sym (mark_standing p c r.0 l h q) ∙ ap (λ (n : List Cell). standing_at p n q) (sym (cond_yes (is_marking o) am l f))))
          (λ f. ih m k cells (λ q. same q ∙ ap (λ (n : List Cell). standing_at p n q) (sym (cond_no (is_marking o) am l f))))

-- ---- the step

module _ (p : Chosen) (b : Block) (l : List Cell) (vs : List ℕ) where
  abbrev os : List Outcome
  os = outcomes p l (children_of p b) vs

  abbrev next_of : Block → Turned
  next_of = turned p b (incomplete_count os)

  -- a judgement for each child
  pub judgements_children : length vs ≡ length (children_of p b) → map judged_child (judgements_of p b l vs) ≡ children_of p b
  unfolding judgements_of
  judgements_children h = each next_of p (children_of p b) vs l h

  -- what becomes of each follows from its byte
  pub judgements_follow : Every (Follows (cutting_of p)) (judgements_of p b l vs)
  unfolding judgements_of
  judgements_follow = follows next_of p (λ c d e. (turns p b (incomplete_count os) c d e).same) (children_of p b) vs l

  -- the step's events are theirs
  pub judgements_events : length vs ≡ length (children_of p b)
      → events_for p b (children_of p b) os ≡ marks_in_order (judgements_of p b l vs) ++ afterwards (judgements_of p b l vs)
  unfolding judgements_of events_for
  judgements_events h = sym (ap₂ ◌++◌ (marks_in_order_lem next_of (children_of p b) vs os h) (after next_of (children_of p b) vs os h))

  module _ (ok : sound p b ≡ true) (enough : p.width * p.height ≤ length l) where
    -- skipped are those whose cells are all True
    pub judgements_skip : (cells : Pixel p → Standing) → ((q : Pixel p) → cells q ≡ standing_at p l q) → SkipRule (covers_in p) cells (judgements_of p b l vs)
    unfolding judgements_of
    judgements_skip cells same =
        skips p next_of (children_of p b) vs (every_also (ChildPlace p b) (λ c. c.x.rank ≡ c.y.rank) (λ c h. h.ranks) (children_of p b) (children_placed p b ok)) l enough cells same

    -- so a finished step with these events is one as its verdicts have it
    unfoldable pub step_by_judgements : Fine p.set b → length vs ≡ length (children_of p b)
        → (s s' : Snapshot Block (Pixel p)) (st : FinishedStep (covers_in p) false s s')
        → st.front ≡ b → ((q : Pixel p) → s.cells q ≡ standing_at p l q) → st.events ≡ events_for p b (children_of p b) os
        → StepByVerdicts (covers_in p) (cutting_of p) false s s' st
    step_by_judgements f h s s' st e same g =
        record {
          checked = rw e (ok, f);
          judgements = judgements_of p b l vs;
          each_child = judgements_children h ∙ ap (children_of p) (sym e);
          by_verdict = judgements_follow;
          skip_rule = judgements_skip s.cells same;
          these_events = g ∙ judgements_events h;
        }
