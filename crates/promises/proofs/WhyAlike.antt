-- The explainer asks whether the rectangle of a block holds the pixel. Of the blocks of a history, which have one level, it holds it exactly if the
-- block covers it; so its reason is the one by the blocks that cover the pixel. Assumes nothing.
use mathlib.Core.Path.{◌≡◌, refl, sym, ap, ap₂, ◌∙◌}
use mathlib.Core.Bool.{Bool, true, cond, ◌&&◌}
use mathlib.Core.List.{List, [], ◌∷◌}
use Prim.Native.Nat.{ℕ, ◌-◌}
use Rattle.base.specs.Lists.{Every}
use Rattle.base.specs.Places.{any_of, first_place, last_place, last_value, latest_number, latest_value}
use Rattle.base.proofs.ListLaws.{every_also}
use Rattle.base.proofs.PlacesNamed.{any_same, first_same, last_same, last_value_same, number_same, latest_value_same}
use Rattle.image.specs.declared.Reading.{Reading}
use Rattle.image.specs.declared.Reading.TheVariants as R
use Rattle.image.specs.Cell.{Cell, cell_code, is_given_up, reading}
use Rattle.image.specs.Range.{in_stretch, holds_cell, rectangle_of}
use Rattle.image.proofs.RangeLaws.{cell_row, cell_column, rectangle_covers}
use Rattle.queue.specs.declared.Block.{Block}
use Rattle.decide.specs.declared.Chosen.{Chosen}
use Rattle.decide.specs.declared.verdict.Outcome.{Outcome}
use Rattle.decide.specs.Damage.{sound}
use Rattle.decide.specs.Children.{children_of}
use Rattle.decide.specs.Verdict.{is_marking}
use Rattle.decide.proofs.DamageLaws.{is_sound}
use Rattle.plan.proofs.ChildLaws.{ChildPlace, children_placed}
use Rattle.implicit.specs.Step.{World}
use Rattle.explain.specs.declared.reason.Moment.{Moment}
use Rattle.explain.specs.declared.reason.Reason.TheVariants as B
use Rattle.explain.specs.History.{Answered, answered_by, PastStep, past_step}
use Rattle.explain.specs.Reasons.{covers_at, is_denied, point_of, finds_none, moment_at, marks_here, denies_here, marks_in, takes_here, gives_up_here}
use Rattle.explain.specs.Reasons.{last_mark, last_point, last_denial, last_giving_up, waiting_for, reason_by, reason_of}
use Rattle.promises.specs.Chart.{Pixel, covers_in}
use Rattle.promises.specs.Steps.{Steps, no_steps, then_step, then_move}
use Rattle.promises.specs.Why.{past_with, past_in, over_pixel}
use Rattle.promises.proofs.Covering.{Level, covers_as}
use Rattle.promises.proofs.Invariant.{Keeps, keeps_queue, block_sound_lem}
use Rattle.promises.proofs.Linked.{Reached, steps_reached}

-- ---- one level

-- of a step: its block and all children of it
abbrev pub LevelStep : PastStep → Type 0
LevelStep e = Level e.block × Every (λ (a : Answered). Level a.child) e.answers

answers_level : (cs : List Block) (vs : List ℕ) (os : List Outcome) → Every Level cs
    → Every (λ (a : Answered). Level a.child) (answered_by cs vs os)
unfolding answered_by
answers_level [] vs os h = tt
answers_level (c ∷ cs) [] os h = tt
answers_level (c ∷ cs) (v ∷ vs) [] h = tt
answers_level (c ∷ cs) (v ∷ vs) (o ∷ os) h = (h.0, answers_level cs vs os h.1)

step_level : (w : World) (vs : List ℕ) (b : Block) → sound w.state.chosen b ≡ true → LevelStep (past_step w vs b)
step_level w vs b ok =
    let p = w.state.chosen in (
      (is_sound p b ok).block.ranks,
      answers_level (children_of p b) vs _ (every_also (ChildPlace p b) Level (λ c i. i.ranks) (children_of p b) (children_placed p b ok)),
    )

module _ (p : Chosen) {w₀ : World} (h : Reached p w₀) where
  with_level : (w : World) (vs : List ℕ) (past : List PastStep) (b : List Block) → Keeps w b → Every LevelStep past
      → Every LevelStep (past_with w vs b past)
  unfolding past_with
  with_level w vs past [] k l = l
  with_level w vs past (c ∷ rest) k l = (step_level w vs c (block_sound_lem w c rest k), l)

  pub past_level : {n : ℕ} {w : World} (r : Steps n w₀ w) → Every LevelStep (past_in r)
  unfolding past_in
  past_level no_steps = tt
  past_level (then_step {w' = w'} r vs evals bytes e) =
      let o = steps_reached p h r in
      rw (keeps_queue w' o.blocks o.keeps) (with_level w' vs (past_in r) o.blocks o.keeps (past_level r))
  past_level (then_move r m) = past_level r

-- ---- the same tests

module _ (p : Chosen) (q : Pixel p) where
  -- the explainer's test, and that of the promises
  abbrev pub There : Block → Bool
  There = covers_at p q.x (p.height - 1 - q.y)

  abbrev pub Over : Block → Bool
  Over = over_pixel p q

  there_covers : (b : Block) → Level b → There b ≡ covers_in p b q
  unfolding covers_at holds_cell
  there_covers b e =
      let r = rectangle_of b.x b.y p.width p.height in
      sym (ap₂ (λ (i j : ℕ). in_stretch r.left r.right i && in_stretch r.top r.bottom j)
      (cell_column p.width p.height q.x q.y q.x_in) (cell_row p.width p.height q.x q.y q.x_in))
      ∙ rectangle_covers b.x b.y p.width p.height q.x q.y q.x_in q.y_in
      ∙ sym (covers_as p b q e)

  marks_alike : (l : List Answered) → Every (λ a. Level a.child) l → Every (λ a. marks_here p There a ≡ marks_here p Over a) l
  unfolding marks_here
  marks_alike = every_also (λ a. Level a.child) (λ a. marks_here p There a ≡ marks_here p Over a)
      (λ a e. ap (λ (t : Bool). is_marking a.outcome && t) (there_covers a.child e))

  denies_alike : (l : List Answered) → Every (λ a. Level a.child) l → Every (λ a. denies_here p There a ≡ denies_here p Over a) l
  unfolding denies_here
  denies_alike = every_also (λ a. Level a.child) (λ a. denies_here p There a ≡ denies_here p Over a)
      (λ a e. ap (λ (t : Bool). is_denied a.outcome && t) (there_covers a.child e))

  marks_in_alike : (e : PastStep) → LevelStep e → marks_in p There e ≡ marks_in p Over e
  unfolding marks_in
  marks_in_alike e l = any_same (marks_here p There) (marks_here p Over) e.answers (marks_alike e.answers l.1)

  takes_alike : (e : PastStep) → LevelStep e → takes_here p There e ≡ takes_here p Over e
  unfolding takes_here
  takes_alike e l = there_covers e.block l.0

  gives_alike : (e : PastStep) → LevelStep e → gives_up_here p There e ≡ gives_up_here p Over e
  unfolding gives_up_here
  gives_alike e l = ap (λ (t : Bool). t && any_of (finds_none p e) e.answers) (there_covers e.block l.0)

  -- the child's place that each of them says of a step
  abbrev MarkAt : (Block → Bool) → PastStep → ℕ
  MarkAt here e = last_place (marks_here p here) e.answers

  abbrev PointAt : (Block → Bool) → PastStep → ℕ
  PointAt here e = last_value (marks_here p here) (λ a. point_of a.outcome) 0 e.answers

  abbrev DenialAt : (Block → Bool) → PastStep → ℕ
  DenialAt here e = first_place (denies_here p here) e.answers

  mark_at_alike : (e : PastStep) → LevelStep e → MarkAt There e ≡ MarkAt Over e
  mark_at_alike e l = last_same (marks_here p There) (marks_here p Over) 0 1 e.answers (marks_alike e.answers l.1)

  point_at_alike : (e : PastStep) → LevelStep e → PointAt There e ≡ PointAt Over e
  point_at_alike e l =
      last_value_same (marks_here p There) (marks_here p Over) (λ a. point_of a.outcome) 0 e.answers (marks_alike e.answers l.1)

  denial_at_alike : (e : PastStep) → LevelStep e → DenialAt There e ≡ DenialAt Over e
  denial_at_alike e l = first_same (denies_here p There) (denies_here p Over) 1 e.answers (denies_alike e.answers l.1)

  same_moment : (a b c d : ℕ) → a ≡ b → c ≡ d → moment_at a c ≡ moment_at b d
  same_moment a b c d e f = rw (e, f)

  -- ---- the same reason

  module _ (h : List PastStep) (l : Every LevelStep h) where
    -- tests that agree on steps of one level, and what is said of these steps
    module _ (f f' : PastStep → Bool) (same : (e : PastStep) → LevelStep e → f e ≡ f' e) where
      numbers_alike : latest_number f h ≡ latest_number f' h
      numbers_alike = number_same f f' h (every_also LevelStep (λ e. f e ≡ f' e) same h l)

      values_alike : (g g' : PastStep → ℕ) → ((e : PastStep) → LevelStep e → g e ≡ g' e) → latest_value f g 0 h ≡ latest_value f' g' 0 h
      values_alike g g' t =
          latest_value_same f f' g g' 0 h (every_also LevelStep (λ e. (f e ≡ f' e) × (g e ≡ g' e)) (λ e k. (same e k, t e k)) h l)

      moments_alike : (g g' : PastStep → ℕ) → ((e : PastStep) → LevelStep e → g e ≡ g' e)
          → moment_at (latest_number f h) (latest_value f g 0 h) ≡ moment_at (latest_number f' h) (latest_value f' g' 0 h)
      moments_alike g g' t = same_moment _ _ _ _ numbers_alike (values_alike g g' t)

    mark_alike : last_mark p There h ≡ last_mark p Over h
    unfolding last_mark
    mark_alike = moments_alike (marks_in p There) (marks_in p Over) marks_in_alike (MarkAt There) (MarkAt Over) mark_at_alike

    point_alike : last_point p There h ≡ last_point p Over h
    unfolding last_point
    point_alike = values_alike (marks_in p There) (marks_in p Over) marks_in_alike (PointAt There) (PointAt Over) point_at_alike

    denial_alike : last_denial p There h ≡ last_denial p Over h
    unfolding last_denial
    denial_alike = moments_alike (takes_here p There) (takes_here p Over) takes_alike (DenialAt There) (DenialAt Over) denial_at_alike

    giving_up_alike : last_giving_up p There h ≡ last_giving_up p Over h
    unfolding last_giving_up
    giving_up_alike =
        let none : PastStep → ℕ = λ e. first_place (finds_none p e) e.answers in
        moments_alike (gives_up_here p There) (gives_up_here p Over) gives_alike none none (λ e k. refl)

    by_reading : (w : World) (c : Cell) (r : Reading) → reason_by p There w h c r ≡ reason_by p Over w h c r
    by_reading w c R.True = ap₂ B.True mark_alike point_alike
    by_reading w c R.False = ap B.False denial_alike
    by_reading w c R.Uncertain =
        ap (λ (m : Moment). cond (is_given_up c) (B.GivenUp m) (waiting_for w.state w.ring (cell_code c))) giving_up_alike

    pub reason_is : (w : World) → w.state.chosen ≡ p → (c : Cell) → reason_of There w h c ≡ reason_by p Over w h c (reading w.state.taken c)
    unfolding reason_of
    reason_is w e c = ap (λ (o : Chosen). reason_by o There w h c (reading w.state.taken c)) e ∙ by_reading w c (reading w.state.taken c)
