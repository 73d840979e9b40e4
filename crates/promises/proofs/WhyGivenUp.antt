-- A step gives a pixel up by its events, as demand 3's promises have it, exactly if it does by its answers, as the reasons have it. Assumes nothing.
use mathlib.Core.Path.{◌≡◌, refl, sym, ap, ◌∙◌, subst}
use mathlib.Core.Logic.{◌⊎◌, inl, inr, ◌↔◌}
use mathlib.Core.Bool.{Bool, true, false, cond, ◌&&◌, ◌||◌}
use mathlib.Core.List.{List, [], ◌∷◌}
use Prim.Native.Nat.{ℕ}
use lib.Dec.{T}
use Rattle.base.specs.Event.{Event}
use Rattle.base.specs.Lists.{Some}
use Rattle.base.specs.Places.{any_of}
use Rattle.theory.specs.Demand3.{any_gives_up}
use Rattle.image.specs.Cell.{Cell, meanings}
use Rattle.image.specs.declared.Op.TheVariants as Op
use Rattle.queue.specs.declared.Block.{Block}
use Rattle.decide.specs.declared.Chosen.{Chosen}
use Rattle.decide.specs.declared.verdict.Outcome.{Outcome}
use Rattle.decide.specs.Children.{children_of}
use Rattle.decide.specs.Verdict.{outcome_of, is_marking, is_incomplete}
use Rattle.decide.specs.Turn.{Turned, To, Nowhere, turned}
use Rattle.plan.specs.Plan.{painted_under, all_true, outcomes, incomplete_count, turn_event, turn_events, events_for}
use Rattle.implicit.specs.Step.{World, outcomes_of, events_of}
use Rattle.explain.specs.History.{Answered, answered_by, PastStep, past_step}
use Rattle.explain.specs.Reasons.{is_nowhere, finds_none, gives_up_here}
use Rattle.promises.specs.Chart.{Pixel, covers_in, queued_blocks}
use Rattle.promises.specs.Steps.{Asked, BegunAs, Steps, no_steps, then_step, then_move, gave_up_taking, GivenUpIn}
use Rattle.promises.specs.Why.{past_with, past_in, over_pixel}
use Rattle.promises.proofs.Linked.{Reached, steps_reached, begun_reached}
use Rattle.promises.proofs.NoneWithdrawn.{marks_give_none}
use Rattle.promises.proofs.WhyLinked.{outcomes_answered}

-- ---- one step

-- an answer that finds no direction, where `next` is the search for one
abbrev FindsNone : (Block → Turned) → Answered → Bool
FindsNone next a = is_incomplete a.outcome && is_nowhere (next a.child)

turns_answered : (next : Block → Turned) (p : Chosen) (l : List Cell) (cs : List Block) (vs : List ℕ)
    → any_gives_up (turn_events next cs (outcomes p l cs vs)) ≡ any_of (FindsNone next) (answered_by cs vs (outcomes p l cs vs))
unfolding any_gives_up turn_events outcomes answered_by any_of
turns_answered next p l [] vs = refl
turns_answered next p l (c ∷ cs) [] = refl
turns_answered next p l (c ∷ cs) (v ∷ vs) =
    let o = outcome_of c.x.rank v (all_true p c l) in
    let left = cond (is_marking o) (painted_under p c Op.Mark l) l in
    go (is_incomplete o) (next c) (turn_events next cs (outcomes p left cs vs)) _ (turns_answered next p left cs vs)
  where
    go : (t : Bool) (u : Turned) (es : List (Event Block)) (found : Bool) → any_gives_up es ≡ found
        → any_gives_up (cond t (turn_event u ∷ es) es) ≡ (t && is_nowhere u) || found
    go true (To d) es found e = e
    go true Nowhere es found e = refl
    go false u es found e = e

events_answered : (w : World) (b : Block) (vs : List ℕ)
    → any_gives_up (events_of w b vs) ≡ any_of (finds_none w.state.chosen (past_step w vs b)) (past_step w vs b).answers
unfolding events_for finds_none
events_answered w b vs =
    let p = w.state.chosen in
    let cs = children_of p b in
    let os = outcomes_of w b vs in
    marks_give_none cs os (turn_events (turned p b (incomplete_count os)) cs os)
    ∙ turns_answered (turned p b (incomplete_count os)) p (meanings w.cells) cs vs
    ∙ ap (λ (found : List Outcome). any_of (FindsNone (turned p b (incomplete_count found))) (answered_by cs vs os))
    (sym (outcomes_answered p (meanings w.cells) cs vs))

same_order : (a b : Bool) → a && b ≡ b && a
same_order true true = refl
same_order true false = refl
same_order false true = refl
same_order false false = refl

module _ (p : Chosen) (q : Pixel p) where
  -- by its events, and by its answers
  gives_both : (w : World) → w.state.chosen ≡ p → (b : Block) (vs : List ℕ)
      → any_gives_up (events_of w b vs) && covers_in p b q ≡ gives_up_here p (over_pixel p q) (past_step w vs b)
  unfolding gives_up_here
  gives_both w e b vs =
      let same : any_gives_up (events_of w b vs) ≡ any_of (finds_none p (past_step w vs b)) (past_step w vs b).answers =
      subst (λ (o : Chosen). any_gives_up (events_of w b vs) ≡ any_of (finds_none o (past_step w vs b)) (past_step w vs b).answers) e
      (events_answered w b vs) in
      rw same (same_order (any_of (finds_none p (past_step w vs b)) (past_step w vs b).answers) (covers_in p b q))

  abbrev Gives : PastStep → Type 0
  Gives e = T (gives_up_here p (over_pixel p q) e)

  -- one step more
  one_more_given : (w : World) → w.state.chosen ≡ p → (vs : List ℕ) (bs : List Block) (past : List PastStep) {Before : Type 0}
      → Before ↔ Some Gives past → (Before ⊎ T (gave_up_taking p w vs bs q)) ↔ Some Gives (past_with w vs bs past)
  unfolding gave_up_taking past_with Some
  one_more_given w e vs [] past {Before} both = (to, (λ s. inl (both.1 s)))
    where
      to : Before ⊎ ⊥ → Some Gives past
      to (inl b) = both.0 b
      to (inr n) = absurd n
  one_more_given w e vs (c ∷ rest) past {Before} both = rw (gives_both w e c vs) (to, from)
    where
      Now : Type 0
      Now = Gives (past_step w vs c)

      to : Before ⊎ Now → Now ⊎ Some Gives past
      to (inl b) = inr (both.0 b)
      to (inr g) = inl g

      from : Now ⊎ Some Gives past → Before ⊎ Now
      from (inl g) = inr g
      from (inr s) = inl (both.1 s)

-- ---- all of them

module _ (p : Chosen) {w₀ : World} (h : Reached p w₀) where
  given_up_past : {n : ℕ} {w : World} (r : Steps n w₀ w) (q : Pixel p)
      → GivenUpIn p r q ↔ Some (λ e. T (gives_up_here p (over_pixel p q) e)) (past_in r)
  unfolding GivenUpIn past_in Some
  given_up_past no_steps q = ((λ n. n), (λ n. n))
  given_up_past (then_step {w' = w'} r vs evals bytes e) q =
      one_more_given p q w' (steps_reached p h r).chosen vs (queued_blocks w') (past_in r) (given_up_past r q)
  given_up_past (then_move r m) q = given_up_past r q

pub given_up_both : (a : Asked) {w₀ : World} → BegunAs a w₀ → {n : ℕ} {w : World} (r : Steps n w₀ w) (q : Pixel a.chosen)
    → GivenUpIn a.chosen r q ↔ Some (λ e. T (gives_up_here a.chosen (over_pixel a.chosen q) e)) (past_in r)
given_up_both a {w₀} z r q = given_up_past a.chosen (begun_reached a w₀ z) r q
