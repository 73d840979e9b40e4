-- What the look at one step's children finds is what the step definition's outcomes say of the pixel. Assumes nothing.
use mathlib.Core.Path.{◌≡◌, refl, sym, ap, ap₂, subst, ◌∙◌}
use mathlib.Core.Bool.{Bool, true, false, cond, ◌&&◌, ◌||◌}
use mathlib.Core.List.{List, [], ◌∷◌, ◌++◌, map}
use Prim.Native.Nat.{ℕ, suc, ◌-◌, ◌*◌, ◌≤◌}
use native.Mathlib.Omega.{arith}
use lib.ListN.{length, take, replicate}
use Rattle.std.specs.Prelude.{Option, Some, None, is_none}
use Rattle.std.specs.Option.{option_or}
use Rattle.base.specs.Places.{any_of, first_from, last_from, last_value}
use Rattle.base.proofs.Test.{cases}
use Rattle.base.proofs.ListLaws.{every_all}
use Rattle.base.proofs.PlacesNamed.{any_same, first_same}
use Rattle.image.specs.Cell.{Cell, meanings}
use Rattle.image.specs.declared.Op.TheVariants as Op
use Rattle.queue.specs.declared.Block.{Block}
use Rattle.decide.specs.declared.Chosen.{Chosen}
use Rattle.decide.specs.declared.verdict.Outcome.{Outcome}
use Rattle.decide.specs.declared.verdict.Outcome.TheVariants as O
use Rattle.decide.specs.Damage.{sound}
use Rattle.decide.specs.Children.{children_of}
use Rattle.decide.specs.ChildAt.{cut_of}
use Rattle.decide.specs.Verdict.{all_legal, outcome_of, is_marking, is_incomplete}
use Rattle.decide.specs.Turn.{turned, turned_by, turned_found, start_of, searched}
use Rattle.plan.specs.declared.Judged.{Judged}
use Rattle.plan.specs.Plan.{outcomes, painted_under, all_true, incomplete_count}
use Rattle.plan.specs.AtOnce.{judged_as, judged_of}
use Rattle.plan.proofs.JudgedLaws.{cut_children, judged_in_order}
use Rattle.explain.specs.declared.look.Look.{Look}
use Rattle.explain.specs.declared.look.Mark.{Mark}
use Rattle.explain.specs.History.{Answered, answered_by, PastStep}
use Rattle.explain.specs.Reasons.{is_denied, point_of, is_nowhere, marks_here, denies_here, finds_none}
use Rattle.explain.specs.LookComputed.{unlooked, looked_at, looked_from, looked_by}

-- THE ANSWERS OF A STEP

-- as many as there are children, if there is a verdict for each
outcomes_many : (p : Chosen) (l : List Cell) (cs : List Block) (vs : List ℕ) → length vs ≡ length cs
    → length (outcomes p l cs vs) ≡ length cs
unfolding outcomes
outcomes_many p l [] vs e = refl
outcomes_many p l (c ∷ cs) [] e = e
outcomes_many p l (c ∷ cs) (v ∷ vs) e =
    let o = outcome_of c.x.rank v (all_true p c l) in
    ap suc (outcomes_many p (cond (is_marking o) (painted_under p c Op.Mark l) l) cs vs (omega arith))

-- verdicts behind those of the children play no part
outcomes_first : (p : Chosen) (l : List Cell) (cs : List Block) (vs : List ℕ) → outcomes p l cs (take (length cs) vs) ≡ outcomes p l cs vs
unfolding outcomes
outcomes_first p l [] vs = refl
outcomes_first p l (c ∷ cs) [] = refl
outcomes_first p l (c ∷ cs) (v ∷ vs) =
    let o = outcome_of c.x.rank v (all_true p c l) in
    ap (λ (os : List Outcome). o ∷ os) (outcomes_first p (cond (is_marking o) (painted_under p c Op.Mark l) l) cs vs)

-- the outcomes among the answers
outcomes_of : (cs : List Block) (vs : List ℕ) (os : List Outcome) → length vs ≡ length cs → length os ≡ length cs
    → map (λ (a : Answered). a.outcome) (answered_by cs vs os) ≡ os
unfolding answered_by
outcomes_of [] vs [] e f = refl
outcomes_of [] vs (o ∷ os) e f = absurd (omega arith)
outcomes_of (c ∷ cs) [] os e f = absurd (omega arith)
outcomes_of (c ∷ cs) (v ∷ vs) [] e f = absurd (omega arith)
outcomes_of (c ∷ cs) (v ∷ vs) (o ∷ os) e f = ap (λ (l : List Outcome). o ∷ l) (outcomes_of cs vs os (omega arith) (omega arith))

-- a place, if there is one
abbrev pub named : Bool → ℕ → Option ℕ
named t i = cond t (Some i) None

abbrev pub first_named : {A : Type 0} → (A → Bool) → ℕ → List A → Option ℕ
first_named f i l = named (any_of f l) (first_from f i l)

-- ONE CHILD

-- this place, where the child passes and none did before
abbrev or_this : Bool → ℕ → Option ℕ → Option ℕ
or_this k i d = cond k (option_or d (Some i)) d

same_or : (d : Option ℕ) → d ≡ option_or d None
same_or None = refl
same_or (Some d) = refl

-- no direction is found
abbrev stuck_at : Chosen → ℕ → Answered → Bool
stuck_at p start a = is_incomplete a.outcome && is_nowhere (turned_found p start a.child)

nothing_nowhere : (c : Block) (f : Option ℕ) → is_none f ≡ is_nowhere (turned_by c f)
nothing_nowhere c (Some d) = refl
nothing_nowhere c None = refl

module _ (p : Chosen) (here : Block → Bool) (start : ℕ) (l : Look) (i : ℕ) (c : Block) where
  seen_mark : (o : Outcome) → (looked_at p here start l i c o).mark
      ≡ cond (is_marking o && here c) (Some (record { child = i; point = point_of o })) l.mark
  unfolding looked_at
  seen_mark O.Skipped = refl
  seen_mark O.False = refl
  seen_mark O.Area = refl
  seen_mark (O.Point k) = refl
  seen_mark (O.Incomplete n) = refl

  seen_denied : (o : Outcome) → (looked_at p here start l i c o).denied ≡ or_this (is_denied o && here c) i l.denied
  unfolding looked_at
  seen_denied O.Skipped = refl
  seen_denied O.False = refl
  seen_denied O.Area = refl
  seen_denied (O.Point k) = refl
  seen_denied (O.Incomplete n) = refl

  seen_stuck : (o : Outcome) → (looked_at p here start l i c o).stuck
      ≡ or_this (is_incomplete o && is_nowhere (turned_found p start c)) i l.stuck
  unfolding looked_at
  seen_stuck O.Skipped = refl
  seen_stuck O.False = refl
  seen_stuck O.Area = refl
  seen_stuck (O.Point k) = refl
  seen_stuck (O.Incomplete n) = ap (λ (t : Bool). or_this t i l.stuck) (nothing_nowhere c (searched p c start))

-- ALL CHILDREN

-- the first that passes, behind one found before
first_found : (k t : Bool) (i rest : ℕ) (d : Option ℕ)
    → option_or (or_this k i d) (named t rest) ≡ option_or d (named (k || t) (cond k i rest))
first_found k t i rest (Some d) = go k
  where
    go : (k : Bool) → option_or (or_this k i (Some d)) (named t rest) ≡ Some d
    go true = refl
    go false = refl
first_found true t i rest None = refl
first_found false t i rest None = refl

-- the last that passes, with what is said of it
module _ {A : Type 0} (f : A → Bool) (g : A → ℕ) where
  marked_from : Option Mark → ℕ → List A → Option Mark
  marked_from m i [] = m
  marked_from m i (a ∷ l) = marked_from (cond (f a) (Some (record { child = i; point = g a })) m) (suc i) l

  marked_some : (l : List A) (i child point : ℕ) → marked_from (Some (record { child = child; point = point })) i l
      ≡ Some (record { child = last_from f child i l; point = last_value f g point l })
  unfolding marked_from last_from last_value
  marked_some [] i child point = refl
  marked_some (a ∷ l) i child point =
      cases (f a) (λ e. rw e (marked_some l (suc i) i (g a))) (λ e. rw e (marked_some l (suc i) child point))

  marked_first : (l : List A) (i : ℕ) → marked_from None i l
      ≡ cond (any_of f l) (Some (record { child = last_from f 0 i l; point = last_value f g 0 l })) None
  unfolding marked_from last_from last_value any_of
  marked_first [] i = refl
  marked_first (a ∷ l) i =
      cases (f a) (λ e. rw e (marked_some l (suc i) i (g a))) (λ e. rw e (marked_first l (suc i)))

module _ (p : Chosen) (here : Block → Bool) (start : ℕ) where
  -- what is found from child i on, where something was found before
  record FoundFrom (l r : Look) (i : ℕ) (xs : List Answered) : Type 0 where
    mark : r.mark ≡ marked_from (marks_here p here) (λ (a : Answered). point_of a.outcome) l.mark i xs
    denied : r.denied ≡ option_or l.denied (first_named (denies_here p here) i xs)
    stuck : r.stuck ≡ option_or l.stuck (first_named (stuck_at p start) i xs)

  found : (cs : List Block) (vs : List ℕ) (os : List Outcome) (rest : List Outcome) → length vs ≡ length cs → length os ≡ length cs
      → (l : Look) (i : ℕ) → FoundFrom l (looked_from p here start l i cs (os ++ rest)) i (answered_by cs vs os)
  unfolding looked_from answered_by marked_from first_from any_of marks_here denies_here
  found [] vs [] rest e f l i = record { mark = refl; denied = same_or l.denied; stuck = same_or l.stuck }
  found [] vs (o ∷ os) rest e f l i = absurd (omega arith)
  found (c ∷ cs) [] os rest e f l i = absurd (omega arith)
  found (c ∷ cs) (v ∷ vs) [] rest e f l i = absurd (omega arith)
  found (c ∷ cs) (v ∷ vs) (o ∷ os) rest e f l i =
      let z = found cs vs os rest (omega arith) (omega arith) (looked_at p here start l i c o) (suc i) in
      let xs = answered_by cs vs os in
      record {
        mark = z.mark ∙ ap (λ (m : Option Mark). marked_from (marks_here p here) (λ (a : Answered). point_of a.outcome) m (suc i) xs)
            (seen_mark p here start l i c o);
        denied = z.denied ∙ ap (λ (d : Option ℕ). option_or d (first_named (denies_here p here) (suc i) xs)) (seen_denied p here start l i c o)
            ∙ first_found (is_denied o && here c) _ i _ l.denied;
        stuck = z.stuck ∙ ap (λ (d : Option ℕ). option_or d (first_named (stuck_at p start) (suc i) xs)) (seen_stuck p here start l i c o)
            ∙ first_found (is_incomplete o && is_nowhere (turned_found p start c)) _ i _ l.stuck;
      }

-- THE LOOK at all children of a sound block, by the step definition's outcomes
pub record LookMeans (p : Chosen) (here : Block → Bool) (r : Look) (e : PastStep) : Type 0 where
  pub mark : r.mark
      ≡ cond (any_of (marks_here p here) e.answers)
      (Some (record {
        child = last_from (marks_here p here) 0 1 e.answers;
        point = last_value (marks_here p here) (λ (a : Answered). point_of a.outcome) 0 e.answers;
      })) None
  pub denied : r.denied ≡ first_named (denies_here p here) 1 e.answers
  pub stuck : r.stuck ≡ first_named (finds_none p e) 1 e.answers

module _ (p : Chosen) (here : Block → Bool) (b : Block) (cells tape : List ℕ) (ok : sound p b ≡ true)
    (enough : p.width * p.height ≤ length cells)
    (many : length (take (length (children_of p b)) tape) ≡ length (children_of p b)) where
  abbrev children : List Block
  children = children_of p b

  abbrev own : List ℕ
  own = take (length children) tape

  abbrev ends : List Outcome
  ends = outcomes p (meanings cells) children own

  abbrev step : PastStep
  step = record { block = b; answers = answered_by children own ends }

  ends_many : length ends ≡ length children
  ends_many = outcomes_many p (meanings cells) children own many

  -- where the search begins, by the answers
  abbrev start : ℕ
  start = start_of p b (incomplete_count ends)

  none_found : (a : Answered) → stuck_at p start a ≡ finds_none p step a
  unfolding finds_none turned
  none_found a =
      ap (λ (os : List Outcome). is_incomplete a.outcome && is_nowhere (turned_found p (start_of p b (incomplete_count os)) a.child))
      (sym (outcomes_of children own ends many ends_many))

  -- what is remembered of the children, by the rest of the tape
  remembered_as : (legal : Bool) → judged_as (outcomes p (meanings cells) children tape) legal ≡ judged_as ends legal
  remembered_as legal = ap (λ (os : List Outcome). judged_as os legal) (sym (outcomes_first p (meanings cells) children tape))

  pub look_means : LookMeans p here (looked_by p here b (cut_of p b) (judged_of p b (cut_of p b) tape cells)) step
  unfolding looked_by judged_as
  look_means =
      subst (λ (j : Judged). LookMeans p here (looked_by p here b (cut_of p b) j) step)
      (sym (judged_in_order p b ok tape cells enough ∙ remembered_as (all_legal children tape)))
      (rw (cut_children p b ok)
      (by_found
      (found p here start children own ends (replicate (4 - length ends) O.Skipped) many ends_many unlooked 1)))
    where
      by_found : {r : Look} → FoundFrom p here start unlooked r 1 step.answers → LookMeans p here r step
      by_found z =
          let same = every_all (λ (a : Answered). stuck_at p start a ≡ finds_none p step a) none_found step.answers in
          record {
            mark = z.mark ∙ marked_first (marks_here p here) (λ (a : Answered). point_of a.outcome) step.answers 1;
            denied = z.denied;
            stuck = z.stuck ∙ ap₂ named (any_same (stuck_at p start) (finds_none p step) step.answers same)
                (first_same (stuck_at p start) (finds_none p step) 1 step.answers same);
          }
