-- What the loop makes is what is remembered of the outcomes, and of a sound block's children these are the outcomes in order. Assumes nothing.
use mathlib.Core.Path.{◌≡◌, refl, sym, ap, ap₂, ◌∙◌}
use mathlib.Core.Bool.{Bool, true, false, ◌&&◌, ◌||◌, and_assoc, and-true}
use mathlib.Core.List.{List, [], ◌∷◌, ◌++◌}
use Prim.Native.Nat.{ℕ, zero, suc, ◌+◌, ◌-◌, ◌*◌, ◌≤◌, ◌<◌, min}
use native.Mathlib.Omega.{arith}
use native.Mathlib.Nat.{add-zero, add_assoc, zero-add}
use lib.ListN.{length, replicate, set, get_or, take}
use lib.Seq.{sets}
use Rattle.std.proofs.Math.Seq.{take-append_seam}
use Rattle.base.proofs.Test.{by_test}
use Rattle.base.specs.Event.{Event, marks, queued_by}
use Rattle.image.specs.Cell.{meanings}
use Rattle.queue.specs.declared.Block.{Block}
use Rattle.decide.specs.declared.Chosen.{Chosen}
use Rattle.decide.specs.declared.children.Cut.{Cut}
use Rattle.decide.specs.declared.verdict.Outcome.{Outcome}
use Rattle.decide.specs.declared.verdict.Outcome.TheVariants as O
use Rattle.decide.specs.Damage.{sound}
use Rattle.decide.specs.Children.{children_of}
use Rattle.decide.specs.ChildAt.{child_of, cut_of}
use Rattle.decide.specs.Verdict.{legal_verdict, all_legal, cost_of, is_marking}
use Rattle.decide.proofs.ListingLaws.{children_few}
use Rattle.decide.proofs.ChildAtLaws.{child_of_lem}
use Rattle.plan.specs.declared.Judged.{Judged}
use Rattle.plan.specs.Plan.{outcomes, evaluations, incomplete_count, mark_events}
use Rattle.plan.specs.AtOnce.{alike_along, outcome_at_once, at_once, children_from, children_by, some_marking, judged_as, judged_of}
use Rattle.plan.specs.PlanComputed.{incomplete_ones, unjudged, judged_by}
use Rattle.plan.proofs.InOrder.{at_once_lem}
use Rattle.plan.proofs.JudgeLaws.{judged_from, from_length}

-- WHAT THE LOOP MAKES

-- what judging from child i on adds to what was judged
record Closed (r j : Judged) (i : ℕ) (cs : List Block) (os : List Outcome) (vs : List ℕ) : Type 0 where
  pub at : r.at ≡ sets j.at i os
  pub incomplete : r.incomplete ≡ j.incomplete + incomplete_count os
  pub evaluated : r.evaluations ≡ j.evaluations + evaluations os
  pub marked : r.marked ≡ (j.marked || some_marking os)
  pub legal : r.legal ≡ (j.legal && all_legal cs vs)

or_none : (a : Bool) → a ≡ (a || false)
or_none true = refl
or_none false = refl

or_assoc : (a b c : Bool) → ((a || b) || c) ≡ (a || (b || c))
or_assoc true b c = refl
or_assoc false b c = refl

module _ (p : Chosen) (same : Bool) (cells : List ℕ) where
  judged_none : (j : Judged) (i : ℕ) (cs : List Block) (vs : List ℕ) → all_legal cs vs ≡ true → Closed j j i cs [] vs
  unfolding incomplete_count evaluations some_marking
  judged_none j i cs vs e = record {
    at = refl;
    incomplete = sym (add-zero j.incomplete);
    evaluated = sym (add-zero j.evaluations);
    marked = or_none j.marked;
    legal = sym (rw e (and-true j.legal));
  }

  judged_closed : (j : Judged) (i : ℕ) (cs : List Block) (vs : List ℕ)
      → Closed (judged_from p same cells j i cs vs) j i cs (at_once p same cells j.marked cs vs) vs
  unfolding judged_from judged_by at_once incomplete_count evaluations some_marking all_legal
  judged_closed j i [] vs = judged_none j i [] vs refl
  judged_closed j i (c ∷ cs) [] = judged_none j i (c ∷ cs) [] refl
  judged_closed j i (c ∷ cs) (v ∷ vs) =
      let o = outcome_at_once p same cells j.marked c v in
      let r = judged_closed (judged_by j i c.x.rank v o) (suc i) cs vs in
      record {
        at = r.at;
        incomplete = r.incomplete ∙ add_assoc j.incomplete (incomplete_ones o) _;
        evaluated = r.evaluated ∙ add_assoc j.evaluations (cost_of o) _;
        marked = r.marked ∙ or_assoc j.marked (is_marking o) _;
        legal = r.legal ∙ and_assoc j.legal (legal_verdict c.x.rank v) (all_legal cs vs);
      }

sets_cons : {A : Type 0} (a : A) (l : List A) (i : ℕ) (vs : List A) → sets (a ∷ l) (suc i) vs ≡ a ∷ sets l i vs
sets_cons a l i [] = refl
sets_cons a l i (v ∷ vs) = sets_cons a (set l i v) (suc i) vs

-- the first places stored anew
sets_first : {A : Type 0} (n : ℕ) (a : A) (l : List A) → length l ≤ n → sets (replicate n a) 0 l ≡ l ++ replicate (n - length l) a
sets_first n a [] h = let e : n - 0 ≡ n = omega arith in rw e
sets_first zero a (v ∷ l) h = absurd (omega arith)
sets_first (suc n) a (v ∷ l) h =
    let e : suc n - suc (length l) ≡ n - length l = omega arith in
    rw e (sets_cons v (replicate n a) 0 l ∙ ap (λ r. v ∷ r) (sets_first n a l (omega arith)))

once_few : (p : Chosen) (same : Bool) (cells : List ℕ) (marked : Bool) (cs : List Block) (vs : List ℕ) → length (at_once p same cells marked cs vs) ≤ length cs
unfolding at_once
once_few p same cells marked [] vs = omega arith
once_few p same cells marked (c ∷ cs) [] = omega arith
once_few p same cells marked (c ∷ cs) (v ∷ vs) = omega (arith, once_few p same cells (marked || is_marking (outcome_at_once p same cells marked c v)) cs vs)

same_judged : (j : Judged) (at : List Outcome) (n e : ℕ) (m l : Bool) → j.at ≡ at → j.incomplete ≡ n → j.evaluations ≡ e → j.marked ≡ m → j.legal ≡ l
    → j ≡ record { at = at; incomplete = n; evaluations = e; marked = m; legal = l }
same_judged j at n e m l a b c d f = rw (sym a, sym b, sym c, sym d, sym f)

-- the loop over a cut's children
pub judged_made : (p : Chosen) (b : Block) (k : Cut) (vs cells : List ℕ) (same : Bool) (j : Judged) → same ≡ alike_along b.x.rank k.along
    → j ≡ judged_from p same cells unjudged 0 (children_by k b) vs → j ≡ judged_of p b k vs cells
unfolding judged_of judged_as
judged_made p b k vs cells same j s e =
    let t = alike_along b.x.rank k.along in
    let cs = children_by k b in
    let os = at_once p t cells false cs vs in
    let c = judged_closed p t cells unjudged 0 cs vs in
    let few : length os ≤ 4 = omega (arith, once_few p t cells false cs vs, from_length k b 0 (min k.count 4)) in
    let at : (judged_from p t cells unjudged 0 cs vs).at ≡ os ++ replicate (4 - length os) O.Skipped = c.at ∙ sets_first 4 O.Skipped os few in
    e ∙ rw s (same_judged (judged_from p t cells unjudged 0 cs vs) _ _ _ _ _ at (c.incomplete ∙ zero-add (incomplete_count os))
    (c.evaluated ∙ zero-add (evaluations os)) c.marked c.legal)

-- OF A SOUND BLOCK

-- a list is its elements in order
from_list : (k : Cut) (b : Block) (j : ℕ) (l : List Block) → ((i : ℕ) → i < length l → child_of k b (j + i) ≡ get_or l i b) → children_from k b j (length l) ≡ l
unfolding children_from
from_list k b j [] h = refl
from_list k b j (c ∷ l) h =
    ap₂ ◌∷◌ (ap (child_of k b) (sym (add-zero j)) ∙ h 0 (omega arith))
    (from_list k b (suc j) l (λ i g. (let e : suc j + i ≡ j + suc i = omega arith in ap (child_of k b) e ∙ h (suc i) (omega arith))))

module _ (p : Chosen) (b : Block) (ok : sound p b ≡ true) where
  -- the children that its cut makes are its children
  pub cut_children : children_by (cut_of p b) b ≡ children_of p b
  unfolding cut_of
  cut_children =
      let n = length (children_of p b) in
      let few : min n 4 ≡ n = omega (arith, children_few p b) in
      rw few (from_list (cut_of p b) b 0 (children_of p b) (λ i h. (let e : 0 + i ≡ i = zero-add i in ap (child_of (cut_of p b) b) e ∙ child_of_lem p b ok i h)))

  -- what is remembered of them are their outcomes, one child after the other
  pub judged_in_order : (vs cells : List ℕ) → p.width * p.height ≤ length cells
      → judged_of p b (cut_of p b) vs cells ≡ judged_as (outcomes p (meanings cells) (children_of p b) vs) (all_legal (children_of p b) vs)
  unfolding judged_of cut_of
  judged_in_order vs cells h = rw (cut_children, at_once_lem p b cells vs ok h)

-- each outcome is remembered as it is: skipped and false, area and point stay apart
pub outcomes_kept : (os : List Outcome) (legal : Bool) → take (length os) (judged_as os legal).at ≡ os
unfolding judged_as
outcomes_kept os legal = take-append_seam os (replicate (4 - length os) O.Skipped)

-- marks queue nothing
pub marks_queue_none : (cs : List Block) (os : List Outcome) (es : List (Event Block)) → queued_by (mark_events cs os ++ es) ≡ queued_by es
unfolding mark_events queued_by
marks_queue_none [] os es = refl
marks_queue_none (c ∷ cs) [] es = refl
marks_queue_none (c ∷ cs) (o ∷ os) es =
    by_test (λ l. queued_by (l ++ es) ≡ queued_by es) (is_marking o) (marks c ∷ mark_events cs os) (mark_events cs os)
    (λ e. marks_queue_none cs os es) (λ e. marks_queue_none cs os es)
