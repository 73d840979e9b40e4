-- Laws of judging the children: the tests that the code makes, and the passes of the loop. Assumes nothing.
use mathlib.Core.Path.{◌≡◌, refl, sym, ap, ◌∙◌}
use mathlib.Core.Bool.{Bool, ◌&&◌, ◌||◌}
use mathlib.Core.List.{List, [], ◌∷◌}
use Prim.Native.Nat.{ℕ, zero, suc, ◌+◌, ◌*◌, ◌≤◌, ◌<◌, min}
use native.Mathlib.Decide.{dec_le}
use native.Mathlib.Nat.{add-zero, zero-add}
use native.Mathlib.Numerals.{add-one}
use native.Mathlib.Omega.{arith}
use lib.ListN.{length, get_or, drop, drop_of_length-le}
use lib.Seq.{drop-cons}
use Rattle.base.proofs.Test.{by_test}
use Rattle.queue.specs.declared.Block.{Block}
use Rattle.decide.specs.declared.Chosen.{Chosen}
use Rattle.decide.specs.declared.children.Cut.{Cut}
use Rattle.decide.specs.declared.children.Place.{Place}
use Rattle.decide.specs.declared.verdict.Outcome.{Outcome}
use Rattle.decide.specs.ChildAt.{place_of, child_of}
use Rattle.decide.specs.Verdict.{is_incomplete}
use Rattle.decide.proofs.ChildAtLaws.{child_place}
use Rattle.decide.proofs.VerdictLaws.{cost_of_child}
use Rattle.plan.specs.declared.Judged.{Judged}
use Rattle.plan.specs.AtOnce.{true_at, outcome_at, outcome_at_once, children_from, children_by}
use Rattle.plan.specs.PlanComputed.{incomplete_ones, judged_by}

pub incomplete_one : (o : Outcome) → incomplete_ones o ≤ 1
incomplete_one o = by_test (λ n. n ≤ 1) (is_incomplete o) 1 0 (λ e. omega arith) (λ e. omega arith)

-- THE CHILDREN OF A CUT

pub from_length : (k : Cut) (b : Block) (j n : ℕ) → length (children_from k b j n) ≡ n
unfolding children_from
from_length k b j zero = refl
from_length k b j (suc n) = ap suc (from_length k b (suc j) n)

pub from_drop : (k : Cut) (b : Block) (i j n : ℕ) → i < n → drop i (children_from k b j n) ≡ child_of k b (j + i) ∷ drop (suc i) (children_from k b j n)
unfolding children_from
from_drop k b i j zero h = absurd (omega arith)
from_drop k b zero j (suc n) h = rw (add-zero j)
from_drop k b (suc i) j (suc n) h =
    from_drop k b i (suc j) n (omega arith)
    ∙ ap (λ (m : ℕ). child_of k b m ∷ drop (suc i) (children_from k b (suc j) n)) (omega arith)

-- THE LOOP OVER THE VERDICTS

-- the children from the i-th on judged, each with its verdict
unfoldable pub judged_from : Chosen → Bool → List ℕ → Judged → ℕ → List Block → List ℕ → Judged
judged_from p same cells j i [] vs = j
judged_from p same cells j i (c ∷ cs) [] = j
judged_from p same cells j i (c ∷ cs) (v ∷ vs) =
    judged_from p same cells (judged_by j i c.x.rank v (outcome_at_once p same cells j.marked c v)) (suc i) cs vs

module _ (p : Chosen) (same : Bool) (cells : List ℕ) (k : Cut) (b : Block) (vs : List ℕ) where
  -- what the judging from child i on makes
  abbrev pub judged_on : Judged → ℕ → Judged
  judged_on j i = judged_from p same cells j i (drop i (children_by k b)) (drop i vs)

  module _ (j : Judged) (i n : ℕ) (least : n ≡ min (min k.count 4) (length vs)) where
    pub judge_on : (c : Place) (v : ℕ) (j' : Judged) → i < n → v ≡ get_or vs i 0 → c ≡ place_of k b.x b.y i
        → j' ≡ judged_by j i c.x.rank v (outcome_at p same cells j.marked c.x c.y v)
        → judged_on j' (i + 1) ≡ judged_on j i
    unfolding judged_from
    judge_on c v j' h w g e =
        let q = child_place k b i in
        let x : c.x ≡ (child_of k b i).x = ap (λ (d : Place). d.x) g ∙ sym q.0 in
        let y : c.y ≡ (child_of k b i).y = ap (λ (d : Place). d.y) g ∙ sym q.1 in
        let f : drop i (children_by k b) ≡ child_of k b i ∷ drop (suc i) (children_by k b) =
        from_drop k b i 0 (min k.count 4) (omega arith) ∙ ap (λ (m : ℕ). child_of k b m ∷ drop (suc i) (children_by k b)) (zero-add i) in
        let u : drop i vs ≡ get_or vs i 0 ∷ drop (suc i) vs = drop-cons vs i 0 (omega arith) in
        rw (add-one i, e, f, u, x, y, w)

    pub judge_end : n ≤ i → j ≡ judged_on j i
    judge_end h = elim (dec_le (length vs) i) [
      | yes t ↦ (let e = drop_of_length-le vs {i = i} t in rw e (sym (none (drop i (children_by k b)))))
      | no t ↦ (let l = from_length k b 0 (min k.count 4) in
          let e = drop_of_length-le (children_by k b) {i = i} (omega arith) in rw e (sym (unfold judged_from in refl)))
    ]
      where
        none : (l : List Block) → judged_from p same cells j i l [] ≡ j
        none [] = unfold judged_from in refl
        none (c ∷ l) = unfold judged_from in refl

pub judged_few : (p : Chosen) (same : Bool) (cells : List ℕ) (j j' : Judged) (i : ℕ) (c : Place) (v : ℕ)
    → j' ≡ judged_by j i c.x.rank v (outcome_at p same cells j.marked c.x c.y v)
    → j.evaluations ≤ 6 * i → j.incomplete ≤ i → (j'.evaluations ≤ 6 * (i + 1)) × (j'.incomplete ≤ i + 1)
unfolding judged_by
judged_few p same cells j j' i c v e h k =
    let o = outcome_at p same cells j.marked c.x c.y v in
    rw e (omega (arith, cost_of_child c.x.rank v (true_at p c.x c.y cells || (same && j.marked))), omega (arith, incomplete_one o))
