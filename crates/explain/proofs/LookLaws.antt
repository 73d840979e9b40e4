-- Laws of the look at one step's children, as the code makes it. Assumes nothing.
use Rattle.std.specs.Prelude.{Option}
use mathlib.Core.Path.{◌≡◌, sym, ap, ◌∙◌}
use mathlib.Core.Bool.{Bool}
use mathlib.Core.List.{List, ◌∷◌}
use Prim.Native.Nat.{ℕ, suc, ◌+◌, ◌≤◌, ◌<◌, min}
use native.Mathlib.Numerals.{add-one}
use native.Mathlib.Nat.{zero-add}
use native.Mathlib.Omega.{arith}
use lib.ListN.{length, get_or, drop, drop_of_length-le}
use lib.Seq.{drop-cons}
use Rattle.queue.specs.declared.Block.{Block}
use Rattle.decide.specs.declared.Chosen.{Chosen}
use Rattle.decide.specs.declared.children.Cut.{Cut}
use Rattle.decide.specs.declared.verdict.Outcome.{Outcome}
use Rattle.decide.specs.ChildAt.{child_of}
use Rattle.decide.specs.declared.verdict.Outcome.TheVariants as O
use Rattle.decide.specs.Turn.{start_of, searched}
use Rattle.plan.specs.declared.Judged.{Judged}
use Rattle.plan.specs.AtOnce.{children_by}
use Rattle.plan.proofs.JudgeLaws.{from_length, from_drop}
use Rattle.explain.specs.declared.look.Look.{Look}
use Rattle.explain.specs.Reasons.{covers_at}
use Rattle.explain.specs.LookComputed.{unlooked, mark_seen, false_seen, stuck_seen, looked_at, looked_from, looked_by}

-- a child, by its outcome
module _ (p : Chosen) (column row start : ℕ) (l : Look) (i : ℕ) (c : Block) (o : Outcome) where
  abbrev seen : Look
  seen = looked_at p (covers_at p column row) start l i c o

  pub at_false : o ≡ O.False → (here : Bool) → here ≡ covers_at p column row c → (r : Look) → r ≡ false_seen l i here → r ≡ seen
  unfolding looked_at
  at_false e here h r f = rw (e, sym h) f

  pub at_area : o ≡ O.Area → (here : Bool) → here ≡ covers_at p column row c → (r : Look) → r ≡ mark_seen l i 0 here → r ≡ seen
  unfolding looked_at
  at_area e here h r f = rw (e, sym h) f

  pub at_point : (k : ℕ) → o ≡ O.Point k → (here : Bool) → here ≡ covers_at p column row c → (r : Look) → r ≡ mark_seen l i k here → r ≡ seen
  unfolding looked_at
  at_point k e here h r f = rw (e, sym h) f

  pub at_incomplete : (n : ℕ) → o ≡ O.Incomplete n → (d : Option ℕ) → d ≡ searched p c start → (r : Look) → r ≡ stuck_seen l i d → r ≡ seen
  unfolding looked_at
  at_incomplete n e d h r f = rw (e, sym h) f

-- where the search begins
pub by_start : (p : Chosen) (here : Block → Bool) (b : Block) (k : Cut) (j : Judged) (start : ℕ) → start ≡ start_of p b j.incomplete
    → looked_from p here start unlooked 1 (children_by k b) j.at ≡ looked_by p here b k j
unfolding looked_by
by_start p here b k j start e = ap (λ (s : ℕ). looked_from p here s unlooked 1 (children_by k b) j.at) e

-- all children: what looking from child i on makes
module _ (p : Chosen) (here : Block → Bool) (b : Block) (k : Cut) (es : List Outcome) (start : ℕ) where
  abbrev pub looked_on : Look → ℕ → Look
  looked_on l i = looked_from p here start l (suc i) (drop i (children_by k b)) (drop i es)

  module _ (four : length es ≡ 4) (l : Look) (i n : ℕ) (least : n ≡ min k.count 4) where
    pub look_on : (d : Outcome) (j : ℕ) (c : Block) (l' : Look) → i < n → j ≡ i + 1 → c ≡ child_of k b i
        → l' ≡ looked_at p here start l j c (get_or es i d) → looked_on l' (i + 1) ≡ looked_on l i
    unfolding looked_from
    look_on d j c l' h g f e =
        let m : drop i (children_by k b) ≡ child_of k b i ∷ drop (suc i) (children_by k b) =
        from_drop k b i 0 (min k.count 4) (omega arith) ∙ ap (λ (m : ℕ). child_of k b m ∷ drop (suc i) (children_by k b)) (zero-add i) in
        let o : drop i es ≡ get_or es i d ∷ drop (suc i) es = drop-cons es i d (omega arith) in
        rw (e, g, f, add-one i, m, o)

    pub look_end : n ≤ i → looked_on l i ≡ l
    unfolding looked_from
    look_end h =
        let z = from_length k b 0 (min k.count 4) in
        let e = drop_of_length-le (children_by k b) {i = i} (omega arith) in
        rw e
