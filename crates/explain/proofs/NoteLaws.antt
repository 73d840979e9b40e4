-- Laws of the notes, as the code makes them. Assumes nothing.
use mathlib.Core.Path.{◌≡◌, refl, sym, ap, ◌∙◌}
use mathlib.Core.Bool.{Bool, true, false, not}
use mathlib.Core.List.{List}
use Prim.Native.Nat.{ℕ}
use native.Mathlib.Omega.{arith}
use Rattle.base.proofs.Test.{cond_yes, cond_no}
use Rattle.queue.specs.declared.Block.{Block}
use Rattle.decide.specs.declared.Chosen.{Chosen}
use Rattle.decide.specs.declared.children.Cut.{Cut}
use Rattle.decide.specs.ChildAt.{cut_of}
use Rattle.plan.specs.declared.Judged.{Judged}
use Rattle.plan.specs.AtOnce.{judged_of}
use Rattle.explain.specs.declared.look.Look.{Look}
use Rattle.explain.specs.declared.noting.Notes.{Notes}
use Rattle.explain.specs.declared.reason.Moment.{Moment}
use Rattle.explain.specs.Reasons.{covers_at, moment_at}
use Rattle.explain.specs.LookComputed.{looked_by}
use Rattle.explain.specs.NotesComputed.{no_notes, with_look, noted_block}

-- nothing is noted yet
pub no_notes_by : (k : Notes) → ((k.mark.step ≡ 0) × (k.mark.child ≡ 0))
    × ((k.point ≡ 0) × (((k.denial.step ≡ 0) × (k.denial.child ≡ 0)) × ((k.up.step ≡ 0) × (k.up.child ≡ 0)))) → k ≡ no_notes
no_notes_by k e = by_parts k.mark k.point k.denial k.up (moment e.0) e.1.0 (moment e.1.1.0) (moment e.1.1.1)
  where
    zero : (step child : ℕ) → step ≡ 0 → child ≡ 0 → moment_at step child ≡ moment_at 0 0
    zero step child f g = rw (f, g)

    moment : {m : Moment} → (m.step ≡ 0) × (m.child ≡ 0) → m ≡ moment_at 0 0
    moment {m} f = zero m.step m.child f.0 f.1

    by_parts : (mark : Moment) (point : ℕ) (denial up : Moment) → mark ≡ moment_at 0 0 → point ≡ 0 → denial ≡ moment_at 0 0 → up ≡ moment_at 0 0
        → record { mark = mark; point = point; denial = denial; up = up } ≡ no_notes
    by_parts mark point denial up f g h i = rw (f, g, h, i)

-- a block that is read, by the code's tests
module _ (p : Chosen) (column row : ℕ) (cells tape : List ℕ) (step : ℕ) (b : Block) (k : Notes)
    (here : Bool) (h : here ≡ covers_at p column row b) where
  abbrev covering : Block → Bool
  covering = covers_at p column row

  pub block_away : not here ≡ true → k ≡ noted_block p column row cells tape step b k
  unfolding noted_block
  block_away e = sym (cond_no (covering b) _ k (sym h ∙ not_true here e))
    where
      not_true : (t : Bool) → not t ≡ true → t ≡ false
      not_true true e = let z : ◌≡◌ {A = ℕ} 0 1 = cc in absurd (omega arith)
      not_true false e = refl

  pub block_here : not here ≡ false → (cut : Cut) → cut ≡ cut_of p b → (j : Judged) → j ≡ judged_of p b cut tape cells
      → (l : Look) → l ≡ looked_by p covering b cut j → (r : Notes) → r ≡ with_look k step l
      → r ≡ noted_block p column row cells tape step b k
  unfolding noted_block
  block_here e cut c j d l f r g =
      let m : looked_by p covering b cut j ≡ looked_by p covering b (cut_of p b) (judged_of p b (cut_of p b) tape cells) = rw (d, c) in
      g ∙ ap (with_look k step) (f ∙ m) ∙ sym (cond_yes (covering b) _ k (sym h ∙ not_false here e))
    where
      not_false : (t : Bool) → not t ≡ false → t ≡ true
      not_false true e = refl
      not_false false e = let z : ◌≡◌ {A = ℕ} 0 1 = cc in absurd (omega arith)
