-- What the closed runs are made of: a step with all that is to be shown of it, given by its judgements, so that it is a finished step and as its verdicts have
-- it; and the judgements of which nothing has to be shown.
use mathlib.Core.Path.{◌≡◌, refl}
use mathlib.Core.Bool.{Bool}
use mathlib.Core.List.{List, ◌∷◌, ◌++◌, map}
use Prim.Native.Nat.{ℕ, suc, ◌+◌}
use native.Mathlib.Omega.{arith}
use lib.ListN.{length}
use Rattle.base.specs.Lists.{Every}
use Rattle.theory.specs.Cells.{marked_true, named}
use Rattle.theory.specs.Runs.{Snapshot, queued_by, Narrower, cell_after, FinishedStep}
use Rattle.theory.specs.Colours.{Question, Said, said_false, said_true, said_undecided, ChildEnd, skipped, Judgement, judgement, judged_child}
use Rattle.theory.specs.Colours.{marks_in_order, afterwards, Cutting, Follows, SkipRule, StepByVerdicts, FalseRight, MarkRight}
use Rattle.theory.proofs.Theorems as Promise

module _ {Block Pixel : Type 0} (covers : Block → Pixel → Bool) (C : Cutting Block) (spare : Bool) where
  pub record Played (s s' : Snapshot Block Pixel) : Type 0 where
    pub taken_block : Block
    pub others : List Block
    pub judgements : List (Judgement Block)
    pub in_front : s.queue ≡ taken_block ∷ others
    pub checked : C.Checked taken_block
    pub narrower : Every (Narrower covers taken_block) (C.children taken_block)
    pub each_child : map judged_child judgements ≡ C.children taken_block
    pub by_verdict : Every (Follows C) judgements
    pub skip_rule : SkipRule covers s.cells judgements
    pub counted : s'.taken ≡ suc s.taken
    pub queued : s'.queue ≡ others ++ queued_by (marks_in_order judgements ++ afterwards judgements)
    pub changed : (p : Pixel)
        → s'.cells p
        ≡ cell_after covers spare s.taken taken_block (s.taken + length s.queue) (marks_in_order judgements ++ afterwards judgements) p (s.cells p)

  module _ (same_covers : (c d : Block) (p : Pixel) → C.Same c d → covers d p ≡ covers c p) where
    abbrev pub as_step : {s s' : Snapshot Block Pixel} → Played s s' → FinishedStep covers spare s s'
    as_step y =
        record {
          front = y.taken_block;
          rest = y.others;
          events = marks_in_order y.judgements ++ afterwards y.judgements;
          at_front = y.in_front;
          narrower = Promise.judgements_stay_inside covers C same_covers y.taken_block y.judgements y.by_verdict (rw y.each_child y.narrower);
          taken' = y.counted;
          queue' = y.queued;
          cells' = y.changed;
        }

    abbrev pub as_judged : {s s' : Snapshot Block Pixel} (y : Played s s') → StepByVerdicts covers C spare s s' (as_step y)
    as_judged y =
        record {
          checked = y.checked;
          judgements = y.judgements;
          each_child = y.each_child;
          by_verdict = y.by_verdict;
          skip_rule = y.skip_rule;
          these_events = refl;
        }

-- a cell that names a block is not True
pub not_true : (n : ℕ) → ¬ (named n ≡ marked_true)
not_true n e = let z : ◌≡◌ {A = ℕ} 0 1 = cc in omega arith

-- what was not said to be false is no wrong false verdict, what was not looked at is none either; and what was not said to be true is no wrong mark
module _ {Block Pixel : Type 0} (covers : Block → Pixel → Bool) (Q : Question Block Pixel) where
  pub undecided_not_false : (c : Block) (f : ChildEnd Block) → FalseRight covers Q (judgement c said_undecided f)
  unfolding FalseRight
  undecided_not_false c f l e = absurd (let z : ◌≡◌ {A = ℕ} 0 1 = cc in omega arith)

  pub true_not_false : (c : Block) (f : ChildEnd Block) → FalseRight covers Q (judgement c said_true f)
  unfolding FalseRight
  true_not_false c f l e = absurd (let z : ◌≡◌ {A = ℕ} 0 1 = cc in omega arith)

  pub not_looked_at : (c : Block) (v : Said) → FalseRight covers Q (judgement c v skipped)
  unfolding FalseRight
  not_looked_at c v l e = absurd (l refl)

  pub undecided_unmarked : (c : Block) (f : ChildEnd Block) → MarkRight covers Q (judgement c said_undecided f)
  unfolding MarkRight
  undecided_unmarked c f l e = absurd (let z : ◌≡◌ {A = ℕ} 0 1 = cc in omega arith)

  pub false_unmarked : (c : Block) (f : ChildEnd Block) → MarkRight covers Q (judgement c said_false f)
  unfolding MarkRight
  false_unmarked c f l e = absurd (let z : ◌≡◌ {A = ℕ} 0 1 = cc in omega arith)
