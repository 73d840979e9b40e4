-- A step on real blocks and verdict bytes, in the words of `theory`: what a byte says of a child, and what becomes of the child; and what is said of
-- every answer that an evaluator gave in a run.
use Rattle.std.specs.Prelude.{cond, not, ◌&&◌, ◌||◌, List, [], ◌∷◌, ℕ, ◌/◌, ◌%◌, leb, eqb}
use Rattle.base.specs.Lists.{Every}
use Rattle.theory.specs.Colours.{Said, said_false, said_true, said_undecided, ChildEnd, skipped, denied, marked, waits_as, stuck, Judgement, judgement}
use Rattle.image.specs.Cell.{Cell, meanings}
use Rattle.queue.specs.declared.Block.{Block}
use Rattle.decide.specs.declared.Chosen.{Chosen}
use Rattle.decide.specs.Turn.{Turned}
use Rattle.decide.specs.Turn as T
use Rattle.decide.specs.declared.verdict.Outcome.{Outcome}
use Rattle.decide.specs.declared.verdict.Outcome.TheVariants as O
use Rattle.decide.specs.Children.{children_of}
use Rattle.decide.specs.Turn.{turned}
use Rattle.plan.specs.Plan.{outcomes, incomplete_count}
use Rattle.implicit.specs.Step.{World}
use Rattle.promises.specs.Chart.{queued_blocks}
use Rattle.promises.specs.Steps.{Steps, no_steps, then_step, then_move}

-- what a verdict byte says of a child of a rank, by document 01's bits: two of result (0 false, 1 undecided, 2 true), the area bit, five points. Undecided
-- says true if the area bit and some point are set; true does from a pixel's level up (rank 48), and below it only with the area bit
unfoldable pub said_by : ℕ → ℕ → Said
said_by rank v =
    cond (eqb (v / 64) 0) said_false
    (cond (cond (eqb (v / 64) 1) (eqb (v / 32 % 2) 1 && not (eqb (v % 32) 0)) (leb 48 rank || eqb (v / 32 % 2) 1)) said_true said_undecided)

-- an incomplete child is queued with the direction that it finds, or finds none
unfoldable pub after_turning : Turned → ChildEnd Block
after_turning (T.To d) = waits_as d
after_turning T.Nowhere = stuck

-- what becomes of a child, by its outcome
unfoldable pub becomes : (Block → Turned) → Block → Outcome → ChildEnd Block
becomes next c O.Skipped = skipped
becomes next c O.False = denied
becomes next c O.Area = marked
becomes next c (O.Point place) = marked
becomes next c (O.Incomplete tried) = after_turning (next c)

-- each child with its verdict and its outcome
unfoldable pub judgements_with : (Block → Turned) → List Block → List ℕ → List Outcome → List (Judgement Block)
judgements_with next [] vs os = []
judgements_with next (c ∷ cs) [] os = []
judgements_with next (c ∷ cs) (v ∷ vs) [] = []
judgements_with next (c ∷ cs) (v ∷ vs) (o ∷ os) = judgement c (said_by c.x.rank v) (becomes next c o) ∷ judgements_with next cs vs os

-- the judgements of the step that takes block b, with the cells and the verdicts that it is given
unfoldable pub judgements_of : Chosen → Block → List Cell → List ℕ → List (Judgement Block)
judgements_of p b l vs =
    judgements_with (turned p b (incomplete_count (outcomes p l (children_of p b) vs))) (children_of p b) vs (outcomes p l (children_of p b) vs)

-- the judgements of a step under these verdicts, which takes the first block of the queue
unfoldable pub judgements_taking : Chosen → World → List ℕ → List Block → List (Judgement Block)
judgements_taking p w vs [] = []
judgements_taking p w vs (b ∷ rest) = judgements_of p b (meanings w.cells) vs

-- of each judgement of each step; a move asks nothing
unfoldable pub EveryAnswer : Chosen → (Judgement Block → Type 0) → {n : ℕ} {w w' : World} → Steps n w w' → Type 0
EveryAnswer p P no_steps = Unit {0}
EveryAnswer p P (then_step {w' = w'} r vs evals bytes e) = EveryAnswer p P r × Every P (judgements_taking p w' vs (queued_blocks w'))
EveryAnswer p P (then_move r m) = EveryAnswer p P r
