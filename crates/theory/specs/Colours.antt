-- What the colours of a picture mean. A question is asked of it: over mixes, which are points with values of the parameters, and a relation
-- that some of them solve. A run is recorded by its verdicts: each step by what was said of each child of the block that it took, and what
-- became of that child. Over any mixes, positions and relation; the covering laws, that cutting loses no mix, are stated here and asked for.
use Rattle.std.specs.Prelude.{◌≡◌, Bool, cond, List, [], ◌∷◌, ◌++◌, map, ℕ, ◌≤◌, T}
use Rattle.base.specs.Lists.{Every, Some}
use Rattle.theory.specs.Cells.{Standing, marked_true}
use Rattle.theory.specs.Runs.{Snapshot, Event, marks, queues, gives_up, FinishedStep, FinishedSteps, no_step, one_more, EveryStep}

-- ---- the question

-- what is asked of a picture
pub record Question (Block Pixel : Type 0) : Type 1 where
  -- a point of the plane with a value for each parameter
  pub Mix : Type 0
  -- its parameters lie in the ranges that setup was given
  pub Given : Mix → Type 0
  -- it lies in the pixel; pixels may share their edges
  pub At : Mix → Pixel → Type 0
  -- it lies in the block, by its position and by its parameters
  pub In : Block → Mix → Type 0
  -- the relation holds there
  pub Solves : Mix → Type 0

-- the pixel holds a solution
unfoldable pub HasSolution : {Block Pixel : Type 0} → Question Block Pixel → Pixel → Type 0
HasSolution Q p = (x : Q.Mix) × Q.Given x × Q.At x p × Q.Solves x

module _ {Block Pixel : Type 0} (covers : Block → Pixel → Bool) (Q : Question Block Pixel) where
  -- the block holds the mix as one of pixel p
  unfoldable pub Holds : Q.Mix → Pixel → Block → Type 0
  Holds x p b = Q.In b x × T (covers b p)

  -- a false verdict is right: in the pixels that the child covers, no mix of the child solves
  unfoldable pub NoneIn : Block → Type 0
  NoneIn c = (x : Q.Mix) (p : Pixel) → Q.Given x → Q.At x p → Holds x p c → ¬ Q.Solves x

  -- a mark is right: each pixel that the child covers holds a solution
  unfoldable pub OneInEach : Block → Type 0
  OneInEach c = (p : Pixel) → T (covers c p) → HasSolution Q p

  -- setup's blocks hold every mix that is given
  unfoldable pub HoldsAll : Snapshot Block Pixel → Type 0
  HoldsAll s = (x : Q.Mix) (p : Pixel) → Q.Given x → Q.At x p → Some (Holds x p) s.queue

-- ---- the record of a run

-- what a verdict says of a child: false; true, or that a point was found; or neither
pub data Said : Type 0 where
  said_false said_true said_undecided : Said

-- what becomes of a child
pub data ChildEnd (Block : Type 0) : Type 0 where
  -- all its cells were True: what is said of it is not looked at
  skipped : ChildEnd Block
  -- it is false
  denied : ChildEnd Block
  -- its pixels are marked True
  marked : ChildEnd Block
  -- it is incomplete, and waits in the queue as this block, with a direction
  waits_as : Block → ChildEnd Block
  -- it is incomplete, and finds no direction
  stuck : ChildEnd Block

-- a child's judgement: the child, what was said of it, what became of it
pub data Judgement (Block : Type 0) : Type 0 where
  judgement : Block → Said → ChildEnd Block → Judgement Block

-- the child that it is about
unfoldable pub judged_child : {Block : Type 0} → Judgement Block → Block
judged_child (judgement c v f) = c

-- "each child in turn": its pixels may be marked
unfoldable pub marks_in_order : {Block : Type 0} → List (Judgement Block) → List (Event Block)
marks_in_order [] = []
marks_in_order (judgement c v skipped ∷ ts) = marks_in_order ts
marks_in_order (judgement c v denied ∷ ts) = marks_in_order ts
marks_in_order (judgement c v marked ∷ ts) = marks c ∷ marks_in_order ts
marks_in_order (judgement c v (waits_as d) ∷ ts) = marks_in_order ts
marks_in_order (judgement c v stuck ∷ ts) = marks_in_order ts

-- "afterwards, each incomplete child": it is queued, or its parent's cells are given up
unfoldable pub afterwards : {Block : Type 0} → List (Judgement Block) → List (Event Block)
afterwards [] = []
afterwards (judgement c v skipped ∷ ts) = afterwards ts
afterwards (judgement c v denied ∷ ts) = afterwards ts
afterwards (judgement c v marked ∷ ts) = afterwards ts
afterwards (judgement c v (waits_as d) ∷ ts) = queues d ∷ afterwards ts
afterwards (judgement c v stuck ∷ ts) = gives_up ∷ afterwards ts

-- how blocks are cut: a block's children, what a step checks of the block that it takes (else it refuses), and which block may be queued in
-- place of a child (the same but for its direction)
pub record Cutting (Block : Type 0) : Type 1 where
  pub children : Block → List Block
  pub Checked : Block → Type 0
  pub Same : Block → Block → Type 0

-- what became of the child follows from what was said of it
unfoldable pub Follows : {Block : Type 0} → Cutting Block → Judgement Block → Type 0
Follows C (judgement c v skipped) = Unit {0}
Follows C (judgement c v denied) = v ≡ said_false
Follows C (judgement c v marked) = v ≡ said_true
Follows C (judgement c v (waits_as d)) = (v ≡ said_undecided) × C.Same c d
Follows C (judgement c v stuck) = v ≡ said_undecided

module _ {Block Pixel : Type 0} (covers : Block → Pixel → Bool) where
  -- all cells that the block covers are True
  unfoldable pub AllTrue : (Pixel → Standing) → Block → Type 0
  AllTrue cells c = (p : Pixel) → T (covers c p) → cells p ≡ marked_true

  -- a cell that it covers is not True
  unfoldable pub NotAllTrue : (Pixel → Standing) → Block → Type 0
  NotAllTrue cells c = (p : Pixel) × T (covers c p) × (¬ (cells p ≡ marked_true))

  -- a child is skipped exactly if all cells that it covers are True when it is looked at, after the marks of those before it
  unfoldable pub SkipRule : (Pixel → Standing) → List (Judgement Block) → Type 0
  SkipRule cells [] = Unit {0}
  SkipRule cells (judgement c v skipped ∷ ts) = AllTrue cells c × SkipRule cells ts
  SkipRule cells (judgement c v denied ∷ ts) = NotAllTrue cells c × SkipRule cells ts
  SkipRule cells (judgement c v marked ∷ ts) = NotAllTrue cells c × SkipRule (λ p. cond (covers c p) marked_true (cells p)) ts
  SkipRule cells (judgement c v (waits_as d) ∷ ts) = NotAllTrue cells c × SkipRule cells ts
  SkipRule cells (judgement c v stuck ∷ ts) = NotAllTrue cells c × SkipRule cells ts

  module _ (C : Cutting Block) where
    -- the covering laws: what is queued in place of a child covers and holds what the child does; and the children of a checked block hold what
    -- it holds, a mix of pixel p in the block lies in a child that covers p
    pub record LosesNothing (Q : Question Block Pixel) : Type 0 where
      pub same_covers : (c d : Block) (p : Pixel) → C.Same c d → covers d p ≡ covers c p
      pub same_holds : (c d : Block) (x : Q.Mix) → C.Same c d → Q.In c x → Q.In d x
      pub split : (b : Block) (x : Q.Mix) (p : Pixel) → C.Checked b → Q.Given x → Q.At x p → Holds covers Q x p b
          → Some (Holds covers Q x p) (C.children b)

    module _ (spare : Bool) where
      -- a step as its verdicts have it: a judgement for each child, none left out, what became of it as its verdict says, and no event but theirs
      pub record StepByVerdicts (s s' : Snapshot Block Pixel) (st : FinishedStep covers spare s s') : Type 0 where
        pub checked : C.Checked st.front
        pub judgements : List (Judgement Block)
        pub each_child : map judged_child judgements ≡ C.children st.front
        pub by_verdict : Every (Follows C) judgements
        pub skip_rule : SkipRule s.cells judgements
        pub these_events : st.events ≡ marks_in_order judgements ++ afterwards judgements

      -- each judgement of each step is such
      unfoldable pub EveryJudgement : (Judgement Block → Type 0) → {n : ℕ} {s s' : Snapshot Block Pixel} (r : FinishedSteps covers spare n s s')
          → EveryStep covers spare StepByVerdicts r → Type 0
      unfolding EveryStep
      EveryJudgement P no_step j = Unit {0}
      EveryJudgement P (one_more r st) j = EveryJudgement P r j.0 × Every P j.1.judgements

  module _ (Q : Question Block Pixel) where
    -- a false verdict was right, if it was looked at
    unfoldable pub FalseRight : Judgement Block → Type 0
    FalseRight (judgement c v f) = ¬ (f ≡ skipped) → v ≡ said_false → NoneIn covers Q c

    -- a mark was right
    unfoldable pub MarkRight : Judgement Block → Type 0
    MarkRight (judgement c v f) = ¬ (f ≡ skipped) → v ≡ said_true → OneInEach covers Q c

-- everything looked at on a pixel's level or below was decided: a child on level px or below it that was not skipped is said to be false or true
unfoldable pub DecidedBelow : {Block : Type 0} → (Block → ℕ) → ℕ → Judgement Block → Type 0
DecidedBelow level_of px (judgement c v f) = ¬ (f ≡ skipped) → level_of c ≤ px → ¬ (v ≡ said_undecided)
