-- Request (v), "Why is this pixel white?": what happened to a pixel in a run, by the judgements of its steps. A history is the list of a run's
-- steps, the latest first. Steps, and the children of a step, are counted from 1; 0 is none. A child's place counts all children of its step, the
-- skipped ones too. Over any blocks, pixels, shape and mode.
use Rattle.std.specs.Prelude.{◌≡◌, ◌⊎◌, Bool, true, false, ◌&&◌, List, [], ◌∷◌, ℕ, suc, ◌-◌, ◌≤◌, ◌<◌, T, length}
use Rattle.base.specs.Lists.{Every, Some}
use Rattle.base.specs.Places.{any_of, first_place, last_place, IsFirst, IsLast, latest_number, latest_value, Latest}
use Rattle.theory.specs.Runs.{Snapshot, FinishedSteps, no_step, one_more, EveryStep}
use Rattle.theory.specs.Colours.{Question, Holds, said_false, skipped, denied, marked, waits_as, stuck, Judgement, judgement, judged_child}
use Rattle.theory.specs.Colours.{Cutting, StepByVerdicts}

-- ---- the history of a run

-- a finished step: the block that it took, and the judgements of its children
pub record Past (Block : Type 0) : Type 0 where
  pub block : Block
  pub judgements : List (Judgement Block)

-- all steps of a run
unfoldable pub history_of : {Block Pixel : Type 0} (covers : Block → Pixel → Bool) (C : Cutting Block) (spare : Bool) {n : ℕ}
    {s s' : Snapshot Block Pixel} (r : FinishedSteps covers spare n s s') → EveryStep covers spare (StepByVerdicts covers C spare) r
    → List (Past Block)
unfolding EveryStep
history_of covers C spare no_step j = []
history_of covers C spare (one_more r st) j = record { block = st.front; judgements = j.1.judgements } ∷ history_of covers C spare r j.0

-- ---- what a judgement says

-- the child's pixels are marked
unfoldable pub ends_marked : {Block : Type 0} → Judgement Block → Bool
ends_marked (judgement c v skipped) = false
ends_marked (judgement c v denied) = false
ends_marked (judgement c v marked) = true
ends_marked (judgement c v (waits_as d)) = false
ends_marked (judgement c v stuck) = false

-- the child is false
unfoldable pub ends_denied : {Block : Type 0} → Judgement Block → Bool
ends_denied (judgement c v skipped) = false
ends_denied (judgement c v denied) = true
ends_denied (judgement c v marked) = false
ends_denied (judgement c v (waits_as d)) = false
ends_denied (judgement c v stuck) = false

-- the child finds no direction
unfoldable pub ends_stuck : {Block : Type 0} → Judgement Block → Bool
ends_stuck (judgement c v skipped) = false
ends_stuck (judgement c v denied) = false
ends_stuck (judgement c v marked) = false
ends_stuck (judgement c v (waits_as d)) = false
ends_stuck (judgement c v stuck) = true

-- "answered false": the child was looked at, and its verdict said false
unfoldable pub AnsweredFalse : {Block : Type 0} → Judgement Block → Type 0
AnsweredFalse (judgement c v f) = (f ≡ denied) × (v ≡ said_false)

-- what cutting owes to pixels: what is queued in place of a child covers what the child does; and a pixel that a checked block covers, a child covers
pub record KeepsCovered {Block Pixel : Type 0} (covers : Block → Pixel → Bool) (C : Cutting Block) : Type 0 where
  pub same_covers : (c d : Block) (p : Pixel) → C.Same c d → covers d p ≡ covers c p
  pub split_covers : (b : Block) (p : Pixel) → C.Checked b → T (covers b p) → Some (λ c. T (covers c p)) (C.children b)

-- ---- what happened to a pixel

module _ {Block Pixel : Type 0} (covers : Block → Pixel → Bool) (p : Pixel) where
  -- the child is marked, and covers the pixel
  unfoldable pub marks_it : Judgement Block → Bool
  marks_it t = ends_marked t && covers (judged_child t) p

  -- the child is false, and covers the pixel
  unfoldable pub denies_it : Judgement Block → Bool
  denies_it t = ends_denied t && covers (judged_child t) p

  -- the step takes a block that covers the pixel
  abbrev pub takes_over : Past Block → Bool
  takes_over e = covers e.block p

  -- the step marks the pixel: it has such a child
  abbrev pub marks_in_step : Past Block → Bool
  marks_in_step e = any_of marks_it e.judgements

  -- the step gives the pixel up: it takes a block that covers it, and a child finds no direction
  unfoldable pub gives_it_up : Past Block → Bool
  gives_it_up e = takes_over e && any_of ends_stuck e.judgements

  -- the last step that marked the pixel, and the last child there that did
  abbrev pub mark_step : List (Past Block) → ℕ
  mark_step h = latest_number marks_in_step h

  abbrev pub mark_child : List (Past Block) → ℕ
  mark_child h = latest_value marks_in_step (λ e. last_place marks_it e.judgements) 0 h

  -- the last step that gave it up, and the first child there that found no direction
  abbrev pub up_step : List (Past Block) → ℕ
  up_step h = latest_number gives_it_up h

  abbrev pub up_child : List (Past Block) → ℕ
  up_child h = latest_value gives_it_up (λ e. first_place ends_stuck e.judgements) 0 h

  -- the last step that took a block that covers it, and the first covering child there that is false
  abbrev pub taken_step : List (Past Block) → ℕ
  taken_step h = latest_number takes_over h

  abbrev pub false_child : List (Past Block) → ℕ
  false_child h = latest_value takes_over (λ e. first_place denies_it e.judgements) 0 h

  -- the place of the last queued block that covers it
  abbrev pub queued_place : List Block → ℕ
  queued_place q = last_place (λ b. covers b p) q

  -- of a pixel that reads True: that step and that child are the last that marked it; and neither that step nor a later one gave it up, unless
  -- giving up spares
  pub record BlackBy (spare : Bool) (h : List (Past Block)) : Type 0 where
    pub last : Latest marks_in_step h
    pub step_is : mark_step h ≡ suc (length last.before)
    pub child_is : IsLast marks_it last.this.judgements (mark_child h)
    pub not_withdrawn : (spare ≡ true) ⊎ (up_step h < mark_step h)

  -- of a pixel that is given up: that step is the last that gave it up, that child the first there without a direction; and no later step marked it
  pub record GreyBy (h : List (Past Block)) : Type 0 where
    pub last : Latest gives_it_up h
    pub step_is : up_step h ≡ suc (length last.before)
    pub child_is : IsFirst ends_stuck last.this.judgements (up_child h)
    pub not_marked_since : mark_step h ≤ up_step h

  -- of a pixel that reads False: that step took the last covering block, that child is the first covering one answered false there, and EVERY
  -- covering child of that step was answered false; no step marked the pixel or gave it up
  pub record WhiteBy (h : List (Past Block)) : Type 0 where
    pub last : Latest takes_over h
    pub step_is : taken_step h ≡ suc (length last.before)
    pub child_is : IsFirst denies_it last.this.judgements (false_child h)
    pub all_false : Every (λ t. T (covers (judged_child t) p) → AnsweredFalse t) last.this.judgements
    pub never_marked : mark_step h ≡ 0
    pub never_given_up : up_step h ≡ 0

  -- of a pixel that waits for block `number`, where those numbered from `taken` on are queued: it is the last queued block that covers the pixel, and
  -- number - taken stand before it; no step marked the pixel or gave it up
  pub record WaitsFor (h : List (Past Block)) (taken : ℕ) (q : List Block) (number : ℕ) : Type 0 where
    pub not_taken : taken ≤ number
    pub last : IsLast (λ b. covers b p) q (queued_place q)
    pub stand_before : length last.before ≡ number - taken
    pub never_marked : mark_step h ≡ 0
    pub never_given_up : up_step h ≡ 0

  -- a false answer is right as far as this pixel is concerned: no mix of the pixel in the child solves
  unfoldable pub RightHere : (Q : Question Block Pixel) → Judgement Block → Type 0
  RightHere Q (judgement c v f) = f ≡ denied → (x : Q.Mix) → Q.Given x → Q.At x p → Holds covers Q x p c → ¬ Q.Solves x

  -- the same of all judgements of some steps
  unfoldable pub AllRightHere : (Q : Question Block Pixel) → List (Past Block) → Type 0
  AllRightHere Q h = Every (λ e. Every (RightHere Q) e.judgements) h
