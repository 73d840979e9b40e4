-- What stands in a cell, by the step that marked its pixel last and the step that gave it up last. True: it was marked, and not given up then or
-- since, or giving up spares. Given up: it was given up, and not marked since. A number: neither ever happened. Assumes nothing.
use mathlib.Core.Path.{◌≡◌, refl, sym, ap, ◌∙◌}
use mathlib.Core.Logic.{◌⊎◌, inl, inr}
use mathlib.Core.Bool.{Bool, true, false, cond, ◌&&◌, ◌||◌}
use mathlib.Core.List.{List, [], ◌∷◌, ◌++◌}
use Prim.Native.Nat.{ℕ, suc, ◌+◌, ◌≤◌, ◌<◌}
use native.Mathlib.Omega.{arith}
use lib.Dec.{leb}
use lib.ListN.{length}
use Rattle.base.specs.Places.{any_of, latest_number}
use Rattle.base.proofs.PlacesNamed.{number_bound}
use Rattle.theory.specs.Cells.{Standing, marked_true, given_up, named, renamed, after_giving_up}
use Rattle.theory.specs.Runs.{Snapshot, Event, AcceptedSetup, cell_after, FinishedStep, FinishedSteps, no_step, one_more, EveryStep}
use Rattle.theory.specs.Colours.{skipped, denied, marked, waits_as, stuck, Judgement, judgement, judged_child, marks_in_order, afterwards}
use Rattle.theory.specs.Colours.{Cutting, StepByVerdicts}
use Rattle.theory.specs.Why.{Past, history_of, ends_marked, ends_stuck, marks_it, marks_in_step, gives_it_up, mark_step, up_step}

-- a standing without its number
pub data Kind : Type 0 where
  kind_true kind_up kind_number : Kind

unfoldable pub kind_of : Standing → Kind
kind_of marked_true = kind_true
kind_of given_up = kind_up
kind_of (named n) = kind_number

-- after a step that gives up, or does not
unfoldable after_up : Bool → Bool → Kind → Kind
after_up spare false k = k
after_up spare true kind_true = cond spare kind_true kind_up
after_up spare true kind_up = kind_up
after_up spare true kind_number = kind_up

mark_twice : (k any : Bool) (v : Standing) → cond any marked_true (cond k marked_true v) ≡ cond (k || any) marked_true v
mark_twice true true v = refl
mark_twice true false v = refl
mark_twice false any v = refl

kind_mark : (k : Bool) (v : Standing) → kind_of (cond k marked_true v) ≡ cond k kind_true (kind_of v)
unfolding kind_of
kind_mark true v = refl
kind_mark false v = refl

kind_queue : (k : Bool) (t m : ℕ) (v : Standing) → kind_of (cond k (renamed t m v) v) ≡ kind_of v
unfolding kind_of renamed
kind_queue false t m v = refl
kind_queue true t m marked_true = refl
kind_queue true t m given_up = refl
kind_queue true t m (named n) = go (leb t n)
  where
    go : (j : Bool) → kind_of (cond j (named m) (named n)) ≡ kind_number
    go true = refl
    go false = refl

kind_give : (k spare : Bool) (v : Standing) → kind_of (cond k (after_giving_up spare v) v) ≡ after_up spare k (kind_of v)
unfolding kind_of after_up after_giving_up
kind_give false spare v = refl
kind_give true true marked_true = refl
kind_give true false marked_true = refl
kind_give true spare given_up = refl
kind_give true spare (named n) = refl

-- to give up again changes nothing
up_twice : (spare k any : Bool) (c : Kind) → after_up spare (k && any) (after_up spare k c) ≡ after_up spare (k && true) c
unfolding after_up
up_twice spare false any c = refl
up_twice spare true false c = refl
up_twice true true true kind_true = refl
up_twice false true true kind_true = refl
up_twice spare true true kind_up = refl
up_twice spare true true kind_number = refl

up_never : (spare k : Bool) (c : Kind) → after_up spare (k && false) c ≡ c
unfolding after_up
up_never spare true c = refl
up_never spare false c = refl

-- what the kind of a cell says of the step that marked its pixel last and of the step that gave it up last
unfoldable pub Told : Bool → Kind → ℕ → ℕ → Type 0
Told spare kind_true mark up = (0 < mark) × ((spare ≡ true) ⊎ (up < mark))
Told spare kind_up mark up = (0 < up) × (mark ≤ up)
Told spare kind_number mark up = (mark ≡ 0) × (up ≡ 0)

told_step : (spare m u : Bool) (c : Kind) (n mark up : ℕ) → mark ≤ n → up ≤ n → Told spare c mark up
    → Told spare (after_up spare u (cond m kind_true c)) (cond m (suc n) mark) (cond u (suc n) up)
unfolding Told after_up
told_step spare false false c n mark up a b h = h
told_step spare true false c n mark up a b h = (omega arith, inr (omega arith))
told_step true false true kind_true n mark up a b h = (h.0, inl refl)
told_step false false true kind_true n mark up a b h = (omega arith, omega arith)
told_step spare false true kind_up n mark up a b h = (omega arith, omega arith)
told_step spare false true kind_number n mark up a b h = (omega arith, omega arith)
told_step true true true c n mark up a b h = (omega arith, inl refl)
told_step false true true c n mark up a b h = (omega arith, omega arith)

module _ {Block Pixel : Type 0} (covers : Block → Pixel → Bool) (spare : Bool) where
  -- the marks of a step: the pixel is True if one of them is about it
  marks_phase : (ts : List (Judgement Block)) (t : ℕ) (b : Block) (m : ℕ) (rest : List (Event Block)) (p : Pixel) (v : Standing)
      → cell_after covers spare t b m (marks_in_order ts ++ rest) p v
      ≡ cell_after covers spare t b m rest p (cond (any_of (marks_it covers p) ts) marked_true v)
  unfolding marks_in_order cell_after any_of marks_it ends_marked judged_child
  marks_phase [] t b m rest p v = refl
  marks_phase (judgement c u skipped ∷ ts) t b m rest p v = marks_phase ts t b m rest p v
  marks_phase (judgement c u denied ∷ ts) t b m rest p v = marks_phase ts t b m rest p v
  marks_phase (judgement c u marked ∷ ts) t b m rest p v =
      marks_phase ts t b m rest p (cond (covers c p) marked_true v)
      ∙ ap (λ (w : Standing). cell_after covers spare t b m rest p w) (mark_twice (covers c p) (any_of (marks_it covers p) ts) v)
  marks_phase (judgement c u (waits_as d) ∷ ts) t b m rest p v = marks_phase ts t b m rest p v
  marks_phase (judgement c u stuck ∷ ts) t b m rest p v = marks_phase ts t b m rest p v

  -- and afterwards
  after_phase : (ts : List (Judgement Block)) (t : ℕ) (b : Block) (m : ℕ) (p : Pixel) (v : Standing)
      → kind_of (cell_after covers spare t b m (afterwards ts) p v) ≡ after_up spare (covers b p && any_of ends_stuck ts) (kind_of v)
  unfolding afterwards cell_after any_of ends_stuck
  after_phase [] t b m p v = sym (up_never spare (covers b p) (kind_of v))
  after_phase (judgement c u skipped ∷ ts) t b m p v = after_phase ts t b m p v
  after_phase (judgement c u denied ∷ ts) t b m p v = after_phase ts t b m p v
  after_phase (judgement c u marked ∷ ts) t b m p v = after_phase ts t b m p v
  after_phase (judgement c u (waits_as d) ∷ ts) t b m p v =
      after_phase ts t b (suc m) p (cond (covers d p) (renamed t m v) v)
      ∙ ap (after_up spare (covers b p && any_of ends_stuck ts)) (kind_queue (covers d p) t m v)
  after_phase (judgement c u stuck ∷ ts) t b m p v =
      after_phase ts t b m p (cond (covers b p) (after_giving_up spare v) v)
      ∙ ap (after_up spare (covers b p && any_of ends_stuck ts)) (kind_give (covers b p) spare v)
      ∙ up_twice spare (covers b p) (any_of ends_stuck ts) (kind_of v)

  module _ (C : Cutting Block) where
    -- a step by its verdicts
    step_kind : {s s' : Snapshot Block Pixel} (st : FinishedStep covers spare s s') (j : StepByVerdicts covers C spare s s' st) (p : Pixel)
        → kind_of (s'.cells p)
        ≡ after_up spare (gives_it_up covers p record { block = st.front; judgements = j.judgements })
        (cond (any_of (marks_it covers p) j.judgements) kind_true (kind_of (s.cells p)))
    unfolding gives_it_up
    step_kind {s} st j p =
        let ts = j.judgements in
        let t = s.taken in
        let m = s.taken + length s.queue in
        ap kind_of (st.cells' p ∙ rw j.these_events (marks_phase ts t st.front m (afterwards ts) p (s.cells p)))
        ∙ after_phase ts t st.front m p (cond (any_of (marks_it covers p) ts) marked_true (s.cells p))
        ∙ ap (after_up spare (covers st.front p && any_of ends_stuck ts)) (kind_mark (any_of (marks_it covers p) ts) (s.cells p))

    -- a run
    pub told : {n : ℕ} {s₀ s : Snapshot Block Pixel} → AcceptedSetup covers s₀ → (r : FinishedSteps covers spare n s₀ s)
        (j : EveryStep covers spare (StepByVerdicts covers C spare) r) (p : Pixel)
        → Told spare (kind_of (s.cells p)) (mark_step covers p (history_of covers C spare r j)) (up_step covers p (history_of covers C spare r j))
    unfolding EveryStep history_of latest_number
    told z no_step j p = rw (z.name_last p) (unfold kind_of Told in (refl, refl))
    told z (one_more r st) j p =
        let h = history_of covers C spare r j.0 in
        let e : Past Block = record { block = st.front; judgements = j.1.judgements } in
        rw (step_kind st j.1 p)
        (told_step spare (marks_in_step covers p e) (gives_it_up covers p e) (kind_of _) (length h) (mark_step covers p h) (up_step covers p h)
        (number_bound (marks_in_step covers p) h) (number_bound (gives_it_up covers p) h) (told z r j.0 p))
