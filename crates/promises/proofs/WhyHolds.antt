-- Why a pixel of a real picture reads what it reads, cited from `theory`. Assumes nothing.
use mathlib.Core.Path.{◌≡◌, refl, sym, ap, ◌∙◌, subst}
use mathlib.Core.Logic.{inl, inr, ⊎_elim}
use mathlib.Core.Bool.{Bool, true, false, cond, not, ◌&&◌, ◌||◌, false≢true}
use mathlib.Core.List.{List, [], ◌∷◌, ◌++◌, map}
use Prim.Native.Nat.{ℕ, suc, ◌/◌, ◌%◌, ◌-◌, ◌≤◌, ◌<◌}
use native.Mathlib.Omega.{arith}
use lib.Dec.{T, leb, eqb}
use lib.ListN.{length}
use borrow.Author.Tests.{leb-true, eqb-true}
use Rattle.base.proofs.Test.{T→≡, ≡→T, ¬T→≡, cases, both_of}
use Rattle.base.specs.Lists.{Every, Some}
use Rattle.base.specs.Places.{any_of, first_place, last_place, last_value, IsLast, Latest, latest_number, latest_value}
use Rattle.base.proofs.ListLaws.{every_also, every_of_map, every_map, some_mono}
use Rattle.base.proofs.PlacesNamed.{none_of_any, first_any, first_place_lem, last_place_lem, value_last, number_latest, value_latest, latest_of_any}
use Rattle.base.proofs.PlacesNamed.{latest_of_number, latest_image, latest_one}
use Rattle.theory.specs.Cells.{reads_true, reads_false}
use Rattle.theory.specs.Colours.{Question, HasSolution, Holds, said_false, said_true, said_undecided, denied, judged_child}
use Rattle.theory.specs.Why.{Past, AnsweredFalse, denies_it, takes_over, BlackBy, GreyBy, WhiteBy, WaitsFor, RightHere, AllRightHere}
use Rattle.theory.proofs.Theorems as Theory
use Rattle.theory.proofs.ListLaws.{some_of_map}
use Rattle.image.specs.declared.Reading.TheVariants as R
use Rattle.image.specs.Cell.{Cell, Named, Marked, GivenUp, Other, reading, meanings}
use Rattle.image.specs.Painting.{pixel_cell}
use Rattle.queue.specs.declared.Block.{Block}
use Rattle.decide.specs.declared.Chosen.{Chosen}
use Rattle.decide.specs.declared.verdict.Outcome.{Outcome}
use Rattle.decide.specs.declared.verdict.Outcome.TheVariants as O
use Rattle.decide.specs.Verdict.{result_of, is_marking}
use Rattle.decide.specs.Turn.{Turned}
use Rattle.decide.specs.Turn as T
use Rattle.implicit.specs.Step.{World}
use Rattle.explain.specs.History.{Answered, PastStep}
use Rattle.explain.specs.Reasons.{point_of, turned_in, finds_none, marks_here, denies_here, marks_in, takes_here, gives_up_here}
use Rattle.explain.specs.Reasons.{last_mark, last_point, last_denial, last_giving_up}
use Rattle.promises.specs.Chart.{Pixel, covers_in, queued_blocks}
use Rattle.promises.specs.Steps.{Asked, BegunAs, Steps, reads_in, StandsGivenUp}
use Rattle.promises.specs.Judgements.{said_by, after_turning, becomes}
use Rattle.promises.specs.Mixes.{Measures, Mix, question_of}
use Rattle.promises.specs.Why.{past_in, over_pixel, WhyTrue, WhyFalse, WhyGivenUp, WhyWaiting, RightAnswer, RightAnswers}
use Rattle.promises.proofs.Snapshots.{standing, standing_at}
use Rattle.promises.proofs.Linked.{Reached, begun_reached, begun_accepted, in_theory}
use Rattle.promises.proofs.Demand3.{reads_both, stands}
use Rattle.promises.proofs.Judgements.{cutting_of}
use Rattle.promises.proofs.MixesSplit.{real_cutting}
use Rattle.promises.proofs.ColoursHold.{every_judged, holds_all}
use Rattle.promises.proofs.WhyLinked.{judgement_for, past_of, history_is, denies_in_same, takes_same, mark_is, up_is, taken_is, real_covered}
use Rattle.promises.proofs.WhyPoints.{Pointed, AllPointed, past_pointed, marked_point}

-- ---- false answers

-- what is denied was false by its outcome,
denied_outcome : (next : Block → Turned) (c : Block) (o : Outcome) → becomes next c o ≡ denied → o ≡ O.False
unfolding becomes after_turning
denied_outcome next c O.Skipped e = let z : ◌≡◌ {A = ℕ} 0 1 = cc in absurd (omega arith)
denied_outcome next c O.False e = refl
denied_outcome next c O.Area e = let z : ◌≡◌ {A = ℕ} 0 1 = cc in absurd (omega arith)
denied_outcome next c (O.Point place) e = let z : ◌≡◌ {A = ℕ} 0 1 = cc in absurd (omega arith)
denied_outcome next c (O.Incomplete tried) e = absurd (go (next c) e)
  where
    go : (t : Turned) → ¬ (after_turning t ≡ denied)
    go (T.To d) e = let z : ◌≡◌ {A = ℕ} 0 1 = cc in omega arith
    go T.Nowhere e = let z : ◌≡◌ {A = ℕ} 0 1 = cc in omega arith

-- and a byte that says false has the result 0
false_byte : (rank v : ℕ) → said_by rank v ≡ said_false → result_of v ≡ 0
unfolding said_by
false_byte rank v e =
    eqb-true (v / 64) 0
    (go (eqb (v / 64) 0) (cond (eqb (v / 64) 1) (eqb (v / 32 % 2) 1 && not (eqb (v % 32) 0)) (leb 48 rank || eqb (v / 32 % 2) 1)) e)
  where
    go : (none told : Bool) → cond none said_false (cond told said_true said_undecided) ≡ said_false → none ≡ true
    go true told e = refl
    go false true e = let z : ◌≡◌ {A = ℕ} 0 1 = cc in absurd (omega arith)
    go false false e = let z : ◌≡◌ {A = ℕ} 0 1 = cc in absurd (omega arith)

false_answer : (next : Block → Turned) (a : Answered) → AnsweredFalse (judgement_for next a) → (a.outcome ≡ O.False) × (result_of a.verdict ≡ 0)
unfolding AnsweredFalse
false_answer next a h = (denied_outcome next a.child a.outcome h.0, false_byte a.child.x.rank a.verdict h.1)

-- ---- from the number of the latest to what did not happen

module _ {A : Type 0} (f : A → Bool) where
  none_at_all : (h : List A) → latest_number f h ≡ 0 → Every (λ e. ¬ T (f e)) h
  none_at_all h e = none_of_any f h (cases (any_of f h) (λ t. absurd (there (latest_of_any f h (≡→T t)))) (λ t. t))
    where
      there : ¬ Latest f h
      there o = let z = number_latest f h o in omega (arith, z, e)

  -- if the latest is no later than the rest, none since passes
  none_since : (since rest : List A) → latest_number f (since ++ rest) ≤ length rest → Every (λ e. ¬ T (f e)) since
  unfolding latest_number
  none_since [] rest l = tt
  none_since (a ∷ since) rest l = cases (f a) (λ t. absurd (late t)) (λ t. (failing t, none_since since rest (rw t at l)))
    where
      late : f a ≡ true → ⊥
      late t =
          let k : suc (length (since ++ rest)) ≤ length rest = rw t at l in
          let n = longer since in
          omega (arith, k, n)
        where
          longer : (l : List A) → length rest ≤ length (l ++ rest)
          longer [] = omega arith
          longer (b ∷ l) = let i = longer l in omega (arith, i)

      failing : f a ≡ false → ¬ T (f a)
      failing t u = false≢true (sym t ∙ T→≡ (f a) u)

  -- the same of a step and those since
  none_from : (since : List A) (this : A) (before : List A) → latest_number f (since ++ (this ∷ before)) ≤ length before
      → Every (λ e. ¬ T (f e)) (this ∷ since)
  unfolding latest_number
  none_from since this before l = let n = none_since since (this ∷ before) (omega (arith, l)) in (now since n l, n)
    where
      now : (since : List A) → Every (λ e. ¬ T (f e)) since → latest_number f (since ++ (this ∷ before)) ≤ length before → ¬ T (f this)
      now [] n l t = let k : suc (length before) ≤ length before = rw (T→≡ (f this) t) at l in omega (arith, k)
      now (a ∷ since) n l t = now since n.1 (rw (¬T→≡ (f a) n.0) at l) t

-- the member that is singled out
every_at : {A : Type 0} (P : A → Type 0) (l : List A) (a : A) (r : List A) → Every P (l ++ (a ∷ r)) → P a
every_at P [] a r h = h.0
every_at P (b ∷ l) a r h = every_at P l a r h.1

module _ (p : Chosen) (q : Pixel p) where
  abbrev Marks : PastStep → Bool
  Marks = marks_in p (over_pixel p q)

  abbrev Takes : PastStep → Bool
  Takes = takes_here p (over_pixel p q)

  abbrev Gives : PastStep → Bool
  Gives = gives_up_here p (over_pixel p q)

  -- ---- FALSE

  -- what `theory` says of the step that took the last covering block
  abbrev Denied : Past Block → Type 0
  Denied e = Every (λ t. T (covers_in p (judged_child t) q) → AnsweredFalse t) e.judgements × T (any_of (denies_it (covers_in p) q) e.judgements)

  white_past : (h : List PastStep) → WhiteBy (covers_in p) q (map (past_of p) h) → WhyFalse p q h (last_denial p (over_pixel p q) h)
  unfolding judged_child last_denial
  white_past h t =
      let o = latest_of_number Takes h (let z = taken_is p q h in omega (arith, z, t.step_is)) in
      white_at o
      (latest_image (past_of p) (takes_over (covers_in p) q) Takes (takes_same p q) (λ e b. Denied e) h
      (λ k. (let (i, j) = latest_one (takes_over (covers_in p) q) (map (past_of p) h) t.last k in
      subst Denied i (t.all_false, first_any (denies_it (covers_in p) q) t.last.this.judgements _ t.child_is))) o)
    where
      white_at : (o : Latest Takes h) → Denied (past_of p o.this) → WhyFalse p q h (last_denial p (over_pixel p q) h)
      white_at o (all, one) = record {
        last = o;
        step_is = number_latest Takes h o;
        child_is = rw (value_latest Takes (λ e. first_place (denies_here p (over_pixel p q)) e.answers) 0 h o)
            (first_place_lem (denies_here p (over_pixel p q)) o.this.answers (≡→T (sym (denies_in_same p q o.this) ∙ T→≡ _ one)));
        all_false =
            every_also (λ a. T (covers_in p a.child q) → AnsweredFalse (judgement_for (turned_in p o.this) a))
            (λ a. T (covers_in p a.child q) → (a.outcome ≡ O.False) × (result_of a.verdict ≡ 0))
            (λ a f c. false_answer (turned_in p o.this) a (f c)) o.this.answers
            (every_of_map (λ t. T (covers_in p (judged_child t) q) → AnsweredFalse t) (judgement_for (turned_in p o.this)) o.this.answers all);
        never_marked = none_at_all Marks h (sym (mark_is p q h) ∙ t.never_marked);
        never_given_up = none_at_all Gives h (sym (up_is p q h) ∙ t.never_given_up);
      }

  -- ---- TRUE

  black_past : (h : List PastStep) → AllPointed h → BlackBy (covers_in p) q false (map (past_of p) h)
      → WhyTrue p q h (last_mark p (over_pixel p q) h) (last_point p (over_pixel p q) h)
  unfolding last_mark last_point
  black_past h sound t =
      let at = mark_is p q h in
      let up = up_is p q h in
      let o = latest_of_number Marks h (omega (arith, at, t.step_is)) in
      black_at o (last_place_lem (marks_here p (over_pixel p q)) o.this.answers (unfold marks_in in o.such))
      (⊎_elim (λ e. absurd (false≢true e)) (λ l. omega (arith, at, up, l)) t.not_withdrawn)
    where
      Here : Answered → Bool
      Here = marks_here p (over_pixel p q)

      PointIn : PastStep → ℕ
      PointIn e = last_value Here (λ a. point_of a.outcome) 0 e.answers

      black_at : (o : Latest Marks h) → IsLast Here o.this.answers (last_place Here o.this.answers)
          → latest_number Gives h < latest_number Marks h → WhyTrue p q h (last_mark p (over_pixel p q) h) (last_point p (over_pixel p q) h)
      black_at o i l =
          let n = number_latest Marks h o in
          let point : latest_value Marks PointIn 0 h ≡ point_of i.this.outcome =
          value_latest Marks PointIn 0 h o ∙ value_last Here (λ a. point_of a.outcome) 0 o.this.answers _ i in
          let answers : Every Pointed o.this.answers =
          every_at (λ e. Every Pointed e.answers) o.since o.this o.before (rw o.in_order at sound) in
          let ups : latest_number Gives (o.since ++ (o.this ∷ o.before)) ≡ latest_number Gives h = ap (latest_number Gives) (sym o.in_order) in
          record {
            last = o;
            step_is = n;
            child_is = record {
              before = i.before;
              this = i.this;
              behind = i.behind;
              in_order = i.in_order;
              number = value_latest Marks (λ e. last_place Here e.answers) 0 h o ∙ i.number;
              such = i.such;
              none_behind = i.none_behind;
            };
            marked_by = rw point
                (marked_point i.this.outcome
                (both_of (is_marking i.this.outcome) (covers_in p i.this.child q) (unfold marks_here in i.such)).0
                (every_at Pointed i.before i.this i.behind (rw i.in_order at answers)));
            not_withdrawn = none_from Gives o.since o.this o.before (omega (arith, ups, n, l));
          }

  -- ---- GIVEN UP

  grey_past : (h : List PastStep) → GreyBy (covers_in p) q (map (past_of p) h) → WhyGivenUp p q h (last_giving_up p (over_pixel p q) h)
  unfolding last_giving_up
  grey_past h t =
      let at = mark_is p q h in
      let up = up_is p q h in
      let o = latest_of_number Gives h (omega (arith, up, t.step_is)) in
      let n = number_latest Gives h o in
      let marks : latest_number Marks (o.since ++ (o.this ∷ o.before)) ≡ latest_number Marks h = ap (latest_number Marks) (sym o.in_order) in
      record {
        last = o;
        step_is = n;
        child_is = rw (value_latest Gives (λ e. first_place (finds_none p e) e.answers) 0 h o)
            (first_place_lem (finds_none p o.this) o.this.answers
            (both_of (covers_in p o.this.block q) (any_of (finds_none p o.this) o.this.answers) (unfold gives_up_here in o.such)).1);
        not_marked_since = none_since Marks o.since (o.this ∷ o.before) (omega (arith, marks, n, at, up, t.not_marked_since));
      }

module _ (a : Asked) {w₀ : World} (z : BegunAs a w₀) where
  abbrev p : Chosen
  p = a.chosen

  pub false_why : {n : ℕ} {w : World} (r : Steps n w₀ w) (q : Pixel p) → reads_in p w q ≡ R.False
      → WhyFalse p q (past_in r) (last_denial p (over_pixel p q) (past_in r))
  false_why {w = w} r q e =
      let h = begun_reached a w₀ z in
      white_past p q (past_in r)
      (subst (WhiteBy (covers_in p) q) (history_is p h r)
      (Theory.why_false (covers_in p) (cutting_of p) (real_covered p) false (begun_accepted a w₀ z) (in_theory p h r) (every_judged p h r) q
      ((reads_both p w q reads_false).0 e)))

  pub true_why : {n : ℕ} {w : World} (r : Steps n w₀ w) (q : Pixel p) → reads_in p w q ≡ R.True
      → WhyTrue p q (past_in r) (last_mark p (over_pixel p q) (past_in r)) (last_point p (over_pixel p q) (past_in r))
  true_why {w = w} r q e =
      let h = begun_reached a w₀ z in
      black_past p q (past_in r) (past_pointed r)
      (subst (BlackBy (covers_in p) q false) (history_is p h r)
      (Theory.why_true (covers_in p) (cutting_of p) (real_covered p) false (begun_accepted a w₀ z) (in_theory p h r) (every_judged p h r) q
      ((reads_both p w q reads_true).0 e)))

  pub given_up_why : {n : ℕ} {w : World} (r : Steps n w₀ w) (q : Pixel p) → StandsGivenUp p w q
      → WhyGivenUp p q (past_in r) (last_giving_up p (over_pixel p q) (past_in r))
  given_up_why {w = w} r q e =
      let h = begun_reached a w₀ z in
      grey_past p q (past_in r)
      (subst (GreyBy (covers_in p) q) (history_is p h r)
      (Theory.why_given_up (covers_in p) (cutting_of p) (real_covered p) false (begun_accepted a w₀ z) (in_theory p h r) (every_judged p h r) q
      ((stands a z r q).0 e)))

  -- ---- WAITING

  waits_past : {w : World} (q : Pixel p) (h : List PastStep) (m : ℕ) → pixel_cell p.width p.height q.x q.y (meanings w.cells) ≡ Named m
      → WaitsFor (covers_in p) q (map (past_of p) h) w.state.taken (queued_blocks w) m
      → (block : Block) × WhyWaiting p q h w m (m - w.state.taken) block
  waits_past {w} q h m e t =
      let o = t.last in (
        o.this,
        record {
          cell_is = e;
          not_taken = t.not_taken;
          last = record {
            before = o.before;
            this = o.this;
            behind = o.behind;
            in_order = o.in_order;
            number = ap suc (sym t.stand_before);
            such = o.such;
            none_behind = o.none_behind;
          };
          stand_before = refl;
          block_is = refl;
          never_marked = none_at_all (Marks p q) h (sym (mark_is p q h) ∙ t.never_marked);
          never_given_up = none_at_all (Gives p q) h (sym (up_is p q h) ∙ t.never_given_up);
        },
      )

  -- a number that was not taken yet
  pub waiting_at : {n : ℕ} {w : World} (r : Steps n w₀ w) (q : Pixel p) (m : ℕ)
      → pixel_cell p.width p.height q.x q.y (meanings w.cells) ≡ Named m → w.state.taken ≤ m
      → (block : Block) × WhyWaiting p q (past_in r) w m (m - w.state.taken) block
  waiting_at {w = w} r q m e l =
      let h = begun_reached a w₀ z in
      waits_past q (past_in r) m e
      (subst (λ (past : List (Past Block)). WaitsFor (covers_in p) q past w.state.taken (queued_blocks w) m) (history_is p h r)
      (Theory.why_waiting (covers_in p) (cutting_of p) (real_covered p) false (begun_accepted a w₀ z) (in_theory p h r) (every_judged p h r) q m
      (unfold standing_at standing in ap standing e) l))

  pub waiting_why : {n : ℕ} {w : World} (r : Steps n w₀ w) (q : Pixel p) → reads_in p w q ≡ R.Uncertain → ¬ StandsGivenUp p w q
      → (number : ℕ) × (block : Block) × WhyWaiting p q (past_in r) w number (number - w.state.taken) block
  waiting_why {w = w} r q e k = go (pixel_cell p.width p.height q.x q.y (meanings w.cells)) refl (unfold reads_in in e)
    where
      go : (c : Cell) → pixel_cell p.width p.height q.x q.y (meanings w.cells) ≡ c → reading w.state.taken c ≡ R.Uncertain
          → (number : ℕ) × (block : Block) × WhyWaiting p q (past_in r) w number (number - w.state.taken) block
      go (Named m) f g =
          let (b, y) = waiting_at r q m f (leb-true w.state.taken m (untaken (leb w.state.taken m) (unfold reading in g))) in (m, b, y)
        where
          untaken : (t : Bool) → cond t R.Uncertain R.False ≡ R.Uncertain → t ≡ true
          untaken true e = refl
          untaken false e = cc
      go Marked f g = absurd (let y : R.True ≡ R.Uncertain = unfold reading in g in let x : ◌≡◌ {A = ℕ} 0 1 = cc in omega arith)
      go GivenUp f g = absurd (k f)
      go (Other m) f g = absurd (k ((stands a z r q).1 (unfold standing_at standing in ap standing f)))

-- ---- what white by that step means

module _ (M : Measures) (Solves : Mix M → Type 0) (a : Asked) {w₀ : World} (z : BegunAs a w₀) where
  abbrev pic : Chosen
  pic = a.chosen

  abbrev Q : Question Block (Pixel pic)
  Q = question_of M pic a.ranges Solves

  -- right answers in both words
  right_answer : (q : Pixel pic) (next : Block → Turned) (b : Answered) → RightAnswer pic q Q b → RightHere (covers_in pic) q Q (judgement_for next b)
  unfolding RightAnswer RightHere
  right_answer q next b f e = f (denied_outcome next b.child b.outcome e)

  right_step : (q : Pixel pic) (e : PastStep) → Every (RightAnswer pic q Q) e.answers
      → Every (RightHere (covers_in pic) q Q) (past_of pic e).judgements
  right_step q e h =
      every_map (RightAnswer pic q Q) (RightHere (covers_in pic) q Q) (judgement_for (turned_in pic e)) (right_answer q (turned_in pic e)) e.answers h

  right_steps : (q : Pixel pic) (h : List PastStep) → RightAnswers pic q Q h → AllRightHere (covers_in pic) q Q (map (past_of pic) h)
  unfolding AllRightHere
  right_steps q h k =
      every_map (λ e. Every (RightAnswer pic q Q) e.answers) (λ e. Every (RightHere (covers_in pic) q Q) e.judgements) (past_of pic)
      (right_step q) h k

  pub left_why : {n : ℕ} {w : World} (r : Steps n w₀ w) (q : Pixel pic) → reads_in pic w q ≡ R.False
      → (o : Latest (takes_here pic (over_pixel pic q)) (past_in r)) → RightAnswers pic q Q o.before
      → (x : Q.Mix) → Q.Given x → Q.At x q → Q.Solves x
      → Some (λ b. (b.outcome ≡ O.False) × Holds (covers_in pic) Q x q b.child) o.this.answers
  unfolding judged_child
  left_why {w = w} r q e o right x g at so =
      some_mono (λ b. AnsweredFalse (judgement_for (turned_in pic o.this) b) × Holds (covers_in pic) Q x q b.child)
      (λ b. (b.outcome ≡ O.False) × Holds (covers_in pic) Q x q b.child) o.this.answers
      (λ b k. ((false_answer (turned_in pic o.this) b k.0).0, k.1))
      (some_of_map (λ t. AnsweredFalse t × Holds (covers_in pic) Q x q (judged_child t)) (judgement_for (turned_in pic o.this)) o.this.answers
      (latest_image (past_of pic) (takes_over (covers_in pic) q) (takes_here pic (over_pixel pic q)) (takes_same pic q) Left (past_in r)
      (subst (λ (past : List (Past Block)). (k : Latest (takes_over (covers_in pic) q) past) → Left k.this k.before) (history_is pic h r)
      (Theory.left_in_false_children (covers_in pic) (cutting_of pic) (real_covered pic) false Q (real_cutting M pic a.ranges Solves)
      (begun_accepted a w₀ z) (holds_all M Solves a z) (in_theory pic h r) (every_judged pic h r) q ((reads_both pic w q reads_false).0 e)))
      o (right_steps q o.before right) x g at so))
    where
      h : Reached pic w₀
      h = begun_reached a w₀ z

      Left : Past Block → List (Past Block) → Type 0
      Left e b =
          AllRightHere (covers_in pic) q Q b → (x : Q.Mix) → Q.Given x → Q.At x q → Q.Solves x
          → Some (λ t. AnsweredFalse t × Holds (covers_in pic) Q x q (judged_child t)) e.judgements

  -- so it holds no solution, if the false answers up to that step were right about it
  pub none_why : {n : ℕ} {w : World} (r : Steps n w₀ w) (q : Pixel pic) → reads_in pic w q ≡ R.False
      → (o : Latest (takes_here pic (over_pixel pic q)) (past_in r)) → RightAnswers pic q Q (o.this ∷ o.before) → ¬ HasSolution Q q
  unfolding HasSolution Some RightAnswer
  none_why r q e o right (x, g, at, so) = go o.this.answers right.0 (left_why r q e o right.1 x g at so)
    where
      go : (l : List Answered) → Every (RightAnswer pic q Q) l → ¬ Some (λ b. (b.outcome ≡ O.False) × Holds (covers_in pic) Q x q b.child) l
      go [] h k = k
      go (b ∷ l) h (inl i) = h.0 i.0 x g at i.1 so
      go (b ∷ l) h (inr i) = go l h.1 i
