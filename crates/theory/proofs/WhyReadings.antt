-- The reason of each reading. False: the last step that took a covering block answered every covering child false, and one there was; and whatever
-- solution the earlier answers left in the pixel lies in those children. Waiting: the named block is the last queued one that covers the pixel.
-- True and given up: the last mark and the last giving up. Assumes nothing.
use mathlib.Core.Path.{◌≡◌, refl, sym, ap, ◌∙◌, subst}
use mathlib.Core.Logic.{◌⊎◌, ⊎_elim}
use mathlib.Core.Bool.{Bool, true, false, cond}
use mathlib.Core.List.{List, [], ◌∷◌, ◌++◌}
use Prim.Native.Nat.{ℕ, zero, suc, ◌+◌, ◌-◌, ◌≤◌, ◌<◌}
use native.Mathlib.Omega.{arith}
use lib.Dec.{T}
use lib.ListN.{length}
use Rattle.base.proofs.Test.{T→≡, ≡→T, cases, of_both, both_of}
use Rattle.base.specs.Lists.{Every, Some}
use Rattle.base.specs.Places.{any_of, first_place, last_place, Latest}
use Rattle.base.proofs.PlacesNamed.{any_of_some, first_place_lem, last_place_lem, last_number, number_latest, value_latest}
use Rattle.base.proofs.PlacesNamed.{latest_of_number, latest_one}
use Rattle.theory.specs.Cells.{Standing, marked_true, given_up, named, reads_true, reads_false}
use Rattle.theory.specs.Runs.{Snapshot, Event, queued_by, AcceptedSetup, cell_after, FinishedStep, FinishedSteps, no_step, one_more, EveryStep}
use Rattle.theory.specs.Demand3.{pixel_reads, any_gives_up, NoneCovers, covers_at_place}
use Rattle.theory.specs.Colours.{Question, HasSolution, Holds, HoldsAll, skipped, denied, marked, waits_as, stuck, Judgement, judgement}
use Rattle.theory.specs.Colours.{judged_child, marks_in_order, afterwards, Cutting, Follows, AllTrue, SkipRule, LosesNothing, StepByVerdicts}
use Rattle.theory.specs.Why.{Past, history_of, ends_denied, ends_stuck, AnsweredFalse, KeepsCovered, marks_it, denies_it, takes_over, marks_in_step}
use Rattle.theory.specs.Why.{gives_it_up, mark_step, up_step, BlackBy, GreyBy, WhiteBy, WaitsFor, RightHere, AllRightHere}
use Rattle.theory.proofs.ListLaws.{every_left, every_right, some_with, none_with, some_of_map}
use Rattle.theory.proofs.Nameless.{Nameless}
use Rattle.theory.proofs.StandingLaws.{reads_true_lem, reads_false_lem, nameless_stays, step_nameless, step_unnames}
use Rattle.theory.proofs.Invariant.{AllSound, setup_sound, steps_sound, sound_named}
use Rattle.theory.proofs.FalseRule.{none_of, false_by_cell, elsewhere}
use Rattle.theory.proofs.JudgementLaws.{denied_ends, queued_afterwards, given_up_afterwards}
use Rattle.theory.proofs.WhiteMeansNo.{Kept, kept_steps, kept_setup}
use Rattle.theory.proofs.WhyCells.{kind_of, Told, told}

-- the latest step of a history, with what is known of it and of those before it
module _ {A : Type 0} (f : A → Bool) (P : A → List A → Type 0) where
  now_with : (a : A) (h : List A) → T (f a) → P a h → (o : Latest f (a ∷ h)) × P o.this o.before
  now_with a h t k = (record { since = []; this = a; before = h; in_order = refl; such = t; none_since = tt }, k)

  older_with : (a : A) (h : List A) → ¬ T (f a) → (o : Latest f h) × P o.this o.before → (o : Latest f (a ∷ h)) × P o.this o.before
  older_with a h n (o, k) = (
    record {
      since = a ∷ o.since;
      this = o.this;
      before = o.before;
      in_order = ap (λ (m : List A). a ∷ m) o.in_order;
      such = o.such;
      none_since = (n, o.none_since);
    },
    k,
  )

denied_is : {Block : Type 0} (t : Judgement Block) → AnsweredFalse t → T (ends_denied t)
unfolding AnsweredFalse
denied_is (judgement c v f) h = denied_ends c v f h.0

module _ {Block Pixel : Type 0} (covers : Block → Pixel → Bool) (C : Cutting Block) (laws : KeepsCovered covers C) (spare : Bool) where
  -- the steps, each by its verdicts, and their history
  abbrev Judged : {n : ℕ} {s s' : Snapshot Block Pixel} → FinishedSteps covers spare n s s' → Type 0
  Judged r = EveryStep covers spare (StepByVerdicts covers C spare) r

  abbrev History : {n : ℕ} {s s' : Snapshot Block Pixel} (r : FinishedSteps covers spare n s s') → Judged r → List (Past Block)
  History r j = history_of covers C spare r j

  -- ---- FALSE

  -- every child that covers the pixel was answered false
  abbrev AllFalse : Pixel → List (Judgement Block) → Type 0
  AllFalse p ts = Every (λ t. T (covers (judged_child t) p) → AnsweredFalse t) ts

  -- a mix of the pixel lies in a child that was answered false
  abbrev FalseHolds : (Q : Question Block Pixel) → Pixel → Q.Mix → Judgement Block → Type 0
  FalseHolds Q p x t = AnsweredFalse t × Holds covers Q x p (judged_child t)

  -- a covering child that is not answered false marks the pixel, or is queued over it, or its step gives up
  all_denied : (ts : List (Judgement Block)) (p : Pixel) → Every (Follows C) ts
      → (t : ℕ) (b : Block) (m : ℕ) (rest : List (Event Block)) (cells : Pixel → Standing) → SkipRule covers cells ts
      → ¬ Nameless (cell_after covers spare t b m (marks_in_order ts ++ rest) p (cells p)) → ¬ T (any_gives_up (afterwards ts))
      → NoneCovers covers (queued_by (afterwards ts)) p
      → AllFalse p ts
  unfolding judged_child Follows SkipRule AllTrue marks_in_order afterwards queued_by any_gives_up cell_after NoneCovers AnsweredFalse
  all_denied [] p f t b m rest cells k n g q = tt
  all_denied (judgement c v skipped ∷ ts) p f t b m rest cells k n g q = (
    (λ u. absurd (n (nameless_stays covers spare t b m (marks_in_order ts ++ rest) p (cells p) (rw (k.0 p u) tt)))),
    all_denied ts p f.1 t b m rest cells k.1 n g q,
  )
  all_denied (judgement c v denied ∷ ts) p f t b m rest cells k n g q = ((λ u. (refl, f.0)), all_denied ts p f.1 t b m rest cells k.1 n g q)
  all_denied (judgement c v marked ∷ ts) p f t b m rest cells k n g q = (
    (λ u. absurd (n (nameless_stays covers spare t b m (marks_in_order ts ++ rest) p (cond (covers c p) marked_true (cells p))
        (rw (T→≡ (covers c p) u) tt)))),
    all_denied ts p f.1 t b m rest (λ q. cond (covers c q) marked_true (cells q)) k.1 n g q,
  )
  all_denied (judgement c v (waits_as d) ∷ ts) p f t b m rest cells k n g q =
      ((λ u. absurd (q.0 (rw (laws.same_covers c d p f.0.1) u))), all_denied ts p f.1 t b m rest cells k.1 n g q.1)
  all_denied (judgement c v stuck ∷ ts) p f t b m rest cells k n g q = absurd (g tt)

  -- a step after which the pixel reads False, and which took a block that covers it
  module _ {s s' : Snapshot Block Pixel} (sound' : AllSound covers s') (st : FinishedStep covers spare s s')
      (j : StepByVerdicts covers C spare s s' st) (p : Pixel) (e : pixel_reads s' p ≡ reads_false) (c : T (covers st.front p)) where
    named_still : ¬ Nameless (s'.cells p)
    named_still h =
        let (n, f, l) = (reads_false_lem s'.taken (s'.cells p)).0 (unfold pixel_reads in e) in
        let z : Nameless (named n) = rw f at h in z

    none_left : NoneCovers covers (st.rest ++ queued_by st.events) p
    none_left = rw (← st.queue') ((false_by_cell covers s' sound' p).0 e).2

    none_rest : NoneCovers covers st.rest p
    unfolding NoneCovers
    none_rest = every_left (λ b. ¬ T (covers b p)) st.rest (queued_by st.events) none_left

    none_new : NoneCovers covers (queued_by (afterwards j.judgements)) p
    unfolding NoneCovers
    none_new =
        rw (← queued_afterwards j.judgements (afterwards j.judgements), ← j.these_events)
        (every_right (λ b. ¬ T (covers b p)) st.rest (queued_by st.events) none_left)

    all_were : AllFalse p j.judgements
    all_were =
        let ts = j.judgements in
        all_denied ts p j.by_verdict s.taken st.front (s.taken + length s.queue) (afterwards ts) s.cells j.skip_rule
        (λ h. named_still (rw (st.cells' p, j.these_events) h))
        (λ h. named_still (step_unnames covers spare st p (rw (j.these_events, given_up_afterwards ts (afterwards ts)) h) c)) none_new

    one_was : Some (λ t. T (denies_it covers p t)) j.judgements
    one_was =
        some_with (λ t. T (covers (judged_child t) p) → AnsweredFalse t) (λ t. T (covers (judged_child t) p)) (λ t. T (denies_it covers p t))
        j.judgements
        (λ t a k. unfold denies_it in of_both (ends_denied t) (covers (judged_child t) p) (denied_is t (a k)) k) all_were
        (some_of_map (λ d. T (covers d p)) judged_child j.judgements (rw j.each_child (laws.split_covers st.front p j.checked c)))

    -- it named a block before
    named_before : (n : ℕ) × (s.cells p ≡ named n)
    named_before = go (s.cells p) refl
      where
        go : (v : Standing) → s.cells p ≡ v → (n : ℕ) × (s.cells p ≡ named n)
        go marked_true f = absurd (named_still (step_nameless covers spare st p (rw f tt)))
        go given_up f = absurd (named_still (step_nameless covers spare st p (rw f tt)))
        go (named n) f = (n, f)

    -- every solution that the earlier answers left lies in those children
    module _ (Q : Question Block Pixel) (lose : LosesNothing covers C Q) where
      in_front : (x : Q.Mix) → Some (Holds covers Q x p) s.queue → Holds covers Q x p st.front
      unfolding Some Holds NoneCovers
      in_front x h =
          ⊎_elim (λ k. k) (λ k. absurd (none_with (λ b. ¬ T (covers b p)) (Holds covers Q x p) st.rest (λ b n k. n k.1) none_rest k))
          (rw st.at_front at h)

      left_in : Kept covers C Q lose spare p s → (x : Q.Mix) → Q.Given x → Q.At x p → Q.Solves x
          → Some (FalseHolds Q p x) j.judgements
      unfolding Kept
      left_in h x g at so =
          some_with (λ t. T (covers (judged_child t) p) → AnsweredFalse t) (λ t. Holds covers Q x p (judged_child t)) (FalseHolds Q p x) j.judgements
          (λ t a k. (a (unfold Holds in k.1), k)) all_were
          (some_of_map (Holds covers Q x p) judged_child j.judgements
          (rw j.each_child (lose.split st.front x p j.checked g at (in_front x (h named_before.0 named_before.1 x g at so)))))

  -- the last covering step of a run, with what is known of such a step
  last_covering : {n : ℕ} {s₀ s : Snapshot Block Pixel} → AcceptedSetup covers s₀ → (r : FinishedSteps covers spare n s₀ s)
      (j : Judged r) (p : Pixel) → pixel_reads s p ≡ reads_false
      → (P : Past Block → List (Past Block) → Type 0)
      → ((m : ℕ) (v v' : Snapshot Block Pixel) (q : FinishedSteps covers spare m s₀ v) (i : Judged q)
      (st : FinishedStep covers spare v v') (k : StepByVerdicts covers C spare v v' st) → pixel_reads v' p ≡ reads_false → T (covers st.front p)
      → P record { block = st.front; judgements = k.judgements } (History q i))
      → (o : Latest (takes_over covers p) (History r j)) × P o.this o.before
  unfolding EveryStep history_of
  last_covering {s₀ = s₀} z no_step j p e P f =
      absurd (let (n, g, l) = (reads_false_lem s₀.taken (s₀.cells p)).0 (unfold pixel_reads in e) in omega (arith, l, z.none_taken))
  last_covering z (one_more r st) j p e P f = cases (covers st.front p)
      (λ k. now_with (takes_over covers p) P record { block = st.front; judgements = j.1.judgements } (History r j.0) (≡→T k)
      (f _ _ _ r j.0 st j.1 e (≡→T k)))
      (λ k. (let n : ¬ T (covers st.front p) = (λ u. (let z : T false = rw k at u in z)) in
      older_with (takes_over covers p) P record { block = st.front; judgements = j.1.judgements } (History r j.0) n
      (last_covering z r j.0 p (sym (elsewhere covers spare (steps_sound covers spare r (setup_sound covers z)) st p n) ∙ e) P f)))

  -- the same of whatever is singled out as the latest
  of_latest : (f : Past Block → Bool) (P : Past Block → List (Past Block) → Type 0) (h : List (Past Block))
      → (o : Latest f h) × P o.this o.before → (o : Latest f h) → P o.this o.before
  of_latest f P h (o, k) o' =
      let (a, b) = latest_one f h o o' in
      subst (λ (e : Past Block). P e o'.before) a (subst (λ (l : List (Past Block)). P o.this l) b k)

  -- what happened to it before: a cell that names a block
  never : {n : ℕ} {s₀ s : Snapshot Block Pixel} → AcceptedSetup covers s₀ → (r : FinishedSteps covers spare n s₀ s)
      (j : Judged r) (p : Pixel) (m : ℕ) → s.cells p ≡ named m
      → (mark_step covers p (History r j) ≡ 0) × (up_step covers p (History r j) ≡ 0)
  never z r j p m e = unfold kind_of Told in rw e at (told covers spare C z r j p)

  white_of : (p : Pixel) (h : List (Past Block)) (o : Latest (takes_over covers p) h)
      → AllFalse p o.this.judgements → Some (λ t. T (denies_it covers p t)) o.this.judgements
      → mark_step covers p h ≡ 0 → up_step covers p h ≡ 0 → WhiteBy covers p h
  white_of p h o a b m u = record {
    last = o;
    step_is = number_latest (takes_over covers p) h o;
    child_is = rw (value_latest (takes_over covers p) (λ e. first_place (denies_it covers p) e.judgements) 0 h o)
        (first_place_lem (denies_it covers p) o.this.judgements (any_of_some (denies_it covers p) o.this.judgements b));
    all_false = a;
    never_marked = m;
    never_given_up = u;
  }

  pub white_by : {n : ℕ} {s₀ s : Snapshot Block Pixel} → AcceptedSetup covers s₀ → (r : FinishedSteps covers spare n s₀ s)
      (j : Judged r) (p : Pixel) → pixel_reads s p ≡ reads_false → WhiteBy covers p (History r j)
  white_by {s₀ = s₀} {s = s} z r j p e =
      let (o, ab) = last_covering z r j p e (λ e h. AllFalse p e.judgements × Some (λ t. T (denies_it covers p t)) e.judgements)
      (λ m v v' q i st k f c. (
        all_were (steps_sound covers spare (one_more q st) (setup_sound covers z)) st k p f c,
        one_was (steps_sound covers spare (one_more q st) (setup_sound covers z)) st k p f c,
      )) in
      let (m, f, l) = (reads_false_lem s.taken (s.cells p)).0 (unfold pixel_reads in e) in
      white_of p (History r j) o ab.0 ab.1 (never z r j p m f).0 (never z r j p m f).1

  module _ (Q : Question Block Pixel) (lose : LosesNothing covers C Q) where
    pub white_left : {n : ℕ} {s₀ s : Snapshot Block Pixel} → AcceptedSetup covers s₀ → HoldsAll covers Q s₀ → (r : FinishedSteps covers spare n s₀ s)
        (j : Judged r) (p : Pixel) → pixel_reads s p ≡ reads_false
        → (o : Latest (takes_over covers p) (History r j))
        → AllRightHere covers p Q o.before → (x : Q.Mix) → Q.Given x → Q.At x p → Q.Solves x
        → Some (FalseHolds Q p x) o.this.judgements
    white_left {s₀ = s₀} z begin r j p e =
        of_latest (takes_over covers p) Left (History r j) (last_covering z r j p e Left
        (λ m v v' q i st k f c right. left_in (steps_sound covers spare (one_more q st) (setup_sound covers z)) st k p f c Q lose
        (kept_steps covers C Q lose spare q i p right (kept_setup covers C Q lose spare s₀ begin p))))
      where
        Left : Past Block → List (Past Block) → Type 0
        Left e h = AllRightHere covers p Q h → (x : Q.Mix) → Q.Given x → Q.At x p → Q.Solves x → Some (FalseHolds Q p x) e.judgements

    -- so no solution is left, if their answers were right
    pub white_none_here : {n : ℕ} {s₀ s : Snapshot Block Pixel} → AcceptedSetup covers s₀ → HoldsAll covers Q s₀
        → (r : FinishedSteps covers spare n s₀ s) (j : Judged r) (p : Pixel) → pixel_reads s p ≡ reads_false
        → (o : Latest (takes_over covers p) (History r j))
        → AllRightHere covers p Q o.before → Every (RightHere covers p Q) o.this.judgements → ¬ HasSolution Q p
    unfolding HasSolution
    white_none_here z begin r j p e o right here (x, g, at, so) =
        none_with (RightHere covers p Q) (FalseHolds Q p x) o.this.judgements (λ t. wrong t) here (white_left z begin r j p e o right x g at so)
      where
        wrong : (t : Judgement Block) → RightHere covers p Q t → ¬ FalseHolds Q p x t
        wrong (judgement c v f) a (h, k) =
            unfold RightHere AnsweredFalse judged_child in a h.0 x g at k so

  -- ---- TRUE, and GIVEN UP

  pub black_by : {n : ℕ} {s₀ s : Snapshot Block Pixel} → AcceptedSetup covers s₀ → (r : FinishedSteps covers spare n s₀ s)
      (j : Judged r) (p : Pixel) → pixel_reads s p ≡ reads_true → BlackBy covers p spare (History r j)
  black_by {s = s} z r j p e =
      let f = (reads_true_lem s.taken (s.cells p)).0 (unfold pixel_reads in e) in
      let t : (0 < mark_step covers p (History r j)) × ((spare ≡ true) ⊎ (up_step covers p (History r j) < mark_step covers p (History r j))) =
      unfold kind_of Told in rw f at (told covers spare C z r j p) in
      let o = latest_of_number (marks_in_step covers p) (History r j) t.0 in
      record {
        last = o;
        step_is = number_latest (marks_in_step covers p) (History r j) o;
        child_is = rw (value_latest (marks_in_step covers p) (λ e. last_place (marks_it covers p) e.judgements) 0 (History r j) o)
            (last_place_lem (marks_it covers p) o.this.judgements o.such);
        not_withdrawn = t.1;
      }

  pub grey_by : {n : ℕ} {s₀ s : Snapshot Block Pixel} → AcceptedSetup covers s₀ → (r : FinishedSteps covers spare n s₀ s)
      (j : Judged r) (p : Pixel) → s.cells p ≡ given_up → GreyBy covers p (History r j)
  grey_by {s = s} z r j p e =
      let t : (0 < up_step covers p (History r j)) × (mark_step covers p (History r j) ≤ up_step covers p (History r j)) =
      unfold kind_of Told in rw e at (told covers spare C z r j p) in
      let o = latest_of_number (gives_it_up covers p) (History r j) t.0 in
      record {
        last = o;
        step_is = number_latest (gives_it_up covers p) (History r j) o;
        child_is = rw (value_latest (gives_it_up covers p) (λ e. first_place ends_stuck e.judgements) 0 (History r j) o)
            (first_place_lem ends_stuck o.this.judgements
            (both_of (takes_over covers p o.this) (any_of ends_stuck o.this.judgements) (unfold gives_it_up in o.such)).1);
        not_marked_since = t.1;
      }

  -- ---- WAITING

  -- the last covering block of a queue, by its place counted from 0
  last_at : (p : Pixel) (q : List Block) (i : ℕ) → T (covers_at_place covers q i p) → ((k : ℕ) → T (covers_at_place covers q k p) → k ≤ i)
      → (b : Block) × (l : List Block) × (r : List Block) × (q ≡ l ++ (b ∷ r)) × (length l ≡ i) × T (covers b p) × NoneCovers covers r p
  unfolding covers_at_place
  last_at p [] i t n = absurd t
  last_at p (b ∷ q) zero t n = (b, [], q, refl, refl, t, none_of covers q p (λ k u. (let z = n (suc k) u in omega arith)))
  last_at p (b ∷ q) (suc i) t n =
      let (c, l, r, e, d, u, k) = last_at p q i t (λ k u. (let z = n (suc k) u in omega arith)) in
      (c, b ∷ l, r, ap (λ (m : List Block). b ∷ m) e, ap suc d, u, k)

  waits_of : (p : Pixel) (h : List (Past Block)) (taken : ℕ) (q : List Block) (m : ℕ) → taken ≤ m
      → (b : Block) × (l : List Block) × (r : List Block) × (q ≡ l ++ (b ∷ r)) × (length l ≡ m - taken) × T (covers b p) × NoneCovers covers r p
      → mark_step covers p h ≡ 0 → up_step covers p h ≡ 0 → WaitsFor covers p h taken q m
  unfolding NoneCovers
  waits_of p h taken q m t (b, l, r, e, d, c, none) nm nu = record {
    not_taken = t;
    last = record {
      before = l;
      this = b;
      behind = r;
      in_order = e;
      number = ap (last_place (λ b. covers b p)) e ∙ last_number (λ b. covers b p) l b r c none;
      such = c;
      none_behind = none;
    };
    stand_before = d;
    never_marked = nm;
    never_given_up = nu;
  }

  pub waits_for : {n : ℕ} {s₀ s : Snapshot Block Pixel} → AcceptedSetup covers s₀ → (r : FinishedSteps covers spare n s₀ s)
      (j : Judged r) (p : Pixel) (m : ℕ) → s.cells p ≡ named m → s.taken ≤ m
      → WaitsFor covers p (History r j) s.taken s.queue m
  waits_for {s = s} z r j p m e l =
      let o = sound_named covers s (steps_sound covers spare r (setup_sound covers z)) p m e in
      waits_of p (History r j) s.taken s.queue m l
      (last_at p s.queue (m - s.taken) (o.covering (m - s.taken) (omega arith)) (λ k u. (let z = o.none_behind k u in omega arith)))
      (never z r j p m e).0 (never z r j p m e).1
