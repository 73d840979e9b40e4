-- What stands in a cell, over the events of one step: what the taken block does not cover stays; True and given up never become a number
-- again; what is given up was so before, or the step gave it up; True goes only where the step gives up. Assumes nothing.
use mathlib.Core.Path.{◌≡◌, refl, sym, ◌∙◌}
use mathlib.Core.Logic.{◌⊎◌, inl, inr, ⊎_elim, ◌↔◌}
use mathlib.Core.Bool.{Bool, true, false, cond}
use mathlib.Core.List.{List, [], ◌∷◌}
use Prim.Native.Nat.{ℕ, suc, ◌+◌, ◌<◌}
use native.Mathlib.Omega.{arith}
use lib.Dec.{T, leb}
use lib.ListN.{length}
use borrow.Author.Tests.{leb-false, lt-leb}
use Rattle.base.proofs.Test.{T→≡, ≡→T, ¬T→≡}
use Rattle.theory.specs.Cells.{Standing, marked_true, given_up, named, reads_true, reads_false, reads_uncertain, standing_reads, renamed, after_giving_up}
use Rattle.theory.specs.Runs.{Snapshot, Event, marks, queues, gives_up, Narrower, AllNarrower, cell_after, FinishedStep}
use Rattle.theory.specs.Demand3.{any_gives_up, AllWhole, WholePicture}
use Rattle.theory.proofs.Nameless.{Nameless, given_nameless}

-- a cell reads False exactly if it names a block that was taken
pub reads_false_lem : (t : ℕ) (v : Standing) → (standing_reads t v ≡ reads_false) ↔ ((n : ℕ) × (v ≡ named n) × (n < t))
unfolding standing_reads
reads_false_lem t marked_true = ((λ e. absurd (let z : ◌≡◌ {A = ℕ} 0 1 = cc in omega arith)), (λ (n, e, h). absurd (let z : ◌≡◌ {A = ℕ} 0 1 = cc in omega arith)))
reads_false_lem t given_up = ((λ e. absurd (let z : ◌≡◌ {A = ℕ} 0 1 = cc in omega arith)), (λ (n, e, h). absurd (let z : ◌≡◌ {A = ℕ} 0 1 = cc in omega arith)))
reads_false_lem t (named n) = (go (leb t n) refl, back)
  where
    go : (k : Bool) → leb t n ≡ k → cond k reads_uncertain reads_false ≡ reads_false → (m : ℕ) × (named n ≡ named m) × (m < t)
    go true f g = absurd (let z : ◌≡◌ {A = ℕ} 0 1 = cc in omega arith)
    go false f g = (n, refl, leb-false t n f)

    back : (m : ℕ) × (named n ≡ named m) × (m < t) → cond (leb t n) reads_uncertain reads_false ≡ reads_false
    back (m, e, h) = let f : n ≡ m = cc in rw (lt-leb t n (omega arith))

-- and True exactly if it is True
pub reads_true_lem : (t : ℕ) (v : Standing) → (standing_reads t v ≡ reads_true) ↔ (v ≡ marked_true)
unfolding standing_reads
reads_true_lem t marked_true = (λ e. refl, λ e. refl)
reads_true_lem t given_up = (λ e. cc, λ e. cc)
reads_true_lem t (named n) = (go (leb t n), λ e. cc)
  where
    go : (k : Bool) → cond k reads_uncertain reads_false ≡ reads_true → named n ≡ marked_true
    go true e = cc
    go false e = cc

nameless_mark : (k : Bool) (v : Standing) → Nameless v → Nameless (cond k marked_true v)
nameless_mark true v h = tt
nameless_mark false v h = h

nameless_queue : (k : Bool) (t m : ℕ) (v : Standing) → Nameless v → Nameless (cond k (renamed t m v) v)
unfolding renamed
nameless_queue true t m marked_true h = tt
nameless_queue true t m given_up h = tt
nameless_queue true t m (named n) h = absurd h
nameless_queue false t m v h = h

nameless_give : (k spare : Bool) (v : Standing) → Nameless v → Nameless (cond k (after_giving_up spare v) v)
nameless_give true spare v h = given_nameless spare v
nameless_give false spare v h = h

given_mark : (k : Bool) (v : Standing) → cond k marked_true v ≡ given_up → v ≡ given_up
given_mark true v e = cc
given_mark false v e = e

given_queue : (k : Bool) (t m : ℕ) (v : Standing) → cond k (renamed t m v) v ≡ given_up → v ≡ given_up
unfolding renamed
given_queue false t m v e = e
given_queue true t m marked_true e = e
given_queue true t m given_up e = e
given_queue true t m (named n) e = go (leb t n) e
  where
    go : (j : Bool) → cond j (named m) (named n) ≡ given_up → named n ≡ given_up
    go true f = cc
    go false f = f

true_queue : (k : Bool) (t m : ℕ) → cond k (renamed t m marked_true) marked_true ≡ marked_true
unfolding renamed
true_queue true t m = refl
true_queue false t m = refl

true_mark : (k : Bool) → cond k marked_true marked_true ≡ marked_true
true_mark true = refl
true_mark false = refl

module _ {Block Pixel : Type 0} (covers : Block → Pixel → Bool) (spare : Bool) where
  -- what the taken block does not cover, its step does not touch
  untouched : (t : ℕ) (b : Block) (m : ℕ) (es : List (Event Block)) (p : Pixel) (v : Standing) → AllNarrower covers b es → ¬ T (covers b p)
      → cell_after covers spare t b m es p v ≡ v
  unfolding cell_after AllNarrower Narrower
  untouched t b m [] p v w h = refl
  untouched t b m (marks c ∷ es) p v w h = rw (¬T→≡ (covers c p) (λ k. h (w.0 p k))) (untouched t b m es p v w.1 h)
  untouched t b m (queues c ∷ es) p v w h = rw (¬T→≡ (covers c p) (λ k. h (w.0 p k))) (untouched t b (suc m) es p v w.1 h)
  untouched t b m (gives_up ∷ es) p v w h = rw (¬T→≡ (covers b p) h) (untouched t b m es p v w h)

  -- what names no block never names one again
  pub nameless_stays : (t : ℕ) (b : Block) (m : ℕ) (es : List (Event Block)) (p : Pixel) (v : Standing) → Nameless v
      → Nameless (cell_after covers spare t b m es p v)
  unfolding cell_after
  nameless_stays t b m [] p v h = h
  nameless_stays t b m (marks c ∷ es) p v h = nameless_stays t b m es p (cond (covers c p) marked_true v) (nameless_mark (covers c p) v h)
  nameless_stays t b m (queues c ∷ es) p v h = nameless_stays t b (suc m) es p (cond (covers c p) (renamed t m v) v) (nameless_queue (covers c p) t m v h)
  nameless_stays t b m (gives_up ∷ es) p v h = nameless_stays t b m es p (cond (covers b p) (after_giving_up spare v) v) (nameless_give (covers b p) spare v h)

  -- after a step that gives up no cell that its block covers names a block
  giving_up_unnames : (t : ℕ) (b : Block) (m : ℕ) (es : List (Event Block)) (p : Pixel) (v : Standing) → T (any_gives_up es) → T (covers b p)
      → Nameless (cell_after covers spare t b m es p v)
  unfolding cell_after any_gives_up
  giving_up_unnames t b m [] p v f k = absurd f
  giving_up_unnames t b m (marks c ∷ es) p v f k = giving_up_unnames t b m es p (cond (covers c p) marked_true v) f k
  giving_up_unnames t b m (queues c ∷ es) p v f k = giving_up_unnames t b (suc m) es p (cond (covers c p) (renamed t m v) v) f k
  giving_up_unnames t b m (gives_up ∷ es) p v f k =
      nameless_stays t b m es p (cond (covers b p) (after_giving_up spare v) v) (rw (T→≡ (covers b p) k) (given_nameless spare v))

  -- a cell that is given up after the step was so before it, or the step gave it up
  given_up_by : (t : ℕ) (b : Block) (m : ℕ) (es : List (Event Block)) (p : Pixel) (v : Standing) → cell_after covers spare t b m es p v ≡ given_up
      → (v ≡ given_up) ⊎ (T (any_gives_up es) × T (covers b p))
  unfolding cell_after any_gives_up
  given_up_by t b m [] p v e = inl e
  given_up_by t b m (marks c ∷ es) p v e =
      ⊎_elim (λ h. inl (given_mark (covers c p) v h)) (λ h. inr h) (given_up_by t b m es p (cond (covers c p) marked_true v) e)
  given_up_by t b m (queues c ∷ es) p v e =
      ⊎_elim (λ h. inl (given_queue (covers c p) t m v h)) (λ h. inr h) (given_up_by t b (suc m) es p (cond (covers c p) (renamed t m v) v) e)
  given_up_by t b m (gives_up ∷ es) p v e = go (covers b p) refl e (λ u. given_up_by t b m es p u)
    where
      go : (k : Bool) → covers b p ≡ k → cell_after covers spare t b m es p (cond k (after_giving_up spare v) v) ≡ given_up
          → ((u : Standing) → cell_after covers spare t b m es p u ≡ given_up → (u ≡ given_up) ⊎ (T (any_gives_up es) × T (covers b p)))
          → (v ≡ given_up) ⊎ (T true × T (covers b p))
      go true f e rec = inr (tt, ≡→T f)
      go false f e rec = ⊎_elim (λ h. inl h) (λ h. inr (tt, h.1)) (rec v e)

  -- True stays True in the sparing mode,
  spared : spare ≡ true → (t : ℕ) (b : Block) (m : ℕ) (es : List (Event Block)) (p : Pixel) → cell_after covers spare t b m es p marked_true ≡ marked_true
  unfolding cell_after after_giving_up
  spared h t b m [] p = refl
  spared h t b m (marks c ∷ es) p = rw true_mark (spared h t b m es p)
  spared h t b m (queues c ∷ es) p = rw true_queue (spared h t b (suc m) es p)
  spared h t b m (gives_up ∷ es) p = rw (h, true_mark) (spared h t b m es p)

  -- and in either where the step does not give up
  unharmed : (t : ℕ) (b : Block) (m : ℕ) (es : List (Event Block)) (p : Pixel) → any_gives_up es ≡ false
      → cell_after covers spare t b m es p marked_true ≡ marked_true
  unfolding cell_after any_gives_up
  unharmed t b m [] p h = refl
  unharmed t b m (marks c ∷ es) p h = rw true_mark (unharmed t b m es p h)
  unharmed t b m (queues c ∷ es) p h = rw true_queue (unharmed t b (suc m) es p h)
  unharmed t b m (gives_up ∷ es) p h = absurd (let z : T true = tt in let o : ◌≡◌ {A = ℕ} 0 1 = cc in omega arith)

  -- where the taken block and its children cover the whole picture, all pixels fare alike
  whole_alike : (p q : Pixel) (t : ℕ) (b : Block) (m : ℕ) (es : List (Event Block)) (v : Standing) → ((p : Pixel) → T (covers b p))
      → AllWhole covers es
      → cell_after covers spare t b m es p v ≡ cell_after covers spare t b m es q v
  unfolding cell_after AllWhole
  whole_alike p q t b m [] v f a = refl
  whole_alike p q t b m (marks c ∷ es) v f a = rw (T→≡ (covers c p) (a.0 p), T→≡ (covers c q) (a.0 q)) (whole_alike p q t b m es marked_true f a.1)
  whole_alike p q t b m (queues c ∷ es) v f a = rw (T→≡ (covers c p) (a.0 p), T→≡ (covers c q) (a.0 q))
      (whole_alike p q t b (suc m) es (renamed t m v) f a.1)
  whole_alike p q t b m (gives_up ∷ es) v f a = rw (T→≡ (covers b p) (f p), T→≡ (covers b q) (f q)) (whole_alike p q t b m es (after_giving_up spare v) f a)

-- the same of a finished step
module _ {Block Pixel : Type 0} (covers : Block → Pixel → Bool) (spare : Bool) {s s' : Snapshot Block Pixel} (st : FinishedStep covers spare s s') where
  pub step_untouched : (p : Pixel) → ¬ T (covers st.front p) → s'.cells p ≡ s.cells p
  step_untouched p h = st.cells' p ∙ untouched covers spare s.taken st.front (s.taken + length s.queue) st.events p (s.cells p) st.narrower h

  pub step_nameless : (p : Pixel) → Nameless (s.cells p) → Nameless (s'.cells p)
  step_nameless p h = rw (st.cells' p) (nameless_stays covers spare s.taken st.front (s.taken + length s.queue) st.events p (s.cells p) h)

  pub step_unnames : (p : Pixel) → T (any_gives_up st.events) → T (covers st.front p) → Nameless (s'.cells p)
  step_unnames p f k = rw (st.cells' p) (giving_up_unnames covers spare s.taken st.front (s.taken + length s.queue) st.events p (s.cells p) f k)

  pub step_given_up : (p : Pixel) → s'.cells p ≡ given_up → (s.cells p ≡ given_up) ⊎ (T (any_gives_up st.events) × T (covers st.front p))
  step_given_up p e = given_up_by covers spare s.taken st.front (s.taken + length s.queue) st.events p (s.cells p) (sym (st.cells' p) ∙ e)

  pub step_spared : spare ≡ true → (p : Pixel) → s.cells p ≡ marked_true → s'.cells p ≡ marked_true
  step_spared h p e = st.cells' p ∙ rw e (spared covers spare h s.taken st.front (s.taken + length s.queue) st.events p)

  pub step_unharmed : any_gives_up st.events ≡ false → (p : Pixel) → s.cells p ≡ marked_true → s'.cells p ≡ marked_true
  step_unharmed h p e = st.cells' p ∙ rw e (unharmed covers spare s.taken st.front (s.taken + length s.queue) st.events p h)

  pub step_alike : WholePicture covers spare s s' st → (p q : Pixel) → s.cells p ≡ s.cells q → s'.cells p ≡ s'.cells q
  unfolding WholePicture
  step_alike w p q e =
      st.cells' p
      ∙ rw e (whole_alike covers spare p q s.taken st.front (s.taken + length s.queue) st.events (s.cells q) w.0 w.1)
      ∙ sym (st.cells' q)
