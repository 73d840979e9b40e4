-- The queue is first in, first out, by place: after n steps stands what was there and what was queued since, without the first n. Assumes nothing.
use mathlib.Core.Path.{◌≡◌, sym, ap, ◌∙◌}
use mathlib.Core.Bool.{Bool}
use mathlib.Core.List.{List, [], ◌∷◌, ◌++◌, append_assoc, append-nil}
use Prim.Native.Nat.{ℕ, zero, suc, ◌+◌, ◌≤◌}
use native.Mathlib.Omega.{arith}
use lib.ListN.{length, drop}
use lib.Seq.{drop-append-le}
use Rattle.theory.specs.Runs.{Snapshot, queued_by, FinishedSteps, no_step, one_more, queued_in}

-- a list whose part from place n on is not empty
drop_more : {A : Type 0} (n : ℕ) (q : List A) (b : A) (r new : List A) → drop n q ≡ b ∷ r → drop (suc n) (q ++ new) ≡ r ++ new
drop_more zero [] b r new e = absurd (let z : ◌≡◌ {A = ℕ} 0 1 = cc in omega arith)
drop_more (suc n) [] b r new e = absurd (let z : ◌≡◌ {A = ℕ} 0 1 = cc in omega arith)
drop_more zero (x ∷ q) b r new e = cc
drop_more (suc n) (x ∷ q) b r new e = drop_more n q b r new e

module _ {Block Pixel : Type 0} (covers : Block → Pixel → Bool) (spare : Bool) where
  -- as many blocks are taken as there are steps
  pub taken_counts : {n : ℕ} {s s' : Snapshot Block Pixel} → FinishedSteps covers spare n s s' → s'.taken ≡ s.taken + n
  taken_counts no_step = omega arith
  taken_counts (one_more r st) = let h = taken_counts r in omega (arith, st.taken')

  pub queue_after : {n : ℕ} {s s' : Snapshot Block Pixel} (r : FinishedSteps covers spare n s s')
      → s'.queue ≡ drop n (s.queue ++ queued_in covers spare r)
  unfolding queued_in
  queue_after {s = s} no_step = sym (append-nil s.queue)
  queue_after {s = s} (one_more {n = n} {s' = s'} r st) =
      st.queue'
      ∙ sym (drop_more n (s.queue ++ queued_in covers spare r) st.front st.rest (queued_by st.events) (sym (queue_after r) ∙ st.at_front))
      ∙ ap (λ (l : List Block). drop (suc n) l) (append_assoc s.queue (queued_in covers spare r) (queued_by st.events))

  pub queue_behind : {n : ℕ} {s s' : Snapshot Block Pixel} (r : FinishedSteps covers spare n s s') → n ≤ length s.queue
      → s'.queue ≡ drop n s.queue ++ queued_in covers spare r
  queue_behind {n} {s} r h = queue_after r ∙ drop-append-le n s.queue (queued_in covers spare r) h
