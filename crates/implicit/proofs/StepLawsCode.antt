-- The tests that the code makes on the way to a decision are the definitions'. Assumes nothing.
use Rattle.queue.specs.declared.QueueError.{QueueError}
use mathlib.Core.Path.{◌≡◌, sym, ap, ◌∙◌}
use mathlib.Core.Bool.{Bool, true, false, not, ◌&&◌}
use mathlib.Core.List.{List}
use Prim.Native.Nat.{ℕ, ◌-◌, ◌≤◌, ◌<◌}
use native.Mathlib.Omega.{arith}
use lib.Dec.{leb, ltb}
use lib.ListN.{length, take}
use borrow.Author.Tests.{le-leb, lt-leb, lt-ltb, le-ltb, leb-true, eqb-true}
use Rattle.std.specs.Prelude.{Result, Ok, Err, Option, Some}
use Rattle.std.specs.Option.{unwrap_or}
use Rattle.std.proofs.Math.Bool.{and_comm}
use Rattle.base.proofs.Test.{cases, cond_yes, cond_no}
use Rattle.refusal.specs.declared.Refusal.{Refusal}
use Rattle.refusal.specs.declared.Refusal.TheVariants as R
use Rattle.image.specs.Cell.{meanings, of_kind}
use Rattle.image.specs.Painting.{some_seen}
use Rattle.image.proofs.BlockLaws.{rectangle_ready}
use Rattle.queue.specs.declared.Block.{Block}
use Rattle.queue.specs.declared.Taken.{Taken}
use Rattle.queue.proofs.QueueAnswers.{denied, granted}
use Rattle.decide.specs.declared.Chosen.{Chosen}
use Rattle.decide.specs.declared.children.Children.{Children}
use Rattle.decide.specs.declared.children.Cut.{Cut}
use Rattle.decide.specs.Damage.{legal_chosen, undamaged, cell_damaged, damage_seen}
use Rattle.decide.specs.Children.{children_of, listed}
use Rattle.decide.specs.ChildAt.{cut_of}
use Rattle.plan.specs.declared.Judged.{Judged}
use Rattle.plan.specs.AtOnce.{judged_of}
use Rattle.plan.proofs.ChildLaws.{some_child}
use Rattle.implicit.specs.declared.state.State.{State}
use Rattle.implicit.specs.declared.deciding.Decided.{Decided}
use Rattle.implicit.specs.Record.{pixel_count, sound_record}
use Rattle.implicit.specs.Listing.{front_of, listed_block, listed_from, children_listed}
use Rattle.implicit.specs.Step.{block_sound, enough_verdicts}
use Rattle.implicit.specs.StepComputed.{block_check, decision_judged, decision_on, decision_from, decision_of}

-- THE LISTING

-- of a legal picture, a block that is not damaged has a child, and a damaged one has none
child_undamaged : (p : Chosen) (b : Block) (n : ℕ) → legal_chosen p ≡ true → n ≡ length (children_of p b) → ltb 0 n ≡ undamaged p b
child_undamaged p b n h e = ap (λ (k : ℕ). ltb 0 k) e ∙ some_child p b ∙ rw h

module _ (p : Chosen) (b : Block) (k : Children) (h : legal_chosen p ≡ true) (e : k ≡ listed b (children_of p b)) where
  by_count : ltb 0 k.count ≡ undamaged p b
  by_count = child_undamaged p b k.count h (ap (λ (c : Children). c.count) e)

  pub listed_yes : 0 < k.count → Ok k ≡ listed_block p b
  unfolding listed_block
  listed_yes f = let u : undamaged p b ≡ true = sym by_count ∙ lt-ltb 0 k.count f in rw (u, e)

  pub listed_no : k.count ≤ 0 → Err R.Damaged ≡ listed_block p b
  unfolding listed_block
  listed_no f = let u : undamaged p b ≡ false = sym by_count ∙ le-ltb 0 k.count f in rw u

module _ (s : State) (ring : List ℕ) (t : Bool) (is_t : t ≡ sound_record (length ring) s) where
  pub list_damaged : not t ≡ true → Err R.Damaged ≡ children_listed s ring
  unfolding children_listed
  list_damaged h = let u : sound_record (length ring) s ≡ false = sym is_t ∙ denied t h in rw u

  pub list_empty : not t ≡ false → s.queued ≤ s.taken → Err R.Empty ≡ children_listed s ring
  unfolding children_listed
  list_empty h k = let u : sound_record (length ring) s ≡ true = sym is_t ∙ granted t h in rw (u, le-ltb s.taken s.queued k)

  pub list_some : (r : Result Children Refusal) → not t ≡ false → s.taken < s.queued → r ≡ listed_from s (front_of s ring) → r ≡ children_listed s ring
  unfolding children_listed
  list_some r h k e = let u : sound_record (length ring) s ≡ true = sym is_t ∙ granted t h in rw (u, lt-ltb s.taken s.queued k) e

-- THE BLOCK

seen_damage : (p : Chosen) (b : Block) (cells : List ℕ) → leb (pixel_count p) (length cells) ≡ true
    → damage_seen p b cells ≡ Some (cell_damaged p b (meanings cells))
unfolding some_seen cell_damaged of_kind
seen_damage p b cells h = let r = rectangle_ready b.x b.y p.width p.height (length cells) ∙ h in rw r

-- by what is seen of the cells
pub fine_as : (p : Chosen) (b : Block) (cells : List ℕ) (s : Option Bool) (t : Bool) (n : ℕ) → leb (pixel_count p) (length cells) ≡ true
    → s ≡ damage_seen p b cells → t ≡ unwrap_or s true → legal_chosen p ≡ true → n ≡ length (children_of p b) → (not t && ltb 0 n) ≡ block_sound p cells b
fine_as p b cells s t n h e f l g =
    rw (f, e, seen_damage p b cells h, child_undamaged p b n l g) (and_comm (not (cell_damaged p b (meanings cells))) (undamaged p b))

module _ (p : Chosen) (b : Block) (cells : List ℕ) (children verdicts : ℕ) (tape t : Bool) (is_t : t ≡ block_sound p cells b) where
  pub check_damaged : not t ≡ true → Err R.Damaged ≡ block_check p b cells children verdicts tape
  unfolding block_check
  check_damaged h = let u : block_sound p cells b ≡ false = sym is_t ∙ denied t h in sym (cond_no (block_sound p cells b) _ _ u)

  module _ (h : not t ≡ false) (e : Bool) (is_e : e ≡ enough_verdicts tape children verdicts) where
    fine : block_sound p cells b ≡ true
    fine = sym is_t ∙ granted t h

    pub check_few : not e ≡ true → Err R.Verdicts ≡ block_check p b cells children verdicts tape
    unfolding block_check
    check_few k = sym (cond_yes (block_sound p cells b) _ _ fine ∙ cond_no (enough_verdicts tape children verdicts) _ _ (sym is_e ∙ denied e k))

    pub check_passed : not e ≡ false → Ok tt ≡ block_check p b cells children verdicts tape
    unfolding block_check
    check_passed k = sym (cond_yes (block_sound p cells b) _ _ fine ∙ cond_yes (enough_verdicts tape children verdicts) _ _ (sym is_e ∙ granted e k))

-- THE DECISION

pub judged_refused : (b : Block) (head used : ℕ) (k : Cut) (j : Judged) → not j.legal ≡ true → Err R.Verdict ≡ decision_judged b head used k j
unfolding decision_judged
judged_refused b head used k j h = sym (cond_no j.legal _ _ (denied j.legal h))

pub judged_gone : (b : Block) (head used : ℕ) (k : Cut) (j : Judged) → not j.legal ≡ false
    → Ok (record { block = b; head = head; used = used; cut = k; judged = j }) ≡ decision_judged b head used k j
unfolding decision_judged
judged_gone b head used k j h = sym (cond_yes j.legal _ _ (granted j.legal h))

pub cut_count : (p : Chosen) (b : Block) (k : Cut) → k ≡ cut_of p b → k.count ≡ length (children_of p b)
unfolding cut_of
cut_count p b k e = ap (λ (c : Cut). c.count) e

-- the decision behind a check of the block
abbrev after : Result (Unit {0}) Refusal → Result Decided Refusal → Result Decided Refusal
after (Ok u) d = d
after (Err why) d = Err why

module _ (p : Chosen) (cells : List ℕ) (tape : Bool) (vs : List ℕ) (b : Block) (head used : ℕ) where
  abbrev judging : Result Decided Refusal
  judging = decision_judged b head used (cut_of p b) (judged_of p b (cut_of p b) (take (length (children_of p b)) vs) cells)

  on_check : decision_on p cells tape vs b head used ≡ after (block_check p b cells (length (children_of p b)) (length vs) tape) judging
  unfolding decision_on block_check
  on_check =
      cases (block_sound p cells b)
      (λ s. cases (enough_verdicts tape (length (children_of p b)) (length vs)) (λ e. rw (s, e)) (λ e. rw (s, e)))
      (λ s. rw s)

  module _ (k : Cut) (is_k : k ≡ cut_of p b) where
    by_check : (t : Result (Unit {0}) Refusal) → t ≡ block_check p b cells k.count (length vs) tape → decision_on p cells tape vs b head used ≡ after t judging
    by_check t is_t =
        on_check ∙ ap (λ (n : ℕ). after (block_check p b cells n (length vs) tape) judging) (sym (cut_count p b k is_k))
        ∙ ap (λ (x : Result (Unit {0}) Refusal). after x judging) (sym is_t)

    pub block_refused : (why : Refusal) → Err why ≡ block_check p b cells k.count (length vs) tape → Err why ≡ decision_on p cells tape vs b head used
    block_refused why e = sym (by_check (Err why) e)

    pub block_judged : (d : Result Decided Refusal) → Ok tt ≡ block_check p b cells k.count (length vs) tape
        → d ≡ decision_judged b head used k (judged_of p b k (take (k.count - 0) vs) cells) → d ≡ decision_on p cells tape vs b head used
    block_judged d e g =
        let z : k.count - 0 ≡ length (children_of p b) = omega (arith, cut_count p b k is_k) in
        (rw (z, is_k) at g) ∙ sym (by_check (Ok tt) e)

enough_few : (tape : Bool) (n m : ℕ) → enough_verdicts tape n m ≡ true → n ≤ m
enough_few true n m e = leb-true n m e
enough_few false n m e = omega (arith, eqb-true m n e)

pub block_fits : (p : Chosen) (b : Block) (cells : List ℕ) (n m : ℕ) (tape : Bool) → Ok tt ≡ block_check p b cells n m tape → n ≤ m
unfolding block_check
block_fits p b cells n m tape e =
    cases (enough_verdicts tape n m) (λ h. enough_few tape n m h)
    (λ h. cases (block_sound p cells b)
    (λ s. (let g : ◌≡◌ {A = Result (Unit {0}) Refusal} (Ok tt) (Err R.Verdicts) = e ∙ rw (s, h) in let z : ◌≡◌ {A = ℕ} 0 1 = cc in absurd (omega arith)))
    (λ s. (let g : ◌≡◌ {A = Result (Unit {0}) Refusal} (Ok tt) (Err R.Damaged) = e ∙ rw s in let z : ◌≡◌ {A = ℕ} 0 1 = cc in absurd (omega arith))))

pub enough_cells : (p : Chosen) (cells : List ℕ) (n : ℕ) → n ≡ pixel_count p → n ≤ length cells → leb (pixel_count p) (length cells) ≡ true
enough_cells p cells n e h = let l : pixel_count p ≤ length cells = rw e at h in le-leb (pixel_count p) (length cells) l

module _ (p : Chosen) (sound left : Bool) (front : Result Taken QueueError) (cells : List ℕ) (tape : Bool) (vs : List ℕ) where
  pub decide_damaged : not sound ≡ true → Err R.Damaged ≡ decision_of p sound left front cells tape vs
  unfolding decision_of
  decide_damaged h = rw (denied sound h)

  module _ (h : not sound ≡ false) (n : ℕ) (is_n : n ≡ pixel_count p) where
    pub decide_few : length cells < n → Err R.Cells ≡ decision_of p sound left front cells tape vs
    unfolding decision_of
    decide_few k = let l : length cells < pixel_count p = rw is_n at k in rw (granted sound h, lt-leb (pixel_count p) (length cells) l)

    module _ (k : n ≤ length cells) where
      pub decide_empty : not left ≡ true → Err R.Empty ≡ decision_of p sound left front cells tape vs
      unfolding decision_of
      decide_empty m = rw (granted sound h, enough_cells p cells n is_n k, denied left m)

      pub decide_front : (d : Result Decided Refusal) → not left ≡ false → (t v : Result Taken QueueError) → t ≡ front → t ≡ v → d ≡ decision_from p cells tape vs v
          → d ≡ decision_of p sound left front cells tape vs
      unfolding decision_of
      decide_front d m t v e f g = g ∙ rw (granted sound h, enough_cells p cells n is_n k, granted left m) (ap (decision_from p cells tape vs) (sym f ∙ e))
