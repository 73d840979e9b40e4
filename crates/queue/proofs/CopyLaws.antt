-- What copy answers and leaves, by the tests that the code makes; and that the other ring then holds the same
-- bytes. Assumes nothing.
use Rattle.std.specs.Prelude.{Result, Ok, Err}
use Rattle.queue.specs.declared.QueueError.{QueueError}
use Rattle.queue.specs.declared.QueueError.TheVariants as Q
use mathlib.Core.Path.{◌≡◌, refl, sym, ap, ◌∙◌}
use mathlib.Core.Logic.{◌↔◌}
use mathlib.Core.Bool.{Bool, true, false, cond, true≢false, false≢true}
use mathlib.Core.List.{List, [], ◌++◌}
use Prim.Native.Nat.{ℕ, ◌+◌, ◌-◌, ◌≤◌, ◌<◌}
use native.Mathlib.Omega.{arith}
use native.Mathlib.Nat.{zero-add}
use lib.ListN.{length, take}
use lib.Seq.{sets, take_all}
use borrow.Author.Tests.{lt-ltb}
use Rattle.queue.specs.Ring.{older_stretch, newer_stretch, content, fits_ring, stored}
use Rattle.queue.specs.Answers.{copied_number}
use Rattle.queue.specs.Queue.{copied, if_copied, copied_ring}
use Rattle.queue.proofs.RingLaws.{content_length, content_store, stored_straight}
use Rattle.queue.proofs.WriteLaws.{sets_append}
use Rattle.queue.proofs.QueueAnswers.{fits_both}

-- one stretch stored from byte 0 on, and another behind it
pub store_both : (ring o n ring₁ ring₂ : List ℕ) → ring₁ ≡ sets ring 0 (take (length o) o)
    → ring₂ ≡ sets ring₁ (length o) (take (length n) n)
    → ring₂ ≡ sets ring 0 (o ++ n)
store_both ring o n ring₁ ring₂ e f =
    f ∙ rw (e, take_all (length o) o (omega arith), take_all (length n) n (omega arith))
    (ap (λ (at : ℕ). sets (sets ring 0 o) at n) (sym (zero-add (length o))) ∙ sets_append o n ring 0)

module _ (ring : List ℕ) (head used : ℕ) (other : List ℕ) where
  pub copy_outside : fits_ring (length ring) head used ≡ false
      → (Err Q.Outside ≡ copied (length ring) head used (length other)) × (other ≡ copied_ring ring head used other)
  unfolding copied copied_ring
  copy_outside e = (rw e, rw e)

  module _ (e : fits_ring (length ring) head used ≡ true) where
    pub copy_full : fits_ring (length other) 0 used ≡ false
        → (Err Q.NoRoom ≡ copied (length ring) head used (length other)) × (other ≡ copied_ring ring head used other)
    unfolding copied copied_ring
    copy_full f = (rw (e, f), rw (e, f))

    module _ (f : fits_ring (length other) 0 used ≡ true) (bytes : List ℕ) (is : bytes ≡ content ring head used) where
      -- what is held has room
      pub copy_fits : length bytes ≤ length other
      copy_fits =
          let (h, k) = fits_both (length ring) head used e in
          omega (arith, ap length is, content_length ring head used (omega arith) k, (fits_both (length other) 0 used f).1)

      pub copy_done : (other₁ : List ℕ) → other₁ ≡ sets other 0 bytes
          → (Ok tt ≡ copied (length ring) head used (length other)) × (other₁ ≡ copied_ring ring head used other)
      unfolding copied copied_ring
      copy_done other₁ g = (rw (e, f), rw (e, f, ← is) (g ∙ sym (stored_straight bytes other 0 (omega (arith, copy_fits)))))

-- THE ANSWER'S NUMBER, by the two tests
abbrev answer : Bool → Bool → Result (Unit {0}) QueueError
answer f g = cond f (cond g (Ok tt) (Err Q.NoRoom)) (Err Q.Outside)

copy_zero : (f g : Bool) → (copied_number (answer f g) ≡ 0) ↔ ((f ≡ true) × (g ≡ true))
copy_zero true true = (λ e. (refl, refl), λ h. refl)
copy_zero true false = (λ e. absurd (omega arith), λ h. absurd (false≢true h.1))
copy_zero false g = (λ e. absurd (omega arith), λ h. absurd (false≢true h.0))

copy_six : (f g : Bool) → (copied_number (answer f g) ≡ 6) ↔ ((f ≡ true) × (g ≡ false))
copy_six true true = (λ e. absurd (omega arith), λ h. absurd (true≢false h.1))
copy_six true false = (λ e. (refl, refl), λ h. refl)
copy_six false g = (λ e. absurd (omega arith), λ h. absurd (false≢true h.0))

copy_eight : (f g : Bool) → (copied_number (answer f g) ≡ 8) ↔ (f ≡ false)
copy_eight true true = (λ e. absurd (omega arith), λ h. absurd (true≢false h))
copy_eight true false = (λ e. absurd (omega arith), λ h. absurd (true≢false h))
copy_eight false g = (λ e. refl, λ h. refl)

copy_keeps : (a : Result (Unit {0}) QueueError) (after before : List ℕ) → ¬ (copied_number a ≡ 0) → if_copied a after before ≡ before
copy_keeps (Ok done) after before n = absurd (n refl)
copy_keeps (Err why) after before n = refl

module _ (ring : List ℕ) (head used : ℕ) (other : List ℕ) where
  pub copy_is_0 : (copied_number (copied (length ring) head used (length other)) ≡ 0)
      ↔ ((fits_ring (length ring) head used ≡ true) × (fits_ring (length other) 0 used ≡ true))
  unfolding copied
  copy_is_0 = copy_zero (fits_ring (length ring) head used) (fits_ring (length other) 0 used)

  pub copy_is_6 : (copied_number (copied (length ring) head used (length other)) ≡ 6)
      ↔ ((fits_ring (length ring) head used ≡ true) × (fits_ring (length other) 0 used ≡ false))
  unfolding copied
  copy_is_6 = copy_six (fits_ring (length ring) head used) (fits_ring (length other) 0 used)

  pub copy_is_8 : (copied_number (copied (length ring) head used (length other)) ≡ 8)
      ↔ (fits_ring (length ring) head used ≡ false)
  unfolding copied
  copy_is_8 = copy_eight (fits_ring (length ring) head used) (fits_ring (length other) 0 used)

  pub copy_refused : ¬ (copied_number (copied (length ring) head used (length other)) ≡ 0)
      → copied_ring ring head used other ≡ other
  unfolding copied_ring
  copy_refused n =
      copy_keeps (copied (length ring) head used (length other)) (stored other 0 (content ring head used)) other n

-- THE SAME BYTES

-- bytes stored from byte 0 on are held
pub stored_content : (other bytes : List ℕ) → 0 < length other → length bytes ≤ length other
    → content (stored other 0 bytes) 0 (length bytes) ≡ bytes
stored_content other bytes some room =
    let none : content other 0 0 ≡ [] =
    unfold content older_stretch newer_stretch in (let e : 0 - length other ≡ 0 = omega arith in rw e) in
    let all : content (stored other 0 bytes) 0 (0 + length bytes) ≡ bytes =
    rw (lt-ltb 0 (length other) some, none) at (content_store bytes other 0 0 some (omega arith)) in
    rw (zero-add (length bytes)) at all

-- what is copied is held by the other ring
pub copy_content : (ring : List ℕ) (head used : ℕ) (other : List ℕ) → fits_ring (length ring) head used ≡ true
    → fits_ring (length other) 0 used ≡ true
    → content (copied_ring ring head used other) 0 used ≡ content ring head used
unfolding copied_ring copied
copy_content ring head used other e f =
    let (h, k) = fits_both (length ring) head used e in
    let (some, room) = fits_both (length other) 0 used f in
    let n : length (content ring head used) ≡ used = content_length ring head used (omega arith) k in
    let held : content (stored other 0 (content ring head used)) 0 (length (content ring head used))
    ≡ content ring head used =
    stored_content other (content ring head used) some (omega arith) in
    rw (e, f) (rw n at held)
