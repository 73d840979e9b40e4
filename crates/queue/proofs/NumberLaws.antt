-- Which answer has which of document 01's numbers, and what it holds: each by the tests that the definition makes.
-- Assumes nothing.
use Rattle.std.specs.Prelude.{Result, Ok, Err}
use Rattle.queue.specs.declared.QueueError.{QueueError}
use Rattle.queue.specs.declared.QueueError.TheVariants as Q
use Rattle.queue.specs.Queue.{front_taken, code_appended, code_measured}
use Rattle.std.specs.Prelude.{Option, Some, None}
use mathlib.Core.Path.{◌≡◌, refl, sym, ap, ◌∙◌}
use mathlib.Core.Logic.{◌⊎◌, inl, inr, ⊎_elim, ◌↔◌}
use mathlib.Core.Bool.{Bool, true, false, cond, true≢false, false≢true}
use mathlib.Core.List.{List}
use Prim.Native.Nat.{ℕ, ◌+◌, ◌-◌, ◌≤◌, ◌<◌}
use native.Mathlib.Omega.{arith}
use lib.Dec.{leb}
use lib.ListN.{length}
use borrow.Author.Tests.{leb-true, leb-false, le-leb, lt-leb}
use Rattle.queue.specs.declared.Block.{Block}
use Rattle.queue.specs.declared.Last.{Last}
use Rattle.queue.specs.declared.Appended.{Appended}
use Rattle.queue.specs.declared.Taken.{Taken}
use Rattle.queue.specs.Ring.{content, fits_ring, wrapped}
use Rattle.queue.specs.Block.{as_queued, remembered}
use Rattle.queue.specs.Decode.{decode}
use Rattle.queue.specs.Answers.{taken_number, measured_number, appended_number}
use Rattle.queue.specs.Queue.{taken_with, taken, codable, code_of_kept, measured, appended, changed_by, appended_ring}

-- ---- take

-- a block was read
abbrev IsRead : Option (Block × ℕ) → Type 0
IsRead r = (b : Block) × (count : ℕ) × (r ≡ Some (b, count))

none_read : {P : Type 0} → IsRead None → P
none_read (b, count, e) = absurd (let z : ◌≡◌ {A = ℕ} 0 1 = cc in omega arith)

take_zero : (f : Bool) (r : Option (Block × ℕ)) (len head used : ℕ)
    → (taken_number (cond f (taken_with len head used r) (Err Q.Outside)) ≡ 0) ↔ ((f ≡ true) × IsRead r)
take_zero true (Some (b, n)) len head used = (λ e. (refl, (b, n, refl)), λ h. refl)
take_zero true None len head used = (λ e. absurd (omega arith), λ h. none_read h.1)
take_zero false r len head used = (λ e. absurd (omega arith), λ h. absurd (false≢true h.0))

take_eight : (f : Bool) (r : Option (Block × ℕ)) (len head used : ℕ)
    → (taken_number (cond f (taken_with len head used r) (Err Q.Outside)) ≡ 8) ↔ ((f ≡ false) ⊎ (r ≡ None))
take_eight true (Some (b, n)) len head used = (
  λ e. absurd (omega arith),
  ⊎_elim (λ h. absurd (true≢false h)) (λ h. absurd (let z : ◌≡◌ {A = ℕ} 0 1 = cc in omega arith)),
)
take_eight true None len head used = (λ e. inr refl, λ h. refl)
take_eight false r len head used = (λ e. inl refl, λ h. refl)

module _ (ring : List ℕ) (head used set : ℕ) (front : Last) where
  pub take_is_0 : (taken_number (taken ring head used set front) ≡ 0)
      ↔ ((fits_ring (length ring) head used ≡ true)
      × ((b : Block) × (count : ℕ) × (decode set front (content ring head used) ≡ Some (b, count))))
  unfolding taken
  take_is_0 =
      take_zero (fits_ring (length ring) head used) (decode set front (content ring head used)) (length ring) head used

  pub take_gives : (b : Block) (count : ℕ) → fits_ring (length ring) head used ≡ true
      → decode set front (content ring head used) ≡ Some (b, count)
      → taken ring head used set front ≡ front_taken b (remembered b) (wrapped (length ring) (head + count)) (used - count)
  unfolding taken
  take_gives b count f e = rw (f, e)

  pub take_is_8 : (taken_number (taken ring head used set front) ≡ 8)
      ↔ ((fits_ring (length ring) head used ≡ false) ⊎ (decode set front (content ring head used) ≡ None))
  unfolding taken
  take_is_8 =
      take_eight (fits_ring (length ring) head used) (decode set front (content ring head used)) (length ring) head
      used

  -- the answer goes by the bytes used
  pub take_by_content : (other : List ℕ) → length ring ≡ length other → content ring head used ≡ content other head used
      → taken ring head used set front ≡ taken other head used set front
  unfolding taken
  take_by_content other e f = rw (e, f)

-- the parts of an answer
abbrev block_of : Block → Result Taken QueueError → Block
block_of d (Ok t) = t.block
block_of d (Err why) = d

abbrev last_of : Last → Result Taken QueueError → Last
last_of d (Ok t) = t.last
last_of d (Err why) = d

abbrev head_of : Result Taken QueueError → ℕ
head_of (Ok t) = t.head
head_of (Err why) = 0

abbrev use_of : Result Taken QueueError → ℕ
use_of (Ok t) = t.used
use_of (Err why) = 0

-- what a block taken says of the ring
pub record TakenParts (ring : List ℕ) (head used set : ℕ) (front : Last) (b : Block) (last : Last) (head₁ used₁ : ℕ) :
    Type 0 where
  pub fits : fits_ring (length ring) head used ≡ true
  pub count : ℕ
  pub read : decode set front (content ring head used) ≡ Some (b, count)
  pub last_is : last ≡ remembered b
  pub head_is : head₁ ≡ wrapped (length ring) (head + count)
  pub used_is : used₁ ≡ used - count

pub taken_parts : (ring : List ℕ) (head used set : ℕ) (front : Last) (b : Block) (last : Last) (head₁ used₁ : ℕ)
    → taken ring head used set front ≡ front_taken b last head₁ used₁
    → TakenParts ring head used set front b last head₁ used₁
unfolding taken
taken_parts ring head used set front b last head₁ used₁ e =
    go (fits_ring (length ring) head used) refl (decode set front (content ring head used)) refl e
  where
    go : (f : Bool) → fits_ring (length ring) head used ≡ f → (r : Option (Block × ℕ))
        → decode set front (content ring head used) ≡ r
        → cond f (taken_with (length ring) head used r) (Err Q.Outside) ≡ front_taken b last head₁ used₁
        → TakenParts ring head used set front b last head₁ used₁
    go true f (Some (c, n)) d e =
        let is : c ≡ b = ap (block_of c) e in
        record {
          fits = f;
          count = n;
          read = d ∙ ap (λ (a : Block). Some (a, n)) is;
          last_is = sym (ap (last_of last) e) ∙ ap remembered is;
          head_is = sym (ap head_of e);
          used_is = sym (ap use_of e);
        }
    go true f None d e = let z : ◌≡◌ {A = ℕ} 8 0 = ap taken_number e in absurd (omega arith)
    go false f r d e = let z : ◌≡◌ {A = ℕ} 8 0 = ap taken_number e in absurd (omega arith)

-- ---- append

-- the answer by its three tests
abbrev answer : Bool → Bool → Bool → Last → ℕ → Result Appended QueueError
answer f c r last n = cond f (cond c (cond r (code_appended last n) (Err Q.NoRoom)) (Err Q.NotCodable)) (Err Q.Outside)

append_zero : (f c r : Bool) (last : Last) (n : ℕ)
    → (appended_number (answer f c r last n) ≡ 0) ↔ ((f ≡ true) × (c ≡ true) × (r ≡ true))
append_zero true true true last n = (λ e. (refl, refl, refl), λ h. refl)
append_zero true true false last n = (λ e. absurd (omega arith), λ h. absurd (false≢true h.2))
append_zero true false r last n = (λ e. absurd (omega arith), λ h. absurd (false≢true h.1))
append_zero false c r last n = (λ e. absurd (omega arith), λ h. absurd (false≢true h.0))

append_six : (f c r : Bool) (last : Last) (n : ℕ)
    → (appended_number (answer f c r last n) ≡ 6) ↔ ((f ≡ true) × (c ≡ true) × (r ≡ false))
append_six true true true last n = (λ e. absurd (omega arith), λ h. absurd (true≢false h.2))
append_six true true false last n = (λ e. (refl, refl, refl), λ h. refl)
append_six true false r last n = (λ e. absurd (omega arith), λ h. absurd (false≢true h.1))
append_six false c r last n = (λ e. absurd (omega arith), λ h. absurd (false≢true h.0))

append_eight : (f c r : Bool) (last : Last) (n : ℕ)
    → (appended_number (answer f c r last n) ≡ 8) ↔ ((f ≡ false) ⊎ (c ≡ false))
append_eight true true true last n =
    (λ e. absurd (omega arith), ⊎_elim (λ h. absurd (true≢false h)) (λ h. absurd (true≢false h)))
append_eight true true false last n =
    (λ e. absurd (omega arith), ⊎_elim (λ h. absurd (true≢false h)) (λ h. absurd (true≢false h)))
append_eight true false r last n = (λ e. inr refl, λ h. refl)
append_eight false c r last n = (λ e. inl refl, λ h. refl)

-- an answer that refuses changes nothing
refused_keeps : (a : Result Appended QueueError) (ring after : List ℕ) → ¬ (appended_number a ≡ 0) → changed_by a ring after ≡ ring
refused_keeps (Ok a) ring after h = absurd (h refl)
refused_keeps (Err why) ring after h = refl

module _ (len head used set : ℕ) (back : Last) (b : Block) where
  abbrev fits : Bool
  fits = fits_ring len head used

  abbrev code : ℕ
  code = length (code_of_kept set back b)

  abbrev room : Bool
  room = leb (used + code) len

  pub append_is_0 : (appended_number (appended len head used set back b) ≡ 0)
      ↔ ((fits_ring len head used ≡ true) × (codable set back b ≡ true) × (used + length (code_of_kept set back b) ≤ len))
  unfolding appended
  append_is_0 =
      let (to, from) = append_zero fits (codable set back b) room (remembered (as_queued set b)) (used + code) in (
        λ e. ((to e).0, (to e).1, leb-true (used + code) len (to e).2),
        λ h. from (h.0, h.1, le-leb (used + code) len h.2),
      )

  pub append_gives : fits_ring len head used ≡ true → codable set back b ≡ true
      → used + length (code_of_kept set back b) ≤ len
      → appended len head used set back b ≡ code_appended (remembered (as_queued set b)) (used + length (code_of_kept set back b))
  unfolding appended
  append_gives f c r = rw (f, c, le-leb (used + code) len r)

  pub append_is_6 : (appended_number (appended len head used set back b) ≡ 6)
      ↔ ((fits_ring len head used ≡ true) × (codable set back b ≡ true) × (len < used + length (code_of_kept set back b)))
  unfolding appended
  append_is_6 =
      let (to, from) = append_six fits (codable set back b) room (remembered (as_queued set b)) (used + code) in (
        λ e. ((to e).0, (to e).1, leb-false (used + code) len (to e).2),
        λ h. from (h.0, h.1, lt-leb (used + code) len h.2),
      )

  pub append_is_8 : (appended_number (appended len head used set back b) ≡ 8)
      ↔ ((fits_ring len head used ≡ false) ⊎ (codable set back b ≡ false))
  unfolding appended
  append_is_8 = append_eight fits (codable set back b) room (remembered (as_queued set b)) (used + code)

-- the parts of an answer
abbrev kept_last : Last → Result Appended QueueError → Last
kept_last d (Ok a) = a.last
kept_last d (Err why) = d

abbrev use_after : Result Appended QueueError → ℕ
use_after (Ok a) = a.used
use_after (Err why) = 0

-- what a block appended says of the ring
pub record AppendedParts (len head used set : ℕ) (back : Last) (b : Block) (last : Last) (used₁ : ℕ) : Type 0 where
  pub fits : fits_ring len head used ≡ true
  pub can : codable set back b ≡ true
  pub room : used₁ ≤ len
  pub last_is : last ≡ remembered (as_queued set b)
  pub used_is : used₁ ≡ used + length (code_of_kept set back b)

pub appended_parts : (len head used set : ℕ) (back : Last) (b : Block) (last : Last) (used₁ : ℕ)
    → appended len head used set back b ≡ code_appended last used₁
    → AppendedParts len head used set back b last used₁
appended_parts len head used set back b last used₁ e =
    let (f, c, r) = (append_is_0 len head used set back b).0 (ap appended_number e) in
    let done : code_appended (remembered (as_queued set b)) (used + length (code_of_kept set back b)) ≡ code_appended last used₁ =
    sym (append_gives len head used set back b f c r) ∙ e in
    let used_is : used + length (code_of_kept set back b) ≡ used₁ = ap use_after done in
    record { fits = f; can = c; room = omega arith; last_is = sym (ap (kept_last last) done); used_is = sym used_is }

pub refused_stays : (ring : List ℕ) (head used set : ℕ) (back : Last) (b : Block)
    → ¬ (appended_number (appended (length ring) head used set back b) ≡ 0)
    → appended_ring ring head used set back b ≡ ring
unfolding appended_ring
refused_stays ring head used set back b = refused_keeps (appended (length ring) head used set back b) ring _

-- ---- measure

measure_zero : (c : Bool) (n : ℕ) (last : Last)
    → (measured_number (cond c (code_measured n last) (Err Q.NotCodable)) ≡ 0) ↔ (c ≡ true)
measure_zero true n last = (λ e. refl, λ h. refl)
measure_zero false n last = (λ e. absurd (omega arith), λ h. absurd (false≢true h))

measure_eight : (c : Bool) (n : ℕ) (last : Last)
    → (measured_number (cond c (code_measured n last) (Err Q.NotCodable)) ≡ 8) ↔ (c ≡ false)
measure_eight true n last = (λ e. absurd (omega arith), λ h. absurd (true≢false h))
measure_eight false n last = (λ e. refl, λ h. refl)

module _ (set : ℕ) (back : Last) (b : Block) where
  pub measure_is_0 : (measured_number (measured set back b) ≡ 0) ↔ (codable set back b ≡ true)
  unfolding measured
  measure_is_0 = measure_zero (codable set back b) (length (code_of_kept set back b)) (remembered (as_queued set b))

  pub measure_gives : codable set back b ≡ true
      → measured set back b ≡ code_measured (length (code_of_kept set back b)) (remembered (as_queued set b))
  unfolding measured
  measure_gives c = rw c

  pub measure_is_8 : (measured_number (measured set back b) ≡ 8) ↔ (codable set back b ≡ false)
  unfolding measured
  measure_is_8 = measure_eight (codable set back b) (length (code_of_kept set back b)) (remembered (as_queued set b))
