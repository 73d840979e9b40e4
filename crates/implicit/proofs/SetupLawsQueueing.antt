-- The first blocks written into the ring one after the other: what is left to write from the i-th on is what was to write. Assumes nothing.
use Rattle.std.specs.Prelude.{Result, Ok, Err}
use Rattle.queue.specs.declared.QueueError.{QueueError}
use Rattle.queue.specs.Queue.{code_appended}
use mathlib.Core.Path.{◌≡◌, refl, sym, ap, ap₂, ◌∙◌}
use mathlib.Core.Bool.{Bool, true, false, false≢true}
use mathlib.Core.List.{List, [], ◌∷◌}
use Prim.Native.Nat.{ℕ, ◌+◌, ◌-◌, ◌≤◌}
use native.Mathlib.Omega.{arith}
use native.Mathlib.Nat.{add-zero, zero-add}
use lib.Dec.{leb, ltb}
use lib.ListN.{length, drop, length-append, drop_of_length-le}
use borrow.Author.Tests.{le-leb, lt-ltb}
use Rattle.base.proofs.Test.{and_both, by_ltb}
use Rattle.queue.specs.declared.Block.{Block}
use Rattle.queue.specs.declared.Last.{Last}
use Rattle.queue.specs.declared.Appended.{Appended}
use Rattle.queue.specs.Block.{starting_last, as_queued, remembered}
use Rattle.queue.specs.Code.{encode}
use Rattle.queue.specs.Ring.{fits_ring, wrapped, stored, stored_behind}
use Rattle.queue.specs.Queue.{codable, appended, appended_ring, queue_codes, memory}
use Rattle.queue.proofs.RingLaws.{length_stored, store_append}
use Rattle.queue.proofs.QueueLaws.{encode_some}
use Rattle.queue.proofs.RoundTrip.{CanQueue, Known}
use Rattle.queue.proofs.KeptLaws.{known_after, known_start}
use Rattle.decide.specs.declared.Chosen.{Chosen}
use Rattle.implicit.specs.declared.state.Ranges.{Ranges}
use Rattle.implicit.specs.declared.first.Product.{Product}
use Rattle.implicit.specs.declared.first.Behind.{Behind}
use Rattle.implicit.specs.Setup.{first_blocks, first_bytes, ranges_legal, start_ring}
use Rattle.implicit.specs.SetupComputed.{product_of, behind_with, behind_first}
use Rattle.implicit.proofs.SetupLawsFirst.{product_list, first_is}

-- ONE BLOCK WRITTEN

abbrev last_of : Result Appended QueueError → Last → Last
last_of (Ok a) other = a.last
last_of (Err why) other = other

abbrev used_of : Result Appended QueueError → ℕ
used_of (Ok a) = a.used
used_of (Err why) = 0

abbrev pub is_done : Result Appended QueueError → Bool
is_done (Ok a) = true
is_done (Err why) = false

module _ (ring : List ℕ) (set : ℕ) (k : Behind) (b : Block) (can : codable set k.back b ≡ true) (is : as_queued set b ≡ b)
    (fits : fits_ring (length ring) 0 k.used ≡ true)
    (room : k.used + length (encode set k.back b) ≤ length ring) where
  done_is : appended (length ring) 0 k.used set k.back b ≡ code_appended (remembered b) (k.used + length (encode set k.back b))
  unfolding appended
  done_is = rw (fits, can, is, le-leb (k.used + length (encode set k.back b)) (length ring) room)

  pub queued_ring : (ring₁ : List ℕ) → ring₁ ≡ appended_ring ring 0 k.used set k.back b → ring₁ ≡ stored_behind ring 0 k.used (encode set k.back b)
  unfolding appended_ring
  queued_ring ring₁ e = e ∙ rw (done_is, is)

  module _ (a : Result Appended QueueError) (e : a ≡ appended (length ring) 0 k.used set k.back b) where
    pub queued_behind : (last : Last) (used : ℕ) → a ≡ code_appended last used → record { back = last; used = used } ≡ behind_with set k b
    unfolding behind_with
    queued_behind last used g =
        let h : code_appended last used ≡ code_appended (remembered b) (k.used + length (encode set k.back b)) = sym g ∙ e ∙ done_is in
        rw (ap (λ (o : Result Appended QueueError). last_of o last) h, ap used_of h)

    pub queued_else : {P : Type 0} (o : Result Appended QueueError) → is_done o ≡ false → a ≡ o → P
    queued_else o n g = absurd (false≢true (sym n ∙ ap is_done (sym g ∙ e ∙ done_is)))

-- ALL OF THEM

-- i blocks of a list are written
pub record Queueing (set : ℕ) (bs : List Block) (ring₀ : List ℕ) (i : ℕ) (k : Behind) (ring : List ℕ) : Type 0 where
  pub known : Known k.back
  pub same : length ring ≡ length ring₀
  pub left : k.used + length (queue_codes set k.back (drop i bs)) ≡ length (queue_codes set starting_last bs)
  pub bytes : stored_behind ring 0 k.used (queue_codes set k.back (drop i bs)) ≡ stored ring₀ 0 (queue_codes set starting_last bs)
  pub last : memory k.back (drop i bs) ≡ memory starting_last bs

-- byte 0 is the first behind none
pub behind_none : (ring bs : List ℕ) → stored_behind ring 0 0 bs ≡ stored ring 0 bs
behind_none ring bs =
    by_ltb (λ (at : ℕ). stored ring at bs ≡ stored ring 0 bs) 0 (length ring) 0 (0 - length ring) (λ h. refl)
    (λ h. let e : 0 - length ring ≡ 0 = omega arith in rw e)

pub queue_start : (set : ℕ) (bs : List Block) (ring : List ℕ) (back : Last) → back ≡ starting_last
    → Queueing set bs ring 0 (record { back = back; used = 0 }) ring
queue_start set bs ring back e =
    record {
      known = rw e known_start;
      same = refl;
      left = rw e (zero-add (length (queue_codes set starting_last bs)));
      bytes = rw e (behind_none ring (queue_codes set starting_last bs));
      last = rw e;
    }

module _ (set : ℕ) (bs : List Block) (ring₀ : List ℕ) (i : ℕ) (k : Behind) (ring : List ℕ) (b : Block)
    (here : drop i bs ≡ b ∷ drop (i + 1) bs) (fits : length (queue_codes set starting_last bs) ≤ length ring₀)
    (q : Queueing set bs ring₀ i k ring) where
  rest : List ℕ
  rest = queue_codes set (remembered b) (drop (i + 1) bs)

  left_here : k.used + (length (encode set k.back b) + length rest) ≡ length (queue_codes set starting_last bs)
  unfolding rest queue_codes
  left_here = ap (λ (n : ℕ). k.used + n) (sym (length-append (encode set k.back b) rest)) ∙ (rw here at q.left)

  -- there is room for its code
  pub queue_room : k.used + length (encode set k.back b) ≤ length ring
  queue_room = omega (arith, left_here, q.same)

  pub queue_fits : fits_ring (length ring) 0 k.used ≡ true
  queue_fits =
      and_both (ltb 0 (length ring)) (leb k.used (length ring))
      (lt-ltb 0 (length ring) (omega (arith, queue_room, encode_some set k.back b)))
      (le-leb k.used (length ring) (omega (arith, queue_room)))

  pub queue_again : (k₁ : Behind) (ring₁ : List ℕ) → CanQueue set b → k₁ ≡ behind_with set k b → ring₁ ≡ stored_behind ring 0 k.used (encode set k.back b)
      → Queueing set bs ring₀ (i + 1) k₁ ring₁
  unfolding behind_with rest queue_codes memory
  queue_again k₁ ring₁ can e f =
      let code : List ℕ = encode set k.back b in
      rw (e, f) (record {
        known = known_after set b can;
        same = length_stored code ring (wrapped (length ring) (0 + k.used)) ∙ q.same;
        left = omega (arith, left_here);
        bytes = store_append code rest ring 0 k.used (omega (arith, queue_room, encode_some set k.back b)) queue_room ∙ (rw here at q.bytes);
        last = rw here at q.last;
      })

-- nothing is left
pub queue_end : (p : Chosen) (r : Ranges) (f : Product) (ring₀ ring : List ℕ) (i : ℕ) (k : Behind) → f ≡ product_of p r
    → ranges_legal p.set r ≡ true → length (product_list f) ≤ i
    → Queueing p.set (product_list f) ring₀ i k ring → (k ≡ behind_first p r) × (ring ≡ start_ring p r ring₀)
unfolding behind_first start_ring first_bytes queue_codes memory stored
queue_end p r f ring₀ ring i k e ok h q =
    let is : product_list f ≡ first_blocks p r = ap product_list e ∙ sym (first_is p r ok) in
    let gone : drop i (product_list f) ≡ [] = drop_of_length-le (product_list f) h in
    let used : k.used ≡ length (queue_codes p.set starting_last (first_blocks p r)) =
    sym (add-zero k.used) ∙ (rw gone at q.left) ∙ ap (λ (l : List Block). length (queue_codes p.set starting_last l)) is in
    let back : k.back ≡ memory starting_last (first_blocks p r) = (rw gone at q.last) ∙ ap (memory starting_last) is in
    let ends : ring ≡ stored ring₀ 0 (queue_codes p.set starting_last (product_list f)) = rw gone at q.bytes in
    (ap₂ (λ (b : Last) (u : ℕ). behind_at b u) back used, ends ∙ ap (λ (l : List Block). stored ring₀ 0 (queue_codes p.set starting_last l)) is)
  where
    behind_at : Last → ℕ → Behind
    behind_at b u = record { back = b; used = u }
