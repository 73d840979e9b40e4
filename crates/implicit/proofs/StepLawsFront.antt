-- The front block that was read, and that what its step queues can be queued. Assumes nothing.
use Rattle.std.specs.Prelude.{Err}
use Rattle.queue.specs.declared.QueueError.TheVariants as Q
use Rattle.queue.specs.Queue.{front_taken}
use Rattle.queue.specs.Answers.{taken_block, taken_last, taken_head, taken_used}
use Rattle.std.specs.Prelude.{Option, Some, None}
use mathlib.Core.Path.{◌≡◌, refl, sym, ap, ◌∙◌}
use mathlib.Core.Bool.{true, not}
use mathlib.Core.List.{List}
use Prim.Native.Nat.{ℕ, ◌+◌, ◌-◌, ◌≤◌, ◌<◌}
use native.Mathlib.Omega.{arith}
use lib.Dec.{ltb}
use lib.ListN.{length}
use borrow.Author.Tests.{ltb-true}
use Rattle.base.proofs.Test.{cases, by_test, and_left, and_both}
use Rattle.base.proofs.ListLaws.{every_also}
use Rattle.image.specs.Cell as Cells
use Rattle.queue.specs.declared.Block.{Block}
use Rattle.queue.specs.declared.Last.{Last}
use Rattle.queue.specs.Block.{remembered}
use Rattle.queue.specs.Ring.{content, fits_ring, wrapped}
use Rattle.queue.specs.Decode.{decode}
use Rattle.queue.specs.Queue.{taken, taken_with}
use Rattle.queue.proofs.QueueAnswers.{fits_both}
use Rattle.queue.proofs.BlockReading.{inside_read, decode_inside}
use Rattle.queue.proofs.RingLaws.{content_length}
use Rattle.queue.proofs.RoundTrip.{CanQueue}
use Rattle.decide.specs.Damage.{legal_chosen, undamaged, cell_damaged, sound}
use Rattle.plan.proofs.EventLaws.{queued_sound}
use Rattle.implicit.specs.declared.state.State.{State}
use Rattle.implicit.specs.Record.{sound_record}
use Rattle.implicit.specs.Listing.{front_of}
use Rattle.implicit.specs.Step.{world_of, outcomes_of, new_blocks, block_sound}
use Rattle.implicit.proofs.RecordLaws.{sound_chosen}
use Rattle.implicit.proofs.StepLawsKept.{LastHeld, AllReady, read_kept, read_held, block_fine}

-- THE FRONT BLOCK THAT WAS READ

pub record FrontRead (ring : List ℕ) (head used set : ℕ) (front : Last) (b : Block) (last : Last) (head' used' : ℕ) : Type 0 where
  pub size : ℕ
  pub decodes : decode set front (content ring head used) ≡ Some (b, size)
  pub remembers : last ≡ remembered b
  pub next_head : head' ≡ wrapped (length ring) (head + size)
  pub next_used : used' ≡ used - size
  pub size_in : size ≤ used
  pub head_in : head < length ring
  pub used_in : used ≤ length ring

pub front_read : (ring : List ℕ) (head used set : ℕ) (front : Last) (b : Block) (last : Last) (head' used' : ℕ)
    → taken ring head used set front ≡ front_taken b last head' used'
    → FrontRead ring head used set front b last head' used'
unfolding taken
front_read ring head used set front b last head' used' e =
    cases (fits_ring (length ring) head used)
    (λ f. go (fits_both (length ring) head used f) (decode set front (content ring head used)) refl (rw f at e))
    (λ f. (let g : Err Q.Outside ≡ front_taken b last head' used' = rw f at e in let z : ◌≡◌ {A = ℕ} 0 1 = cc in absurd (omega arith)))
  where
    go : (head < length ring) × (used ≤ length ring) → (r : Option (Block × ℕ)) → decode set front (content ring head used) ≡ r
        → taken_with (length ring) head used r ≡ front_taken b last head' used'
        → FrontRead ring head used set front b last head' used'
    go f (Some (c, n)) d h =
        let same : c ≡ b = ap taken_block h in
        let k = inside_read (content ring head used) (decode set front (content ring head used)) c n (decode_inside set front (content ring head used)) d in
        let l = content_length ring head used (omega (arith, f.0)) f.1 in
        record {
          size = n;
          decodes = d ∙ ap (λ (x : Block). Some (x, n)) same;
          remembers = sym (ap taken_last h) ∙ ap remembered same;
          next_head = sym (ap taken_head h);
          next_used = sym (ap taken_used h);
          size_in = omega (arith, k, l);
          head_in = f.0;
          used_in = f.1;
        }
    go f None d h = let z : ◌≡◌ {A = ℕ} 0 1 = cc in absurd (omega arith)

wrapped_in : (n p : ℕ) → p < n + n → wrapped n p < n
wrapped_in n p h = by_test (λ x. x < n) (ltb p n) p (p - n) (λ e. ltb-true p n e) (λ e. omega arith)

module _ (s : State) (ring : List ℕ) (b : Block) (last : Last) (head used : ℕ) (f : front_of s ring ≡ front_taken b last head used) where
  pub front_known : FrontRead ring s.head s.used s.chosen.set s.front b last head used
  front_known = front_read ring s.head s.used s.chosen.set s.front b last head used f

  pub front_head : head < length ring
  front_head = let r = front_known in rw r.next_head (wrapped_in (length ring) (s.head + r.size) (omega (arith, r.head_in, r.size_in, r.used_in)))

  pub front_used : used ≤ length ring
  front_used = let r = front_known in omega (arith, r.next_used, r.used_in)

  module _ (cells : List ℕ) (a : sound_record (length ring) s ≡ true) (d : block_sound s.chosen cells b ≡ true) where
    -- a block that is not damaged, of a sound record
    pub block_whole : sound s.chosen b ≡ true
    block_whole =
        and_both (legal_chosen s.chosen) (undamaged s.chosen b) (sound_chosen (length ring) s a)
        (and_left (undamaged s.chosen b) (not (cell_damaged s.chosen b (Cells.meanings cells))) d)

    -- what its step queues can be queued
    pub new_ready : LastHeld s.front → (own : List ℕ) → AllReady s.chosen.set (new_blocks (world_of s ring cells) b own)
    new_ready held own =
        let p = s.chosen in
        let w = world_of s ring cells in
        let r = front_known in
        let bytes = content ring s.head s.used in
        let v = read_held p.set s.front bytes b r.size r.decodes held in
        let q = read_kept p.set s.front bytes b r.size r.decodes in
        every_also (λ c. (sound p c ≡ true) × CanQueue p.set c) (CanQueue p.set) (λ c z. z.1) (new_blocks w b own)
        (queued_sound p b block_whole (outcomes_of w b own) (block_fine p b block_whole q v))
