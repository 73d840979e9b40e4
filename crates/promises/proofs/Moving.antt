-- A move to another ring, from any world of which the invariant holds: when it is made, and what it keeps. Assumes nothing.
use mathlib.Core.Path.{◌≡◌, refl, sym, ap, ◌∙◌}
use mathlib.Core.Logic.{◌⊎◌}
use mathlib.Core.List.{List}
use Prim.Native.Nat.{ℕ, ◌≤◌, ◌<◌}
use native.Mathlib.Omega.{arith}
use lib.ListN.{length}
use Rattle.refusal.specs.declared.Refusal.{Refusal}
use Rattle.refusal.specs.declared.Refusal.TheVariants as R
use Rattle.refusal.specs.Number.{number}
use Rattle.queue.specs.Ring.{content}
use Rattle.queue.specs.Queue.{queue_codes}
use Rattle.decide.specs.declared.Chosen.{Chosen}
use Rattle.implicit.specs.Step.{World}
use Rattle.implicit.specs.Move.{moved_record, moved_world, not_moved, moved, move_of}
use Rattle.implicit.proofs.RecordLaws.{sound_record_lem}
use Rattle.promises.specs.Chart.{Pixel, queued_blocks}
use Rattle.promises.specs.Steps.{MovesTo, reads_in}
use Rattle.promises.proofs.Invariant.{keeps_queue}
use Rattle.promises.proofs.MoveKeeps.{ring_kept, ring_taken, ring_refused, move_keeps, kept_queue}
use Rattle.promises.proofs.Linked.{Reached}

module _ (p : Chosen) (w : World) (h : Reached p w) where
  pub ring_goes : (ring : List ℕ) → 0 < length ring → w.state.used ≤ length ring → move_of w ring ≡ moved (moved_world w ring)
  ring_goes ring = ring_taken w ring h.blocks h.keeps

  -- the record has a ring with a byte, and no more bytes used than it has
  pub longer_goes : (ring : List ℕ) → length w.ring ≤ length ring → move_of w ring ≡ moved (moved_world w ring)
  longer_goes ring e =
      let f = sound_record_lem (length w.ring) w.state h.keeps.record_is_sound in
      ring_goes ring (omega (arith, f.head)) (omega (arith, f.used))

  pub shorter_refused : (ring : List ℕ) → (length ring ≡ 0) ⊎ (length ring < w.state.used)
      → (why : Refusal) × (move_of w ring ≡ not_moved why) × (number why ≡ 6)
  shorter_refused ring e = (R.Room, ring_refused w ring h.blocks h.keeps e, refl)

  pub codes_first : (ring : List ℕ) → 0 < length ring → w.state.used ≤ length ring
      → content (moved_world w ring).ring 0 w.state.used ≡ queue_codes w.state.chosen.set w.state.front (queued_blocks w)
  unfolding moved_world moved_record
  codes_first ring some room =
      (ring_kept w ring h.blocks h.keeps some room).keeps.holds.bytes_are
      ∙ ap (queue_codes w.state.chosen.set w.state.front) (sym (keeps_queue w h.blocks h.keeps))

  pub queue_kept : {w' : World} → MovesTo w w' → queued_blocks w' ≡ queued_blocks w
  queue_kept {w'} m = kept_queue w h.blocks w' h.keeps (move_keeps m h.blocks h.keeps)

  pub readings_kept : {w' : World} → MovesTo w w' → (q : Pixel p) → reads_in p w' q ≡ reads_in p w q
  unfolding reads_in
  readings_kept m q = let k = move_keeps m h.blocks h.keeps in rw (k.meanings, k.taken)
