-- What a finished step leaves is sound, if only its use is: a run tests no more of it. (The use may be wrong where the ring holds fewer blocks than the record counts.)
-- Assumes nothing.
use mathlib.Core.Path.{◌≡◌, ◌∙◌}
use mathlib.Core.Bool.{Bool, true}
use mathlib.Core.List.{List, [], ◌∷◌}
use Prim.Native.Nat.{ℕ}
use native.Mathlib.Omega.{arith}
use lib.ListN.{length}
use borrow.Author.Tests.{ltb-true}
use Rattle.base.proofs.Test.{and_left}
use Rattle.queue.specs.declared.Block.{Block}
use Rattle.queue.specs.declared.Last.{Last}
use Rattle.queue.specs.Block.{remembered}
use Rattle.queue.specs.Queue.{memory}
use Rattle.plan.proofs.ChildLaws.{fine_parameters}
use Rattle.decide.specs.Damage.{undamaged}
use Rattle.implicit.specs.Record.{sound_last, put_last}
use Rattle.implicit.specs.Step.{World, finished, new_blocks, world_left, step_with}
use Rattle.implicit.specs.RunComputed.{SoundByUse}
use Rattle.implicit.proofs.RecordLaws.{sound_record_lem, record_sound, use_as, sound_last_lem, last_sound, put_last_sound, remembered_sound}
use Rattle.implicit.proofs.StepLawsKept.{Ready, AllReady, LastHeld}
use Rattle.implicit.proofs.StepLawsFront.{front_known, front_head, new_ready}
use Rattle.implicit.proofs.StepLawsWent.{Went, went, step_stays}

-- what is remembered of blocks that can be queued is sound
ready_sound : (set : ℕ) (b : Block) → Ready set b → sound_last (remembered b) ≡ true
unfolding remembered
ready_sound set b r =
    let l = fine_parameters set b r.fine in
    last_sound (remembered b) (record { x = r.x.bound; y = r.y.bound; m = l.m; n = l.n; theta = l.theta; t = l.t })

memory_sound : (set : ℕ) (last : Last) (q : List Block) → sound_last last ≡ true → AllReady set q → sound_last (memory last q) ≡ true
unfolding memory
memory_sound set last [] h r = h
memory_sound set last (b ∷ q) h r = memory_sound set (remembered b) q (ready_sound set b r.0) r.1

module _ (tape : Bool) (w : World) (vs : List ℕ) (left : World) (e n : ℕ) (g : Went tape w vs left e n) where
  last_is : sound_last g.last ≡ true
  last_is =
      rw (front_known w.state w.ring g.block g.last g.head g.used g.front_read).remembers
      (remembered_sound w.state.chosen g.block (and_left (undamaged w.state.chosen g.block) _ g.undamaged_block))

  module _ (held : LastHeld w.state.front) where
    back_is : sound_last (memory (put_last w.state.back) (new_blocks w g.block g.own)) ≡ true
    back_is =
        memory_sound w.state.chosen.set (put_last w.state.back) (new_blocks w g.block g.own)
        (put_last_sound w.state.back ∙ last_sound w.state.back (sound_record_lem (length w.ring) w.state g.record_is_sound).back)
        (new_ready w.state w.ring g.block g.last g.head g.used g.front_read w.cells g.record_is_sound g.undamaged_block held g.own)

    went_sound : SoundByUse (length w.ring) (world_left w g.block g.last g.head g.used g.own).state
    unfolding world_left
    went_sound u =
        let s = sound_record_lem (length w.ring) w.state g.record_is_sound in
        record_sound (length w.ring) _ (record {
          chosen = s.chosen;
          order = omega (arith, ltb-true w.state.taken w.state.queued g.not_empty);
          numbers = g.numbers;
          ring = s.ring;
          head = front_head w.state w.ring g.block g.last g.head g.used g.front_read;
          used = g.room;
          empty = use_as (world_left w g.block g.last g.head g.used g.own).state u;
          front = sound_last_lem g.last last_is;
          back = sound_last_lem (memory (put_last w.state.back) (new_blocks w g.block g.own)) back_is;
        })

pub step_sound : (tape : Bool) (w : World) (vs : List ℕ) (left : World) (e n : ℕ) → LastHeld w.state.front → step_with tape w vs ≡ finished left e n
    → SoundByUse (length left.ring) left.state
step_sound tape w vs left e n held h =
    let g = went tape w vs left e n h in
    let same = (step_stays tape w vs left e n h).ring in
    rw (same, g.leaves) (went_sound tape w vs left e n g held)
