-- The notes after a run are those of its history. Assumes nothing.
use Rattle.std.specs.Prelude.{Result}
use Rattle.queue.specs.declared.QueueError.{QueueError}
use Rattle.queue.specs.Queue.{front_taken}
use mathlib.Core.Path.{◌≡◌, refl, sym, ap, subst, ◌∙◌}
use mathlib.Core.Bool.{Bool, true, not}
use mathlib.Core.List.{List, []}
use Prim.Native.Nat.{ℕ, zero, suc, ◌<◌}
use native.Mathlib.Omega.{arith}
use lib.ListN.{length, take, drop, length-take}
use borrow.Author.Tests.{leb-true}
use Rattle.base.proofs.Test.{cases, cond_yes, cond_no, and_left, and_six, and_both}
use Rattle.base.specs.Places.{latest_number, latest_value}
use Rattle.image.specs.Cell.{meanings}
use Rattle.queue.specs.declared.Block.{Block}
use Rattle.queue.specs.declared.Taken.{Taken}
use Rattle.decide.specs.declared.Chosen.{Chosen}
use Rattle.decide.specs.Damage.{legal_chosen, undamaged, sound, cell_damaged}
use Rattle.decide.specs.Children.{children_of}
use Rattle.implicit.specs.Record.{sound_counts, sound_ring, sound_use, sound_last, sound_record, queue_empty}
use Rattle.implicit.specs.Listing.{front_of}
use Rattle.implicit.specs.Step.{World, StepEnd, refused, finished, tape_step_of}
use Rattle.implicit.proofs.StepLawsWent.{Went, went, step_stays}
use Rattle.explain.specs.declared.noting.Notes.{Notes}
use Rattle.explain.specs.History.{PastStep, past_taking, past_on, history_from}
use Rattle.explain.specs.Reasons.{covers_at, last_mark, last_point, last_denial, last_giving_up}
use Rattle.explain.specs.NotesComputed.{no_notes, noted_front}
use Rattle.explain.specs.RepeatComputed.{noted_on, notes_on, notes_after}
use Rattle.explain.proofs.NotesMean.{notes_of, block_noted}

-- A FINISHED STEP, noted

module _ (column row : ℕ) (w : World) (tape : List ℕ) (next : World) (evals bytes : ℕ)
    (e : tape_step_of w tape ≡ finished next evals bytes) where
  abbrev its : Chosen
  its = w.state.chosen

  abbrev how : Went true w tape next evals bytes
  how = went true w tape next evals bytes e

  abbrev block : Block
  block = how.block

  sound_block : sound its block ≡ true
  unfolding sound_record
  sound_block =
      let s = w.state in
      and_both (legal_chosen its) (undamaged its block)
      (and_six (legal_chosen its) (sound_counts s) (sound_ring (length w.ring) s) (sound_use s) (sound_last s.front) (sound_last s.back)
      how.record_is_sound).0
      (and_left (undamaged its block) (not (cell_damaged its block (meanings w.cells))) how.undamaged_block)

  many : length (take (length (children_of its block)) tape) ≡ length (children_of its block)
  many =
      let g = leb-true (length (children_of its block)) (length tape) how.enough in
      let h = length-take (length (children_of its block)) tape in
      omega (arith, g, h)

  -- the steps so far, and this one
  abbrev and_this : List PastStep → List PastStep
  and_this h = past_taking w (take bytes tape) (front_of w.state w.ring) h

  step_noted_on : column < its.width → row < its.height → (h : List PastStep)
      → noted_on column row w tape (suc (length h)) (notes_of its (covers_at its column row) h)
      ≡ notes_of its (covers_at its column row) (and_this h)
  step_noted_on in_width in_height h = by_parts (front_of w.state w.ring) bytes how.front_read how.bytes_are
    where
      by_parts : (t : Result Taken QueueError) (n : ℕ) → t ≡ front_taken block how.last how.head how.used → n ≡ length (children_of its block)
          → noted_front its column row w.cells tape (suc (length h)) t (notes_of its (covers_at its column row) h)
          ≡ notes_of its (covers_at its column row) (past_taking w (take n tape) t h)
      by_parts t n f g =
          rw (f, g) (block_noted its column row in_width in_height block w.cells tape sound_block how.cells_enough many h)

  one_more : (h : List PastStep) → length (and_this h) ≡ suc (length h)
  one_more h = rw how.front_read

  -- the same, where the picture is known by another name
  noted_for : (p : Chosen) → its ≡ p → column < p.width → row < p.height → (h : List PastStep)
      → noted_on column row w tape (suc (length h)) (notes_of p (covers_at p column row) h) ≡ notes_of p (covers_at p column row) (and_this h)
  noted_for p s =
      subst (λ (q : Chosen). column < q.width → row < q.height → (h : List PastStep)
      → noted_on column row w tape (suc (length h)) (notes_of q (covers_at q column row) h)
      ≡ notes_of q (covers_at q column row) (and_this h)) s step_noted_on

-- A RUN

module _ (p : Chosen) (column row : ℕ) (in_width : column < p.width) (in_height : row < p.height) where
  abbrev here : Block → Bool
  here = covers_at p column row

  notes_from : (left : ℕ) (w : World) → w.state.chosen ≡ p → (tape : List ℕ) (h : List PastStep)
      → notes_after column row left w tape (length h) (notes_of p here h) ≡ notes_of p here (history_from left w tape h)
  unfolding notes_after history_from
  notes_from zero w s tape h = refl
  notes_from (suc left) w s tape h =
      cases (queue_empty w.state)
      (λ e. cond_yes (queue_empty w.state) _ _ e ∙ sym (ap (notes_of p here) (cond_yes (queue_empty w.state) _ _ e)))
      (λ e. cond_no (queue_empty w.state) _ _ e ∙ on (tape_step_of w tape) refl (λ next s' t h'. notes_from left next s' t h')
      ∙ sym (ap (notes_of p here) (cond_no (queue_empty w.state) _ _ e)))
    where
      on : (s : StepEnd) → tape_step_of w tape ≡ s
          → ((next : World) → next.state.chosen ≡ p → (t : List ℕ) (h' : List PastStep)
          → notes_after column row left next t (length h') (notes_of p here h') ≡ notes_of p here (history_from left next t h'))
          → notes_on (notes_of p here h) s
          (λ next bytes. notes_after column row left next (drop bytes tape) (suc (length h))
          (noted_on column row w tape (suc (length h)) (notes_of p here h)))
          ≡ notes_of p here (past_on w tape s h (λ next bytes past. history_from left next (drop bytes tape) past))
      on (refused why) f ih = refl
      on (finished next evals bytes) f ih =
          let past = and_this column row w tape next evals bytes f h in
          let stay : next.state.chosen ≡ p = (step_stays true w tape next evals bytes f).chosen ∙ s in
          ap (λ (k : Notes). notes_after column row left next (drop bytes tape) (suc (length h)) k)
          (noted_for column row w tape next evals bytes f p s in_width in_height h)
          ∙ ap (λ (n : ℕ). notes_after column row left next (drop bytes tape) n (notes_of p here past))
          (sym (one_more column row w tape next evals bytes f h))
          ∙ ih next stay (drop bytes tape) past

  -- THE NOTES from the beginning
  pub notes_history : (budget : ℕ) (w : World) → w.state.chosen ≡ p → (tape : List ℕ)
      → notes_after column row budget w tape 0 no_notes ≡ notes_of p here (history_from budget w tape [])
  unfolding last_mark last_point last_denial last_giving_up latest_number latest_value
  notes_history budget w s tape = notes_from budget w s tape []
