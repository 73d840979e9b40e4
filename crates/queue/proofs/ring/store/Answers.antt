-- `store` meets its contract. Assumes nothing.
use Rattle.std.proofs.Common.{ℕ, ◌-◌, length, take, drop, length-take, length-drop, refl, sym, ◌∙◌, arith}
use Rattle.std.proofs.lemmas.List.Edits.{sets}
use Rattle.std.proofs.Math.Seq.{length-sets}
use Rattle.queue.proofs.RingLaws.{rest_all, stored_straight, stored_round}
use Rattle.queue.proofs.WriteLaws.{part_put, front_put}
use Rattle.queue.proofs.ring.store.Goals as goal

pub returns-then-source-room : goal.returns-then-source-room
returns-then-source-room c =
    let a = c.args in
    part_put a.ring.now a.source.now _ a.from _ c.copy_from_slice.ensures.after (omega arith) (omega arith)
    ∙ sym (stored_straight a.source.now a.ring.now a.from (omega arith))

pub returns : goal.returns
returns c =
    let a = c.args in
    let room : ℕ = length a.ring.now - a.from in
    let first = part_put a.ring.now (take room a.source.now) _ a.from room c.copy_from_slice-2.ensures.after
    (simp length-take (omega arith)) (simp length-take (omega arith)) in
    rw first (front_put (sets a.ring.now a.from (take room a.source.now)) (drop room a.source.now) _ _
    (c.copy_from_slice-3.ensures.after ∙ rest_all a.source.now room)
    (simp length-drop) (simp (length-drop, length-sets) (omega arith)))
    ∙ sym (stored_round a.source.now a.ring.now a.from room (omega arith) refl (omega arith) (omega arith))
