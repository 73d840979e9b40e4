-- `append` meets its contract. Assumes nothing.
use mathlib.Core.Path.{◌≡◌, sym, ◌∙◌}
use mathlib.Core.Bool.{true}
use lib.ListN.{length}
use Rattle.queue.specs.Ring.{fits_ring}
use Rattle.queue.specs.CodeComputed.{place_codable}
use Rattle.queue.proofs.QueueAnswers.{append_outside, append_uncodable}
use Rattle.queue.proofs.PlainLaws.{codable_nowhere, codable_placed, appended_plain, ring_plain}
use Rattle.queue.proofs.appending.append.Lts
use Rattle.queue.proofs.appending.append.Reads
use Rattle.queue.proofs.appending.append.Tie
use Rattle.queue.proofs.appending.append.Goals as goal

-- head and use fit, and the place can be coded
fit : (c : Lts.Else1 Tie.the-claims Reads.Pre Reads.Post) → let a = c.args in fits_ring (length a.ring.now) a.head a.used ≡ true
fit c = sym c.fits_ring.ensures ∙ c.if-not-fits_ring.false

place : (c : Lts.Else2 Tie.the-claims Reads.Pre Reads.Post) → let a = c.args in place_codable a.b.x a.b.y a.back.x a.back.y ≡ true
place c = sym c.is_place_codable.ensures ∙ c.if-not-is_place_codable.false

pub returns-then-not-fits_ring : goal.returns-then-not-fits_ring
returns-then-not-fits_ring c =
    let a = c.args in
    append_outside a.ring.now a.head a.used a.set a.back a.b
    (sym c.fits_ring.ensures ∙ c.if-not-fits_ring.true)

pub returns-then-not-is_place_codable : goal.returns-then-not-is_place_codable
returns-then-not-is_place_codable c =
    let a = c.args in
    append_uncodable a.ring.now a.head a.used a.set a.back a.b (fit c.before.before.before.before.before)
    (codable_nowhere a.set a.back a.b (sym c.is_place_codable.ensures ∙ c.if-not-is_place_codable.true))

pub append_place-requires : goal.append_place-requires
append_place-requires c =
    let a = c.args in
    (fit c.before.before.before.before.before.before, codable_placed a.back a.b (place c.before.before))

pub returns-then-set-eq0 : goal.returns-then-set-eq0
returns-then-set-eq0 c =
    let a = c.args in
    let h = c.if-set-eq0.true in
    let e = c.append_place.ensures in (
      e.0 ∙ appended_plain a.set h a.back a.b (length a.ring.now) a.head a.used,
      e.1 ∙ ring_plain a.set h a.back a.b a.ring.now a.head a.used,
    )

pub append_used-requires : goal.append_used-requires
append_used-requires c = (fit c.before.before.before.before.before.before, place c.before.before)
