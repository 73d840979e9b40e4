-- `measure` meets its contract. Assumes nothing.
use mathlib.Core.Path.{sym, ◌∙◌}
use Rattle.queue.proofs.QueueAnswers.{measured_no}
use Rattle.queue.proofs.PlainLaws.{codable_nowhere, codable_placed, measured_plain}
use Rattle.queue.proofs.measuring.measure.Goals as goal

pub returns-then-not-is_place_codable : goal.returns-then-not-is_place_codable
returns-then-not-is_place_codable c =
    let a = c.args in
    measured_no a.set a.back a.b
    (codable_nowhere a.set a.back a.b
    (sym c.is_place_codable.ensures ∙ c.if-not-is_place_codable.true))

pub measure_place-requires : goal.measure_place-requires
measure_place-requires c =
    let a = c.args in
    codable_placed a.back a.b (sym c.is_place_codable.ensures ∙ c.if-not-is_place_codable.false)

pub returns-then-set-eq0 : goal.returns-then-set-eq0
returns-then-set-eq0 c =
    let a = c.args in
    c.measure_place.ensures ∙ measured_plain a.set c.if-set-eq0.true a.back a.b
