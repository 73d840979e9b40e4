-- `measure_used` meets its contract. Assumes nothing.
use mathlib.Core.Path.{◌∙◌}
use Rattle.queue.proofs.QueueAnswers.{codable_both, measured_no, measured_yes}
use Rattle.queue.proofs.PlainLaws.{codable_legal}
use Rattle.queue.proofs.measuring.measure_used.Goals as goal

pub returns-then-not-are_parameters_legal : goal.returns-then-not-are_parameters_legal
returns-then-not-are_parameters_legal c =
    let a = c.args in
    measured_no a.set a.back a.b
    (codable_legal a.set a.back a.b _ c.requires c.are_parameters_legal.ensures
    ∙ c.if-not-are_parameters_legal.true)

pub block_length-requires : goal.block_length-requires
block_length-requires c =
    let a = c.args in
    let k = codable_both a.set a.back a.b
    (codable_legal a.set a.back a.b _ c.requires c.are_parameters_legal.ensures
    ∙ c.if-not-are_parameters_legal.false) in
    (rw c.as_queued-kept.ensures k.0, k.1)

pub returns : goal.returns
returns c =
    let a = c.args in
    let k = c.as_queued-kept in
    measured_yes a.set a.back a.b k.result _ c.remember.result
    (codable_legal a.set a.back a.b _ c.requires c.are_parameters_legal.ensures
    ∙ c.if-not-are_parameters_legal.false)
    k.ensures c.block_length.ensures c.remember.ensures
