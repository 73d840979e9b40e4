-- `append_used` meets its contract. Assumes nothing.
use mathlib.Core.Path.{◌∙◌}
use Rattle.queue.proofs.QueueAnswers.{append_uncodable}
use Rattle.queue.proofs.PlainLaws.{codable_legal}
use Rattle.queue.proofs.appending.append_used.Goals as goal

pub returns-then-not-are_parameters_legal : goal.returns-then-not-are_parameters_legal
returns-then-not-are_parameters_legal c =
    let a = c.args in
    let p = c.requires in
    append_uncodable a.ring.now a.head a.used a.set a.back a.b p.0
    (codable_legal a.set a.back a.b _ p.1 c.are_parameters_legal.ensures
    ∙ c.if-not-are_parameters_legal.true)

pub append_kept-requires : goal.append_kept-requires
append_kept-requires c =
    let a = c.args in
    let p = c.requires in (
      p.0,
      codable_legal a.set a.back a.b _ p.1 c.are_parameters_legal.ensures
          ∙ c.if-not-are_parameters_legal.false,
    )
