-- `small::read_small` meets its contract where a whole code stands at the front. Assumes nothing.
use native.Mathlib.Omega.{arith}
use borrow.Author.Rules.{rules}
use Rattle.small.proofs.Reading.{word_fits, word_read}
use Rattle.small.proofs.read_small.Goals as goal

pub overflow_add-result-2 : goal.overflow_add-result-2
overflow_add-result-2 c =
    let k = c.in_ok-head in
    omega (
      arith,
      word_fits c.args.s.now k.rest.now k.head.now c.from.result c.read_tail.result (search rules) c.if-head-eq0.false
          (λ i. omega (arith, c.type_inv.s i)) (search rules) (search rules),
    )

pub returns : goal.returns
returns c =
    let k = c.in_ok-head in
    word_read c.args.s.now k.rest.now k.head.now c.from.result c.read_tail.result (search rules) c.if-head-eq0.false
    (λ i. omega (arith, c.type_inv.s i)) (search rules) (search rules) (search rules)
