-- `decide::verdict::first_point` meets its contract. Assumes nothing.
use native.Mathlib.Omega.{arith}
use Rattle.decide.proofs.VerdictLaws.{place_of_first, place_small}
use Rattle.decide.proofs.verdict.first_point.Goals as goal

pub overflow_sub-result : goal.overflow_sub-result
overflow_sub-result c = omega (arith, place_of_first c.args.v c.requires.0)

pub overflow_cast-result : goal.overflow_cast-result
overflow_cast-result c = omega (arith, place_of_first c.args.v c.requires.0, place_small c.args.v)

pub returns : goal.returns
returns c = omega (arith, place_of_first c.args.v c.requires.0)
