-- `parameter_count` meets its contract: the sum of the counts is the length of the list. Assumes nothing.
use native.Mathlib.Omega.{arith}
use Rattle.queue.proofs.DirectionLaws.{parameters_length}
use Rattle.queue.proofs.directions.parameter_count.Goals as goal

pub returns : goal.returns
returns c =
    record {
      value = parameters_length c.args.set _ _ _ _
          c.count_of-m.ensures.value c.count_of-n.ensures.value c.count_of-theta.ensures.value
          c.count_of-t.ensures.value;
      upper_bound = omega arith;
    }
