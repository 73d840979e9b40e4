-- `first::start_level` meets its contract: what the tries left find is what all of them find. The measure is the number of tries left. Assumes nothing.
use mathlib.Core.Path.{◌≡◌, refl, ◌∙◌}
use native.Mathlib.Omega.{arith}
use Rattle.implicit.specs.Setup.{least_from, start_level}
use Rattle.implicit.proofs.SetupLawsLevel.{level_on, level_found, level_end, level_is}
use Rattle.implicit.proofs.first.start_level.Lts
use Rattle.implicit.proofs.first.start_level.Reads
use Rattle.implicit.proofs.first.start_level.Tie
use Rattle.implicit.proofs.first.start_level.Goals as goal

-- what all tries find is the start level
whole : (c : Lts.After-max Tie.the-claims Reads.Pre Reads.Post goal.the-invariant-loop-k goal.the-decreases-loop-k Tie.handed_clauses) → least_from 15 0 c.max-side.result ≡ start_level c.args.p
whole c = level_is c.args.p c.max-side.result c.max-side.ensures

pub loop-k-init : goal.loop-k-init
loop-k-init c = (omega arith, refl)

pub returns-then-side-k : goal.returns-then-side-k
returns-then-side-k c = record { value = level_found c.loop-k.k c.max-side.result c.loop-k-test.true c.if-side-k.true ∙ c.loop-k.invariant.1 ∙ whole c.before.before.before; upper_bound = omega arith }

pub loop-k-preserved : goal.loop-k-preserved
loop-k-preserved c =
    (omega arith, level_on c.loop-k.k c.max-side.result c.loop-k-test.true c.if-side-k.false ∙ c.loop-k.invariant.1)

pub returns : goal.returns
returns c = record { value = level_end c.loop-k.k c.max-side.result (omega arith) ∙ c.loop-k.invariant.1 ∙ whole c.before.before; upper_bound = omega arith }
