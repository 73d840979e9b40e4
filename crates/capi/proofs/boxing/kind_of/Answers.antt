-- `boxing::kind_of` meets its contract. Assumes nothing.
use mathlib.Core.Path.{sym}
use lib.Dec.{eqb}
use borrow.Author.Tests.{eq-eqb, ne_eqb}
use Rattle.base.proofs.Test.{cond_yes, cond_no}
use Rattle.boxes.specs.declared.transformation.MapKind.TheVariants as K
use Rattle.capi.proofs.boxing.kind_of.Goals as goal

pub returns-then-kind-eq0 : goal.returns-then-kind-eq0
returns-then-kind-eq0 c = sym (cond_yes (eqb c.args.kind 0) K.Quick K.Precise (eq-eqb c.args.kind 0 c.if-kind-eq0.true))

pub returns-else-kind-eq0 : goal.returns-else-kind-eq0
returns-else-kind-eq0 c = sym (cond_no (eqb c.args.kind 0) K.Quick K.Precise (ne_eqb c.args.kind 0 c.if-kind-eq0.false))
