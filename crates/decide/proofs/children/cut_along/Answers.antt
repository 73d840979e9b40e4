-- `decide::children::cut_along` meets its contract. Assumes nothing.
use mathlib.Core.Path.{◌≡◌, refl, sym, ◌∙◌}
use Rattle.std.specs.Prelude.{Some}
use Rattle.std.proofs.Common.{rules}
use Rattle.queue.specs.declared.directions.Direction.TheVariants as D
use Rattle.decide.proofs.ListingLaws.{cut_along}
use Rattle.decide.proofs.ChildAtLaws.{right_legal, above_legal}
use Rattle.decide.proofs.ChildAtCode.{cut_quartered, cut_pieces, cut_beyond}
use Rattle.decide.proofs.children.cut_along.Goals as goal

pub cut_quarters-requires : goal.cut_quarters-requires
cut_quarters-requires c =
    let xy : c.args.along ≡ Some D.XY = search rules in
    let up = cut_along c.args.p c.args.b D.XY c.requires.0 (sym c.requires.1 ∙ xy) refl in
    (right_legal c.args.p c.args.b c.requires.0 up, above_legal c.args.p c.args.b c.requires.0 up)

pub returns-in-Some-XY : goal.returns-in-Some-XY
returns-in-Some-XY c =
    c.cut_quarters.ensures
    ∙ cut_quartered c.args.p c.args.b c.args.along c.requires.0 c.requires.1 (search rules)

pub returns-in-Some-T : goal.returns-in-Some-T
returns-in-Some-T c =
    c.cut_parameter.ensures
    ∙ cut_pieces c.args.p c.args.b c.args.along c.requires.0 c.requires.1 D.T (search rules) (search rules)

pub returns-in-Some : goal.returns-in-Some
returns-in-Some c =
    c.cut_parameter-in-Some.ensures ∙ rw (c.parameter_of.ensures, c.is_integer.ensures)
    (cut_pieces c.args.p c.args.b c.args.along c.requires.0 c.requires.1 c.in-Some.d c.in-Some.is (search rules))

pub returns-in-None : goal.returns-in-None
returns-in-None c = rw c.in-None.is (cut_beyond c.args.p c.args.b c.args.along c.requires.0 c.requires.1 c.in-None.is)
