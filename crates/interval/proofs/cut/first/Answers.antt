-- `cut::first` meets its contract, kind by kind. Assumes nothing.
use Rattle.std.proofs.Common.{sym, ap, ◌∙◌}
use Rattle.interval.specs.declared.Interval.{Interval}
use Rattle.interval.specs.Cuts.{first_cut}
use Rattle.interval.proofs.FirstCut.{made_whole, made_up_to, made_from, made_between, between_legal}
use Rattle.interval.proofs.cut.first.Goals as goal

pub first_between-requires : goal.first_between-requires
first_between-requires c = let both = between_legal c.args.x c.args.integer c.requires.legal c.requires.stored c.in-Between.a c.in-Between.b (sym c.kind_of.ensures.kind ∙ c.in-Between.is) in record { legal = both.0; finite = both.1 }

pub returns-in-Whole : goal.returns-in-Whole
returns-in-Whole c =
    made_whole c.args.x c.args.integer c.requires.legal c.requires.stored (sym c.kind_of.ensures.kind ∙ c.in-Whole.is)

pub returns-in-UpTo : goal.returns-in-UpTo
returns-in-UpTo c =
    made_up_to c.args.x c.args.integer c.requires.legal c.requires.stored c.in-UpTo.b c.span.result (sym c.kind_of.ensures.kind ∙ c.in-UpTo.is) c.span.ensures

pub returns-in-From : goal.returns-in-From
returns-in-From c =
    made_from c.args.x c.args.integer c.requires.legal c.requires.stored c.in-From.a c.span-in-From.result (sym c.kind_of.ensures.kind ∙ c.in-From.is) c.span-in-From.ensures

pub returns-in-Between : goal.returns-in-Between
returns-in-Between c =
    c.first_between.ensures
    ∙ ap (λ (z : Interval). first_cut z c.args.integer) (made_between c.args.x c.args.integer c.requires.legal c.requires.stored c.in-Between.a c.in-Between.b (sym c.kind_of.ensures.kind ∙ c.in-Between.is))
