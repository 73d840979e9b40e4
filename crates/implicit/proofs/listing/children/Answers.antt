-- `listing::children` meets its contract. Assumes nothing.
use mathlib.Core.Path.{sym, ◌∙◌}
use Rattle.queue.proofs.QueueAnswers.{granted}
use Rattle.implicit.proofs.RecordLaws.{sound_chosen}
use Rattle.implicit.proofs.StepLawsCode.{list_damaged, list_empty, list_some}
use mathlib.Core.Path.{ap}
use mathlib.Core.Bool.{not}
use Rattle.implicit.proofs.listing.children.Goals as goal

pub returns-then-not-is_sound : goal.returns-then-not-is_sound
returns-then-not-is_sound c =
    let a = c.args in
    list_damaged a.s a.ring.now c.is_sound.result c.is_sound.ensures (ap not c.if-not-is_sound.true)

pub returns-then-s : goal.returns-then-s
returns-then-s c =
    let a = c.args in
    list_empty a.s a.ring.now c.is_sound.result c.is_sound.ensures (ap not c.if-not-is_sound.false) c.if-s.true

pub list_front-requires : goal.list_front-requires
list_front-requires c =
    sound_chosen _ c.args.s (sym c.is_sound.ensures ∙ granted _ (ap not c.if-not-is_sound.false))

pub returns : goal.returns
returns c =
    let a = c.args in
    list_some a.s a.ring.now c.is_sound.result c.is_sound.ensures c.list_front.result (ap not c.if-not-is_sound.false) c.if-s.false
    c.list_front.ensures
