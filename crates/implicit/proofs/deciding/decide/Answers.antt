-- `deciding::decide` meets its contract. Assumes nothing.
use mathlib.Core.Path.{refl, ap}
use Rattle.std.specs.Prelude.{Err}
use Rattle.refusal.specs.declared.Refusal.TheVariants as R
use Rattle.queue.specs.Queue.{taken, taken_by}
use Rattle.queue.proofs.QueueAnswers.{granted}
use Rattle.implicit.proofs.StepLawsCode.{decide_damaged, decide_few, enough_cells, decide_empty, decide_front}
use mathlib.Core.Bool.{not}
use Rattle.implicit.proofs.deciding.decide.Goals as goal

pub returns-then-not-sound : goal.returns-then-not-sound
returns-then-not-sound c =
    let a = c.args in
    decide_damaged a.p a.sound a.left (taken a.ring.now a.head a.used a.p.set a.front) a.cells.now a.tape a.verdicts.now
    (ap not c.if-not-sound.true)

pub returns-then-cells-pixel_count : goal.returns-then-cells-pixel_count
returns-then-cells-pixel_count c =
    let a = c.args in
    decide_few a.p a.sound a.left (taken a.ring.now a.head a.used a.p.set a.front) a.cells.now a.tape a.verdicts.now
    (ap not c.if-not-sound.false) c.pixel_count.result c.pixel_count.ensures c.if-cells-pixel_count.true

pub returns-then-not-left : goal.returns-then-not-left
returns-then-not-left c =
    let a = c.args in
    decide_empty a.p a.sound a.left (taken a.ring.now a.head a.used a.p.set a.front) a.cells.now a.tape a.verdicts.now
    (ap not c.if-not-sound.false) c.pixel_count.result c.pixel_count.ensures c.if-cells-pixel_count.false (ap not c.if-not-left.true)

pub decide_block-requires : goal.decide_block-requires
decide_block-requires c = (
  enough_cells c.args.p c.args.cells.now c.pixel_count.result c.pixel_count.ensures c.if-cells-pixel_count.false,
  c.requires (granted c.args.sound (ap not c.if-not-sound.false)),
)

pub returns-in-Ok : goal.returns-in-Ok
returns-in-Ok c =
    let a = c.args in
    decide_front a.p a.sound a.left (taken a.ring.now a.head a.used a.p.set a.front) a.cells.now a.tape a.verdicts.now
    (ap not c.if-not-sound.false) c.pixel_count.result c.pixel_count.ensures c.if-cells-pixel_count.false c.decide_block.result (ap not c.if-not-left.false)
    (taken_by c.peek.result) _ c.peek.ensures (ap taken_by c.in-Ok.is) c.decide_block.ensures

pub returns-in-Err : goal.returns-in-Err
returns-in-Err c =
    let a = c.args in
    decide_front a.p a.sound a.left (taken a.ring.now a.head a.used a.p.set a.front) a.cells.now a.tape a.verdicts.now
    (ap not c.if-not-sound.false) c.pixel_count.result c.pixel_count.ensures c.if-cells-pixel_count.false (Err R.Damaged) (ap not c.if-not-left.false)
    (taken_by c.peek.result) _ c.peek.ensures (ap taken_by c.in-Err.is) refl
