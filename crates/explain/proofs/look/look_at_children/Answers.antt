-- `look::look_at_children` meets its contract. The loop's invariant: looking at what is left makes what looking at all makes.
-- The measure: the children left. Assumes nothing.
use mathlib.Core.Path.{refl, sym, ◌∙◌}
use native.Mathlib.Omega.{arith}
use Rattle.explain.specs.Reasons.{covers_at}
use Rattle.explain.proofs.LookLaws.{look_on, look_end, by_start}
use Rattle.explain.proofs.look.look_at_children.Goals as goal

pub loop-i-preserved : goal.loop-i-preserved
loop-i-preserved c =
    let a = c.args in
    let l = c.loop-i in
    let d = c.child_of-c in (
      omega arith,
      look_on a.p (covers_at a.p a.pixel.column a.pixel.row) a.b a.k a.j.at c.start_of-start.result c.well_formed.1.1.1.1.0.1.1.0.1.0.1
          l.l l.i c.min-n.result c.min-n.ensures _ _ d.result c.look_at-l.result c.loop-i-test.true refl
          d.ensures c.look_at-l.ensures ∙ l.invariant.1,
    )

pub returns : goal.returns
returns c =
    let o = c.start_of-start in
    let a = c.args in
    let l = c.loop-i in
    sym (look_end a.p (covers_at a.p a.pixel.column a.pixel.row) a.b a.k a.j.at o.result c.well_formed.1.1.1.1.0.1.1.0.1.0.1
    l.l l.i c.min-n.result c.min-n.ensures c.loop-i-test.false)
    ∙ l.invariant.1
    ∙ by_start a.p (covers_at a.p a.pixel.column a.pixel.row) a.b a.k a.j o.result o.ensures
