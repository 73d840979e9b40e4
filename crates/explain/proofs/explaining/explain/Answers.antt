-- `explaining::explain` meets its contract. Assumes nothing.
use Rattle.std.proofs.lemmas.Result.{err_from_is_err_and}
use Rattle.implicit.specs.Setup.{cleared}
use Rattle.explain.proofs.ExplainLaws.{ready, begun_asks, refused_pixel, not_ready, began_explains}
use Rattle.explain.proofs.explaining.explain.Goals as goal

pub returns-then-is_pixel_refused : goal.returns-then-is_pixel_refused
returns-then-is_pixel_refused c =
    let a = c.args in
    let t = c.is_pixel_refused in
    let (value, (ring, cells)) = refused_pixel (cleared a.chosen) a.ranges a.ring.now a.cells.now a.tape.now a.steps a.column a.row
    t.result t.ensures c.if-is_pixel_refused.true in
    record { value = value; ring_after = ring; cells_after = cells }

pub explain_from-requires : goal.explain_from-requires
explain_from-requires c =
    let a = c.args in
    let t = c.is_pixel_refused in
    let u = c.setup in
    begun_asks (cleared a.chosen) a.ranges a.ring.now a.cells.now a.column a.row _ u.new.ring u.new.cells
    (ready (cleared a.chosen) a.ranges a.ring.now a.cells.now a.column a.row t.result t.ensures c.if-is_pixel_refused.false
    u.result u.ensures.value u.new.ring u.new.cells u.ensures.ring_after u.ensures.cells_after _ c.in_ok-s.was)
    u.auto.cells

pub returns : goal.returns
returns c =
    let a = c.args in
    let t = c.is_pixel_refused in
    let u = c.setup in
    let x = c.explain_from in
    let (value, (ring, cells)) = began_explains (cleared a.chosen) a.ranges a.ring.now a.cells.now a.tape.now a.steps a.column a.row _ u.new.ring u.new.cells
    (ready (cleared a.chosen) a.ranges a.ring.now a.cells.now a.column a.row t.result t.ensures c.if-is_pixel_refused.false
    u.result u.ensures.value u.new.ring u.new.cells u.ensures.ring_after u.ensures.cells_after _ c.in_ok-s.was)
    x.result x.new.ring x.new.cells x.ensures in
    record { value = value; ring_after = ring; cells_after = cells }

pub returns-in_err-s : goal.returns-in_err-s
returns-in_err-s c =
    let a = c.args in
    let u = c.setup in
    let e = err_from_is_err_and c.from_residual.result c.from_residual.ensures.1 in
    let (value, (ring, cells)) = not_ready (cleared a.chosen) a.ranges a.ring.now a.cells.now a.tape.now a.steps a.column a.row
    u.result u.ensures.value u.new.ring u.new.cells u.ensures.ring_after u.ensures.cells_after _ c.in_err-s.was in
    rw (e.1, e.2) (record { value = value; ring_after = ring; cells_after = cells })
