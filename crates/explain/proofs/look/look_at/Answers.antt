-- `look::look_at` meets its contract. Assumes nothing.
use Rattle.explain.proofs.LookLaws.{at_false, at_area, at_point, at_incomplete}
use Rattle.explain.specs.LookComputed.{looked_at}
use Rattle.explain.proofs.look.look_at.Goals as goal

pub returns-in-Skipped : goal.returns-in-Skipped
returns-in-Skipped c = unfold looked_at in rw c.in-Skipped.is

pub returns-in-False : goal.returns-in-False
returns-in-False c =
    let a = c.args in
    at_false a.p a.pixel.column a.pixel.row a.start a.l a.i a.c a.o c.in-False.is
    c.is_covered.result c.is_covered.ensures c.see_false.result c.see_false.ensures

pub returns-in-Area : goal.returns-in-Area
returns-in-Area c =
    let a = c.args in
    at_area a.p a.pixel.column a.pixel.row a.start a.l a.i a.c a.o c.in-Area.is
    c.is_covered-in-Area.result c.is_covered-in-Area.ensures c.see_mark.result c.see_mark.ensures

pub returns-in-Point : goal.returns-in-Point
returns-in-Point c =
    let a = c.args in
    at_point a.p a.pixel.column a.pixel.row a.start a.l a.i a.c a.o _ c.in-Point.is
    c.is_covered-in-Point.result c.is_covered-in-Point.ensures c.see_mark-in-Point.result c.see_mark-in-Point.ensures

pub returns-in-Incomplete : goal.returns-in-Incomplete
returns-in-Incomplete c =
    let a = c.args in
    at_incomplete a.p a.pixel.column a.pixel.row a.start a.l a.i a.c a.o _ c.in-Incomplete.is
    c.find_direction.result c.find_direction.ensures c.see_incomplete.result c.see_incomplete.ensures
