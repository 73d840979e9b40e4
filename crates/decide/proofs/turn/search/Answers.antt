-- `decide::turn::search` meets its contract. The loop's invariant: what is left to search from here finds what the whole
-- search finds. Assumes nothing.
use mathlib.Core.Path.{refl, sym, ◌∙◌}
use Prim.Native.Nat.{◌+◌, ◌<◌}
use native.Mathlib.Omega.{arith}
use native.Mathlib.Nat.{mod-lt}
use Rattle.decide.proofs.TurnLaws.{found_from, search_found, search_on, search_end}
use Rattle.decide.proofs.turn.search.Goals as goal

pub loop-i-init : goal.loop-i-init
loop-i-init c = found_from c.args.p c.args.c c.args.start c.direction_count-n.result c.direction_count-n.ensures

pub overflow_cast-at : goal.overflow_cast-at
overflow_cast-at c =
    let some : 0 < c.direction_count-n.result = omega arith in
    omega (arith, mod-lt (c.args.start + c.loop-i.i) some)

pub returns-then-is_subdivisible : goal.returns-then-is_subdivisible
returns-then-is_subdivisible c =
    let a = c.args in
    search_found a.p a.c a.start c.direction_count-n.result c.loop-i.i _
    c.direction_count-n.ensures refl c.loop-i-test.true c.loop-i.invariant
    (sym c.is_subdivisible.ensures ∙ c.if-is_subdivisible.true)

pub loop-i-preserved : goal.loop-i-preserved
loop-i-preserved c =
    let a = c.args in
    search_on a.p a.c a.start c.direction_count-n.result c.loop-i.i _
    c.direction_count-n.ensures refl c.loop-i-test.true c.loop-i.invariant
    (sym c.is_subdivisible.ensures ∙ c.if-is_subdivisible.false)

pub returns : goal.returns
returns c =
    let a = c.args in
    search_end a.p a.c a.start c.direction_count-n.result c.loop-i.i c.loop-i-test.false c.loop-i.invariant
