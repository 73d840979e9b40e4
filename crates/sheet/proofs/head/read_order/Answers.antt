-- `head::read_order` meets its contract. Assumes nothing.
use Rattle.std.proofs.Common.{◌≡◌, ◌-◌, true, false, length, refl, ◌∙◌, arith}
use Rattle.sheet.specs.Layout.{sheet_set, places_in, order_in}
use Rattle.sheet.proofs.LayoutLaws.{short_sheet, long_sheet, tape_at, two_read, four_read}
use Rattle.sheet.proofs.head.read_order.Goals as goal

pub returns-in_default-clause-value : goal.returns-in_default-clause-value
returns-in_default-clause-value c = rw (short_sheet c.args.s.now (omega (arith, tape_at (sheet_set c.args.s.now))))

pub returns-in_default-split_ranges-clause-value :
    goal.returns-in_default-split_ranges-clause-value
returns-in_default-split_ranges-clause-value c = rw (short_sheet c.args.s.now c.in_default-split_ranges.ensures)

pub returns-then-not-taken-clause-value : goal.returns-then-not-taken-clause-value
returns-then-not-taken-clause-value c =
    let s = c.args.s.now in
    let width = c.from-width.ensures ∙ c.from_be_bytes.ensures ∙ two_read s 0 0 1 refl refl (omega arith) in
    let height = c.from-height.ensures ∙ c.from_be_bytes-2.ensures ∙ two_read s 2 2 3 refl refl (omega arith) in
    rw (long_sheet s _ _ _ false (omega (arith, c.in-Some.ensures.2)) width height c.is_too_large.ensures c.if-not-taken.true)

pub returns-clause-value : goal.returns-clause-value
unfolding order_in
returns-clause-value c =
    let s = c.args.s.now in
    let width = c.from-width.ensures ∙ c.from_be_bytes.ensures ∙ two_read s 0 0 1 refl refl (omega arith) in
    let height = c.from-height.ensures ∙ c.from_be_bytes-2.ensures ∙ two_read s 2 2 3 refl refl (omega arith) in
    let budget = c.from_be_bytes-3.ensures ∙ four_read s 5 5 6 7 8 refl refl refl refl (omega arith) in
    let tape : length s - length c.in-Some.tape.now ≡ (places_in (sheet_set s)).tape = omega (arith, c.in-Some.ensures.2) in
    rw (long_sheet s _ _ _ true (omega (arith, c.in-Some.ensures.2)) width height c.is_too_large.ensures c.if-not-taken.false, width, height, budget, c.in-Some.ensures.0, tape)
