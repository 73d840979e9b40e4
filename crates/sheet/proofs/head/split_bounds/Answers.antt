-- `head::split_bounds` meets its contract. Assumes nothing.
use Rattle.std.proofs.Common.{ap, ◌∙◌, arith, length, length-take-le}
use lib.Seq.{drop-drop}
use Rattle.sheet.proofs.LayoutLaws.{bounds_read}
use Rattle.sheet.proofs.head.split_bounds.Goals as goal

pub returns : goal.returns
returns c =
    let s = c.args.s.now in
    let l = c.in_ok-lower.ensures.cases in
    let u = c.in_ok-upper.ensures.cases in
    let low = ap length l.0 ∙ length-take-le 8 s (omega (arith, l.2)) in
    let high = ap length u.0 ∙ length-take-le 8 c.in_ok-lower.rest.now (omega (arith, u.2)) in (
      rw (c.float_of-lower.ensures, c.float_of-upper.ensures, c.from_be_bytes.ensures, c.from_be_bytes-2.ensures) (bounds_read s _ _ _ l.0 l.1 u.0 low high),
      rw (u.1, l.1) (drop-drop 8 8 s),
      omega (arith, l.2, u.2),
    )
