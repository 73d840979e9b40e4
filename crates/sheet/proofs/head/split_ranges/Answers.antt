-- `head::split_ranges` meets its contract. Assumes nothing.
use Rattle.std.proofs.Common.{arith}
use Rattle.sheet.proofs.LayoutLaws.{ranges_read, tape_at}
use Rattle.sheet.proofs.head.split_ranges.Goals as goal

pub returns-in_err-m : goal.returns-in_err-m
returns-in_err-m c = rw c.from_residual.ensures (omega (arith, tape_at c.args.set, c.in_err-m.ensures, c.split_at.ensures.back_len))

pub returns-in_err-n : goal.returns-in_err-n
returns-in_err-n c =
    rw c.from_residual-in_err-n.ensures (omega (arith, tape_at c.args.set, c.in_err-n.ensures, c.in_ok-m.ensures.2, c.split_at.ensures.back_len))

pub returns-in_err-theta : goal.returns-in_err-theta
returns-in_err-theta c =
    rw c.from_residual-in_err-theta.ensures
    (omega (arith, tape_at c.args.set, c.in_err-theta.ensures, c.in_ok-n.ensures.2, c.in_ok-m.ensures.2, c.split_at.ensures.back_len))

pub returns-in_err-t : goal.returns-in_err-t
returns-in_err-t c =
    rw c.from_residual-in_err-t.ensures
    (omega (arith, tape_at c.args.set, c.in_err-t.ensures, c.in_ok-theta.ensures.2, c.in_ok-n.ensures.2, c.in_ok-m.ensures.2, c.split_at.ensures.back_len))

pub returns : goal.returns
returns c =
    let m = c.in_ok-m.ensures in
    let n = c.in_ok-n.ensures in
    let theta = c.in_ok-theta.ensures in
    let t = c.in_ok-t.ensures in
    let r = ranges_read c.args.s.now c.args.set _ _ _ _ _ c.split_at.ensures.back m.1 n.1 theta.1 t.1 in
    (rw (m.0, n.0, theta.0, t.0) r.0, r.1, omega (arith, tape_at c.args.set, m.2, n.2, theta.2, t.2, c.split_at.ensures.back_len))
