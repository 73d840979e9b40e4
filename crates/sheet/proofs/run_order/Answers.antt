-- `run_order` meets its contract. Assumes nothing.
use Rattle.std.proofs.Common.{rules}
use Rattle.std.proofs.lemmas.Result.{err_from_is_err_and}
use Rattle.sheet.proofs.ChartLaws.{text_ready, text_not_ready}
use Rattle.sheet.proofs.run_order.Goals as goal

pub returns-in_err-s : goal.returns-in_err-s
returns-in_err-s c =
    let p = err_from_is_err_and c.from_residual.result c.from_residual.ensures.1 in
    rw (p.1, p.2) (text_not_ready c.args.o c.args.tape.now c.args.cells.now c.requires _ c.setup.ensures.value _ c.in_err-s.was)

pub returns : goal.returns
returns c =
    let e = c.setup.ensures in
    let k = text_ready c.args.o c.args.tape.now c.args.cells.now c.requires _ e.value _ _ _ c.in_ok-s.was e.ring_after e.cells_after in
    rw (← k) (search rules)
