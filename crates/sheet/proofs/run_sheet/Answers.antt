-- `run_sheet` meets its contract. Assumes nothing.
use Rattle.std.proofs.Common.{sym}
use Rattle.std.proofs.lemmas.Result.{err_from_is_err_and}
use Rattle.sheet.proofs.SheetLaws.{text_taken, text_refused}
use Rattle.sheet.proofs.run_sheet.Goals as goal

pub returns-in_err-o : goal.returns-in_err-o
returns-in_err-o c =
    let p = err_from_is_err_and c.from_residual.result c.from_residual.ensures.1 in
    rw (p.1, p.2) (sym (text_refused c.args.sheet.now _ c.in_err-o.ensures.value))

pub returns : goal.returns
returns c = rw (← text_taken c.args.sheet.now _ c.in_ok-o.ensures.value) c.run_order.ensures
