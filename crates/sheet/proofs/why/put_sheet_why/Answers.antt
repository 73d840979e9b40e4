-- `why::put_sheet_why` meets its contract. Assumes nothing.
use Rattle.std.proofs.Common.{refl}
use Rattle.std.proofs.lemmas.Result.{err_from_is_err_and}
use Rattle.sheet.proofs.SheetLaws.{why_taken, why_refused}
use Rattle.sheet.proofs.why.put_sheet_why.Goals as goal

pub returns-in_err-o : goal.returns-in_err-o
returns-in_err-o c =
    let p = err_from_is_err_and c.from_residual.result c.from_residual.ensures.1 in
    rw (p.1, p.2) (why_refused c.args.sheet.now c.args.column c.args.row _ c.in_err-o.ensures.value, refl)

pub returns : goal.returns
returns c = rw (← why_taken c.args.sheet.now c.args.column c.args.row _ c.in_ok-o.ensures.value) c.put_order_why.ensures
