-- `why::put_order_why` meets its contract. Assumes nothing.
use Rattle.std.proofs.Common.{refl}
use Rattle.std.proofs.lemmas.Result.{err_from_is_err_and}
use Rattle.sheet.specs.Why.{order_why}
use Rattle.sheet.proofs.why.put_order_why.Goals as goal

pub returns-in_err-e : goal.returns-in_err-e
unfolding order_why
returns-in_err-e c =
    let p = err_from_is_err_and c.from_residual.result c.from_residual.ensures.1 in
    rw (p.1, p.2, ← c.in_err-e.ensures.value) (refl, refl)

pub returns : goal.returns
unfolding order_why
returns c = rw (← c.in_ok-e.ensures.value) c.put_explanation.ensures
