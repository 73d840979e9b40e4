-- `number_length` meets its contract. Assumes nothing.
use mathlib.Core.Path.{sym, ap, ◌∙◌}
use mathlib.Core.List.{List}
use Prim.Native.Nat.{ℕ}
use native.Mathlib.Omega.{arith}
use lib.ListN.{length}
use Rattle.small.proofs.Writing.{code_stored, code_none}
use Rattle.queue.proofs.length.number_length.Goals as goal

pub overflow_add-result : goal.overflow_add-result
overflow_add-result c =
    let s = code_stored c.args.x c.in-Ok.code
    (sym c.write_small.ensures ∙ c.in-Ok.is) in
    omega (arith, s.few)

pub returns-in-Ok : goal.returns-in-Ok
returns-in-Ok c =
    let s = code_stored c.args.x c.in-Ok.code
    (sym c.write_small.ensures ∙ c.in-Ok.is) in
    sym s.long

pub returns-in-Err : goal.returns-in-Err
returns-in-Err c =
    ap (λ (l : List ℕ). length l) (sym (code_none c.args.x c.in-Err.field-0
    (sym c.write_small.ensures ∙ c.in-Err.is)))
