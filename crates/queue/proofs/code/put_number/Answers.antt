-- `put_number` meets its contract: a number below 2^56 has a code. Assumes nothing.
use Rattle.std.proofs.Common.{◌+◌, ◌≤◌, arith, sym, ap, ◌∙◌, set, length-set, length-take, length-drop}
use Rattle.base.specs.Bytes.{little_endian}
use Rattle.base.proofs.BytesLaws.{length_little}
use Rattle.small.proofs.Writing.{code_stored, code_refused}
use Rattle.queue.proofs.WriteLaws.{number_put, part_put}
use Rattle.queue.proofs.code.put_number.Goals as goal
use Rattle.queue.proofs.code.put_number.Goals.{In-Ok}

-- the tail has room behind the head
few : (c : In-Ok) → c.in-Ok.code.count ≤ 7
few c = omega (arith, (code_stored c.args.x c.in-Ok.code (sym c.write_small.ensures ∙ c.in-Ok.is)).few)

pub overflow_add-end-in-Ok : goal.overflow_add-end-in-Ok
overflow_add-end-in-Ok c = omega (arith, few (goal.at.overflow_add-end-in-Ok c).In-Ok)

pub slice_bounds-put_little-end : goal.slice_bounds-put_little-end
slice_bounds-put_little-end c = omega (arith, few (goal.at.slice_bounds-put_little-end c).In-Ok, length-set c.args.out.now c.args.at c.in-Ok.code.head)

pub returns-in-Ok : goal.returns-in-Ok
returns-in-Ok c =
    let a = c.args in
    let k = c.in-Ok.code in
    let room = few (goal.at.returns-in-Ok c).In-Ok in
    number_put a.out.now _ a.at a.x k (sym c.write_small.ensures ∙ c.in-Ok.is)
    (part_put (set a.out.now a.at k.head) (little_endian k.count k.tail) _ (a.at + 1) _
    (c.put_little.ensures ∙ ap (λ n. little_endian n k.tail) (simp (length-take, length-drop, length-set) (omega arith)))
    (rw (length_little k.count k.tail) (omega arith)) (rw (length_little k.count k.tail, length-set) (omega arith)))

pub returns-in-Err : goal.returns-in-Err
returns-in-Err c =
    let a = c.args in
    absurd (omega (arith, (code_refused a.x c.in-Err.field-0 (sym c.write_small.ensures ∙ c.in-Err.is)).1))
