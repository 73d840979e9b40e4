-- `read_across` meets its contract: eight bytes are all that a small number takes. Assumes nothing.
use Rattle.std.proofs.Common.{◌≡◌, take, drop, length-take, arith, ap, ◌∙◌}
use Rattle.queue.specs.RingComputed.{bytes}
use Rattle.queue.proofs.ReadLaws.{first_byte}
use Rattle.queue.proofs.read.read_across.Goals as goal

pub returns-clause-is_byte : goal.returns-clause-is_byte
returns-clause-is_byte c =
    let s = bytes c.args.held in
    let n = c.min-count.result in
    let e : c.gather.new.out ≡ take n (drop c.args.at s) = c.gather.ensures.copied ∙ ap (λ k. take k (drop c.args.at s)) (simp length-take (omega arith)) in
    first_byte s c.args.at n (rw c.len.ensures at c.min-count.ensures)
    (λ some. rw e at (c.gather.ensures.are_bytes 0 (simp length-take (omega arith))))
