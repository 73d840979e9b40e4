-- `put_bounds` meets its contract: each bound is put as the library writes it. Assumes nothing.
use Rattle.std.proofs.Common.{◌+◌, ◌-◌, List, ℕ, arith, refl, ◌∙◌}
use Rattle.std.proofs.Math.Seq.{sets, length-sets}
use Rattle.base.specs.Bytes.{big_endian}
use Rattle.base.proofs.BytesLaws.{length_big}
use Rattle.queue.proofs.WriteLaws.{bounds_put, part_put, word_bytes}
use Rattle.queue.proofs.code.put_bounds.Goals as goal

pub returns : goal.returns
returns c =
    let a = c.args in
    let lower : List ℕ = big_endian 8 c.bits_of.result in
    let upper : List ℕ = big_endian 8 c.bits_of-2.result in
    let out₁ : List ℕ = sets a.out.now a.at lower in
    let first = part_put a.out.now lower c.copy_from_slice.new.self a.at (a.at + 8 - a.at)
    (c.copy_from_slice.ensures.after ∙ c.to_be_bytes.ensures ∙ word_bytes c.bits_of.result)
    (rw length_big (omega arith)) (rw length_big (omega arith)) in
    let second = part_put out₁ upper c.copy_from_slice-2.new.self (a.at + 8) (a.at + 16 - (a.at + 8))
    (c.copy_from_slice-2.ensures.after ∙ c.to_be_bytes-2.ensures ∙ word_bytes c.bits_of-2.result)
    (rw length_big (omega arith)) (rw (length_big, length-sets) (omega arith)) in
    bounds_put a.out.now out₁ _ a.at a.p _ _ c.bits_of.ensures c.bits_of-2.ensures refl (rw first second)
