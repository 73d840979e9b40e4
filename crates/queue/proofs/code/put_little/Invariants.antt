use Rattle.std.proofs.Common.{◌≡◌, ◌++◌, ◌-◌, length, take}
use Rattle.base.specs.Bytes.{little_endian}
use Rattle.queue.proofs.code.put_little.Given as goal

abbrev pub invariant-loop-byte : goal.invariant-loop-byte
invariant-loop-byte l =
    (length l.out ≡ length l.initial.out)
    × (take l.byte-index l.out ++ little_endian (length l.out - l.byte-index) l.left ≡ little_endian (length l.initial.out) l.v)
