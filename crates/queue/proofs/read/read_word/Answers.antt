-- `read_word` meets its contract: the library reads a number's eight bytes as we do. Assumes nothing.
use Rattle.std.proofs.Common.{arith, ◌∙◌, take, drop, length-take, length-drop}
use Rattle.queue.specs.RingComputed.{bytes}
use Rattle.queue.proofs.ReadLaws.{word_of}
use Rattle.queue.proofs.read.read_word.Goals as goal

pub returns : goal.returns
returns c =
    let a = c.args in
    c.from_be_bytes.ensures
    ∙ rw c.gather.ensures.copied (word_of (take 8 (drop a.at (bytes a.held))) (simp (length-take, length-drop) (omega arith)))
