-- std reads the number of the bytes.
use Rattle.std.proofs.Common.{rules, ◌∙◌, ap}
use Rattle.base.specs.Bytes.{of_big_endian}
use Rattle.replay_lists.proofs.ByteLaws.{eight_bytes}
use Rattle.replay_lists.proofs.bytes.word_at.Goals as goal

pub returns : goal.returns
returns c = c.from_be_bytes.ensures ∙ eight_bytes c.bytes_at.result (search rules) ∙ ap of_big_endian c.bytes_at.ensures
