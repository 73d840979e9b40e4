-- `byte_of` meets its contract. Assumes nothing.
use lib.Dec.{leb, eqb}
use Rattle.image.specs.Cell.{true_code}
use Rattle.image.proofs.DrawLaws.{byte_sum, byte_small}
use Rattle.image.proofs.stretches.byte_of.Goals as goal

pub returns : goal.returns
returns c = byte_sum c.args.taken c.args.cell c.requires

pub overflow_add-result : goal.overflow_add-result
overflow_add-result c = record { fits = byte_small (leb c.args.taken c.args.cell) (eqb c.args.cell true_code) }
