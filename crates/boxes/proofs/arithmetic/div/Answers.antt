-- `arithmetic::div` meets its contract. Assumes nothing.
use lib.Ieee.{of_bits}
use borrow.Author.Rules.{rules}
use Rattle.boxes.specs.Arithmetic.{over}
use Rattle.boxes.proofs.arithmetic.div.Goals as goal

pub returns-then-is_finite-c : goal.returns-then-is_finite-c
unfolding of_bits over
returns-then-is_finite-c c = search rules

pub returns-else-is_finite-c : goal.returns-else-is_finite-c
unfolding of_bits over
returns-else-is_finite-c c = search rules
