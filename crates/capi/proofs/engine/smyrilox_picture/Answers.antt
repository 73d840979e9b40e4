-- `engine::smyrilox_picture` meets its contract. Assumes nothing.
use mathlib.Core.Path.{◌∙◌, ap}
use Rattle.implicit.specs.Answers.{call_number}
use Rattle.capi.proofs.engine.smyrilox_picture.Goals as goal

pub returns : goal.returns
returns c = record { value = c.call_number.ensures ∙ ap call_number c.picture.ensures.value; picture_after = rw c.picture.ensures.value at c.picture.ensures.out_after }
