-- `table::smyrilox_fill_table` meets its contract. Assumes nothing.
use mathlib.Core.Path.{◌∙◌, ap}
use Rattle.implicit.specs.Answers.{call_number}
use Rattle.capi.proofs.table.smyrilox_fill_table.Goals as goal

pub returns : goal.returns
returns c =
    let m = c.fill_table in record { value = c.call_number.ensures ∙ ap call_number m.ensures.value; table_after = rw m.ensures.value at m.ensures.table_after }
