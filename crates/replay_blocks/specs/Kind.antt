-- The kinds of records by their numbers.
use Rattle.std.specs.Prelude.{ℕ, ◌==◌, Option, Some, None, if◌then◌else◌}
use Rattle.replay_blocks.specs.declared.kind.Kind.{Kind}
use Rattle.replay_blocks.specs.declared.kind.Kind.TheVariants as K

abbrev pub kind_of : ℕ → Option Kind
kind_of code =
    if code == 0 then Some K.Start else
    if code == 1 then Some K.Append else
    if code == 2 then Some K.Take else
    if code == 3 then Some K.Compare else
    if code == 4 then Some K.Recall else None
