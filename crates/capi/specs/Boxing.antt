-- How a block's box crosses to other languages, by its number and the values that `boxes` defines, and how the kind of map comes in: as a byte.
use Rattle.std.specs.Prelude.{cond, Result, ℕ, eqb}
use Rattle.refusal.specs.declared.Refusal.{Refusal}
use Rattle.refusal.specs.Number.{answer_number}
use Rattle.boxes.specs.declared.BlockBox.{BlockBox}
use Rattle.boxes.specs.declared.transformation.MapKind.{MapKind}
use Rattle.boxes.specs.declared.transformation.MapKind.TheVariants as K
use Rattle.boxes.specs.Answers.{box_edges, box_x, box_y}
use Rattle.capi.specs.declared.records.Boxed.{Boxed}

-- our choice: 0 is quick, and every other byte precise
abbrev pub kind_of : ℕ → MapKind
kind_of b = cond (eqb b 0) K.Quick K.Precise

-- a box
abbrev pub box_record : Result BlockBox Refusal → Boxed
box_record a = record { refusal = answer_number a; edges = box_edges a; x = box_x a; y = box_y a }
