-- Document 01's values of `block_box`'s answer; its number is `answer_number`. A refused box has the whole line for each of its intervals, so that whoever
-- overlooks the refusal judges everything, and is not wrong.
use Rattle.std.specs.Prelude.{Result, Ok, Err}
use Rattle.refusal.specs.declared.Refusal.{Refusal}
use Rattle.interval.specs.declared.Interval.{Interval}
use Rattle.interval.specs.Bounds.{whole_line}
use Rattle.boxes.specs.declared.Edges.{Edges}
use Rattle.boxes.specs.declared.BlockBox.{BlockBox}

-- the four edges, and the interval along x and along y
abbrev pub no_edges : Edges
no_edges = record { left = whole_line; right = whole_line; bottom = whole_line; top = whole_line }

abbrev pub box_edges : Result BlockBox Refusal → Edges
box_edges (Ok b) = b.edges
box_edges (Err why) = no_edges

abbrev pub box_x : Result BlockBox Refusal → Interval
box_x (Ok b) = b.x
box_x (Err why) = whole_line

abbrev pub box_y : Result BlockBox Refusal → Interval
box_y (Ok b) = b.y
box_y (Err why) = whole_line
