-- `implicit::view::examine` meets its contract. Assumes nothing.
use mathlib.Core.Path.{sym, ◌∙◌}
use native.Mathlib.Omega.{arith}
use borrow.Author.Rules.{rules}
use Rattle.implicit.proofs.ViewLaws.{test_passed, test_failed, refused_record, refused_cells, refused_room, refused_cell, viewable_drawn}
use Rattle.implicit.proofs.view.examine.Goals as goal

pub returns-then-not-is_sound : goal.returns-then-not-is_sound
returns-then-not-is_sound c = sym (refused_record _ _ _ (search (rules, test_failed)))

pub returns-then-cells-pixels : goal.returns-then-cells-pixels
returns-then-cells-pixels c = sym (refused_cells _ _ _ (search (rules, test_passed)) (omega arith))

pub returns-then-room-pixels : goal.returns-then-room-pixels
returns-then-room-pixels c = sym (refused_room _ _ _ (search (rules, test_passed)) (omega arith) (omega arith))

pub returns-then-are_sound_cells : goal.returns-then-are_sound_cells
returns-then-are_sound_cells c =
    sym (viewable_drawn _ _ _ record {
      record_sound = search (rules, test_passed);
      enough = omega arith;
      room_left = omega arith;
      cells_fine = sym c.are_sound_cells.ensures ∙ c.if-are_sound_cells.true;
    })

pub returns-else-are_sound_cells : goal.returns-else-are_sound_cells
returns-else-are_sound_cells c = sym (refused_cell _ _ _ (search (rules, test_passed)) (omega arith) (omega arith) (sym c.are_sound_cells.ensures ∙ c.if-are_sound_cells.false))
