-- Document 01, "Numbers of refusal" and "Program and values": the picture and the counts. Their refusals, in order, are 8 for the record, 2,
-- 12 for the picture alone, 8 for a cell. Neither has a ring: the record's own ring length is taken as the lent one's.
use Rattle.std.specs.Prelude.{Bool, not, List, map, ◌++◌, ℕ, ◌+◌, ◌-◌, leb, length, drop, Result, Ok, Err}
use Rattle.refusal.specs.declared.Refusal.TheVariants as R
use Rattle.refusal.specs.declared.Refusal.{Refusal}
use Rattle.image.specs.declared.CellTally.{CellTally}
use Rattle.image.specs.Cell.{is_damaged, reading, byte_of, tallied, share_of}
use Rattle.image.specs.Painting.{some_of}
use Rattle.implicit.specs.declared.state.State.{State}
use Rattle.implicit.specs.declared.state.Tally.{Tally}
use Rattle.implicit.specs.Record.{refused_unless, pixel_count, pixel_cells, sound_record}

-- no pixel's cell is damaged
abbrev pub cells_sound : State → List ℕ → Bool
cells_sound s cells = not (some_of is_damaged (pixel_cells s.chosen cells))

-- a byte for each pixel by its reading, rows from the top
unfoldable pub picture_bytes : State → List ℕ → List ℕ
picture_bytes s cells = map (λ c. byte_of (reading s.taken c)) (pixel_cells s.chosen cells)

-- the picture buffer afterwards: what lies beyond the pixels is as it was
unfoldable pub picture_left : State → List ℕ → List ℕ → List ℕ
picture_left s cells out = picture_bytes s cells ++ drop (pixel_count s.chosen) out

-- what the picture answers, for a buffer of room bytes: the first refusal that applies, if any
unfoldable pub picture_answer : State → List ℕ → ℕ → Result (Unit {0}) Refusal
picture_answer s cells room =
    refused_unless (Err R.Damaged) (sound_record s.len s)
    (refused_unless (Err R.Cells) (leb (pixel_count s.chosen) (length cells))
    (refused_unless (Err R.Picture) (leb (pixel_count s.chosen) room)
    (refused_unless (Err R.Damaged) (cells_sound s cells) (Ok tt))))

-- what the buffer then holds: by a refusal what it held
abbrev pub if_done : Result (Unit {0}) Refusal → List ℕ → List ℕ → List ℕ
if_done (Ok u) after before = after
if_done (Err why) after before = before

-- the counts, from a tally of readings: given-up cells are among the uncertain ones
unfoldable pub counts_from : State → CellTally → Tally
counts_from s t = record {
  trues = t.trues;
  falses = t.falses;
  uncertain = t.uncertain;
  givenup = t.givenup;
  queued = s.queued - s.taken;
  share = share_of (t.trues + t.falses) (pixel_count s.chosen);
}

-- of the pixels' cells
abbrev pub counts_of : State → List ℕ → Tally
counts_of s cells = counts_from s (tallied s.taken (pixel_cells s.chosen cells))

-- what the counts answer: the first refusal that applies, or the counts of the pixels
unfoldable pub counts_answer : State → List ℕ → Result Tally Refusal
counts_answer s cells =
    refused_unless (Err R.Damaged) (sound_record s.len s)
    (refused_unless (Err R.Cells) (leb (pixel_count s.chosen) (length cells))
    (refused_unless (Err R.Damaged) (cells_sound s cells) (Ok (counts_of s cells))))
