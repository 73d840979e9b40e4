-- Document 01, "Program and values": the three parts of the printed text, as ASCII bytes.
--
--   size 2 1 steps 1 evals 2 done
--   true 1 false 1 uncertain 0 givenup 0 queued 0 share 1000
--   #.
use Rattle.std.specs.Prelude.{List, [], ◌∷◌, ◌++◌, map, ℕ, zero, suc, take, drop}
use Rattle.refusal.specs.declared.Refusal.{Refusal}
use Rattle.refusal.specs.Number.{number}
use Rattle.image.specs.Cell.{reading, character_of}
use Rattle.implicit.specs.declared.state.State.{State}
use Rattle.implicit.specs.declared.state.Ending.{Ending}
use Rattle.implicit.specs.declared.state.Ending.TheVariants as E
use Rattle.implicit.specs.declared.state.Tally.{Tally}
use Rattle.implicit.specs.Record.{pixel_cells}
use Rattle.implicit.specs.Answers.{ending_word, stop_number}
use Rattle.sheet.specs.Decimal.{decimal_text}

-- a word, then a number
abbrev pub labelled : List ℕ → ℕ → List ℕ
labelled word n = word ++ decimal_text n

-- the end of a line
abbrev pub line_end : List ℕ
line_end = 10 ∷ []

-- a space and the word of how the run ended: " done", " limit", " more", or " stop " and the number of what stopped it
abbrev pub ending_text : Ending → List ℕ
ending_text E.Done = 32 ∷ ending_word E.Done
ending_text E.Limit = 32 ∷ ending_word E.Limit
ending_text E.More = 32 ∷ ending_word E.More
ending_text (E.Stop why) = labelled (32 ∷ ending_word (E.Stop why) ++ 32 ∷ []) (stop_number (E.Stop why))

-- the first line: both sides, then the steps and what they cost, then how the run ended; its words are "size ", a space, " steps ", " evals "
unfoldable pub run_line : ℕ → ℕ → ℕ → ℕ → Ending → List ℕ
run_line width height steps evals ending =
    labelled (115 ∷ 105 ∷ 122 ∷ 101 ∷ 32 ∷ []) width
    ++ labelled (32 ∷ []) height
    ++ labelled (32 ∷ 115 ∷ 116 ∷ 101 ∷ 112 ∷ 115 ∷ 32 ∷ []) steps
    ++ labelled (32 ∷ 101 ∷ 118 ∷ 97 ∷ 108 ∷ 115 ∷ 32 ∷ []) evals
    ++ ending_text ending
    ++ line_end

-- how many pixels show each reading, behind "true ", " false ", " uncertain "
unfoldable pub reading_counts : Tally → List ℕ
reading_counts n =
    labelled (116 ∷ 114 ∷ 117 ∷ 101 ∷ 32 ∷ []) n.trues
    ++ labelled (32 ∷ 102 ∷ 97 ∷ 108 ∷ 115 ∷ 101 ∷ 32 ∷ []) n.falses
    ++ labelled (32 ∷ 117 ∷ 110 ∷ 99 ∷ 101 ∷ 114 ∷ 116 ∷ 97 ∷ 105 ∷ 110 ∷ 32 ∷ []) n.uncertain

-- how many cells are given up, how many blocks wait, and which share is settled, behind " givenup ", " queued ", " share "
unfoldable pub other_counts : Tally → List ℕ
other_counts n =
    labelled (32 ∷ 103 ∷ 105 ∷ 118 ∷ 101 ∷ 110 ∷ 117 ∷ 112 ∷ 32 ∷ []) n.givenup
    ++ labelled (32 ∷ 113 ∷ 117 ∷ 101 ∷ 117 ∷ 101 ∷ 100 ∷ 32 ∷ []) n.queued
    ++ labelled (32 ∷ 115 ∷ 104 ∷ 97 ∷ 114 ∷ 101 ∷ 32 ∷ []) n.share
    ++ line_end

-- the line of the counts
abbrev pub count_line : Tally → List ℕ
count_line n = reading_counts n ++ other_counts n

-- characters cut into rows, each with its line end
unfoldable pub rows_of : ℕ → ℕ → List ℕ → List ℕ
rows_of width zero l = []
rows_of width (suc height) l = take width l ++ line_end ++ rows_of width height (drop width l)

-- a character for each pixel by its reading, rows from the top
unfoldable pub characters : State → List ℕ → List ℕ
characters s cells = map (λ c. character_of (reading s.taken c)) (pixel_cells s.chosen cells)

-- the whole text of a run that left this record and these cells
abbrev pub chart_text : State → List ℕ → ℕ → ℕ → Ending → Tally → List ℕ
chart_text s cells steps evals ending n =
    run_line s.chosen.width s.chosen.height steps evals ending
    ++ count_line n
    ++ rows_of s.chosen.width s.chosen.height (characters s cells)

-- all that is printed of a refusal: "refused " and its number
unfoldable pub refused_text : Refusal → List ℕ
refused_text why = labelled (114 ∷ 101 ∷ 102 ∷ 117 ∷ 115 ∷ 101 ∷ 100 ∷ 32 ∷ []) (number why) ++ line_end
