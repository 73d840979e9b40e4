-- The reason for a pixel of a sheet's chart, as a line of text: document 02, (v), on document 01's sheets. One of
--
--   true step 5 child 2 area
--   true step 5 child 2 point 3
--   false step 6 child 1
--   givenup step 2 child 2
--   waiting block 4 before 1
--   stop 4 steps 1
--   refused 18
--
-- A question is the pixel's column and its row from the top, four bytes each, the most significant first, and then the sheet.
use Rattle.std.specs.Prelude.{cond, List, [], ◌∷◌, ◌++◌, ℕ, eqb, ltb, length, drop, Result, Ok, Err}
use Rattle.refusal.specs.declared.Refusal.{Refusal}
use Rattle.refusal.specs.declared.Refusal.TheVariants as R
use Rattle.refusal.specs.Number.{number}
use Rattle.implicit.specs.Setup.{cleared}
use Rattle.explain.specs.declared.reason.Moment.{Moment}
use Rattle.explain.specs.declared.reason.Reason.{Reason}
use Rattle.explain.specs.declared.reason.Reason.TheVariants as B
use Rattle.explain.specs.declared.reason.Explanation.{Explanation}
use Rattle.explain.specs.declared.reason.Explanation.TheVariants as X
use Rattle.explain.specs.Explained.{explained}
use Rattle.sheet.specs.declared.head.Order.{Order}
use Rattle.sheet.specs.Layout.{number_in, order_in, taken_sheet}
use Rattle.sheet.specs.Text.{labelled, line_end, refused_text}
use Rattle.sheet.specs.Printed.{fresh_ring, fresh_cells}

-- a step and a child in it, behind " step " and " child "
unfoldable pub moment_text : Moment → List ℕ
moment_text m = labelled (32 ∷ 115 ∷ 116 ∷ 101 ∷ 112 ∷ 32 ∷ []) m.step ++ labelled (32 ∷ 99 ∷ 104 ∷ 105 ∷ 108 ∷ 100 ∷ 32 ∷ []) m.child

-- what marked it: " area", or " point " and the sample point's place
abbrev pub point_text : ℕ → List ℕ
point_text point = cond (eqb point 0) (32 ∷ 97 ∷ 114 ∷ 101 ∷ 97 ∷ []) (labelled (32 ∷ 112 ∷ 111 ∷ 105 ∷ 110 ∷ 116 ∷ 32 ∷ []) point)

-- a block that waits: "waiting", then its number and how many stand before it, behind " block " and " before "
abbrev pub waiting_text : ℕ → ℕ → List ℕ
waiting_text n before =
    (119 ∷ 97 ∷ 105 ∷ 116 ∷ 105 ∷ 110 ∷ 103 ∷ [])
    ++ labelled (32 ∷ 98 ∷ 108 ∷ 111 ∷ 99 ∷ 107 ∷ 32 ∷ []) n
    ++ labelled (32 ∷ 98 ∷ 101 ∷ 102 ∷ 111 ∷ 114 ∷ 101 ∷ 32 ∷ []) before

-- the others by "true", "false" and "givenup"
abbrev pub reason_text : Reason → List ℕ
reason_text (B.True m point) = (116 ∷ 114 ∷ 117 ∷ 101 ∷ []) ++ moment_text m ++ point_text point
reason_text (B.False m) = (102 ∷ 97 ∷ 108 ∷ 115 ∷ 101 ∷ []) ++ moment_text m
reason_text (B.GivenUp m) = (103 ∷ 105 ∷ 118 ∷ 101 ∷ 110 ∷ 117 ∷ 112 ∷ []) ++ moment_text m
reason_text (B.Waiting n before block) = waiting_text n before

-- a step that refused, and how many are finished before it, behind "stop " and " steps "
abbrev pub stop_text : Refusal → ℕ → List ℕ
stop_text why steps = labelled (115 ∷ 116 ∷ 111 ∷ 112 ∷ 32 ∷ []) (number why) ++ labelled (32 ∷ 115 ∷ 116 ∷ 101 ∷ 112 ∷ 115 ∷ 32 ∷ []) steps

-- the line
abbrev pub explanation_text : Result Explanation Refusal → List ℕ
explanation_text (Ok (X.Of reason s steps evals bytes e)) = reason_text reason ++ line_end
explanation_text (Ok (X.Stopped why s steps evals bytes)) = stop_text why steps ++ line_end
explanation_text (Err why) = refused_text why

-- of a sheet that is taken, after its whole run
unfoldable pub order_why : Order → List ℕ → ℕ → ℕ → List ℕ
order_why o tape column row =
    explanation_text (explained (cleared o.chosen) o.ranges fresh_ring fresh_cells tape o.budget column row)

unfoldable pub sheet_why : List ℕ → ℕ → ℕ → List ℕ
sheet_why s column row = cond (taken_sheet s) (order_why (order_in s) (drop (order_in s).tape s) column row) (refused_text R.Sheet)

-- THE ANSWER TO A QUESTION
unfoldable pub why_of : List ℕ → List ℕ
why_of q = cond (ltb (length q) 8) (refused_text R.Sheet) (sheet_why (drop 8 q) (number_in q 0 4) (number_in q 4 4))
