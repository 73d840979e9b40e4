-- `find_in_stretch` meets its contract. Assumes nothing.
use mathlib.Core.Path.{◌≡◌, ◌∙◌}
use mathlib.Core.List.{List}
use mathlib.Core.Bool.{◌||◌}
use Prim.Native.Nat.{ℕ}
use Rattle.std.proofs.Common.{rules, tests}
use Rattle.std.proofs.lemmas.Iterator.{YieldsList-from_slice}
use Rattle.std.proofs.lemmas.Iterator.Search.{any_from_yields_List}
use Rattle.image.specs.Cell.{meanings, of_kind}
use Rattle.image.specs.Painting.{some_of}
use Rattle.image.proofs.DrawLaws.{stretch_some}
use Rattle.image.proofs.stretches.find_in_stretch.Lts
use Rattle.image.proofs.stretches.find_in_stretch.Reads
use Rattle.image.proofs.stretches.find_in_stretch.Tie
use Rattle.image.proofs.stretches.find_in_stretch.Goals as goal

-- the parts, and then the rest
found : (c : Lts.After-any Tie.the-claims Reads.Pre Reads.Post Tie.handed_clauses)
    → let test = of_kind c.args.kind in
    (c.any.result || some_of test (meanings c.as_chunks.result.1.now)) ≡ some_of test (meanings c.args.cells.now)
found c =
    let parts = c.as_chunks in
    stretch_some (of_kind c.args.kind) c.args.cells.now _ _ _
    (any_from_yields_List (λ (m : List ℕ). some_of (of_kind c.args.kind) (meanings m)) _ _ _ c.any.ensures.ran (YieldsList-from_slice parts.result.0.now cc) (λ x b q k. search (rules, tests)))
    parts.ensures.front parts.ensures.back

pub returns-then-any : goal.returns-then-any
returns-then-any c = c.if-any.true ∙ rw c.if-any.true at (found c.before.before)

pub returns-else-any : goal.returns-else-any
returns-else-any c = c.find_in_row.ensures ∙ rw c.if-any.false at (found c.before.before.before)
