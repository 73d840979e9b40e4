-- FOR READERS: the numbers of refusal of the explainer, to be held against document 02, (v): "Refusals: 18 for a pixel outside the
-- picture, after the setup's own; a step that refuses on the way gives its number." The first row that applies gives the number; 0
-- is a reason. Assumes nothing.
use mathlib.Core.Path.{◌≡◌, refl, ap, ◌∙◌}
use mathlib.Core.Bool.{Bool, true, false, cond, not, ◌||◌}
use mathlib.Core.List.{List, [], ◌∷◌}
use Prim.Native.Nat.{ℕ}
use lib.Dec.{ltb, eqb}
use lib.ListN.{length}
use borrow.Author.Tests.{ne_eqb}
use Rattle.std.specs.Prelude.{Ok, Result, Err}
use Rattle.refusal.specs.Number.{number}
use Rattle.refusal.specs.declared.Refusal.{Refusal}
unfoldable pub use Rattle.refusal.specs.Number.{first_of}
use Rattle.decide.specs.declared.Chosen.{Chosen}
use Rattle.decide.specs.Damage.{legal_side}
use Rattle.implicit.specs.declared.state.Ending.{Ending}
use Rattle.implicit.specs.declared.state.Ending.TheVariants as E
use Rattle.implicit.specs.declared.state.Ranges.{Ranges}
use Rattle.implicit.specs.declared.state.State.{State}
use Rattle.implicit.specs.Record.{pixel_count}
use Rattle.implicit.specs.Setup.{ranges_legal, first_bytes, setup_answer}
use Rattle.implicit.specs.Run.{RunEnd, run_from}
use Rattle.implicit.specs.Answers.{setup_number, stop_number}
use Rattle.implicit.proofs.Numbers.{never_zero, setup_number_lem}
use Rattle.explain.specs.declared.reason.Reason.{Reason}
use Rattle.explain.specs.Explained.{pixel_inside, and_then_pixel, beginning, world_begun, explained_by, unless_refused, explained}
use Rattle.explain.specs.Explained.{explanation_number}

-- the first of four rows and then others
rows_more : (a b c d : Bool) (rest : List (ℕ × Bool))
    → cond (eqb (first_of ((1, a) ∷ (2, b) ∷ (3, c) ∷ (6, d) ∷ [])) 0) (first_of rest) (first_of ((1, a) ∷ (2, b) ∷ (3, c) ∷ (6, d) ∷ []))
    ≡ first_of ((1, a) ∷ (2, b) ∷ (3, c) ∷ (6, d) ∷ rest)
unfolding first_of
rows_more true b c d rest = refl
rows_more false true c d rest = refl
rows_more false false true d rest = refl
rows_more false false false true rest = refl
rows_more false false false false rest = refl

ended_number : (reason : Reason) (e : RunEnd) (x : Ending) → explanation_number (Ok (explained_by reason e x)) ≡ stop_number x
ended_number reason e E.Done = refl
ended_number reason e E.Limit = refl
ended_number reason e E.More = refl
ended_number reason e (E.Stop why) = refl

-- what the setup answers, and then the pixel and the steps
answer_number : (a : Result State Refusal) (inside : Bool) (reason : Reason) (e : RunEnd)
    → explanation_number (unless_refused (and_then_pixel a inside) (explained_by reason e e.ending))
    ≡ cond (eqb (setup_number a) 0) (first_of ((18, not inside) ∷ (stop_number e.ending, true) ∷ [])) (setup_number a)
unfolding first_of
answer_number (Ok s) true reason e = ended_number reason e e.ending
answer_number (Ok s) false reason e = refl
answer_number (Err why) inside reason e = rw (ne_eqb (number why) 0 (never_zero why))

-- THE EXPLAINER: 1, 2, 3 and 6 are the setup's own, as on the page Numbers of `implicit`; 18 comes behind them; and then the number
-- of the step that refused, if one did
pub explain_number : (p : Chosen) (r : Ranges) (ring cells tape : List ℕ) (steps column row : ℕ)
    → explanation_number (explained p r ring cells tape steps column row)
    ≡ first_of ((1, not (legal_side p.width) || not (legal_side p.height))
    ∷ (2, ltb (length cells) (pixel_count p))
    ∷ (3, not (ranges_legal p.set r))
    ∷ (6, ltb (length ring) (length (first_bytes p r)))
    ∷ (18, not (pixel_inside p column row))
    ∷ (stop_number (run_from steps (world_begun p r ring cells) tape).ending, true)
    ∷ [])
unfolding explained beginning
explain_number p r ring cells tape steps column row =
    let e = run_from steps (world_begun p r ring cells) tape in
    let inside = pixel_inside p column row in
    answer_number (setup_answer p r (length ring) (length cells)) inside _ e
    ∙ ap (λ (n : ℕ). cond (eqb n 0) (first_of ((18, not inside) ∷ (stop_number e.ending, true) ∷ [])) n)
    (setup_number_lem p r (length ring) (length cells))
    ∙ rows_more (not (legal_side p.width) || not (legal_side p.height)) (ltb (length cells) (pixel_count p))
    (not (ranges_legal p.set r)) (ltb (length ring) (length (first_bytes p r))) _
