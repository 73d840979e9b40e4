-- The outcomes of all children from the cells as given are those of one child after the other. Assumes nothing.
use mathlib.Core.Path.{◌≡◌, refl, sym, ap, ◌∙◌}
use mathlib.Core.Bool.{Bool, true, false, cond, ◌&&◌, ◌||◌}
use mathlib.Core.List.{List, [], ◌∷◌}
use Prim.Native.Nat.{ℕ, ◌*◌, ◌≤◌}
use native.Mathlib.Omega.{arith}
use lib.ListN.{length}
use lib.ListN as L
use Rattle.base.specs.Lists.{Every}
use Rattle.base.proofs.ListLaws.{every_both, every_all, Pairs}
use Rattle.image.specs.declared.Op.TheVariants as Op
use Rattle.image.specs.Cell.{Cell, meanings, meaning_of}
use Rattle.image.specs.Range.{rectangle_of}
use Rattle.image.proofs.PaintLaws.{painted_length}
use Rattle.queue.specs.declared.Block.{Block}
use Rattle.decide.specs.declared.Chosen.{Chosen}
use Rattle.decide.specs.declared.verdict.Outcome.{Outcome}
use Rattle.decide.specs.Damage.{sound}
use Rattle.decide.specs.Children.{children_of}
use Rattle.decide.specs.Verdict.{outcome_of, is_marking}
use Rattle.plan.specs.Plan.{painted_under, all_true, outcomes}
use Rattle.plan.specs.AtOnce.{alike, outcome_at_once}
unfoldable pub use Rattle.plan.specs.AtOnce.{at_once}
use Rattle.plan.proofs.CoverLaws.{true_as_given, marks_narrower, marks_apart, given_true}
use Rattle.plan.proofs.PlaceLaws.{Beside, children_beside}

or_false : (a : Bool) → (a || false) ≡ a
or_false true = refl
or_false false = refl

or_true : (a : Bool) → (a || true) ≡ true
or_true true = refl
or_true false = refl

module _ (p : Chosen) (cells : List ℕ) where
  -- what a child sees when its turn comes
  abbrev Sees : Bool → Bool → List Cell → Block → Type 0
  Sees same marked l c = all_true p c l ≡ (true_as_given p c cells || (same && marked))

  -- the cells after a child's turn
  abbrev after : Block → Bool → List Cell → List Cell
  after c t l = cond t (painted_under p c Op.Mark l) l

  after_length : (c : Block) (t : Bool) (l : List Cell) → length (after c t l) ≡ length l
  after_length c true l = painted_length p.width (rectangle_of c.x c.y p.width p.height) Op.Mark l
  after_length c false l = refl

  -- the next child sees what was given, or what a child before it marked
  sees_on : (same marked t : Bool) (l : List Cell) (c d : Block) → p.width * p.height ≤ length l → Beside same c d → Sees same marked l d → Sees same (marked || t) (after c t l) d
  sees_on true marked true l c d h n s = marks_narrower p c d l h n ∙ sym (rw (or_true marked) (or_true (true_as_given p d cells)))
  sees_on false marked true l c d h a s = marks_apart p c d l h a ∙ s
  sees_on same marked false l c d h r s = s ∙ rw (or_false marked)

  in_order_from : (same marked : Bool) (l : List Cell) (cs : List Block) (vs : List ℕ) → p.width * p.height ≤ length l → Pairs (Beside same) cs → Every (Sees same marked l) cs
      → outcomes p l cs vs ≡ at_once p same cells marked cs vs
  unfolding outcomes at_once
  in_order_from same marked l [] vs h r s = refl
  in_order_from same marked l (c ∷ cs) [] h r s = refl
  in_order_from same marked l (c ∷ cs) (v ∷ vs) h r s =
      let o = outcome_at_once p same cells marked c v in
      let e : outcome_of c.x.rank v (all_true p c l) ≡ o = ap (outcome_of c.x.rank v) s.0 in
      let t = is_marking o in
      let k : p.width * p.height ≤ length (after c t l) = omega (arith, after_length c t l) in
      rw e
      (ap (λ (os : List Outcome). o ∷ os)
      (in_order_from same (marked || t) (after c t l) cs vs k r.1
      (every_both (Beside same c) (Sees same marked l) (Sees same (marked || t) (after c t l)) (λ d b z. sees_on same marked t l c d h b z) cs r.0 s.1)))

-- one after the other and all at once are the same
pub at_once_lem : (p : Chosen) (b : Block) (cells vs : List ℕ) → sound p b ≡ true → p.width * p.height ≤ length cells
    → outcomes p (meanings cells) (children_of p b) vs ≡ at_once p (alike p b) cells false (children_of p b) vs
at_once_lem p b cells vs ok h =
    in_order_from p cells (alike p b) false (meanings cells) (children_of p b) vs (rw (L.length-map cells meaning_of) h) (children_beside p b ok)
    (every_all (Sees p cells (alike p b) false (meanings cells)) (λ c. sym (given_true p c cells h) ∙ sym (none (true_as_given p c cells) (alike p b))) (children_of p b))
  where
    none : (a s : Bool) → (a || (s && false)) ≡ a
    none true s = refl
    none false true = refl
    none false false = refl
