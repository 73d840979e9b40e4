-- An evaluator that judges boxes is right where it says no: the box holds the exact place of every point of the block, in the pixels that the block covers.
-- Assumes nothing.
use mathlib.Core.Path.{◌≡◌, sym, ap, ◌∙◌, subst}
use mathlib.Core.Bool.{◌&&◌}
use Prim.Native.Nat.{ℕ, suc, ◌+◌, ◌-◌, ◌*◌, ◌^◌, ◌≤◌, ◌<◌}
use native.Mathlib.Nat.{mul_assoc, mul_comm, mul-le-mul_right}
use native.Mathlib.Omega.{arith}
use lib.Dec.{leb, ltb, le→leb}
use lib.IntN.{pos}
use lib.Pow.{pow-add}
use Rattle.base.proofs.ListLaws.{every_also}
use Rattle.base.proofs.Test.{by_test}
use Rattle.theory.specs.Colours.{Judgement, judgement, NoneIn, FalseRight, Holds}
use Rattle.theory.specs.Positions.{Fraction, AtMost, exact_edge, LiesBetween, LiesExactly}
use Rattle.coordinate.specs.declared.Coordinate.{Coordinate}
use Rattle.boxes.specs.declared.Plot.{Plot}
use Rattle.boxes.specs.Ratios.{Ratio, ◌⊑◌}
use Rattle.boxes.specs.Pixels.{parts_of, begins_at, ends_at, clipped_end}
use Rattle.boxes.specs.Boxes.{x_axis, y_axis}
use Rattle.boxes.specs.Enclosure.{exact_pixels, mapped_to}
use Rattle.boxes.proofs.RatioLaws.{⊑_trans, Same, same_from}
use Rattle.boxes.proofs.BoxPromises.{points_enclosed, box_levels, box_placed}
use Rattle.queue.specs.declared.Block.{Block}
use Rattle.decide.specs.declared.Chosen.{Chosen}
use Rattle.implicit.specs.declared.state.Ranges.{Ranges}
use Rattle.implicit.specs.Step.{World}
use Rattle.promises.specs.Chart.{covers_in, queued_blocks}
use Rattle.promises.specs.Steps.{Steps, no_steps, then_step, then_move}
use Rattle.promises.specs.Judgements.{judgements_taking, EveryAnswer}
use Rattle.promises.specs.Mixes.{Measures, Mix, question_of}
use Rattle.promises.specs.ByBoxes.{edge_in_pixels, ExactPositions, PlotStands, PlotOf, SolvesWhereItStands, NoneInBox, JudgedByBox}
use Rattle.promises.proofs.MixesExact.{exactly}

-- ---- the same edge, by ranks and by parts
-- 2^(rank - 16) parts are 2^rank of 2^-48 pixels
parts_scale : (rank : ℕ) → 16 ≤ rank → 2 ^ (rank - 16) * 2 ^ 48 ≡ 2 ^ rank * 2 ^ 32
parts_scale rank h = sym (pow-add 2 (rank - 16) 48) ∙ ap (λ (z : ℕ). 2 ^ z) (all rank h) ∙ pow-add 2 rank 32
  where
    all : (rank : ℕ) → 16 ≤ rank → rank - 16 + 48 ≡ rank + 32
    all rank h = omega arith

same_edge : (i rank : ℕ) → 16 ≤ rank → Same (exact_pixels (i * 2 ^ (rank - 16))) (edge_in_pixels rank i)
same_edge i rank h =
    same_from (exact_pixels (i * 2 ^ (rank - 16))) (edge_in_pixels rank i)
    (ap pos (mul_assoc i (2 ^ (rank - 16)) (2 ^ 48) ∙ ap (λ (z : ℕ). i * z) (parts_scale rank h) ∙ sym (mul_assoc i (2 ^ rank) (2 ^ 32))))

-- a pixel's upper edge is not past the side
past_pixel : (q side : ℕ) → q < side → edge_in_pixels 48 (suc q) ⊑ exact_pixels (parts_of side)
past_pixel q side h =
    le→leb (suc q * 2 ^ 48 * 2 ^ 32) (side * 2 ^ 32 * 2 ^ 48)
    (subst (λ (z : ℕ). z ≤ side * 2 ^ 32 * 2 ^ 48) (turn (suc q) (2 ^ 32) (2 ^ 48)) (mul-le-mul_right (2 ^ 48) (mul-le-mul_right (2 ^ 32) (next q side h))))
  where
    next : (q w : ℕ) → q < w → suc q ≤ w
    next q w h = omega arith

    turn : (n a b : ℕ) → n * a * b ≡ n * b * a
    turn n a b = mul_assoc n a b ∙ ap (λ (z : ℕ). n * z) (mul_comm a b) ∙ sym (mul_assoc n b a)

-- a position of a pixel and of a block that covers it lies in the block's part of the picture
module _ (c : Coordinate) (side q : ℕ) (v : Ratio) (low : 16 ≤ c.rank) (inside : q < side) where
  after_begin : edge_in_pixels c.rank c.index ⊑ v → exact_pixels (begins_at c) ⊑ v
  after_begin h = ⊑_trans (exact_pixels (begins_at c)) (edge_in_pixels c.rank c.index) v (same_edge c.index c.rank low).0 h

  before_end : v ⊑ edge_in_pixels c.rank (suc c.index) → v ⊑ edge_in_pixels 48 (suc q) → v ⊑ exact_pixels (clipped_end side c)
  before_end h k =
      by_test (λ (n : ℕ). v ⊑ exact_pixels n) (leb 48 c.rank && ltb (parts_of side) (ends_at c)) (parts_of side) (ends_at c)
      (λ t. ⊑_trans v (edge_in_pixels 48 (suc q)) (exact_pixels (parts_of side)) k (past_pixel q side inside))
      (λ t. ⊑_trans v (edge_in_pixels c.rank (suc c.index)) (exact_pixels (ends_at c)) h (ends c.index c.rank low))
    where
      one_more : (i : ℕ) → i + 1 ≡ suc i
      one_more i = omega arith

      ends : (i rank : ℕ) → 16 ≤ rank → edge_in_pixels rank (suc i) ⊑ exact_pixels ((i + 1) * 2 ^ (rank - 16))
      ends i rank h = subst (λ (n : ℕ). edge_in_pixels rank (suc i) ⊑ exact_pixels (n * 2 ^ (rank - 16))) (sym (one_more i)) (same_edge (suc i) rank h).1

-- ---- a no that was said of a box is right
module _ (M : Measures) (plot : Plot) (Relation : (u v : Ratio) → Mix M → Type 0) (E : ExactPositions M) (s : PlotStands plot)
    (p : Chosen) (r : Ranges) (same : PlotOf plot p) where
  abbrev Solves : Mix M → Type 0
  Solves = SolvesWhereItStands M plot Relation E s

  none_in_box : (b : Block) → NoneInBox M plot Relation b → NoneIn (covers_in p) (question_of M p r Solves) b
  unfolding NoneInBox NoneIn Holds
  none_in_box b (kind, k, answer, none) a q given at (held, covered) =
      let P = points_enclosed plot kind b.x b.y k answer in
      let l = box_placed plot kind b.x b.y k answer in
      let levels = box_levels plot kind b.x b.y k answer in
      let u = E.across a.x in
      let v = E.up a.y in
      let hx = E.lies_across b.x.index b.x.rank a.x held.0.0 in
      let hy = E.lies_up b.y.index b.y.rank a.y (subst (λ (k : ℕ). M.LiesY b.y.index k a.y) levels held.0.1) in
      let qx = (E.lies_across q.x 48 a.x at.0).1 in
      let qy = (E.lies_up q.y 48 a.y at.1).1 in
      let xin = subst (λ (n : ℕ). q.x < n) (sym same.0) q.x_in in
      let yin = subst (λ (n : ℕ). q.y < n) (sym same.1) q.y_in in
      none (mapped_to (x_axis plot) s.X0 s.X1 u) (mapped_to (y_axis plot) s.Y0 s.Y1 v) a
      (P.0 s.X0 s.X1 u s.left_right s.to_the_right
      (after_begin b.x plot.width q.x u l.0 xin hx.0) (before_end b.x plot.width q.x u l.0 xin hx.1 qx))
      (P.1 s.Y0 s.Y1 v s.bottom_top s.upward
      (after_begin b.y plot.height q.y v l.1 yin hy.0) (before_end b.y plot.height q.y v l.1 yin hy.1 qy))
      held.1

  false_right : (j : Judgement Block) → JudgedByBox M plot Relation j → FalseRight (covers_in p) (question_of M p r Solves) j
  unfolding JudgedByBox FalseRight
  false_right (judgement c v f) h = λ looked said. none_in_box c (h looked said)

  pub boxes_right : {n : ℕ} {w w' : World} (steps : Steps n w w') → EveryAnswer p (JudgedByBox M plot Relation) steps
      → EveryAnswer p (FalseRight (covers_in p) (question_of M p r Solves)) steps
  unfolding EveryAnswer
  boxes_right no_steps h = tt
  boxes_right (then_step {w' = w'} steps vs evals bytes e) h = (
    boxes_right steps h.0,
    every_also (JudgedByBox M plot Relation) (FalseRight (covers_in p) (question_of M p r Solves)) false_right (judgements_taking p w' vs (queued_blocks w')) h.1,
  )
  boxes_right (then_move steps m) h = boxes_right steps h

-- ---- exact positions there are: fractions of pixels
abbrev as_ratio : Fraction → Ratio
as_ratio x = record { num = pos x.num; den = x.den; den_pos = x.den_pos }

between : (i j : ℕ) (x : Fraction) → LiesExactly 48 i j x → (edge_in_pixels j i ⊑ as_ratio x) × (as_ratio x ⊑ edge_in_pixels j (suc i))
unfolding LiesBetween AtMost exact_edge
between i j x h = (le→leb (i * 2 ^ j * x.den) (x.num * 2 ^ 48) h.0, le→leb (x.num * 2 ^ 48) (suc i * 2 ^ j * x.den) h.1)

pub exactly_placed : ExactPositions exactly
exactly_placed = record { across = as_ratio; up = as_ratio; lies_across = λ i j x h. between i j x h; lies_up = λ i j y h. between i j y h }
