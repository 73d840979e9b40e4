-- Why a step withdraws no True: it gives up only under a block of which a pixel was not True, and that block covers one pixel, or the picture uses
-- neither x nor y and all its cells are alike. Assumes nothing.
use mathlib.Core.Path.{◌≡◌, refl, sym, ap, ◌∙◌}
use mathlib.Core.Bool.{Bool, true, false, cond, true≢false}
use mathlib.Core.List.{List, [], ◌∷◌, ◌++◌}
use Prim.Native.Nat.{ℕ, suc, ◌+◌, ◌-◌, ◌*◌, ◌/◌, ◌%◌, ◌≤◌, ◌<◌}
use native.Mathlib.Omega.{arith}
use native.Mathlib.Decide.{dec_lt}
use native.Mathlib.Nat.{zero-add}
use lib.Dec.{T}
use lib.ListN.{length, get_or}
use Rattle.base.proofs.Test.{≡→T, cases}
use Rattle.base.specs.Event.{Event, marks}
use Rattle.base.specs.Lists.{Every}
use Rattle.theory.specs.Cells.{marked_true}
use Rattle.theory.specs.Demand3.{any_gives_up, LooksBeforeGivingUp, GivesUpOnePixel, GivesUpBelow}
use Rattle.theory.proofs.Theorems as Theory
use Rattle.image.specs.Cell.{Cell, Named, meanings, is_marked}
use Rattle.image.specs.Range.{holds_cell, rectangle_of}
use Rattle.image.specs.Painting.{keep_at, held_cells, every_of, pixel_cell}
use Rattle.image.proofs.RangeLaws.{cell_pixel, beyond_not_held, rectangle_in_picture, rectangle_covers}
use Rattle.queue.specs.declared.Block.{Block}
use Rattle.queue.specs.declared.directions.Direction.TheVariants as D
use Rattle.queue.specs.Directions.{in_use}
use Rattle.decide.specs.declared.Chosen.{Chosen}
use Rattle.decide.specs.Turn.{Turned}
use Rattle.decide.specs.Turn as Tu
use Rattle.decide.specs.declared.verdict.Outcome.{Outcome}
use Rattle.decide.specs.Children.{children_of}
use Rattle.decide.specs.Verdict.{is_marking, is_incomplete}
use Rattle.decide.specs.Turn.{turned}
use Rattle.plan.specs.Plan.{all_true, outcomes, incomplete_count, mark_events, turn_event, turn_events, events_for}
use Rattle.decide.proofs.DamageLaws.{is_sound}
use Rattle.plan.proofs.PlaceLaws.{Lies, stays, quarters, children_lie}
use Rattle.plan.proofs.QueuedLaws.{nowhere_floor}
use Rattle.plan.proofs.EventLaws.{all_true_nothing}
use Rattle.implicit.specs.Step.{World}
use Rattle.promises.specs.Chart.{Pixel, place_of_block, covers_in}
use Rattle.promises.proofs.Snapshots.{standing, standing_at, snapshot_of}
use Rattle.promises.proofs.Covering.{Level, covers_as}
use Rattle.promises.proofs.Standings.{not_true_as}
use Rattle.promises.proofs.Linked.{Linked, linked_events}

-- A PIXEL THAT IS NOT TRUE

-- a list of which not every kept element passes holds one that does not
pub record Found (test : Cell → Bool) (t : ℕ → Bool) (i : ℕ) (l : List Cell) : Type 0 where
  pub at : ℕ
  pub at_in : at < length l
  pub kept : t (i + at) ≡ true
  pub fails : test (get_or l at (Named 0)) ≡ false

found : (test : Cell → Bool) (t : ℕ → Bool) (i : ℕ) (l : List Cell) → every_of test (keep_at t i l) ≡ false → Found test t i l
unfolding every_of
found test t i [] e = absurd (true≢false e)
found test t i (c ∷ l) e = go (t i) refl (test c) refl (found test t (suc i) l) e
  where
    later : Found test t (suc i) l → Found test t i (c ∷ l)
    later f = let k : i + suc f.at ≡ suc i + f.at = omega arith in record { at = suc f.at; at_in = omega (arith, f.at_in); kept = rw k f.kept; fails = f.fails }

    go : (k : Bool) → t i ≡ k → (b : Bool) → test c ≡ b → (every_of test (keep_at t (suc i) l) ≡ false → Found test t (suc i) l)
        → every_of test (cond k (c ∷ keep_at t (suc i) l) (keep_at t (suc i) l)) ≡ false → Found test t i (c ∷ l)
    go true kept false fails ih e = record { at = 0; at_in = omega arith; kept = (let z : i + 0 ≡ i = omega arith in rw z kept); fails = fails }
    go true kept true fails ih e = later (ih (rw fails at e))
    go false kept b fails ih e = later (ih e)

-- a block of which not all covered cells are True covers a pixel that is not
pub not_all_true : (p : Chosen) (b : Block) (l : List Cell) → Level b → p.width * p.height ≤ length l → all_true p b l ≡ false
    → (q : Pixel p) × T (covers_in p b q) × (¬ (standing_at p l q ≡ marked_true))
unfolding all_true held_cells standing_at
not_all_true p b l even enough e =
    let rect = rectangle_of b.x b.y p.width p.height in
    let f = found is_marked (holds_cell p.width rect) 0 l e in
    let held : holds_cell p.width rect f.at ≡ true = rw (zero-add f.at) at f.kept in
    elim (dec_lt f.at (p.width * p.height)) [
      | yes m ↦ pixel f.at m held f.fails
      | no m ↦ absurd (true≢false (sym held ∙ beyond_not_held p.width p.height rect f.at (rectangle_in_picture b.x b.y p.width p.height) (omega arith)))
    ]
  where
    pixel : (i : ℕ) → i < p.width * p.height → holds_cell p.width (rectangle_of b.x b.y p.width p.height) i ≡ true
        → is_marked (get_or l i (Named 0)) ≡ false
        → (q : Pixel p) × T (covers_in p b q) × (¬ (standing (pixel_cell p.width p.height q.x q.y l) ≡ marked_true))
    pixel i m held fails =
        let z = cell_pixel p.width p.height i m in
        let px = i % p.width in
        let py = p.height - 1 - i / p.width in
        let q : Pixel p = record { x = px; y = py; x_in = z.0; y_in = z.1 } in (
          q,
          ≡→T (covers_as p b q even ∙ sym (rectangle_covers b.x b.y p.width p.height px py z.0 z.1)
              ∙ ap (holds_cell p.width (rectangle_of b.x b.y p.width p.height)) z.2 ∙ held),
          not_true_as (pixel_cell p.width p.height px py l) (ap (λ (n : ℕ). is_marked (get_or l n (Named 0))) z.2 ∙ fails),
        )

-- nothing gives nothing up
nothing_given : (es : List (Event Block)) → es ≡ [] → ¬ T (any_gives_up es)
unfolding any_gives_up
nothing_given es e t = rw e at t

pub looks : (p : Chosen) (w w' : World) (vs : List ℕ) (l : Linked p w vs w')
    → LooksBeforeGivingUp (covers_in p) false (snapshot_of p w) (snapshot_of p w') l.step
unfolding LooksBeforeGivingUp
looks p w w' vs l g =
    let b = l.step.front in
    cases (all_true p b (meanings w.cells))
    (λ e. absurd (nothing_given l.step.events (linked_events p w vs w' l ∙ all_true_nothing p b (meanings w.cells) vs l.front_sound l.enough e) g))
    (λ e. not_all_true p b (meanings w.cells) (is_sound p b l.front_sound).block.ranks l.enough e)

-- WHERE X OR Y IS USED

-- a step that gives up has a child that finds no direction
given_child : (P : Block → Type 0) (turn : Block → Turned) (cs : List Block) (os : List Outcome) → Every P cs → T (any_gives_up (turn_events turn cs os))
    → (c : Block) × P c × (turn c ≡ Tu.Nowhere)
unfolding turn_events any_gives_up
given_child P turn [] os h g = absurd g
given_child P turn (c ∷ cs) [] h g = absurd g
given_child P turn (c ∷ cs) (o ∷ os) h g = go (is_incomplete o) (turn c) refl (given_child P turn cs os h.1) g
  where
    go : (t : Bool) (u : Turned) → turn c ≡ u → (T (any_gives_up (turn_events turn cs os)) → (c : Block) × P c × (turn c ≡ Tu.Nowhere))
        → T (any_gives_up (cond t (turn_event u ∷ turn_events turn cs os) (turn_events turn cs os))) → (c : Block) × P c × (turn c ≡ Tu.Nowhere)
    go true (Tu.To d) e ih g = ih g
    go true Tu.Nowhere e ih g = (c, h.0, e)
    go false u e ih g = ih g

pub marks_give_none : (cs : List Block) (os : List Outcome) (es : List (Event Block)) → any_gives_up (mark_events cs os ++ es) ≡ any_gives_up es
unfolding mark_events any_gives_up
marks_give_none [] os es = refl
marks_give_none (c ∷ cs) [] es = refl
marks_give_none (c ∷ cs) (o ∷ os) es = go (is_marking o) (marks_give_none cs os es)
  where
    go : (t : Bool) → any_gives_up (mark_events cs os ++ es) ≡ any_gives_up es
        → any_gives_up (cond t (marks c ∷ mark_events cs os) (mark_events cs os) ++ es) ≡ any_gives_up es
    go true ih = ih
    go false ih = ih

-- such a child is on the floor, so its parent lies on a pixel's level or below, and covers one pixel at most
low_parent : (b c : Block) → Lies b c → c.x.rank ≤ 16 → b.x.rank ≤ 48
low_parent b c (stays i) h = rw (← i.x) (omega arith)
low_parent b c (quarters q) h = omega (arith, q.x_rank)

pub gives_up_low : (p : Chosen) → in_use p.set D.XY ≡ true → (w w' : World) (vs : List ℕ) (l : Linked p w vs w')
    → GivesUpBelow (covers_in p) false (λ b. b.x.rank) 48 (snapshot_of p w) (snapshot_of p w') l.step
unfolding GivesUpBelow events_for
gives_up_low p u w w' vs l g =
    let b = l.step.front in
    let cs = children_of p b in
    let os = outcomes p (meanings w.cells) cs vs in
    let e : any_gives_up l.step.events ≡ any_gives_up (turn_events (turned p b (incomplete_count os)) cs os) =
    ap any_gives_up (linked_events p w vs w' l) ∙ marks_give_none cs os (turn_events (turned p b (incomplete_count os)) cs os) in
    let (c, i, n) = given_child (Lies b) (turned p b (incomplete_count os)) cs os (children_lie p b l.front_sound) (rw e at g) in
    low_parent b c i (nowhere_floor p b (incomplete_count os) c u n)

pub one_pixel : (p : Chosen) → in_use p.set D.XY ≡ true → (w w' : World) (vs : List ℕ) (l : Linked p w vs w')
    → GivesUpOnePixel (covers_in p) false (snapshot_of p w) (snapshot_of p w') l.step
unfolding GivesUpOnePixel GivesUpBelow
one_pixel p u w w' vs l g = Theory.low_covers_at_most_one p.width p.height 48 place_of_block l.step.front (gives_up_low p u w w' vs l g)
