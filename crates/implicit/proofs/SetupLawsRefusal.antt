-- What a setup refuses, test by test, and what an accepted one has passed. Assumes nothing.
use mathlib.Core.Path.{◌≡◌, refl, sym, ap, ◌∙◌}
use mathlib.Core.Bool.{Bool, true, false, cond, not, ◌&&◌, false≢true}
use Prim.Native.Nat.{ℕ, ◌*◌, ◌≤◌, ◌<◌}
use lib.Dec.{leb}
use lib.ListN.{length}
use borrow.Author.Tests.{leb-true, le-leb, lt-leb}
use Rattle.std.specs.Prelude.{Result, Ok, Err}
use Rattle.base.proofs.Test.{and_left, and_right}
use Rattle.refusal.specs.declared.Refusal.{Refusal}
use Rattle.refusal.specs.declared.Refusal.TheVariants as R
use Rattle.queue.proofs.QueueAnswers.{denied, granted}
use Rattle.decide.specs.declared.Chosen.{Chosen}
use Rattle.decide.specs.Damage.{legal_side}
use Rattle.implicit.specs.declared.state.Ranges.{Ranges}
use Rattle.implicit.specs.Record.{pixel_count}
use Rattle.implicit.specs.Setup.{ranges_legal, first_bytes, setup_refusal, least_ring}

has_need : Result ℕ Refusal → Bool
has_need (Ok n) = true
has_need (Err why) = false

pub needs_first : (t : Bool) (e : Result ℕ Refusal) (n : ℕ) (why : Refusal) → cond t e (Err why) ≡ Ok n → (t ≡ true) × (e ≡ Ok n)
unfolding has_need
needs_first true e n why h = (refl, h)
needs_first false e n why h = absurd (false≢true (ap has_need h))

module _ (p : Chosen) (r : Ranges) (len count : ℕ) where
  module _ (a b : Bool) (ea : a ≡ legal_side p.width) (eb : b ≡ legal_side p.height) where
    pub refused_side : not (a && b) ≡ true → Err R.Side ≡ setup_refusal p r len count
    unfolding setup_refusal
    refused_side h = let e : legal_side p.width && legal_side p.height ≡ false = rw (← ea, ← eb) (denied (a && b) h) in rw e

    module _ (sides : not (a && b) ≡ false) where
      legal_sides : legal_side p.width && legal_side p.height ≡ true
      legal_sides = rw (← ea, ← eb) (granted (a && b) sides)

      pub refused_cells : count < p.width * p.height → Err R.Cells ≡ setup_refusal p r len count
      unfolding setup_refusal
      refused_cells h = rw (legal_sides, lt-leb (p.width * p.height) count h)

      module _ (enough : p.width * p.height ≤ count) (l : Bool) (el : l ≡ ranges_legal p.set r) where
        pub refused_parameter : not l ≡ true → Err R.Parameter ≡ setup_refusal p r len count
        unfolding setup_refusal
        refused_parameter h = rw (legal_sides, le-leb (p.width * p.height) count enough, sym el ∙ denied l h)

        module _ (legal : not l ≡ false) (total : ℕ) (et : total ≡ length (first_bytes p r)) where
          pub refused_room : len < total → Err R.Room ≡ setup_refusal p r len count
          unfolding setup_refusal
          refused_room h = rw (legal_sides, le-leb (p.width * p.height) count enough, sym el ∙ granted l legal, ← et, lt-leb total len h)

          pub not_refused : total ≤ len → Ok tt ≡ setup_refusal p r len count
          unfolding setup_refusal
          not_refused h = rw (legal_sides, le-leb (p.width * p.height) count enough, sym el ∙ granted l legal, ← et, le-leb total len h)

-- THE LEAST RING
module _ (p : Chosen) (r : Ranges) (a b : Bool) (ea : a ≡ legal_side p.width) (eb : b ≡ legal_side p.height) where
  pub least_side : not (a && b) ≡ true → Err R.Side ≡ least_ring p r
  unfolding least_ring
  least_side h = let e : legal_side p.width && legal_side p.height ≡ false = rw (← ea, ← eb) (denied (a && b) h) in rw e

  module _ (sides : not (a && b) ≡ false) (l : Bool) (el : l ≡ ranges_legal p.set r) where
    both_legal : legal_side p.width && legal_side p.height ≡ true
    both_legal = rw (← ea, ← eb) (granted (a && b) sides)

    pub least_parameter : not l ≡ true → Err R.Parameter ≡ least_ring p r
    unfolding least_ring
    least_parameter h = rw (both_legal, sym el ∙ denied l h)

    pub least_bytes : not l ≡ false → (total : ℕ) → total ≡ length (first_bytes p r) → Ok total ≡ least_ring p r
    unfolding least_ring
    least_bytes legal total et = rw (both_legal, sym el ∙ granted l legal, et)

-- AN ACCEPTED SETUP
pub record Accepted (p : Chosen) (r : Ranges) (len count : ℕ) : Type 0 where
  pub width_some : 1 ≤ p.width
  pub width_most : p.width ≤ 32768
  pub height_some : 1 ≤ p.height
  pub height_most : p.height ≤ 32768
  pub cells : pixel_count p ≤ count
  pub ranges : ranges_legal p.set r ≡ true
  pub room : length (first_bytes p r) ≤ len

begins : Result (Unit {0}) Refusal → Bool
begins (Ok tt) = true
begins (Err why) = false

first_of : (t : Bool) (e f : Result (Unit {0}) Refusal) → begins f ≡ false → cond t e f ≡ Ok tt → (t ≡ true) × (e ≡ Ok tt)
unfolding begins
first_of true e f g h = (refl, h)
first_of false e f g h = absurd (false≢true (sym g ∙ ap begins h))

-- its sides are legal
pub begun_sides : (p : Chosen) (r : Ranges) (len count : ℕ) → setup_refusal p r len count ≡ Ok tt → (legal_side p.width && legal_side p.height) ≡ true
unfolding setup_refusal begins
begun_sides p r len count e = (first_of (legal_side p.width && legal_side p.height) _ _ refl e).0

pub accepted : (p : Chosen) (r : Ranges) (len count : ℕ) → setup_refusal p r len count ≡ Ok tt → Accepted p r len count
unfolding setup_refusal begins
accepted p r len count e =
    let w = legal_side p.width in
    let h = legal_side p.height in
    let (sides, e₁) = first_of (w && h) _ _ refl e in
    let (cells, e₂) = first_of (leb (pixel_count p) count) _ _ refl e₁ in
    let (ranges, e₃) = first_of (ranges_legal p.set r) _ _ refl e₂ in
    let (room, e₄) = first_of (leb (length (first_bytes p r)) len) _ _ refl e₃ in
    let w' = and_left w h sides in
    let h' = and_right w h sides in
    record {
      width_some = leb-true 1 p.width (and_left (leb 1 p.width) (leb p.width 32768) w');
      width_most = leb-true p.width 32768 (and_right (leb 1 p.width) (leb p.width 32768) w');
      height_some = leb-true 1 p.height (and_left (leb 1 p.height) (leb p.height 32768) h');
      height_most = leb-true p.height 32768 (and_right (leb 1 p.height) (leb p.height 32768) h');
      cells = leb-true (pixel_count p) count cells;
      ranges = ranges;
      room = leb-true (length (first_bytes p r)) len room;
    }
