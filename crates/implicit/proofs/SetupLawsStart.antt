-- The record, the ring and the cells that a setup leaves, as the code puts them together; and the answer. Assumes nothing.
use mathlib.Core.Path.{◌≡◌, refl, sym, ap, ◌∙◌}
use mathlib.Core.Bool.{true}
use mathlib.Core.List.{List}
use Prim.Native.Nat.{ℕ, ◌-◌}
use lib.ListN.{length}
use Rattle.std.specs.Prelude.{Ok, Err}
use Rattle.refusal.specs.declared.Refusal.{Refusal}
use Rattle.image.specs.declared.PixelRange.{PixelRange}
use Rattle.image.specs.declared.Op.TheVariants as Op
use Rattle.image.specs.Range.{whole_picture}
use Rattle.image.specs.Painting.{painted_cells}
use Rattle.queue.specs.declared.Last.{Last}
use Rattle.queue.specs.Block.{starting_last}
use Rattle.queue.proofs.RingLaws.{length_stored}
use Rattle.decide.specs.declared.Chosen.{Chosen}
use Rattle.implicit.specs.declared.state.State.{State}
use Rattle.implicit.specs.declared.state.Ranges.{Ranges}
use Rattle.implicit.specs.declared.first.Product.{Product}
use Rattle.implicit.specs.declared.first.Behind.{Behind}
use Rattle.implicit.specs.Setup.{first_blocks, first_bytes, ranges_legal, setup_refusal, start_record, start_ring, start_cells}
use Rattle.implicit.specs.Setup.{setup_answer, ring_begun, cells_begun}
use Rattle.implicit.specs.SetupComputed.{product_of, product_count, behind_first}
use Rattle.implicit.proofs.SetupLawsFirst.{first_is, count_is}

-- the count of the product is that of the first blocks
pub count_first : (p : Chosen) (r : Ranges) (f : Product) (n : ℕ) → ranges_legal p.set r ≡ true → f ≡ product_of p r
    → n ≡ product_count f → n ≡ length (first_blocks p r)
count_first p r f n ok e g = g ∙ ap product_count e ∙ sym (count_is (product_of p r)) ∙ sym (ap length (first_is p r ok))

pub length_start : (p : Chosen) (r : Ranges) (ring ring₁ : List ℕ) → ring₁ ≡ start_ring p r ring → length ring₁ ≡ length ring
unfolding start_ring
length_start p r ring ring₁ e = ap length e ∙ length_stored (first_bytes p r) ring 0

pub record_made : (p : Chosen) (r : Ranges) (n len len₀ : ℕ) (k : Behind) (front : Last) → n ≡ length (first_blocks p r)
    → len ≡ len₀ → k ≡ behind_first p r → front ≡ starting_last
    → record { chosen = p; taken = 0; queued = n; len = len; head = 0; used = k.used; front = front; back = k.back } ≡ start_record p r len₀
unfolding start_record behind_first
record_made p r n len len₀ k front a b c d = rw (a, b, c, d)

pub cells_made : (p : Chosen) (r : Ranges) (n : ℕ) (all : PixelRange) (cells cells₁ : List ℕ) → n ≡ length (first_blocks p r)
    → all ≡ whole_picture p.width p.height
    → cells₁ ≡ painted_cells p.width p.height all (Op.Fill (n - 1)) cells → cells₁ ≡ start_cells p r cells
unfolding start_cells
cells_made p r n all cells cells₁ a b c = c ∙ rw (a, b)

-- THE ANSWER

-- of what was chosen as it is kept, which the code holds in `q`
module _ (p q : Chosen) (kept : q ≡ p) (r : Ranges) (ring cells : List ℕ) where
  pub begins : Ok tt ≡ setup_refusal q r (length ring) (length cells) → setup_refusal p r (length ring) (length cells) ≡ Ok tt
  begins e = sym (rw kept at e)

  pub begun : (s : State) (ring₁ cells₁ : List ℕ) → Ok tt ≡ setup_refusal q r (length ring) (length cells)
      → s ≡ start_record q r (length ring) → ring₁ ≡ start_ring q r ring → cells₁ ≡ start_cells q r cells
      → (Ok s ≡ setup_answer p r (length ring) (length cells)) × (ring₁ ≡ ring_begun p r ring cells) × (cells₁ ≡ cells_begun p r ring cells)
  unfolding setup_answer ring_begun cells_begun
  begun s ring₁ cells₁ e f g h = rw (f, g, h, kept, begins e) (refl, refl, refl)

  pub not_begun : (why : Refusal) → Err why ≡ setup_refusal q r (length ring) (length cells)
      → (Err why ≡ setup_answer p r (length ring) (length cells)) × (ring ≡ ring_begun p r ring cells) × (cells ≡ cells_begun p r ring cells)
  unfolding setup_answer ring_begun cells_begun
  not_begun why e = let f : setup_refusal p r (length ring) (length cells) ≡ Err why = sym (rw kept at e) in rw f (refl, refl, refl)
