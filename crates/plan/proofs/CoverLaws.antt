-- Which pixels a block covers, and what marking the pixels of one block does to the sight of another. Assumes nothing.
use mathlib.Core.Path.{◌≡◌, sym, ap, ◌∙◌}
use mathlib.Core.Bool.{Bool, true, false, cond, ◌&&◌}
use mathlib.Core.List.{List}
use Prim.Native.Nat.{ℕ, ◌*◌, ◌≤◌, ◌<◌}
use lib.ListN.{length}
use borrow.Author.Tests.{le-leb}
use Rattle.std.specs.Prelude.{Some}
use Rattle.base.proofs.Test.{cond_yes, cond_no, both_ways}
use Rattle.coordinate.proofs.Covering.{covers1}
use Rattle.image.specs.declared.Op.TheVariants as Op
use Rattle.image.specs.Cell.{Cell, meanings, done_to, is_marked, of_kind}
use Rattle.image.specs.Range.{rectangle_of, picture_ready}
use Rattle.image.specs.Painting.{pixel_cell, all_true_seen, some_seen}
use Rattle.image.proofs.PaintLaws.{painted_length}
use Rattle.image.proofs.BlockLaws.{rectangle_ready, painted_pixel, every_pixel, pixels_every}
use Rattle.queue.specs.declared.Block.{Block}
use Rattle.decide.specs.declared.Chosen.{Chosen}
use Rattle.decide.specs.Damage.{cell_damaged, damage_seen}
use Rattle.plan.specs.Plan.{painted_under, all_true}
use Rattle.plan.specs.AtOnce.{true_at}

-- does a block cover the pixel in column px that is the py-th from the bottom?
abbrev pub covers : Block → ℕ → ℕ → Bool
covers b px py = covers1 b.x.rank b.x.index px && covers1 b.y.rank b.y.index py

-- d covers only what c covers; no pixel is covered by both
abbrev pub Narrower : Block → Block → Type 0
Narrower c d = (px py : ℕ) → covers d px py ≡ true → covers c px py ≡ true

abbrev pub Apart : Block → Block → Type 0
Apart c d = (px py : ℕ) → covers d px py ≡ true → covers c px py ≡ false

module _ (p : Chosen) (c : Block) (l : List Cell) (enough : p.width * p.height ≤ length l) where
  -- all covered cells are True exactly if each covered pixel's is
  pub true_pixels : all_true p c l ≡ true → (px py : ℕ) → px < p.width → py < p.height → covers c px py ≡ true → is_marked (pixel_cell p.width p.height px py l) ≡ true
  unfolding all_true
  true_pixels e = every_pixel c.x c.y p.width p.height l enough is_marked e

  pub pixels_true : ((px py : ℕ) → px < p.width → py < p.height → covers c px py ≡ true → is_marked (pixel_cell p.width p.height px py l) ≡ true) → all_true p c l ≡ true
  unfolding all_true
  pixels_true f = pixels_every c.x c.y p.width p.height l enough is_marked f

module _ (p : Chosen) (c d : Block) (l : List Cell) (enough : p.width * p.height ≤ length l) where
  abbrev marked : List Cell
  marked = painted_under p c Op.Mark l

  still_enough : p.width * p.height ≤ length marked
  still_enough = rw (painted_length p.width (rectangle_of c.x c.y p.width p.height) Op.Mark l) enough

  -- marking the pixels that c covers, at a pixel
  at_pixel : (px py : ℕ) → px < p.width → py < p.height
      → pixel_cell p.width p.height px py marked
      ≡ cond (covers c px py) (done_to Op.Mark (pixel_cell p.width p.height px py l)) (pixel_cell p.width p.height px py l)
  at_pixel px py h k = painted_pixel c.x c.y p.width p.height l enough Op.Mark px py h k

  -- afterwards all cells are True that a narrower block covers
  pub marks_narrower : Narrower c d → all_true p d marked ≡ true
  unfolding done_to is_marked
  marks_narrower n =
      pixels_true p d marked still_enough
      (λ px py h k e. ap is_marked (at_pixel px py h k ∙ cond_yes (covers c px py) _ _ (n px py e)))

  -- and a block that covers none of the pixels sees what it saw
  pub marks_apart : Apart c d → all_true p d marked ≡ all_true p d l
  marks_apart a =
      let same : (px py : ℕ) → px < p.width → py < p.height → covers d px py ≡ true → pixel_cell p.width p.height px py marked ≡ pixel_cell p.width p.height px py l =
      (λ px py h k e. at_pixel px py h k ∙ cond_no (covers c px py) _ _ (a px py e)) in
      both_ways (all_true p d marked) (all_true p d l)
      (λ t. pixels_true p d l enough (λ px py h k e. sym (ap is_marked (same px py h k e)) ∙ true_pixels p d marked still_enough t px py h k e))
      (λ t. pixels_true p d marked still_enough (λ px py h k e. ap is_marked (same px py h k e) ∙ true_pixels p d l enough t px py h k e))

-- WHAT THE CODE SEES IN LENT CELLS

-- is every cell True that the child covers?
abbrev pub true_as_given : Chosen → Block → List ℕ → Bool
true_as_given p c cells = true_at p c.x c.y cells

module _ (p : Chosen) (c : Block) (cells : List ℕ) (enough : p.width * p.height ≤ length cells) where
  ready : picture_ready p.width p.height (rectangle_of c.x c.y p.width p.height) (length cells) ≡ true
  ready = rectangle_ready c.x c.y p.width p.height (length cells) ∙ le-leb (p.width * p.height) (length cells) enough

  -- with cells for all pixels it sees what is there
  pub given_true : true_as_given p c cells ≡ all_true p c (meanings cells)
  unfolding true_at all_true all_true_seen
  given_true = rw ready

  pub given_damaged : damage_seen p c cells ≡ Some (cell_damaged p c (meanings cells))
  unfolding some_seen cell_damaged of_kind
  given_damaged = rw ready
