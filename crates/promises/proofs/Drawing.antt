-- The picture of a world that a setup and finished steps leave: with room it is drawn, and shows what the pixels read. Assumes nothing.
use mathlib.Core.Path.{◌≡◌, ap, ◌∙◌}
use mathlib.Core.List.{List}
use Prim.Native.Nat.{ℕ, ◌*◌, ◌≤◌, ◌<◌}
use native.Mathlib.Omega.{arith}
use lib.ListN.{length, drop, get_or, get_or-append}
use Rattle.image.specs.Cell.{meanings, reading, byte_of}
use Rattle.image.specs.Range.{cell_index}
use Rattle.image.specs.Painting.{pixel_cell}
use Rattle.image.proofs.RangeLaws.{cell_below}
use Rattle.decide.specs.declared.Chosen.{Chosen}
use Rattle.implicit.specs.Record.{pixel_count}
use Rattle.implicit.specs.Step.{World}
use Rattle.implicit.specs.View.{picture_bytes, picture_left, picture_answer}
use Rattle.implicit.specs.Answers.{call_number}
use Rattle.implicit.proofs.ViewLaws.{picture_length, picture_byte}
use Rattle.promises.specs.Chart.{Pixel}
use Rattle.promises.specs.Steps.{reads_in}
use Rattle.promises.proofs.Linked.{Reached}
use Rattle.promises.proofs.NeverDamaged.{picture_drawn}

-- the picture's byte of a pixel
byte_at : (p : Chosen) (w : World) → w.state.chosen ≡ p → pixel_count w.state.chosen ≤ length w.cells → (x y : ℕ) → x < p.width → y < p.height
    → get_or (picture_bytes w.state w.cells) (cell_index p.width p.height x y) 0 ≡ byte_of (reading w.state.taken (pixel_cell p.width p.height x y (meanings w.cells)))
byte_at p w e k x y a b = rw (← e) (picture_byte w.state w.cells x y k (rw e a) (rw e b))

-- and the buffer's
pub drawn : (p : Chosen) (w : World) → Reached p w → (out : List ℕ) → pixel_count p ≤ length out → (q : Pixel p)
    → (call_number (picture_answer w.state w.cells (length out)) ≡ 0)
    × (get_or (picture_left w.state w.cells out) (cell_index p.width p.height q.x q.y) 0 ≡ byte_of (reads_in p w q))
unfolding picture_left reads_in
drawn p w h out room q =
    let i = cell_index p.width p.height q.x q.y in
    let k : i < p.width * p.height = cell_below p.width p.height q.x q.y q.x_in q.y_in in
    let m : pixel_count w.state.chosen ≡ p.width * p.height = ap pixel_count h.chosen in
    let n = picture_length w.state w.cells h.keeps.enough in (
      ap call_number (picture_drawn w h.blocks h.keeps (length out) (rw h.chosen room)),
      get_or-append (picture_bytes w.state w.cells) (drop (pixel_count w.state.chosen) out) 0 i (omega (arith, k, m, n))
          ∙ byte_at p w h.chosen h.keeps.enough q.x q.y q.x_in q.y_in,
    )
