-- `draw_stretch` meets its contract. Assumes nothing.
use mathlib.Core.Path.{◌≡◌, refl, ap, ◌∙◌}
use Prim.Native.Nat.{ℕ, ◌+◌, ◌-◌, ◌*◌, ◌/◌}
use native.Mathlib.Omega.{arith}
use borrow.Rule.Slice.PartMut.{same_len_mid}
use lib.ListN.{length}
use Rattle.image.proofs.DrawLaws.{drawn_to, draw_start, draw_part, draw_end}
use Rattle.image.proofs.stretches.draw_stretch.Goals as goal

pub loop-part-init : goal.loop-part-init
loop-part-init c = (omega arith, refl, draw_start _ _ _)

pub loop-part-preserved : goal.loop-part-preserved
loop-part-preserved c =
    let l = c.loop-part in
    let a = c.args in
    let y = c.draw_part in
    let e : 16 * l.part + 16 ≡ 16 * (l.part + 1) = omega arith in (
      omega arith,
      same_len_mid (16 * l.part) (16 * l.part + 16 - 16 * l.part) l.out y.new.out y.auto.out ∙ l.invariant.1,
      draw_part a.taken (16 * l.part) (16 * l.part + 16) a.cells.now a.out.now l.out y.new.out (omega arith) (omega arith) l.invariant.2 y.ensures
          ∙ ap (λ (n : ℕ). drawn_to a.taken n a.cells.now a.out.now) e,
    )

pub returns : goal.returns
returns c =
    let l = c.loop-part in
    let a = c.args in
    let n = length a.cells.now in
    let y = c.draw_part-2 in
    let e : 16 * l.part ≡ 16 * (n / 16) = omega arith in
    draw_part a.taken (16 * (n / 16)) n a.cells.now a.out.now l.out y.new.out (omega arith) (omega arith)
    (l.invariant.2 ∙ ap (λ (m : ℕ). drawn_to a.taken m a.cells.now a.out.now) e) y.ensures
    ∙ draw_end a.taken n a.cells.now a.out.now refl c.requires.0
