-- The reason by the notes is the reason by the history. Assumes nothing.
use mathlib.Core.Path.{◌≡◌, refl, sym, ap, subst, ◌∙◌}
use mathlib.Core.Bool.{Bool, true, false, ◌||◌}
use mathlib.Core.List.{List}
use Prim.Native.Nat.{ℕ, ◌+◌, ◌*◌, ◌-◌, ◌^◌, ◌<◌}
use native.Mathlib.Omega.{arith}
use native.Mathlib.Nat.{mul-le-mul_right}
use lib.Dec.{leb}
use lib.ListN.{length, take, drop, get_or}
use lib.Seq.{drop-cons}
use borrow.Author.Tests.{leb-true}
use Rattle.image.specs.declared.CellKind.TheVariants as K
use Rattle.image.specs.declared.Reading.{Reading}
use Rattle.image.specs.declared.Reading.TheVariants as Rd
use Rattle.image.specs.Cell.{Cell, meaning_of, meanings, is_given_up, of_kind, reading}
use Rattle.image.specs.Painting.{some_of}
use Rattle.image.proofs.CellLaws.{code_meaning}
use Rattle.image.proofs.RangeLaws.{cell_below}
use Rattle.queue.specs.declared.Block.{Block}
use Rattle.decide.specs.declared.Chosen.{Chosen}
use Rattle.implicit.specs.declared.state.State.{State}
use Rattle.implicit.specs.Record.{pixel_count}
use Rattle.implicit.specs.Listing.{front_of}
use Rattle.implicit.specs.Step.{World}
use Rattle.explain.specs.declared.noting.Notes.{Notes}
use Rattle.explain.specs.declared.reason.Moment.{Moment}
use Rattle.explain.specs.declared.reason.Reason.{Reason}
use Rattle.explain.specs.declared.reason.Reason.TheVariants as B
use Rattle.explain.specs.History.{PastStep}
use Rattle.explain.specs.Reasons.{block_behind, reason_by, reason_of, waiting_for}
use Rattle.explain.specs.ExplainComputed.{uncertain_reason, reason_noted_by, reason_noted}
use Rattle.explain.proofs.NotesMean.{notes_of}

module _ (s : State) (ring : List ℕ) where
  -- a pixel that is Uncertain, given up or not
  pub open_up : (number : ℕ) (up : Bool) (at : Moment) → up ≡ true → B.GivenUp at ≡ uncertain_reason s ring number up at
  open_up number up at e = rw e

  pub open_waits : (number : ℕ) (up : Bool) (at : Moment) → up ≡ false → (before : ℕ) → before ≡ number - s.taken → (b : Block)
      → b ≡ block_behind before ring s.chosen.set (front_of s ring) → B.Waiting number before b ≡ uncertain_reason s ring number up at
  unfolding waiting_for
  open_waits number up at e before f b g = rw (e, g, f)

  -- a pixel that reads so
  pub reads_as : (k : Notes) (c : Cell) (v : Reading) → v ≡ reading s.taken c → (u : Reading) → v ≡ u
      → (r : Reason) → r ≡ reason_noted_by s ring k c u → r ≡ reason_noted s ring k c
  unfolding reason_noted
  reads_as k c v e u f r g = g ∙ ap (reason_noted_by s ring k c) (sym f ∙ e)

  -- one cell, looked at for what is given up
  pub given_up_by : (cells : List ℕ) (at : ℕ) → at < length cells → (up : Bool)
      → up ≡ some_of (of_kind K.GivenUp) (meanings (take (at + 1 - at) (drop at cells))) → up ≡ is_given_up (meaning_of (get_or cells at 0))
  unfolding some_of of_kind
  given_up_by cells at h up e =
      let one : at + 1 - at ≡ 1 = omega arith in
      e ∙ rw (one, drop-cons cells at 0 h) (either (is_given_up (meaning_of (get_or cells at 0))))
    where
      either : (t : Bool) → t || false ≡ t
      either true = refl
      either false = refl

  pub open_as : (k : Notes) (n : ℕ) (up : Bool) → up ≡ is_given_up (meaning_of n) → (r : Reason) → r ≡ uncertain_reason s ring n up k.up
      → r ≡ reason_noted_by s ring k (meaning_of n) Rd.Uncertain
  open_as k n up e r f = rw (code_meaning n, ← e) f

-- the notes of a history give its reason
pub noted_reason : (p : Chosen) (here : Block → Bool) (w : World) (h : List PastStep) (c : Cell) → w.state.chosen ≡ p
    → reason_noted w.state w.ring (notes_of p here h) c ≡ reason_of here w h c
unfolding reason_noted reason_of
noted_reason p here w h c e =
    subst (λ (q : Chosen). reason_noted_by w.state w.ring (notes_of q here h) c (reading w.state.taken c) ≡ reason_of here w h c) e
    (go (reading w.state.taken c))
  where
    go : (v : Reading)
        → reason_noted_by w.state w.ring (notes_of w.state.chosen here h) c v ≡ reason_by w.state.chosen here w h c v
    go Rd.True = refl
    go Rd.False = refl
    go Rd.Uncertain = refl

-- the pixel's cell is one of the picture's
pub cell_there : (p : Chosen) (column row n : ℕ) → column < p.width → row < p.height → leb (pixel_count p) n ≡ true
    → row * p.width + column < n
cell_there p column row n h k e =
    let back : p.height - 1 - (p.height - 1 - row) ≡ row = omega arith in
    let b : row * p.width + column < p.width * p.height =
    rw back at (cell_below p.width p.height column (p.height - 1 - row) h (omega arith)) in
    omega (arith, b, leb-true (pixel_count p) n e)

-- its index is a number of 64 bits
pub index_fits : (p : Chosen) (column row : ℕ) → row < 2 ^ 32 → p.width < 2 ^ 32 → column < 2 ^ 32 → row * p.width + column < 2 ^ 64
index_fits p column row h k l = omega (arith, mul-le-mul_right {m = row} {n = 2 ^ 32 - 1} p.width (omega arith))
