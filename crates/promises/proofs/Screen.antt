-- White on the screen: what the picture's byte 0 says, after steps and after a run; and of charts laid over each other. And how much a run takes.
-- Assumes nothing.
use mathlib.Core.Path.{◌≡◌, refl, sym, ap, ◌∙◌}
use mathlib.Core.Logic.{◌⊎◌, ⊎_elim}
use mathlib.Core.List.{List}
use Prim.Native.Nat.{ℕ, ◌*◌, ◌≤◌}
use native.Mathlib.Omega.{arith}
use lib.ListN.{length, get_or}
use Rattle.std.specs.Prelude.{Result, Ok}
use Rattle.image.specs.declared.Reading.{Reading}
use Rattle.image.specs.declared.Reading.TheVariants as Reads
use Rattle.image.specs.Cell.{byte_of}
use Rattle.image.specs.Range.{cell_index}
use Rattle.queue.specs.declared.Block.{Block}
use Rattle.theory.specs.Colours.{Question, HasSolution, FalseRight}
use Rattle.decide.specs.declared.Chosen.{Chosen}
use Rattle.implicit.specs.Record.{pixel_count}
use Rattle.implicit.specs.Step.{World}
use Rattle.implicit.specs.Run.{RunEnd, has_run, run_of}
use Rattle.implicit.specs.View.{picture_answer, picture_left, if_done}
use Rattle.implicit.proofs.RunLaws as RunLaws
use Rattle.promises.specs.Chart.{Pixel, covers_in}
use Rattle.promises.specs.Steps.{Asked, BegunAs, Steps, reads_in}
use Rattle.promises.specs.Judgements.{EveryAnswer}
use Rattle.promises.specs.Mixes.{Measures, Mix, question_of}
use Rattle.promises.proofs.Linked.{Reached, begun_reached, steps_reached}
use Rattle.promises.proofs.Drawing.{drawn}
use Rattle.promises.proofs.NeverDamaged.{picture_drawn}
use Rattle.promises.proofs.RunSteps.{has_run_lem}
use Rattle.promises.proofs.ColoursHold.{white_none}
use Rattle.refusal.specs.declared.Refusal.{Refusal}

-- byte 0 is False
zero_false : (r : Reading) → byte_of r ≡ 0 → r ≡ Reads.False
zero_false Reads.False e = refl
zero_false Reads.Uncertain e = absurd (omega (arith, e))
zero_false Reads.True e = absurd (omega (arith, e))

-- a call of picture, with room for every pixel: by what it ensures, the buffer holds the picture
pub screen_drawn : (p : Chosen) (w : World) → Reached p w → (out out' : List ℕ) (r : Result (Unit {0}) Refusal) → pixel_count p ≤ length out
    → r ≡ picture_answer w.state w.cells (length out) → out' ≡ if_done r (picture_left w.state w.cells out) out → (q : Pixel p)
    → (r ≡ Ok tt) × (get_or out' (cell_index p.width p.height q.x q.y) 0 ≡ byte_of (reads_in p w q))
screen_drawn p w h out out' r room answer screen q =
    let done : r ≡ Ok tt = answer ∙ picture_drawn w h.blocks h.keeps (length out) (rw h.chosen room) in
    let left : out' ≡ picture_left w.state w.cells out = screen ∙ ap (λ (d : Result (Unit {0}) Refusal). if_done d (picture_left w.state w.cells out) out) done in
    (done, ap (λ (l : List ℕ). get_or l (cell_index p.width p.height q.x q.y) 0) left ∙ (drawn p w h out room q).1)

module _ (M : Measures) (Solves : Mix M → Type 0) (a : Asked) {w₀ : World} (z : BegunAs a w₀) where
  abbrev p : Chosen
  p = a.chosen

  abbrev Q : Question Block (Pixel p)
  Q = question_of M p a.ranges Solves

  abbrev Right : {n : ℕ} {w : World} → Steps n w₀ w → Type 0
  Right r = EveryAnswer p (FalseRight (covers_in p) Q) r

  pub white_shown : {n : ℕ} {w : World} (r : Steps n w₀ w) → Right r → (out out' : List ℕ) (d : Result (Unit {0}) Refusal) → pixel_count p ≤ length out
      → d ≡ picture_answer w.state w.cells (length out) → out' ≡ if_done d (picture_left w.state w.cells out) out → (q : Pixel p)
      → get_or out' (cell_index p.width p.height q.x q.y) 0 ≡ 0 → ¬ HasSolution Q q
  white_shown {n} {w} r right out out' d room answer screen q e =
      let k = screen_drawn p w (steps_reached p (begun_reached a w₀ z) r) out out' d room answer screen q in
      white_none M Solves a z n w r right q (zero_false (reads_in p w q) (sym k.1 ∙ e))

-- laid over each other: a mix that solves both relations solves the one whose chart is white
module _ (M : Measures) (Solves Other : Mix M → Type 0) (a : Asked) {w₀ : World} (z : BegunAs a w₀) (b : Asked) {v₀ : World} (y : BegunAs b v₀) where
  abbrev Qa : Question Block (Pixel a.chosen)
  Qa = question_of M a.chosen a.ranges Solves

  abbrev Qb : Question Block (Pixel b.chosen)
  Qb = question_of M b.chosen b.ranges Other

  pub white_both : {n : ℕ} {w : World} (r : Steps n w₀ w) → EveryAnswer a.chosen (FalseRight (covers_in a.chosen) Qa) r
      → {m : ℕ} {v : World} (s : Steps m v₀ v) → EveryAnswer b.chosen (FalseRight (covers_in b.chosen) Qb) s
      → (q : Pixel a.chosen) (u : Pixel b.chosen) → u.x ≡ q.x → u.y ≡ q.y
      → (reads_in a.chosen w q ≡ Reads.False) ⊎ (reads_in b.chosen v u ≡ Reads.False)
      → ¬ ((x : Mix M) × Qa.Given x × Qb.Given x × Qa.At x q × Solves x × Other x)
  unfolding HasSolution
  white_both {n} {w} r right {m} {v} s right' q u ex ey =
      ⊎_elim (λ e (x, ga, gb, at, sol, oth). white_none M Solves a z n w r right q e (x, ga, at, sol))
      (λ e (x, ga, gb, at, sol, oth). white_none M Other b y m v s right' u e (x, gb, rw (ex, ey) at, oth))

-- A RUN'S SUMS
pub run_sums : (budget : ℕ) (w : World) (tape : List ℕ) (e : RunEnd) → run_of budget w tape ≡ has_run e
    → (e.steps ≤ budget) × (e.evaluations ≤ 24 * e.steps) × (e.tape ≤ 4 * e.steps) × (e.tape ≤ length tape)
run_sums budget w tape e h =
    let is = has_run_lem budget w tape e h in
    let f = RunLaws.run_few budget w tape in
    rw is (f.steps, f.evaluations, f.tape_few, f.tape_used)
