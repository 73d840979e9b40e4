-- The share of what a setup and finished steps leave: the counts are answered, and it is 1000 exactly if no pixel reads Uncertain. Assumes nothing.
use mathlib.Core.Path.{◌≡◌, refl, sym, ap, ◌∙◌}
use mathlib.Core.Logic.{◌↔◌}
use mathlib.Core.Bool.{Bool, true, not, false≢true}
use mathlib.Core.List.{List}
use Prim.Native.Nat.{ℕ, ◌+◌, ◌≤◌}
use lib.ListN.{length}
use lib.ListN as L
use Rattle.std.specs.Prelude.{Ok}
use Rattle.image.specs.declared.Reading.{Reading}
use Rattle.image.specs.declared.Reading.TheVariants as R
use Rattle.image.specs.Cell.{Cell, meaning_of, meanings, reading, count_of, is_uncertain, tallied}
use Rattle.image.proofs.CountLaws.{count_none}
use Rattle.image.proofs.BlockLaws.{whole_every}
use Rattle.decide.specs.declared.Chosen.{Chosen}
use Rattle.implicit.specs.declared.state.State.{State}
use Rattle.implicit.specs.declared.state.Tally.{Tally}
use Rattle.implicit.specs.Record.{pixel_count, pixel_cells}
use Rattle.implicit.specs.Step.{World}
use Rattle.implicit.specs.View.{counts_from, counts_of, counts_answer}
use Rattle.implicit.proofs.ViewLaws.{counted_viewable, counts_settled, share_certain}
use Rattle.promises.specs.Chart.{Pixel}
use Rattle.promises.specs.Steps.{Asked, BegunAs, reads_in}
use Rattle.promises.specs.Sentences.{ShareWhole}
use Rattle.promises.proofs.NeverDamaged.{own_ring, counts_answered}
use Rattle.promises.proofs.Linked.{begun_reached, steps_reached}

-- of any record and cells that the counts are answered for
pub settled_all : (s : State) (cells : List ℕ) (t : Tally) → counts_answer s cells ≡ Ok t
    → (t.share ≡ 1000) ↔ (t.trues + t.falses ≡ pixel_count s.chosen)
settled_all s cells t e = let (v, f) = counted_viewable s cells t e in rw f (counts_settled s cells v.record_sound v.enough)

not_uncertain : (r : Reading) → (not (is_uncertain r) ≡ true) ↔ (¬ (r ≡ R.Uncertain))
unfolding is_uncertain
not_uncertain R.False = ((λ e f. absurd (false≢true (ap is_uncertain f))), (λ k. refl))
not_uncertain R.Uncertain = ((λ e. absurd (false≢true e)), (λ k. absurd (k refl)))
not_uncertain R.True = ((λ e f. absurd (false≢true (ap is_uncertain f))), (λ k. refl))

-- none is counted uncertain exactly if no pixel reads so
none_grey : (p : Chosen) (w : World) → w.state.chosen ≡ p → pixel_count p ≤ length w.cells
    → ((counts_of w.state w.cells).uncertain ≡ 0) ↔ ((q : Pixel p) → ¬ (reads_in p w q ≡ R.Uncertain))
unfolding counts_from tallied reads_in
none_grey p w e enough =
    let grey : Cell → Bool = λ c. is_uncertain (reading w.state.taken c) in
    let greys : Chosen → ℕ = λ c. count_of grey (pixel_cells c w.cells) in
    let same : greys w.state.chosen ≡ greys p = ap greys e in
    let none = count_none grey (pixel_cells p w.cells) in
    let each = whole_every p.width p.height (meanings w.cells) (rw (L.length-map w.cells meaning_of) enough) (λ c. not (grey c)) in (
      (λ z q. (not_uncertain _).0 (each.0 (none.0 (sym same ∙ z)) q.x q.y q.x_in q.y_in)),
      (λ f. same ∙ none.1 (each.1 (λ x y i j. (not_uncertain _).1 (f (record { x = x; y = y; x_in = i; y_in = j }))))),
    )

module _ (a : Asked) {w₀ : World} (z : BegunAs a w₀) where
  pub whole_share : ShareWhole a w₀
  whole_share n w r =
      let h = steps_reached a.chosen (begun_reached a w₀ z) r in
      let k = h.keeps in
      let certain = share_certain w.state w.cells (own_ring w h.blocks k) k.enough in
      let grey = none_grey a.chosen w h.chosen (rw (← h.chosen) k.enough) in (
        counts_of w.state w.cells,
        counts_answered w h.blocks k,
        ((λ e. grey.0 (certain.0 e)), (λ f. certain.1 (grey.1 f))),
      )
