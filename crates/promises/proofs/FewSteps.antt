-- How many steps a chart can have: at most 2^32, for each takes a block and no more blocks are ever queued. So the bounds of deep levels are never
-- reached. Assumes nothing.
use mathlib.Core.Path.{◌≡◌}
use Prim.Native.Nat.{ℕ, zero, suc, ◌+◌, ◌-◌, ◌*◌, ◌^◌, ◌≤◌, ◌<◌}
use native.Mathlib.Nat.{mul-le-mul}
use native.Mathlib.Decide.{dec_lt}
use native.Mathlib.Omega.{arith}
use lib.ListN.{length}
use Rattle.coordinate.specs.Axis.{places}
use Rattle.theory.specs.Levels.{sum_to}
use Rattle.implicit.specs.Setup.{start_level}
use Rattle.implicit.specs.Step.{World}
use Rattle.implicit.proofs.RecordLaws.{sound_record_lem}
use Rattle.promises.specs.Steps.{Asked, BegunAs, Steps}
use Rattle.promises.proofs.Linked.{begun_passed, begun_reached, steps_reached}
use Rattle.promises.proofs.Demand3.{steps_taken}

-- a sum is no less than two neighbouring terms of it
two_terms : (m i : ℕ) (f : ℕ → ℕ) → suc i < m → f i + f (suc i) ≤ sum_to m f
unfolding sum_to
two_terms zero i f h = absurd (omega arith)
two_terms (suc zero) i f h = absurd (omega arith)
two_terms (suc (suc m)) i f h = elim (dec_lt (suc i) (suc m)) [
  | yes k ↦ (let ih = two_terms (suc m) i f k in omega (arith, ih))
  | no k ↦ (let e : i ≡ m = omega arith in rw e (omega arith))
]

-- the places of a side on the two levels 16 and 15 below a pixel's
many : (w : ℕ) → zero < w → (65536 ≤ places w 32) × (32768 ≤ places w 33)
unfolding places
many w h = (omega (arith, h), omega (arith, h))

module _ (a : Asked) {w₀ : World} (z : BegunAs a w₀) {n : ℕ} {w : World} (r : Steps n w₀ w) where
  pub steps_few : n ≤ 2 ^ 32
  steps_few =
      let k = sound_record_lem (length w.ring) w.state (steps_reached a.chosen (begun_reached a w₀ z) r).keeps.record_is_sound in
      omega (arith, k.order, k.numbers, steps_taken a z r)

  pub too_deep : (L m : ℕ) → L ≤ 31 → 48 + start_level a.chosen ≡ L + m
      → ¬ (sum_to m (λ i. places a.chosen.width (L + suc i) * places a.chosen.height (L + suc i)) ≤ n)
  too_deep L m low e h =
      let g = begun_passed a w₀ z in
      let f : ℕ → ℕ = λ i. places a.chosen.width (L + suc i) * places a.chosen.height (L + suc i) in
      let here : L + suc (31 - L) ≡ 32 = omega arith in
      let next : L + suc (suc (31 - L)) ≡ 33 = omega arith in
      let two = two_terms m (31 - L) f (omega arith) in
      let x = many a.chosen.width g.width_some in
      let y = many a.chosen.height g.height_some in
      let first : 4294967296 ≤ f (31 - L) = rw here (mul-le-mul x.0 y.0) in
      let second : 1073741824 ≤ f (suc (31 - L)) = rw next (mul-le-mul x.1 y.1) in
      omega (arith, steps_few, h, two, first, second)
