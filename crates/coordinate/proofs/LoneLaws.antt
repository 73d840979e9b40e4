-- What is answered of a lone coordinate, by the tests that the code makes. Assumes nothing.
use mathlib.Core.Path.{◌≡◌, sym, ap, ◌∙◌}
use mathlib.Core.Bool.{true, ◌&&◌}
use Prim.Native.Nat.{ℕ, suc, ◌+◌, ◌-◌, ◌*◌, ◌/◌, ◌%◌, ◌^◌, ◌≤◌, ◌<◌}
use native.Mathlib.Omega.{arith}
use lib.Dec.{ltb}
use native.Mathlib.Nat.{one-mul}
use lib.Pow.{pow_mono, shl_exact}
use borrow.Author.Tests.{ltb-true}
use Rattle.base.proofs.Test.{and_right, and_both}
use Rattle.std.specs.Prelude.{Ok}
use Rattle.coordinate.specs.declared.Coordinate.{Coordinate}
use Rattle.coordinate.specs.Axis.{ordinary_floor, in_range, pixel, above_floor, inside}
use Rattle.coordinate.specs.Lone.{legal, low_half, high_half, halves_asked}
use Rattle.coordinate.proofs.PixelLaws.{pixel_big, pixel_small, places_big, inside_pixel, halves_in_range, low_in_range, ranged}

module _ (floor : ℕ) (c : Coordinate) where
  -- halves that are answered are in the ranges
  pub halves_legal : above_floor floor c.rank && legal floor (high_half c) ≡ true → (legal floor (low_half c) ≡ true) × (legal floor (high_half c) ≡ true)
  halves_legal f =
      let h = and_right (above_floor floor c.rank) (legal floor (high_half c)) f in
      (low_in_range floor (c.rank - 1) c.index h, h)

  -- the halves of what begins inside a legal side are answered
  pub halves_of_inside : (side : ℕ) → side ≤ 32768 → legal floor c ≡ true → above_floor floor c.rank ≡ true → inside side c.rank c.index ≡ true
      → halves_asked floor c ≡ Ok (record { low = low_half c; high = high_half c })
  unfolding halves_asked
  halves_of_inside side s e f t =
      let l = ltb-true floor c.rank f in
      let r : suc (c.rank - 1) ≡ c.rank = omega arith in
      let h = halves_in_range side floor (c.rank - 1) c.index s (omega arith) (rw r (ranged floor c.rank c.index e).high) (rw r t) in
      rw (e, and_both (above_floor floor c.rank) (legal floor (high_half c)) f h.1)

-- the pixel, as a word is shifted
pub pixel_right : (rank i : ℕ) → rank < 48 → i / 2 ^ (48 - rank) ≡ pixel rank i
pixel_right rank i h = sym (pixel_small rank i (omega arith))

pub pixel_left : (rank i : ℕ) → 48 ≤ rank → in_range ordinary_floor rank i ≡ true → i * 2 ^ (rank - 48) % 2 ^ 64 ≡ pixel rank i
pixel_left rank i h t =
    let r = ranged ordinary_floor rank i t in
    shl_exact 47 (rank - 48) 64 r.bound (omega (arith, r.high)) ∙ sym (pixel_big rank i h)

-- 2^k, as a word is shifted
pub width_word : (rank : ℕ) → rank < 64 → 1 * 2 ^ (rank - 48) % 2 ^ 64 ≡ 2 ^ (rank - 48)
width_word rank h = shl_exact 1 (rank - 48) 64 (omega arith) (omega arith) ∙ one-mul (2 ^ (rank - 48))

pub width_small : (rank : ℕ) → rank < 64 → 2 ^ (rank - 48) ≤ 32768
width_small rank h = pow_mono {i = rank - 48} {j = 15} (omega arith)

-- whether it begins inside, as words are shifted and compared
pub inside_right : (side rank i : ℕ) → rank < 48 → ltb (i / 2 ^ (48 - rank)) side ≡ inside side rank i
inside_right side rank i h = ap (λ (n : ℕ). ltb n side) (sym (pixel_small rank i (omega arith))) ∙ sym (inside_pixel side rank i)

pub inside_left : (side rank i : ℕ) → 48 ≤ rank → rank < 64 → ltb i ((side + (1 * 2 ^ (rank - 48) % 2 ^ 64 - 1)) / 2 ^ (rank - 48)) ≡ inside side rank i
unfolding inside
inside_left side rank i h l =
    ap (λ (n : ℕ). ltb i ((side + (n - 1)) / 2 ^ (rank - 48))) (width_word rank l) ∙ ap (ltb i) (sym (places_big side rank h))

-- what a function that shifts an index cites, in one name
pub ruleset shifts = (ranged, pixel_right, pixel_left, width_word, width_small, inside_right, inside_left)
