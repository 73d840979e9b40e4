-- The children of a place lie one level lower and cover only what it covers: a square's quarters, a strip's halves. Assumes nothing.
use mathlib.Core.Path.{◌≡◌, refl, ◌∙◌}
use mathlib.Core.Logic.{inl, inr}
use mathlib.Core.Bool.{Bool, true, false, ◌&&◌}
use mathlib.Core.List.{List}
use Prim.Native.Nat.{ℕ, zero, suc, ◌+◌, ◌-◌, ◌^◌, ◌<◌}
use native.Mathlib.Nat.{zero-div}
use native.Mathlib.Decide.{dec_le}
use native.Mathlib.Omega.{arith}
use lib.Dec.{T}
use lib.Pow.{pow_pos}
use Rattle.base.proofs.Test.{both_of, of_both}
use Rattle.base.proofs.AxisLaws.{begins_over, begins_under, reaches_covers, half_covers}
use Rattle.base.specs.Lists.{Every}
use Rattle.theory.specs.Levels.{BlockPlace, place_at}
use Rattle.theory.specs.Shapes.{PixelIn, begins_in, covers_along, covers_pixel, HalfOf, place_if, quarters_at, quarters, halves_at, halves_in_x}

listed_every : (P : BlockPlace → Type 0) (k : Bool) (c : BlockPlace) (r : List BlockPlace) → P c → Every P r → Every P (place_if k c r)
unfolding place_if
listed_every P true c r h a = (h, a)
listed_every P false c r h a = a

-- what holds of all four holds of those that are listed
quarters_every : (P : BlockPlace → Type 0) (px w h x y j : ℕ) → ((u v : ℕ) → HalfOf x u → HalfOf y v → P (place_at u v j))
    → Every P (quarters_at px w h x y (suc j))
unfolding quarters_at HalfOf
quarters_every P px w h x y j f =
    listed_every P _ _ _ (f (x + x) (y + y) (inl refl) (inl refl))
    (listed_every P _ _ _ (f (suc (x + x)) (y + y) (inr refl) (inl refl))
    (listed_every P _ _ _ (f (x + x) (suc (y + y)) (inl refl) (inr refl))
    (listed_every P _ _ _ (f (suc (x + x)) (suc (y + y)) (inr refl) (inr refl)) tt)))

halves_every : (P : BlockPlace → Type 0) (px w x j : ℕ) → ((u : ℕ) → HalfOf x u → P (place_at u 0 j)) → Every P (halves_at px w x (suc j))
unfolding halves_at HalfOf
halves_every P px w x j f = listed_every P _ _ _ (f (x + x) (inl refl)) (listed_every P _ _ _ (f (suc (x + x)) (inr refl)) tt)

pub quarters_lower : (px w h : ℕ) (b : BlockPlace) → Every (λ c. suc c.level ≡ b.level) (quarters px w h b)
unfolding quarters
quarters_lower px w h b = go b.level
  where
    go : (j : ℕ) → Every (λ c. suc c.level ≡ j) (quarters_at px w h b.x b.y j)
    go zero = unfold quarters_at in tt
    go (suc j) = quarters_every (λ c. suc c.level ≡ suc j) px w h b.x b.y j (λ u v hu hv. refl)

pub halves_lower : (px w : ℕ) (b : BlockPlace) → Every (λ c. suc c.level ≡ b.level) (halves_in_x px w b)
unfolding halves_in_x
halves_lower px w b = go b.level
  where
    go : (j : ℕ) → Every (λ c. suc c.level ≡ j) (halves_at px w b.x j)
    go zero = unfold halves_at in tt
    go (suc j) = halves_every (λ c. suc c.level ≡ suc j) px w b.x j (λ u hu. refl)

pub quarters_cover_less : (w h px : ℕ) (b : BlockPlace)
    → Every (λ c. (p : PixelIn w h) → T (covers_pixel px c p) → T (covers_pixel px b p)) (quarters px w h b)
unfolding quarters covers_pixel
quarters_cover_less w h px b = go b.level
  where
    go : (j : ℕ)
        → Every (λ c. (p : PixelIn w h) → T (covers_pixel px c p) → T (covers_along px j b.x p.x && covers_along px j b.y p.y))
        (quarters_at px w h b.x b.y j)
    go zero = unfold quarters_at in tt
    go (suc j) = quarters_every (λ c. (p : PixelIn w h) → T (covers_pixel px c p) → T
        (covers_along px (suc j) b.x p.x && covers_along px (suc j) b.y p.y)) px w h b.x b.y j
        (λ u v hu hv p t. (let (a, c) = both_of (covers_along px j u p.x) (covers_along px j v p.y) t in
        of_both (covers_along px (suc j) b.x p.x) (covers_along px (suc j) b.y p.y) (half_covers px j b.x u p.x hu a)
        (half_covers px j b.y v p.y hv c)))

-- index 0 covers pixel 0 on every level
pub zero_covers : (px j p : ℕ) → p < 1 → T (covers_along px j 0 p)
zero_covers px j p h = elim (dec_le px j) [
  | yes k ↦ (let z = begins_over px j 0 k in let q = pow_pos (j - px) in reaches_covers px j 0 p record { low = omega arith; high = omega arith })
  | no k ↦ (let z : begins_in px j 0 ≡ 0 = begins_under px j 0 (omega arith) ∙ zero-div (2 ^ (px - j)) in let q = pow_pos (j - px) in
      reaches_covers px j 0 p record { low = omega arith; high = omega arith })
]

pub halves_cover_less : (w px : ℕ) (b : BlockPlace) → b.y ≡ 0
    → Every (λ c. (p : PixelIn w 1) → T (covers_pixel px c p) → T (covers_pixel px b p)) (halves_in_x px w b)
unfolding halves_in_x covers_pixel
halves_cover_less w px b e = go b.level
  where
    go : (j : ℕ)
        → Every (λ c. (p : PixelIn w 1) → T (covers_pixel px c p) → T (covers_along px j b.x p.x && covers_along px j b.y p.y))
        (halves_at px w b.x j)
    go zero = unfold halves_at in tt
    go (suc j) = halves_every (λ c. (p : PixelIn w 1) → T (covers_pixel px c p) → T
        (covers_along px (suc j) b.x p.x && covers_along px (suc j) b.y p.y)) px w b.x j
        (λ u hu p t. of_both (covers_along px (suc j) b.x p.x) (covers_along px (suc j) b.y p.y)
        (half_covers px j b.x u p.x hu (both_of (covers_along px j u p.x) (covers_along px j 0 p.y) t).0)
        (rw e (zero_covers px (suc j) p.y p.y_in)))
