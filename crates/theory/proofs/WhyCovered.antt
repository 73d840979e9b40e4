-- A pixel that a place covers is covered by one of the place's listed children, for squares and for strips: what their covering laws say of a ruler
-- on which everything lies everywhere. Assumes nothing.
use mathlib.Core.Logic.{inl}
use Prim.Native.Nat.{ℕ, zero, ◌<◌}
use lib.Dec.{T}
use Rattle.base.specs.Lists.{Some}
use Rattle.theory.specs.Levels.{BlockPlace}
use Rattle.theory.specs.Shapes.{PixelIn, covers_pixel, quarters, halves_in_x}
use Rattle.theory.specs.Positions.{Ruler, PlaceHolds, StripHolds}
use Rattle.base.proofs.ListLaws.{some_mono}
use Rattle.theory.proofs.HalvesHold.{quarters_hold, halves_hold}

-- one position, that lies everywhere
abbrev Anywhere : ℕ → ℕ → Unit {0} → Type 0
Anywhere i j x = Unit {0}

anywhere : (px : ℕ) → Ruler px Anywhere
anywhere px = record { halve = λ i j x l h. inl tt; whole = λ i c j x l h k. tt }

pub quarters_covered : (w h px : ℕ) (p : PixelIn w h) (b : BlockPlace) → zero < b.level → T (covers_pixel px b p)
    → Some (λ c. T (covers_pixel px c p)) (quarters px w h b)
unfolding PlaceHolds
quarters_covered w h px p b l k =
    some_mono (PlaceHolds px Anywhere Anywhere tt tt p) (λ c. T (covers_pixel px c p)) (quarters px w h b) (λ c o. o.1)
    (quarters_hold w h px Anywhere (anywhere px) Anywhere (anywhere px) p tt tt b l tt tt ((tt, tt), k))

pub halves_covered : (w px : ℕ) (p : PixelIn w 1) (b : BlockPlace) → zero < b.level → T (covers_pixel px b p)
    → Some (λ c. T (covers_pixel px c p)) (halves_in_x px w b)
unfolding StripHolds
halves_covered w px p b l k =
    some_mono (StripHolds px Anywhere tt p) (λ c. T (covers_pixel px c p)) (halves_in_x px w b) (λ c o. o.1)
    (halves_hold w px Anywhere (anywhere px) p tt b l tt (tt, k))
