-- Laws of the search for a direction. Assumes nothing.
use Rattle.std.specs.Prelude.{Option, Some, None}
use mathlib.Core.Path.{◌≡◌, refl, sym, ap, ◌∙◌}
use mathlib.Core.Bool.{Bool, true, false, cond, ◌&&◌}
use mathlib.Core.List.{List, [], ◌∷◌}
use Prim.Native.Nat.{ℕ, suc, ◌+◌, ◌-◌, ◌/◌, ◌%◌, ◌≤◌, ◌<◌}
use native.Mathlib.Omega.{arith}
use native.Mathlib.Nat.{add-zero}
use lib.ListN.{length}
use borrow.Author.Tests.{ne_eqb}
use Rattle.coordinate.specs.Axis.{ordinary_floor, above_floor}
use Rattle.queue.specs.declared.Block.{Block}
use Rattle.queue.specs.declared.directions.Direction.{Direction}
use Rattle.queue.specs.declared.directions.Direction.TheVariants as D
use Rattle.queue.specs.Directions.{in_use, used_of, directions, direction_at}
use Rattle.decide.specs.declared.Chosen.{Chosen}
use Rattle.decide.specs.Turn.{subdivisible_along, searched_from, searched}

-- THE SEARCH

-- what is found after the first i directions
abbrev pub found_after : Chosen → Block → ℕ → ℕ → ℕ → Option ℕ
found_after p c start n i = searched_from (directions p.set) c (n - i) (start + i)

pub found_from : (p : Chosen) (c : Block) (start n : ℕ)
    → n ≡ length (directions p.set) → found_after p c start n 0 ≡ searched p c start
found_from p c start n e = let f : n - 0 ≡ n = omega arith in rw (f, add-zero start, e)

after_all : (p : Chosen) (c : Block) (start n i : ℕ) → n ≤ i → None ≡ found_after p c start n i
unfolding searched_from
after_all p c start n i h = let f : n - i ≡ 0 = omega arith in rw f

pub search_end : (p : Chosen) (c : Block) (start n i : ℕ)
    → n ≤ i → found_after p c start n i ≡ searched p c start → None ≡ searched p c start
search_end p c start n i h so_far = after_all p c start n i h ∙ so_far

-- the direction after the first i, which stands at a place
module _ (p : Chosen) (c : Block) (start n i at : ℕ)
    (same : n ≡ length (directions p.set)) (here : at ≡ (start + i) % n) (h : i < n)
    (so_far : found_after p c start n i ≡ searched p c start) where
  abbrev cut_here : Bool
  cut_here = subdivisible_along c (direction_at (directions p.set) at)

  pub search_found : cut_here ≡ true → Some at ≡ searched p c start
  unfolding searched_from
  search_found e =
      let f : n - i ≡ suc (n - (i + 1)) = omega arith in
      let e' : subdivisible_along c (direction_at (directions p.set) ((start + i) % n)) ≡ true = rw (← here) e in
      let g : Some ((start + i) % n) ≡ found_after p c start n i = rw (f, ← same, e') in
      ap Some here ∙ g ∙ so_far

  pub search_on : cut_here ≡ false → found_after p c start n (i + 1) ≡ searched p c start
  unfolding searched_from
  search_on e =
      let f : n - i ≡ suc (n - (i + 1)) = omega arith in
      let g : start + (i + 1) ≡ start + i + 1 = omega arith in
      let e' : subdivisible_along c (direction_at (directions p.set) ((start + i) % n)) ≡ false = rw (← here) e in
      let k : found_after p c start n (i + 1) ≡ found_after p c start n i = rw (f, g, ← same, e') in
      k ∙ so_far

-- WHERE NO PARAMETER IS IN USE

no_parameters : (set : ℕ) → set % 16 ≡ 0 → directions set ≡ cond (in_use set D.XY) (D.XY ∷ []) []
unfolding directions used_of
no_parameters set e =
    let m = ne_eqb (set / 8 % 2) 1 (λ f. omega arith) in
    let n = ne_eqb (set / 4 % 2) 1 (λ f. omega arith) in
    let theta = ne_eqb (set / 2 % 2) 1 (λ f. omega arith) in
    let t = ne_eqb (set % 2) 1 (λ f. omega arith) in
    rw (m, n, theta, t)

abbrev found_if : Bool → Option ℕ
found_if t = cond t (Some 0) None

xy_alone : (c : Block) (start : ℕ) → searched_from (D.XY ∷ []) c 1 start ≡ found_if (above_floor ordinary_floor c.x.rank)
unfolding searched_from direction_at
xy_alone c start = let e : start % 1 ≡ 0 = omega arith in rw e

xy_found : (p : Chosen) (c : Block) (start : ℕ) → p.set % 16 ≡ 0
    → found_if (above_floor ordinary_floor c.x.rank && in_use p.set D.XY) ≡ searched p c start
unfolding searched_from
xy_found p c start e =
    go (in_use p.set D.XY) (above_floor ordinary_floor c.x.rank) refl
    ∙ ap (λ (ds : List Direction). searched_from ds c (length ds) start) (sym (no_parameters p.set e))
  where
    go : (used up : Bool) → up ≡ above_floor ordinary_floor c.x.rank
        → found_if (up && used) ≡ searched_from (cond used (D.XY ∷ []) []) c (length (cond used (D.XY ∷ []) [])) start
    go true true h = ap found_if h ∙ sym (xy_alone c start)
    go true false h = ap found_if h ∙ sym (xy_alone c start)
    go false true h = refl
    go false false h = refl

pub find_xy : (p : Chosen) (c : Block) (start : ℕ) → p.set % 16 ≡ 0
    → above_floor ordinary_floor c.x.rank && in_use p.set D.XY ≡ true → Some 0 ≡ searched p c start
find_xy p c start e h = ap found_if (sym h) ∙ xy_found p c start e

pub find_nothing : (p : Chosen) (c : Block) (start : ℕ) → p.set % 16 ≡ 0
    → above_floor ordinary_floor c.x.rank && in_use p.set D.XY ≡ false → None ≡ searched p c start
find_nothing p c start e h = ap found_if (sym h) ∙ xy_found p c start e
