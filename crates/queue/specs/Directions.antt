-- The directions in use, document 01, "Picture and step": xy where either is used, then the used parameters in order.
-- A variable set is a number in which x is 32, y 16, m 8, n 4, n_theta 2 and t 1; higher digits say nothing.
use Rattle.std.specs.Prelude.{Bool, cond, ◌||◌, List, [], ◌∷◌, ℕ, zero, suc, ◌/◌, ◌%◌, eqb, Option, Some, None}
use Rattle.queue.specs.declared.directions.Direction.{Direction}
use Rattle.queue.specs.declared.directions.Direction.TheVariants as D

-- the set uses the direction's variable
abbrev pub in_use : ℕ → Direction → Bool
in_use set D.XY = eqb (set / 32 % 2) 1 || eqb (set / 16 % 2) 1
in_use set D.M = eqb (set / 8 % 2) 1
in_use set D.N = eqb (set / 4 % 2) 1
in_use set D.Theta = eqb (set / 2 % 2) 1
in_use set D.T = eqb (set % 2) 1

-- of these directions, those in use
unfoldable pub used_of : ℕ → List Direction → List Direction
used_of set [] = []
used_of set (d ∷ ds) = cond (in_use set d) (d ∷ used_of set ds) (used_of set ds)

-- the parameters in the order in which they are stored and cut
abbrev pub parameters : List Direction
parameters = D.M ∷ D.N ∷ D.Theta ∷ D.T ∷ []

-- the directions in use
unfoldable pub directions : ℕ → List Direction
directions set = used_of set (D.XY ∷ parameters)

-- the direction at a place, which a block's direction byte names
unfoldable pub direction_at : List Direction → ℕ → Option Direction
direction_at [] at = None
direction_at (d ∷ ds) zero = Some d
direction_at (d ∷ ds) (suc at) = direction_at ds at
