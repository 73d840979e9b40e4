-- Rows of refusals: what a chain of tests answers is the number of the first row that applies. Assumes nothing.
use mathlib.Core.Path.{◌≡◌, refl}
use mathlib.Core.Bool.{Bool, true, false, cond, not, ◌&&◌, ◌||◌}
use mathlib.Core.List.{List, [], ◌∷◌}
use Prim.Native.Nat.{ℕ}
use Rattle.refusal.specs.Number.{first_of}

-- a test that fails is a row that applies; the rows behind it count only where the test passes
pub row : {A : Type 0} (f : A → ℕ) (pass : Bool) (refusal : A) (applies : Bool) (rest : A) (rows : List (ℕ × Bool)) → applies ≡ not pass
    → (pass ≡ true → f rest ≡ first_of rows) → f (cond pass rest refusal) ≡ first_of ((f refusal, applies) ∷ rows)
unfolding first_of
row f true refusal applies rest rows e h = rw e (h refl)
row f false refusal applies rest rows e h = rw e

-- no row
pub none : 0 ≡ first_of []
unfolding first_of
none = refl

-- one of two fails
pub one_fails : (a b : Bool) → not a || not b ≡ not (a && b)
one_fails true b = refl
one_fails false b = refl
