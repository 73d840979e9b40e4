-- What holds of every member of a list, and what holds of some member.
use Rattle.std.specs.Prelude.{◌⊎◌, List, [], ◌∷◌}

-- P holds of each member
abbrev pub Every : {A : Type 0} → (A → Type 0) → List A → Type 0
Every P [] = Unit {0}
Every P (a ∷ l) = P a × Every P l

-- P holds of a member
unfoldable pub Some : {A : Type 0} → (A → Type 0) → List A → Type 0
Some P [] = ⊥
Some P (a ∷ l) = P a ⊎ Some P l
