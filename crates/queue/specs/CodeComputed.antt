-- What the writing functions ask for and leave: private contracts cite these, no public one does.
use Rattle.std.specs.Prelude.{◌≡◌, Bool, ◌&&◌, List, ℕ, ◌+◌, ◌^◌, ltb, length}
use Rattle.std.proofs.lemmas.List.Edits.{sets}
use Rattle.coordinate.specs.declared.Coordinate.{Coordinate}
use Rattle.coordinate.specs.Axis.{ordinary_floor}
use Rattle.coordinate.specs.Lone.{legal}

-- a writer put these bytes into a buffer at a place, changed no other, and answers where they end
abbrev pub Written : List ℕ → ℕ → List ℕ → ℕ → List ℕ → Type 0
Written before at bytes end after = (end ≡ at + length bytes) × (after ≡ sets before at bytes)

-- x and y are in their ranges, and the remembered indices too
abbrev pub place_codable : Coordinate → Coordinate → ℕ → ℕ → Bool
place_codable x y lastx lasty =
    legal ordinary_floor x && legal ordinary_floor y && ltb lastx (2 ^ 47) && ltb lasty (2 ^ 47)
