-- What playing a list by two closures may answer, and leave of its reader.
use Rattle.std.specs.Prelude.{◌≡◌, Result, Ok, Err, Option, Some, None, List, ℕ, ◌<◌, ◌⊎◌, length}
use Rattle.std.specs.List.{FoldsTo}

-- by what reading an entry may answer and leave, and what playing one may
module _ {B R E X : Type 0} (gives : B → R → Result (Option E) X → R → Type 0) (plays : B → E → Result (Unit {0}) X → B → Type 0) where
  -- one is read, and then played
  abbrev pub PlayedOne : (R × B) → E → (R × B) → Type 0
  PlayedOne (r, b) e (s, c) = gives b r (Ok (Some e)) s × plays b e (Ok tt) c

  -- so many are, one after the other
  abbrev pub PlayedMany : ℕ → R → B → R → B → Type 0
  PlayedMany n r b s c = (entries : List E) × (length entries ≡ n) × FoldsTo PlayedOne (r, b) entries (s, c)

  -- one is not read, or not played
  abbrev pub PlayFails : R → B → X → R → Type 0
  PlayFails r b why s = gives b r (Err why) s ⊎ ((e : E) × (c : B) × gives b r (Ok (Some e)) s × plays b e (Err why) c)

  -- the most that may be; or fewer, and then the list ends, or one fails
  abbrev pub Played : ℕ → R → B → R → Result (Option ℕ) X → Type 0
  Played most r b s (Ok None) = (c : B) × PlayedMany most r b s c
  Played most r b s (Ok (Some n)) = (n < most) × ((q : R) × (c : B) × PlayedMany n r b q c × gives c q (Ok None) s)
  Played most r b s (Err why) = (n : ℕ) × (n < most) × ((q : R) × (c : B) × PlayedMany n r b q c × PlayFails q c why s)
