-- Entries that are read and played, one after the other.
use Rattle.std.proofs.Common.{ℕ, ◌+◌, [], ◌∷◌, ◌++◌, ◌∙◌, arith, length-append}
use Rattle.std.specs.Prelude.{Result, Ok, Option, Some}
use Rattle.std.proofs.lemmas.Fn.{FoldsTo-push}
use Rattle.replay_lists.specs.Playing.{PlayedOne, PlayedMany}

module _ {B R E X : Type 0} (gives : B → R → Result (Option E) X → R → Type 0) (plays : B → E → Result (Unit {0}) X → B → Type 0) where
  -- one more
  pub played_more : (r : R) (b : B) (q : R) (c : B) (s : R) (d : B) (n : ℕ) (e : E)
      → PlayedMany gives plays n r b q c → gives c q (Ok (Some e)) s → plays c e (Ok tt) d → PlayedMany gives plays (n + 1) r b s d
  played_more r b q c s d n e (entries, many, before) read played = (
    entries ++ (e ∷ []),
    length-append entries (e ∷ []) ∙ omega (arith, many),
    FoldsTo-push (PlayedOne gives plays) (r, b) entries (q, c) e (s, d) before (read, played),
  )
