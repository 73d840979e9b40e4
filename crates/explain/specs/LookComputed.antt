-- A look at the children of one step, child by child: what private functions compute. The laws say that it finds what the page
-- Reasons names.
use Rattle.std.specs.Prelude.{Bool, cond, List, [], ◌∷◌, ℕ, suc, Some, None, Option, is_none}
use Rattle.std.specs.Option.{option_or}
use Rattle.queue.specs.declared.Block.{Block}
use Rattle.decide.specs.declared.Chosen.{Chosen}
use Rattle.decide.specs.declared.children.Cut.{Cut}
use Rattle.decide.specs.declared.verdict.Outcome.{Outcome}
use Rattle.decide.specs.declared.verdict.Outcome.TheVariants as O
use Rattle.decide.specs.Turn.{start_of, searched}
use Rattle.plan.specs.declared.Judged.{Judged}
use Rattle.plan.specs.AtOnce.{children_by}
use Rattle.explain.specs.declared.look.Look.{Look}

-- nothing seen yet
abbrev pub unlooked : Look
unlooked = record { mark = None; denied = None; stuck = None }

-- child i marks its pixels; it is answered false; it finds a direction or none
abbrev pub mark_seen : Look → ℕ → ℕ → Bool → Look
mark_seen l i point here = record l { mark = cond here (Some (record { child = i; point = point })) l.mark }

abbrev pub false_seen : Look → ℕ → Bool → Look
false_seen l i here = record l { denied = cond here (option_or l.denied (Some i)) l.denied }

abbrev pub stuck_seen : Look → ℕ → Option ℕ → Look
stuck_seen l i f = record l { stuck = cond (is_none f) (option_or l.stuck (Some i)) l.stuck }

-- child i, with its outcome, where the search for a direction begins at `start`
unfoldable pub looked_at : Chosen → (Block → Bool) → ℕ → Look → ℕ → Block → Outcome → Look
looked_at p here start l i c O.Skipped = l
looked_at p here start l i c O.False = false_seen l i (here c)
looked_at p here start l i c O.Area = mark_seen l i 0 (here c)
looked_at p here start l i c (O.Point k) = mark_seen l i k (here c)
looked_at p here start l i c (O.Incomplete n) = stuck_seen l i (searched p c start)

-- all children from number i on
unfoldable pub looked_from : Chosen → (Block → Bool) → ℕ → Look → ℕ → List Block → List Outcome → Look
looked_from p here start l i [] es = l
looked_from p here start l i (c ∷ cs) [] = l
looked_from p here start l i (c ∷ cs) (e ∷ es) = looked_from p here start (looked_at p here start l i c e) (suc i) cs es

-- of a block that is cut so, by what is remembered of its children
unfoldable pub looked_by : Chosen → (Block → Bool) → Block → Cut → Judged → Look
looked_by p here b k j = looked_from p here (start_of p b j.incomplete) unlooked 1 (children_by k b) j.at
