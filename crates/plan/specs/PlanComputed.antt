-- What the private functions make on the way to what is remembered: one child after the other is judged. No public contract cites this page.
use Rattle.std.specs.Prelude.{true, false, cond, ◌&&◌, ◌||◌, ℕ, ◌+◌, replicate, set}
use Rattle.decide.specs.declared.verdict.Outcome.{Outcome}
use Rattle.decide.specs.declared.verdict.Outcome.TheVariants as O
use Rattle.decide.specs.Verdict.{legal_verdict, cost_of, is_marking, is_incomplete}
use Rattle.plan.specs.declared.Judged.{Judged}

-- 1 for an incomplete child
abbrev pub incomplete_ones : Outcome → ℕ
incomplete_ones o = cond (is_incomplete o) 1 0

-- before the first verdict
abbrev pub unjudged : Judged
unjudged = record { at = replicate 4 O.Skipped; incomplete = 0; evaluations = 0; marked = false; legal = true }

-- child i judged, by its rank, its verdict and its outcome
unfoldable pub judged_by : Judged → ℕ → ℕ → ℕ → Outcome → Judged
judged_by j i rank v o = record {
  at = set j.at i o;
  incomplete = j.incomplete + incomplete_ones o;
  evaluations = j.evaluations + cost_of o;
  marked = j.marked || is_marking o;
  legal = j.legal && legal_verdict rank v;
}
