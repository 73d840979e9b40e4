-- `float::near_whole` meets its contract. Assumes nothing.
use Rattle.std.proofs.Common.{◌≡◌, ℕ, ◌^◌, ◌<◌, T, sym, ◌∙◌, subst, arith}
use lib.Ieee.{binary64, fits, add, to_unsigned, of_bits}
use denote.Floats.{passes}
use Rattle.interval.proofs.WholeRounding.{Small, small_placed, in_range, cut_double, holds_it, near_small, near_large}
use Rattle.interval.proofs.float.near_whole.Lts
use Rattle.interval.proofs.float.near_whole.Reads
use Rattle.interval.proofs.float.near_whole.Tie
use Rattle.interval.proofs.float.near_whole.Goals as goal

held : (c : Lts.Start Tie.the-claims Reads.Pre Reads.Post Tie.handed_clauses) → T (fits binary64 c.args.x)
held c = passes (fits binary64 c.args.x) c.well_formed.0.1

few : (c : Lts.Then1 Tie.the-claims Reads.Pre Reads.Post Tie.handed_clauses) → Small c.args.x
unfolding of_bits
few c = small_placed c.args.x (held c.before) c.requires c.if-x.true

-- what the cut gives is below 2 ^ 53
few_cut : (c : Lts.Then1 Tie.the-claims Reads.Pre Reads.Post Tie.handed_clauses) (n : ℕ) → n ≡ to_unsigned 64 (add binary64 c.args.x c.args.x) → n < 2 ^ 53
few_cut c n e = subst (λ (z : ℕ). z < 2 ^ 53) (sym (e ∙ (cut_double c.args.x (few c)).1)) (cut_double c.args.x (few c)).0

pub truncating_f64_to_u64-n-requires : goal.truncating_f64_to_u64-n-requires
truncating_f64_to_u64-n-requires c = let both = in_range c.args.x (few c) in record { lower_bound = both.0; upper_bound = both.1 }

pub overflow_add-result : goal.overflow_add-result
overflow_add-result c = omega (arith, few_cut c.before c.truncating_f64_to_u64-n.result c.truncating_f64_to_u64-n.ensures)

pub int_to_float-result : goal.int_to_float-result
int_to_float-result c = holds_it c.truncating_f64_to_u64-n.result (few_cut c.before.before c.truncating_f64_to_u64-n.result c.truncating_f64_to_u64-n.ensures)

pub returns-then-x : goal.returns-then-x
returns-then-x c =
    near_small c.args.x (few c.before.before) (held c.before.before.before) c.truncating_f64_to_u64-n.result c.truncating_f64_to_u64-n.ensures

pub returns-else-x : goal.returns-else-x
unfolding of_bits
returns-else-x c = near_large c.args.x (held c.before) c.requires c.if-x.false
