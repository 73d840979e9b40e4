-- `fraction::fraction` meets its contract. Assumes nothing.
use Rattle.std.proofs.Common.{◌≡◌, ℕ, ◌%◌, ◌^◌, ◌<◌, ◌≤◌, false, cond, not, T, pos, sym, ap, ◌∙◌, subst}
use lib.Ieee.{binary64, to_bits, of_bits, le, fin, nan_bits}
use Rattle.interval.specs.Fraction.{shared_bits}
use Rattle.interval.proofs.TopBits.{Pattern, pattern, lower_number, upper_number, not_all, cut_shift, cut_no_nan, frac_same, frac_other, kept_lower, kept_upper, infinite_kept}
use Rattle.interval.proofs.Patterns.{infinite}
use Rattle.interval.proofs.fraction.fraction.Goals as goal
use Rattle.interval.proofs.fraction.fraction.Goals.{then-x, else-x}

low_pattern : (c : goal.After-row_known-1) → Pattern c.args.x.lower
low_pattern c = pattern c.args.x.lower c.struct_known-1.given.0 (lower_number c.args.x.lower c.args.x.upper c.requires)

high_pattern : (c : goal.After-row_known-1) → Pattern c.args.x.upper
high_pattern c = pattern c.args.x.upper c.struct_known-1.given.1.0 (upper_number c.args.x.lower c.args.x.upper c.requires)

-- the pattern that is kept
kept : (c : goal.After-row_known-1) → c.if-x.keep ≡ cond (le c.args.x.lower (fin false 0 (pos 0))) (to_bits binary64 c.args.x.lower) (to_bits binary64 c.args.x.upper)
kept c =
    let x = c.args.x.lower in
    let y = c.args.x.upper in
    elim c.if-x.branch [
      | then-x w ↦ kept_lower x (to_bits binary64 x) (to_bits binary64 y) c.if-x.keep w.if-x.true w.keep-is
      | else-x w ↦ kept_upper x (to_bits binary64 x) (to_bits binary64 y) c.if-x.keep w.if-x.false w.keep-is
    ]

bounded : (c : goal.After-row_known-1) → (c.if-x.keep < 2 ^ 64) × (c.if-x.keep % 2 ^ 63 ≤ infinite)
bounded c =
    let x = c.args.x.lower in
    let y = c.args.x.upper in
    infinite_kept (le x (fin false 0 (pos 0))) (to_bits binary64 x) (to_bits binary64 y) c.if-x.keep (low_pattern c).fits_in (high_pattern c).fits_in (low_pattern c).no_nan (high_pattern c).no_nan (kept c)

pub float_to_bits-a : goal.float_to_bits-a
float_to_bits-a c = lower_number c.args.x.lower c.args.x.upper c.requires

pub float_to_bits-b : goal.float_to_bits-b
float_to_bits-b c = upper_number c.args.x.lower c.args.x.upper c.requires

pub returns-then-n-eq64 : goal.returns-then-n-eq64
returns-then-n-eq64 c = frac_same c.args.x.lower c.args.x.upper c.if-n-eq64.true

pub overflow_sub-result : goal.overflow_sub-result
overflow_sub-result c = not_all _ c.if-n-eq64.false

pub overflow_sub-result-2 : goal.overflow_sub-result-2
overflow_sub-result-2 c = not_all _ c.if-n-eq64.false

pub float_from_bits-result : goal.float_from_bits-result
float_from_bits-result c =
    let x = c.args.x.lower in
    let y = c.args.x.upper in
    let n = shared_bits (to_bits binary64 x) (to_bits binary64 y) in
    let w = c.if-x.keep in
    subst (λ (z : ℕ). T (not (nan_bits binary64 z))) (sym (cut_shift n w (bounded c).0)) (cut_no_nan n w (not_all _ c.if-n-eq64.false) (bounded c).1)

pub returns : goal.returns
returns c =
    let x = c.args.x.lower in
    let y = c.args.x.upper in
    let n = shared_bits (to_bits binary64 x) (to_bits binary64 y) in
    let w = c.if-x.keep in
    ap (of_bits binary64) (cut_shift n w (bounded c).0) ∙ frac_other x y c.if-n-eq64.false w (kept c)
