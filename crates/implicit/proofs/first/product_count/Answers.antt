-- `first::product_count` meets its contract: no parameter has more than three pieces. Assumes nothing.
use Prim.Native.Nat.{◌*◌, ◌≤◌}
use native.Mathlib.Omega.{arith}
use Rattle.implicit.proofs.SetupLawsProduct.{nine, more, most, count_made}
use Rattle.implicit.proofs.first.product_count.Goals as goal

-- at most 81
few : (c : goal.After-piece_count-4) → c.piece_count.result * c.piece_count-2.result * c.piece_count-3.result * c.piece_count-4.result ≤ 81
few c =
    let nines = nine _ _ c.piece_count.ensures.upper_bound c.piece_count-2.ensures.upper_bound in
    most _ _ (more _ _ nines c.piece_count-3.ensures.upper_bound) c.piece_count-4.ensures.upper_bound

pub overflow_mul-result : goal.overflow_mul-result
overflow_mul-result c =
    let a = c.piece_count in
    let b = c.piece_count-2 in
    record { fits = omega (arith, nine a.result b.result a.ensures.upper_bound b.ensures.upper_bound) }

pub overflow_mul-result-2 : goal.overflow_mul-result-2
overflow_mul-result-2 c =
    let a = c.piece_count in
    let nines = nine _ _ a.ensures.upper_bound c.piece_count-2.ensures.upper_bound in
    record { fits = omega (arith, more _ _ nines c.piece_count-3.ensures.upper_bound) }

pub overflow_mul-result-3 : goal.overflow_mul-result-3
overflow_mul-result-3 c = record { fits = omega (arith, few c) }

pub returns : goal.returns
returns c =
    record {
      value = count_made c.args.f _ _ _ _ c.piece_count.ensures.value c.piece_count-2.ensures.value c.piece_count-3.ensures.value
          c.piece_count-4.ensures.value;
      upper_bound = few c;
    }
