-- Walking the queue block by block. Assumes nothing.
use Rattle.std.specs.Prelude.{Result, Ok, Err}
use Rattle.queue.specs.declared.QueueError.{QueueError}
use mathlib.Core.Path.{◌≡◌, refl, sym, ap, ◌∙◌}
use mathlib.Core.List.{List}
use Prim.Native.Nat.{ℕ, zero, suc, ◌+◌, ◌-◌, ◌≤◌, ◌<◌}
use native.Mathlib.Omega.{arith}
use Rattle.queue.specs.declared.Taken.{Taken}
use Rattle.queue.specs.Answers.{blank_block, taken_block}
use Rattle.explain.specs.Reasons.{block_behind}
use Rattle.explain.specs.RepeatComputed.{taken_behind}

-- behind one block more: the same of what is taken after this
behind_one : (d : ℕ) (ring : List ℕ) (set : ℕ) (t : Result Taken QueueError)
    → block_behind d ring set (taken_behind ring set t) ≡ block_behind (suc d) ring set t
unfolding block_behind
behind_one d ring set (Err why) = nothing d
  where
    nothing : (d : ℕ) → block_behind d ring set (Err why) ≡ blank_block
    nothing zero = refl
    nothing (suc d) = refl
behind_one d ring set (Ok t) = refl

pub walk_on : (before i : ℕ) (ring : List ℕ) (set : ℕ) (t r : Result Taken QueueError) → i < before → r ≡ taken_behind ring set t
    → block_behind (before - (i + 1)) ring set r ≡ block_behind (before - i) ring set t
walk_on before i ring set t r h e =
    let k : before - i ≡ suc (before - (i + 1)) = omega arith in
    ap (block_behind (before - (i + 1)) ring set) e ∙ behind_one (before - (i + 1)) ring set t
    ∙ ap (λ (d : ℕ). block_behind d ring set t) (sym k)

pub walk_end : (before i : ℕ) (ring : List ℕ) (set : ℕ) (t : Result Taken QueueError) → before ≤ i → taken_block t ≡ block_behind (before - i) ring set t
unfolding block_behind
walk_end before i ring set t h = let k : before - i ≡ 0 = omega arith in rw k
