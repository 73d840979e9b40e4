-- `small::read_tail` meets its contract: the chain folds the bytes from the last on, and that is their number. Assumes nothing.
use mathlib.Core.Path.{◌≡◌, ◌∙◌}
use native.Mathlib.Omega.{arith}
use borrow.Author.Rules.{rules}
use Rattle.std.proofs.Common.{fold, reverse}
use Rattle.small.proofs.TailLaws.{put_below, tail_folded}
use Rattle.small.proofs.read_tail.Goals as goal

pub returns : goal.returns
returns c =
    let e : c.rfold.result ≡ fold put_below 0 (reverse c.args.s.now) = search rules in
    e ∙ tail_folded c.args.s.now c.requires (λ i. omega (arith, c.type_inv.s i))
