-- The bytes, and behind them what is left of the zeros.
use Rattle.std.proofs.Common.{arith, ◌++◌, ◌-◌, length, ◌∙◌, ap, sym, replicate}
use Rattle.std.proofs.lemmas.List.{drop-replicate, take_all}
use Rattle.replay_lists.proofs.bytes.with_zeros.Goals as goal

pub returns : goal.returns
returns g c =
    let bytes = c.args.bytes.now in
    c.put_first.ensures ∙ ap (λ l. bytes ++ l) (drop-replicate (length bytes) g.row.N 0) ∙ ap (λ l. l ++ replicate (g.row.N - length bytes) 0) (sym (take_all g.row.N bytes (omega arith)))
