-- `listing::list_front` meets its contract. Assumes nothing.
use Rattle.std.proofs.Common.{Err, ap, sym, ◌∙◌}
use Rattle.std.proofs.lemmas.Result.{err_from_is_err_and}
use Rattle.queue.proofs.QueueAnswers.{take_refused}
use Rattle.implicit.specs.Listing.{listed_from}
use Rattle.implicit.proofs.listing.list_front.Goals as goal

pub returns-in_err-read : goal.returns-in_err-read
returns-in_err-read c =
    let s = c.args.s in
    let p = err_from_is_err_and c.from_residual.result c.from_residual.ensures.1 in
    rw (p.1, p.2)
    (ap Err (take_refused c.args.ring.now s.head s.used s.chosen.set s.front _ (sym c.in_err-read.ensures))
    ∙ ap (listed_from s) c.in_err-read.ensures)

pub returns : goal.returns
returns c = c.list_block.ensures ∙ ap (listed_from c.args.s) c.in_ok-read.ensures
