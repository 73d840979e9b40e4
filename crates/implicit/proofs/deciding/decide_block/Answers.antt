-- `deciding::decide_block` meets its contract. Assumes nothing.
use Rattle.std.proofs.lemmas.Result.{err_from_is_err_and}
use Rattle.implicit.proofs.StepLawsCode.{cut_count, block_fits, block_refused, block_judged}
use Rattle.implicit.proofs.deciding.decide_block.Goals as goal

pub check_block-requires : goal.check_block-requires
check_block-requires c =
    (c.requires.0, c.requires.1, cut_count c.args.p c.args.b c.cut_of-k.result c.cut_of-k.ensures)

pub slice_bounds-judge-end : goal.slice_bounds-judge-end
slice_bounds-judge-end c = let a = c.args in block_fits a.p a.b a.cells.now c.cut_of-k.result.count _ a.tape c.in_ok-check_block.ensures

pub returns-in_err-check_block : goal.returns-in_err-check_block
returns-in_err-check_block c =
    let a = c.args in
    let e = err_from_is_err_and c.from_residual.result c.from_residual.ensures.1 in
    rw (e.1, e.2) (block_refused a.p a.cells.now a.tape a.verdicts.now a.b a.head a.used c.cut_of-k.result c.cut_of-k.ensures _ c.in_err-check_block.ensures)

pub returns : goal.returns
returns c =
    let a = c.args in
    block_judged a.p a.cells.now a.tape a.verdicts.now a.b a.head a.used c.cut_of-k.result c.cut_of-k.ensures c.judge.result
    c.in_ok-check_block.ensures c.judge.ensures
