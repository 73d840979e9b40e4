-- `put_chart` meets its contract. Assumes nothing.
use Rattle.std.proofs.Common.{◌≡◌, ap, append_assoc, arith, length, rules}
use Rattle.sheet.proofs.ChartLaws.{counted_room, counted_shown}
use Rattle.sheet.proofs.put_chart.Goals as goal

pub put_rows-requires : goal.put_rows-requires
put_rows-requires c =
    let h = counted_room c.args.end.state c.args.cells.now c.args.n c.requires.counted c.requires.cells in
    let k : 4096 ≡ length c.picture.new.out = search rules in
    let e = ap length c.requires.start in
    (omega arith, (omega (arith, h.0, k), omega (arith, h.1, e, c.put_run.ensures.size, c.put_counts.ensures.size)))

pub returns : goal.returns
returns c =
    let d = c.picture.ensures in
    let z = counted_shown c.args.end.state c.args.cells.now c.args.n c.requires.counted _ _ _ (omega (arith, c.requires.cells)) d.value d.out_after in
    rw (c.put_rows.ensures, z, c.put_counts.ensures.text, c.put_run.ensures.text) (simp append_assoc)
