use Rattle.std.proofs.Common.{◌≡◌, ◌+◌, ◌-◌, ◌*◌, ◌≤◌, ◌++◌, map, length}
use Rattle.sheet.specs.Text.{rows_of}
use Rattle.sheet.specs.ChartComputed.{symbol_of}
use Rattle.sheet.proofs.write.put_rows.Given as goal

abbrev pub invariant-loop-y : goal.invariant-loop-y
invariant-loop-y g l = record {
  pixels : l.width * (l.height - l._y) ≤ length l.rest;
  room : length l.text + (l.width + 1) * (l.height - l._y) ≤ g.row.N;
  shown : l.text ++ rows_of l.width (l.height - l._y) (map symbol_of l.rest) ≡ l.initial.text ++ rows_of l.width l.height (map symbol_of l.picture);
}
