use Rattle.std.proofs.Common.{◌≡◌, ◌+◌, ◌++◌, map, take, length}
use Rattle.sheet.specs.ChartComputed.{symbol_of}
use Rattle.sheet.proofs.write.put_row.Given as goal

abbrev pub invariant-loop-b : goal.invariant-loop-b
invariant-loop-b g l = record {
  shown : l.text ≡ l.initial.text ++ map symbol_of (take l.b-index l.row);
  size : length l.text ≡ length l.initial.text + l.b-index;
}
