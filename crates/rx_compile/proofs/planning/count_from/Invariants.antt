use Rattle.std.proofs.Common.{◌≡◌, ◌-◌, ◌≤◌}
use Rattle.std.specs.List.{range_with_len}
use Rattle.rx_compile.proofs.planning.count_from.Given as goal

abbrev pub invariant-loop-cell : goal.invariant-loop-cell
invariant-loop-cell l = (l.cells.items ≡ range_with_len l.first (l.cell - l.first)) × ((l.first ≤ l.cell) × (l.cell ≤ l.cell-end))
