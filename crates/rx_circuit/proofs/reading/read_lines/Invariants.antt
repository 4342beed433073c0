use Rattle.std.proofs.Common.{◌≡◌, ◌≤◌, [], length}
use Rattle.rx_text.specs.Lines.{parts_of}
use Rattle.rx_circuit.specs.Values.{lines_from}
use Rattle.rx_circuit.proofs.reading.read_lines.Given as goal

-- the values so far and the lines that are left read as all lines do
abbrev pub invariant-loop-line : goal.invariant-loop-line
invariant-loop-line l = record {
  same : lines_from l.values.items l.lines ≡ lines_from [] (parts_of l.bytes);
  few : length l.values.items ≤ 64;
}

abbrev pub decreases-loop-line : goal.decreases-loop-line
decreases-loop-line l = length l.lines
