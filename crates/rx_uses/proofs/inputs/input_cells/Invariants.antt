use Rattle.std.proofs.Common.{◌≡◌, ◌+◌, drop}
use Rattle.rx_net.specs.Cells.{input_cells}
use Rattle.rx_uses.proofs.inputs.input_cells.Given as goal

abbrev pub invariant-loop-input : goal.invariant-loop-input
invariant-loop-input l = l.count + input_cells l.net.space (drop l.input-index l.net.inputs) ≡ input_cells l.net.space l.net.inputs
