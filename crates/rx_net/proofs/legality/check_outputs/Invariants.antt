use Rattle.std.proofs.Common.{◌≡◌, take, drop, []}
use Rattle.rx_net.specs.Cells.{cell_count, degree}
use Rattle.rx_net.specs.Faults.{first_in_turn, output_fault}
use Rattle.rx_net.proofs.legality.check_outputs.Given as goal

abbrev pub invariant-loop-number : goal.invariant-loop-number
invariant-loop-number l =
    first_in_turn (output_fault l.net.space (cell_count l.net) (degree l.net)) (take l.number l.outputs) (drop l.number l.outputs)
    ≡ first_in_turn (output_fault l.net.space (cell_count l.net) (degree l.net)) [] l.outputs
