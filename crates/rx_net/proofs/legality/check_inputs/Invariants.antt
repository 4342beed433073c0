use Rattle.std.proofs.Common.{◌≡◌, take, drop, []}
use Rattle.rx_net.specs.Faults.{first_in_turn, input_fault}
use Rattle.rx_net.proofs.legality.check_inputs.Given as goal

abbrev pub invariant-loop-number : goal.invariant-loop-number
invariant-loop-number l = first_in_turn (input_fault l.space) (take l.number l.inputs) (drop l.number l.inputs) ≡ first_in_turn (input_fault l.space) [] l.inputs
