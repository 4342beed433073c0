use Rattle.std.proofs.Common.{◌∙◌}
use Rattle.rx_compile.proofs.OutputFits.{outputs_first}
use Rattle.rx_compile.proofs.giving.give_outputs.Goals as goal

pub loop-place-init : goal.loop-place-init
loop-place-init c = record { holds = c.requires.holds; given = c.requires.blank ∙ outputs_first c.args.circuit.now c.args.cells.now }
