use Rattle.std.proofs.Common.{ap}
use Rattle.rx_tool.specs.Plain.{inputs_refused}
use Rattle.rx_tool.proofs.commands.trip.check_inputs.Goals as goal

pub returns : goal.returns
returns c = (ap inputs_refused c.in-Ok.ensures.exact, record { numbers = c.in-Ok.numbers.items; found = c.in-Ok.ensures.exact })
