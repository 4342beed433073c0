use Rattle.std.proofs.Common.{◌≡◌, []}
use Rattle.rx_net.proofs.tests.the_most_inputs_terms_and_outputs.Given as goal

-- no job was made yet
abbrev pub invariant-loop-number : goal.invariant-loop-number
invariant-loop-number g l = l.pen.jobs ≡ []
