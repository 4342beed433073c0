use Rattle.std.proofs.Common.{◌≡◌, take, drop, []}
use Rattle.rx_net.specs.Faults.{first_in_turn, terms_fault}
use Rattle.rx_net.proofs.legality.check_terms.Given as goal

abbrev pub invariant-loop-number : goal.invariant-loop-number
invariant-loop-number l = first_in_turn terms_fault (take l.number l.jobs) (drop l.number l.jobs) ≡ first_in_turn terms_fault [] l.jobs
