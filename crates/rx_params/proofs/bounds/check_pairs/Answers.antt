use Rattle.std.proofs.Common.{sym, ◌∙◌}
use Rattle.rx_params.proofs.Refusals.{pair_checked-by, pair_checked_tells}
use Rattle.rx_params.proofs.bounds.check_pairs.Goals as goal

pub returns-clause-exact : goal.returns-clause-exact
returns-clause-exact c = c.check_by.ensures ∙ sym (pair_checked-by c.args.p.now)

pub returns-clause-accepted : goal.returns-clause-accepted
returns-clause-accepted c = pair_checked_tells c.args.p.now c.check_by.result (returns-clause-exact c)
