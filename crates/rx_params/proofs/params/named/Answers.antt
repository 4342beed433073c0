use Rattle.rx_params.proofs.Accepted.{accepts-rx_2_2, accepts-rx_test, accepts-rx_3_3, accepts-rx_k2}
use Rattle.rx_params.proofs.params.named.Goals as goal

pub returns-then-eq-clause-accepted : goal.returns-then-eq-clause-accepted
returns-then-eq-clause-accepted c = accepts-rx_2_2

pub returns-then-eq-2-clause-accepted : goal.returns-then-eq-2-clause-accepted
returns-then-eq-2-clause-accepted c = accepts-rx_test

pub returns-then-eq-3-clause-accepted : goal.returns-then-eq-3-clause-accepted
returns-then-eq-3-clause-accepted c = accepts-rx_3_3

pub returns-then-eq-4-clause-accepted : goal.returns-then-eq-4-clause-accepted
returns-then-eq-4-clause-accepted c = accepts-rx_k2
