use Rattle.std.proofs.Common.{◌≡◌, [], sym, arith}
use Rattle.rx_params.specs.declared.params.Params.{Params}
use Rattle.rx_net.specs.declared.net.Net.{Net}
use Rattle.rx_net.specs.Cells.{input_cells}
use Rattle.rx_crew.specs.Evaluation.{AreInputs}
use Rattle.rx_tests_workers.proofs.tests.counts.Goals as goal

no-inputs : (p : Params) (net : Net) → input_cells net.space net.inputs ≡ 0 → AreInputs p net []
no-inputs p net e = record {
  count = sym e;
  sizes = λ c q. absurd (omega (arith, q));
  degrees = λ c q. absurd (omega (arith, q));
  noises = λ c q. absurd (omega (arith, q));
}

pub run_net-requires-clause-inputs : goal.run_net-requires-clause-inputs
run_net-requires-clause-inputs g c κs lives = no-inputs c.in_ok-key.key.params c.in_ok-net.net c.in_ok-net.ensures.inputs
