use Rattle.std.proofs.Common.{◌≡◌, [], refl, ◌∙◌, arith}
use Rattle.rx_params.specs.declared.params.Params.{Params}
use Rattle.rx_net.specs.declared.net.Net.{Net}
use Rattle.rx_net.specs.Cells.{input_cells}
use Rattle.rx_net.specs.Pen.{empty_net}
use Rattle.rx_crew.specs.Evaluation.{AreInputs}
use Rattle.rx_tests_crew.proofs.tests.nothing_is_run.Goals as goal

no-inputs : (p : Params) (net : Net) → net ≡ empty_net 2 → AreInputs p net []
unfolding input_cells
no-inputs p net e = rw e (record {
  count = refl;
  sizes = λ c q. absurd (omega (arith, q));
  degrees = λ c q. absurd (omega (arith, q));
  noises = λ c q. absurd (omega (arith, q));
})

pub run_net-requires-clause-inputs : goal.run_net-requires-clause-inputs
run_net-requires-clause-inputs g c κs =
    no-inputs c.in_ok-key.key.params c.finish-net.result (c.finish-net.ensures.value ∙ c.new.ensures)
