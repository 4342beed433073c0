use Rattle.rx_net.proofs.NoFault.{legal_from_none, none_from_legal}
use Rattle.rx_net.proofs.Limits.{few_cells}
use Rattle.rx_net.proofs.NarrowJobs.{narrow_from_legal}
use Rattle.rx_net.proofs.Bounded.{bounded_from_legal}
use Rattle.rx_net.proofs.Grows.{extends_same, extends_onward}
use Rattle.rx_net.proofs.WordsOf.{input_cell_is, job_cell_is}
use Rattle.rx_net.proofs.laws.net_laws.Goals as goal

pub returns : goal.returns
returns c = record {
  lawful = λ net. (legal_from_none net, none_from_legal net);
  few_cells = λ net h. few_cells net h.limits;
  narrow = narrow_from_legal;
  bounded = bounded_from_legal;
  same = extends_same;
  onward = extends_onward;
  input_cell = input_cell_is;
  job_cell = job_cell_is;
}
