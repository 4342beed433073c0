use Rattle.std.proofs.Common.{◌≡◌, ◌+◌, take}
use Rattle.rx_net.specs.Cells.{laid}
use Rattle.rx_block.specs.Combine.{AreBlocksOf}
use Rattle.rx_board.specs.Closing.{present_below}
use Rattle.rx_crew.specs.Evaluation.{job_block}
use Rattle.rx_crew.proofs.jobs.complete.Given as goal

abbrev pub invariant-loop-number : goal.invariant-loop-number
invariant-loop-number g l = record {
  laid : take (l.inputs + l.number) l.cells
      ≡ laid (job_block l.initial.kernel.kernel.key) (take l.inputs l.initial.cells) (take l.number l.net.jobs);
  sizes : AreBlocksOf l.initial.kernel.kernel.key.params l.cells;
  key : l.kernel.kernel.key ≡ l.initial.kernel.kernel.key;
  runs : l.runs + present_below l.closed l.number ≡ l.number;
}
