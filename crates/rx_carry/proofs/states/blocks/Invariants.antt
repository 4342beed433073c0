use Rattle.std.proofs.Common.{◌≤◌, ◌-◌, ◌^◌}
use Rattle.rx_plan.specs.Planned.{Planned}
use Rattle.rx_carry.proofs.BlockJobs.{EachThree, left_values}
use Rattle.rx_carry.proofs.states.blocks.Given as goal

abbrev pub invariant-loop-i : goal.invariant-loop-i
invariant-loop-i l = record {
  some : 1 ≤ l.i;
  planned : Planned l.fn.pen l.pen l.cells.items (λ _. 2 ^ l.fn.pen.space - 1) l.i l.i 1 (EachThree l.a l.b l.carries) (left_values l.operation l.fn.pen l.a l.b l.carries);
}
