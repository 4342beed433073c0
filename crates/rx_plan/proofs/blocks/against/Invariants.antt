use Rattle.rx_net.specs.Tags.{greatest_of}
use Rattle.rx_plan.specs.Planned.{Each, Planned}
use Rattle.rx_plan.proofs.PerBlock.{against_values}
use Rattle.rx_plan.proofs.blocks.against.Given as goal

abbrev pub invariant-loop-i : goal.invariant-loop-i
invariant-loop-i l = Planned l.fn.pen l.pen l.cells.items (λ _. greatest_of l.table) l.i l.i 1 (λ P. P l.high × Each l.a P) (against_values l.fn.pen l.factor l.table l.high l.a)
