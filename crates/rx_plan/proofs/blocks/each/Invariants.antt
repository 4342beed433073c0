use Rattle.rx_net.specs.Tags.{greatest_of}
use Rattle.rx_plan.specs.Planned.{Each, Planned}
use Rattle.rx_plan.proofs.PerBlock.{each_values}
use Rattle.rx_plan.proofs.blocks.each.Given as goal

abbrev pub invariant-loop-i : goal.invariant-loop-i
invariant-loop-i l = Planned l.fn.pen l.pen l.cells.items (λ _. greatest_of l.table) l.i l.i 1 (Each l.a) (each_values l.fn.pen l.table l.a)
