use Rattle.rx_net.specs.Tags.{greatest_of}
use Rattle.rx_plan.specs.Planned.{EachOf, Planned}
use Rattle.rx_plan.proofs.PerBlock.{pair_values}
use Rattle.rx_plan.proofs.blocks.blockwise.Given as goal

abbrev pub invariant-loop-i : goal.invariant-loop-i
invariant-loop-i l = Planned l.fn.pen l.pen l.cells.items (λ _. greatest_of l.table) l.i l.i 1 (EachOf l.a l.b) (pair_values l.fn.pen l.factor l.table l.a l.b)
