use Rattle.std.proofs.Common.{◌-◌, ◌^◌}
use Rattle.rx_params.specs.Kinds.{digit_at}
use Rattle.rx_plan.specs.Planned.{Planned}
use Rattle.rx_bits.proofs.constants.constant_cells.Given as goal

abbrev pub invariant-loop-i : goal.invariant-loop-i
invariant-loop-i l = Planned l.fn.pen l.pen l.cells.items (λ _. 2 ^ l.fn.pen.space - 1) l.i l.i 1 (λ _. Unit {0}) (λ _ i. digit_at l.fn.pen.space l.number i)
