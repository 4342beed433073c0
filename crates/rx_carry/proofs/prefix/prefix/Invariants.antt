use Rattle.std.proofs.Common.{◌-◌, length}
use Rattle.rx_carry.proofs.Prefixes.{Levelled}
use Rattle.rx_carry.proofs.prefix.prefix.Given as goal

abbrev pub invariant-loop-span : goal.invariant-loop-span
invariant-loop-span l = Levelled l.fn.pen l.pen l.fn.states.items l.cells.items l.span

abbrev pub decreases-loop-span : goal.decreases-loop-span
decreases-loop-span l = length l.fn.states.items - l.span
