use Rattle.rx_net.proofs.Bounded.{AreFirstWithin}
use Rattle.rx_net.proofs.evaluate.are_bounded.Given as goal

abbrev pub invariant-loop-cell : goal.invariant-loop-cell
invariant-loop-cell l = AreFirstWithin l.space l.inputs l.values l.cell
