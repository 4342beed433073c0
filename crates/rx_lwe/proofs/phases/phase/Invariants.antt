use Rattle.std.proofs.Common.{◌≡◌, length}
use Rattle.rx_laws.specs.Torus.{word}
use Rattle.rx_laws.specs.Words.{of_words}
use Rattle.rx_lwe.proofs.Bodies.{phase_to}
use Rattle.rx_lwe.proofs.phases.phase.Given as goal

abbrev pub invariant-loop-i : goal.invariant-loop-i
invariant-loop-i l =
    l.phase ≡ word (phase_to l.i (of_words l.key) (of_words l.words) (of_words l.words (length l.key)))
