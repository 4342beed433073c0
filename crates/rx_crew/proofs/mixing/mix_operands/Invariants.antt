use Rattle.std.proofs.Common.{◌≡◌, ℕ, ◌<◌, length, get_or}
use Rattle.rx_laws.specs.Torus.{word}
use Rattle.rx_laws.specs.Sum.{sum_to}
use Rattle.rx_crew.specs.Kernel.{weighted_operand}
use Rattle.rx_crew.proofs.mixing.mix_operands.Given as goal

abbrev pub invariant-loop-place : goal.invariant-loop-place
invariant-loop-place l = (i : ℕ) → i < length l.out → get_or l.out i 0 ≡ word (sum_to l.place (weighted_operand l.p l.terms l.operands i))
