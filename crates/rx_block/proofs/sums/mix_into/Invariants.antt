use Rattle.std.proofs.Common.{◌≡◌, ℕ, ◌<◌, length, get_or}
use Rattle.rx_laws.specs.Torus.{word}
use Rattle.rx_laws.specs.Sum.{sum_to}
use Rattle.rx_block.specs.Combine.{weighted}
use Rattle.rx_block.proofs.sums.mix_into.Given as goal

abbrev pub invariant-loop-term : goal.invariant-loop-term
invariant-loop-term l = (i : ℕ) → i < length l.out → get_or l.out i 0 ≡ word (sum_to l.term-index (weighted l.blocks l.terms i))
