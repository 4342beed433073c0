use Rattle.std.proofs.Common.{◌≡◌, ℕ, pos, ◌<◌, ◌*ℤ◌, get_or}
use Rattle.rx_laws.specs.Torus.{word}
use Rattle.rx_laws.specs.Words.{of_words}
use Rattle.rx_boot.proofs.hidden.hide_opposite.Given as goal
use lib.IntN.{neg_ℤ}

abbrev pub invariant-loop-i : goal.invariant-loop-i
invariant-loop-i l = (k : ℕ) → k < l.i → get_or l.hidden k 0 ≡ word (neg_ℤ (pos l.weight *ℤ of_words l.polynomial k))
