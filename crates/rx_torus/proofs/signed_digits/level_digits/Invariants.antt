use Rattle.std.proofs.Common.{◌≡◌, ℕ, pos, ◌<◌, get_or}
use Rattle.rx_laws.specs.Digits.{digit}
use Rattle.rx_torus.proofs.signed_digits.level_digits.Given as goal

abbrev pub invariant-loop-x : goal.invariant-loop-x
invariant-loop-x l = (k : ℕ) → k < l.x → get_or l.out k (pos 0) ≡ digit l.base_log l.levels (get_or l.words k 0) l.level
