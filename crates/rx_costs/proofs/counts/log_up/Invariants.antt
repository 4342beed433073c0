use Rattle.std.proofs.Common.{◌≡◌, ℕ, ◌-◌, ◌^◌, ◌≤◌}
use Rattle.rx_costs.proofs.counts.log_up.Given as goal

-- no exponent below this one is enough
pub record IsBelow (base number exponent power : ℕ) : Type 0 where
  pub some : 1 ≤ power
  pub is : power ≡ base ^ exponent
  pub few : exponent ≤ 32
  pub least : (s : ℕ) → number ≤ base ^ s → exponent ≤ s

abbrev pub invariant-loop-power : goal.invariant-loop-power
invariant-loop-power l = IsBelow l.base l.number l.exponent l.power

abbrev pub decreases-loop-power : goal.decreases-loop-power
decreases-loop-power l = l.number - l.power
