use Rattle.std.proofs.Common.{◌≡◌, ℕ, ℤ, pos, neg_ℤ, ◌+ℤ◌, ◌*ℤ◌, ◌≤ℤ◌, ◌<ℤ◌, ◌+◌, ◌-◌, ◌*◌, ◌^◌, ◌<◌, ◌≤◌, get_or, List}
use Rattle.rx_laws.proofs.DigitLoop.{taken}
use Rattle.rx_torus.proofs.signed_digits.digits.Given as goal

pub record DigitsSoFar (base_log count m rest start : ℕ) (ds : List ℤ) : Type 0 where
  pub total : pos rest *ℤ pos (2 ^ (base_log * m)) +ℤ taken base_log count m (λ t. get_or ds t (pos 0)) ≡ pos start
  pub low : (t : ℕ) → count ≤ t + m → t < count → neg_ℤ (pos (2 ^ (base_log - 1))) ≤ℤ get_or ds t (pos 0)
  pub high : (t : ℕ) → count ≤ t + m → t < count → get_or ds t (pos 0) <ℤ pos (2 ^ (base_log - 1))

abbrev pub invariant-loop-done : goal.invariant-loop-done
invariant-loop-done l = DigitsSoFar l.base_log l.count l.done l.rest l.initial.rest l.out
