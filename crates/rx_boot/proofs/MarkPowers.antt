-- The marks of a set, by the power of two that its polynomials have as their size.
use Rattle.std.proofs.Common.{◌≡◌, ℕ, ◌+◌, ◌-◌, ◌*◌, ◌/◌, ◌^◌, ◌<◌, ◌≤◌, ◌⊎◌, inl, inr, sym, ◌∙◌, ap, arith}
use Rattle.std.proofs.Math.Nat.{mul-div_cancel}
use Rattle.std.proofs.lemmas.Bool.{cases_lt}
use Rattle.std.proofs.lemmas.Nat.{pow_below, pow_pos, pow-add}
use Rattle.rx_ring.specs.Switch.{mark}

-- one power of two is within a factor of two
pub power_is : (r log : ℕ) → 2 ^ r ≤ 2 ^ log → 2 ^ log < 2 * 2 ^ r → r ≡ log
power_is r log low high = by (cases_lt r log) (cases_lt log r) (cases_lt (r + 1) log)
  where
    twice : 2 ^ (r + 1) ≡ 2 * 2 ^ r
    twice = omega (arith, pow-add 2 r 1)

    by : (r < log) ⊎ (log ≤ r) → (log < r) ⊎ (r ≤ log) → (r + 1 < log) ⊎ (log ≤ r + 1) → r ≡ log
    by (inl p) _ (inl q) = absurd (omega (arith, twice, pow_below (r + 1) log q))
    by (inl p) _ (inr q) = let e : log ≡ r + 1 = omega arith in absurd (omega (arith, twice, ap (λ k. 2 ^ k) e))
    by (inr p) (inl q) _ = absurd (omega (arith, pow_below log r q))
    by (inr p) (inr q) _ = omega arith

pub half_is : (r n : ℕ) → r ≤ 12 → 2 ^ r ≡ n → 2 ^ (62 - r) ≡ 2 ^ 62 / n
half_is r n high size =
    let parts : 62 - r + r ≡ 62 = omega arith in
    let whole : 2 ^ (62 - r) * 2 ^ r ≡ 2 ^ 62 = sym (pow-add 2 (62 - r) r) ∙ ap (λ k. 2 ^ k) parts in
    sym (mul-div_cancel (2 ^ (62 - r)) (pow_pos r)) ∙ ap (λ x. x / 2 ^ r) whole ∙ ap (λ x. 2 ^ 62 / x) size

pub mark_is : (r n w : ℕ) → r ≤ 12 → 2 ^ r ≡ n → mark (2 ^ (62 - r)) (2 ^ (r + 1)) w ≡ mark (2 ^ 62 / n) (2 * n) w
mark_is r n w high size =
    let round : 2 ^ (r + 1) ≡ 2 * n = omega (arith, pow-add 2 r 1, size) in
    ap (λ e. mark e (2 ^ (r + 1)) w) (half_is r n high size) ∙ ap (λ m. mark (2 ^ 62 / n) m w) round
