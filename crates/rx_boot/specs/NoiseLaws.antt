-- The budget of noise of a set, and the law of its bootstrap, as a contract can name them.
use Rattle.std.specs.Prelude.{ℕ, ◌+◌, ◌*◌, ◌^◌, ◌<◌, ◌≡◌, List}
use Rattle.rx_laws.specs.Decode.{plaintexts, unit}
use Rattle.rx_ring.specs.Noise.{turn_bound, switch_bound}
use Rattle.rx_params.specs.declared.params.Params.{Params}
use Rattle.rx_params.specs.Acceptance.{FieldsInRange, Accepts}
use Rattle.rx_params.specs.Derived.{large_dim, step_of, boot_of, switch_of, round_of, left_of, right_of}
use Rattle.rx_boot.specs.ServerKeys.{ServerWords}
use Rattle.rx_boot.specs.Bootstrap.{half_box, half_mark, bootstrapped}
use Rattle.rx_boot.specs.Noise.{input_noise, LooksUp}

-- What acceptance says of the powers of two: the boxes of the table fill a polynomial, the marks go once round the torus, and a
-- box of marks is the unit. The sums of a set are the bounds of the laws, and what reaches the table stays below half a box.
pub record BudgetLaws : Type 0 where
  pub boxes : (p : Params) → Accepts p → plaintexts p.message_bits * (2 * half_box p) ≡ p.poly_size
  pub marks : (p : Params) → FieldsInRange p → 2 * half_mark p * (2 * p.poly_size) ≡ 2 ^ 64
  pub units : (p : Params) → Accepts p → 2 * half_mark p * (2 * half_box p) ≡ unit p.message_bits
  pub half : (p : Params) → Accepts p → 2 * half_mark p * half_box p ≡ right_of p
  pub step : (p : Params) → step_of p ≡ turn_bound p.poly_size p.glwe_dim p.pbs_base_log p.pbs_level (2 ^ p.glwe_bound)
  pub boot : (p : Params) → boot_of p ≡ p.lwe_dim * turn_bound p.poly_size p.glwe_dim p.pbs_base_log p.pbs_level (2 ^ p.glwe_bound)
  pub switch : (p : Params) → switch_of p ≡ switch_bound (large_dim p) p.ks_base_log p.ks_level (2 ^ p.lwe_bound)
  pub round : (p : Params) → round_of p ≡ (p.lwe_dim + 1) * half_mark p
  pub left : (p : Params) → left_of p ≡ input_noise p + switch_of p + round_of p
  pub room : (p : Params) → Accepts p → left_of p < 2 * half_mark p * half_box p

-- Under an accepted set a bootstrap looks its input up.
pub record LookupLaws : Type 0 where
  pub looks_up : (key : ServerWords) (table input : List ℕ) → Accepts key.params →
      LooksUp key table input (bootstrapped key table input)
