-- Which sets are accepted, and the first reason where one is not.
use Rattle.std.specs.Prelude.{ℕ, ◌+◌, ◌*◌, ◌%◌, ◌^◌, ◌≡◌, ◌<◌, ◌≤◌, ◌⊎◌, ◌==◌, nat_le, nat_lt, ◌&&◌, ◌||◌, Bool, true, List, [], ◌∷◌, Option, Some, None, if◌then◌else◌, Result, Ok, Err}
use Rattle.std.specs.Option.{option_or}
use Rattle.rx_laws.specs.Decode.{plaintexts}
use Rattle.rx_params.specs.declared.params.Params.{Params}
use Rattle.rx_params.specs.declared.bounds.Bounds.{Bounds}
use Rattle.rx_params.specs.declared.bounds.Refused.{Refused}
use Rattle.rx_params.specs.declared.bounds.Refused.TheVariants.{Limit, NarrowBox, Noise}
use Rattle.rx_params.specs.declared.rotation.Rotation.{Rotation}
use Rattle.rx_params.specs.declared.rotation.Rotation.TheVariants.{Bits, Pairs}
use Rattle.rx_params.specs.Derived.{key_words, pair_words, words_by, left_of, pair_left_of, right_of, bounds_of, pair_bounds_of, bounds_by}

abbrev pub IsWithin : ℕ → ℕ → ℕ → Type 0
IsWithin low high n = (low ≤ n) × (n ≤ high)

-- the most levels of digits
abbrev pub most_levels : ℕ
most_levels = 30

-- each field is within its limit; the greatest size of a key stands apart
pub record FieldsInRange (p : Params) : Type 0 where
  pub message_bits : (p.message_bits ≡ 2) ⊎ (p.message_bits ≡ 3)
  pub glwe_dim : IsWithin 1 4 p.glwe_dim
  pub poly_size : (log : ℕ) × IsWithin 6 12 log × (p.poly_size ≡ 2 ^ log)
  pub lwe_dim : IsWithin 1 1024 p.lwe_dim
  pub pbs_base_log : IsWithin 1 24 p.pbs_base_log
  pub pbs_level : IsWithin 1 most_levels p.pbs_level × (p.pbs_base_log * p.pbs_level ≤ 60)
  pub ks_base_log : IsWithin 1 24 p.ks_base_log
  pub ks_level : IsWithin 1 most_levels p.ks_level × (p.ks_base_log * p.ks_level ≤ 60)
  pub glwe_bound : p.glwe_bound ≤ 40
  pub lwe_bound : p.lwe_bound ≤ 40

-- The set is accepted: all limits hold, a box of the table has two coefficients, and the greatest noise stays below half
-- of the unit.
pub record Accepts (p : Params) : Type 0 where
  pub fields : FieldsInRange p
  pub key : key_words p ≤ 2 ^ 24
  pub wide : 2 * plaintexts p.message_bits ≤ p.poly_size
  pub below : left_of p < right_of p

-- The set is accepted for the rotation by pairs: the bits of the small key are pairs, and the rest is that of `Accepts` with the
-- words of a pair key and the noise of its bootstraps.
pub record PairAccepts (p : Params) : Type 0 where
  pub fields : FieldsInRange p
  pub pairs : p.lwe_dim % 2 ≡ 0
  pub key : pair_words p ≤ 2 ^ 24
  pub wide : 2 * plaintexts p.message_bits ≤ p.poly_size
  pub below : pair_left_of p < right_of p

-- whether so many bits are whole turns of a rotation
abbrev pub whole_turns : Rotation → ℕ → Bool
whole_turns Bits n = true
whole_turns Pairs n = n % 2 == 0

abbrev pub is_within : ℕ → ℕ → ℕ → Bool
is_within low high n = nat_le low n && nat_le n high

abbrev pub is_poly_size : ℕ → Bool
is_poly_size n =
    (n == 64) || ((n == 128) || ((n == 256) || ((n == 512) || ((n == 1024) || ((n == 2048) || (n == 4096))))))

-- the limited numbers, in the order of the fields and the size of a key last, and whether each is within its limit
abbrev pub limited : Rotation → Params → List (ℕ × Bool)
limited rotation p =
    (p.message_bits, (p.message_bits == 2) || (p.message_bits == 3))
    ∷ (p.glwe_dim, is_within 1 4 p.glwe_dim)
    ∷ (p.poly_size, is_poly_size p.poly_size)
    ∷ (p.lwe_dim, whole_turns rotation p.lwe_dim && is_within 1 1024 p.lwe_dim)
    ∷ (p.pbs_base_log, is_within 1 24 p.pbs_base_log)
    ∷ (p.pbs_level, is_within 1 most_levels p.pbs_level && nat_le (p.pbs_base_log * p.pbs_level) 60)
    ∷ (p.ks_base_log, is_within 1 24 p.ks_base_log)
    ∷ (p.ks_level, is_within 1 most_levels p.ks_level && nat_le (p.ks_base_log * p.ks_level) 60)
    ∷ (p.glwe_bound, nat_le p.glwe_bound 40)
    ∷ (p.lwe_bound, nat_le p.lwe_bound 40)
    ∷ (words_by rotation p, nat_le (words_by rotation p) (2 ^ 24))
    ∷ []

-- the first number that is outside its limit, by the place of its field, counted on from this one
abbrev pub first_outside : ℕ → List (ℕ × Bool) → Option Refused
first_outside field [] = None
first_outside field (number ∷ numbers) =
    if number.1 then first_outside (field + 1) numbers else Some (Limit field number.0)

abbrev pub box_refusal : Params → Option Refused
box_refusal p =
    if nat_le (2 * plaintexts p.message_bits) p.poly_size then None
    else Some (NarrowBox p.poly_size (plaintexts p.message_bits))

abbrev pub noise_refusal : Bounds → Option Refused
noise_refusal bounds = if nat_lt bounds.left bounds.right then None else Some (Noise bounds.left bounds.right)

-- the first reason to refuse a set for a rotation, none where it is accepted: a limit, then a narrow box, then the noise
abbrev pub refusal_by : Rotation → Params → Option Refused
refusal_by rotation p =
    option_or (first_outside 1 (limited rotation p)) (option_or (box_refusal p) (noise_refusal (bounds_by rotation p)))

unfoldable pub refusal_of : Params → Option Refused
refusal_of p = refusal_by Bits p

unfoldable pub pair_refusal_of : Params → Option Refused
pair_refusal_of p = refusal_by Pairs p

-- the answer of a check: the first reason against a value, or else the value
abbrev pub answered : {A E : Type 0} → Option E → A → Result A E
answered None value = Ok value
answered (Some reason) value = Err reason

-- what the check of a set answers, and what the check for the rotation by pairs does
abbrev pub checked : Params → Result Bounds Refused
checked p = answered (refusal_of p) (bounds_of p)

abbrev pub pair_checked : Params → Result Bounds Refused
pair_checked p = answered (pair_refusal_of p) (pair_bounds_of p)

abbrev pub checked_by : Rotation → Params → Result Bounds Refused
checked_by rotation p = answered (refusal_by rotation p) (bounds_by rotation p)
