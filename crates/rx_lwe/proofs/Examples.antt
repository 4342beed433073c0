-- Worked phases, switch keys and switched ciphertexts, computed by the definitions.
use Rattle.std.proofs.Common.{◌≡◌, ◌^◌, pos, [], ◌∷◌, refl}
use Rattle.rx_laws.specs.Sum.{sum_to}
use Rattle.rx_laws.specs.Torus.{word}
use Rattle.rx_laws.specs.Digits.{rests, digit}
use Rattle.rx_laws.specs.Lwe.{lwe_phase}
use Rattle.rx_ring.specs.Switch.{switched, switched_by}
use Rattle.rx_params.specs.Derived.{large_dim}
use Rattle.rx_params.specs.Sets.{set_of, rx_test}
use Rattle.rx_lwe.specs.Lwe.{phase_of}
use Rattle.rx_lwe.specs.Seeded.{row_bodies}
use Rattle.rx_lwe.specs.SwitchKeys.{SwitchRows, switch_rows, switched_words, switch_size, switch_key}

-- the mask (2 ^ 63, 3) and the body 1 under the key bits 1 and 1
phase : phase_of (1 ∷ 1 ∷ []) ((2 ^ 63) ∷ 3 ∷ 1 ∷ []) ≡ 9223372036854775806
unfolding lwe_phase sum_to word
phase = refl

sizes : switch_size rx_test ≡ 13824
unfolding large_dim
sizes = refl

-- ---- a switch from two bits to one, of two levels of digits of one bit: four rows of two words
abbrev rows : SwitchRows
rows = switch_key (set_of 2 1 2 1 3 1 1 2 0 0) (10 ∷ 11 ∷ 20 ∷ 21 ∷ 30 ∷ 31 ∷ 40 ∷ 41 ∷ [])

row_places : (switch_rows rows 0 0 0 ≡ pos 10) × (switch_rows rows 0 1 1 ≡ pos 21) × (switch_rows rows 1 0 0 ≡ pos 30) × (switch_rows rows 1 1 1 ≡ pos 41)
unfolding large_dim
row_places = (refl, refl, refl, refl)

-- 2 ^ 62 is 2 ^ 63 - 2 ^ 62, and with the carry dropped the digits are -1 and -1; 2 ^ 63 has the digits -1 and 0
switched_down : switched_words rows ((2 ^ 62) ∷ (2 ^ 63) ∷ 1000 ∷ []) ≡ 60 ∷ 1063 ∷ []
unfolding large_dim switched switched_by digit rests sum_to word
switched_down = refl

-- two rows of a mask and a body, and of a mask and a body of two words
bodies : (row_bodies 1 1 2 (1 ∷ 2 ∷ 3 ∷ 4 ∷ []) ≡ 2 ∷ 4 ∷ []) × (row_bodies 1 2 2 (1 ∷ 2 ∷ 3 ∷ 4 ∷ 5 ∷ 6 ∷ []) ≡ 2 ∷ 3 ∷ 5 ∷ 6 ∷ [])
bodies = (refl, refl)
