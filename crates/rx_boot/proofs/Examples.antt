-- A worked bootstrap and worked sizes, computed by the definitions.
use Rattle.std.proofs.Common.{◌≡◌, ◌+◌, ◌-◌, ◌*◌, ◌^◌, ℕ, pos, neg_ℤ, List, [], ◌∷◌, ◌++◌, refl, arith, replicate}
use Rattle.rx_laws.specs.Sum.{sum_to}
use Rattle.rx_laws.specs.Torus.{word, distance}
use Rattle.rx_laws.specs.Lwe.{lwe_phase}
use Rattle.rx_laws.specs.Decode.{unit}
use Rattle.rx_laws.specs.Digits.{rests, digit}
use Rattle.rx_ring.specs.Polynomial.{turned, product, turns}
use Rattle.rx_ring.specs.Glwe.{external, extracted}
use Rattle.rx_ring.specs.Accumulator.{accumulator}
use Rattle.rx_ring.specs.Switch.{switched, switched_by}
use Rattle.rx_ring.specs.Rotation.{turn}
use Rattle.rx_params.specs.declared.params.Params.{Params}
use Rattle.rx_params.specs.Derived.{large_dim, rest_of, step_of, boot_of, base_of}
use Rattle.rx_params.specs.Sets.{set_of, rx_2_2, rx_test}
use Rattle.rx_boot.specs.BootKeys.{ggsw_row_count, boot_row_count, boot_size, boot_rows, row_hidden}
use Rattle.rx_boot.specs.ServerKeys.{ServerWords}
use Rattle.rx_lwe.specs.Seeded.{switch_bodies}
use Rattle.rx_boot.specs.Seeded.{body_size, boot_bodies, key_bodies}
use Rattle.rx_boot.specs.Noise.{IsNear, input_noise}
use Rattle.rx_boot.specs.Bootstrap.{half_box, half_mark, bootstrapped}

sizes : (ggsw_row_count rx_test ≡ 4) × (boot_row_count rx_test ≡ 32) × (boot_size rx_test ≡ 16384)
sizes = (refl, refl, refl)

halves : (half_box rx_test ≡ 8) × (half_mark rx_test ≡ 2 ^ 54)
halves = (refl, refl)

-- ---- A toy: polynomials of 8 coefficients, one bit in the small key, one message bit. A table has 4 numbers, each fills a box of two
-- coefficients, and the 16 marks lie 2 ^ 60 apart. Digits have three bits in the bootstrap and one in the key switch.
abbrev toy : Params
toy = set_of 1 1 8 1 3 1 1 1 0 0

-- the encryption of the bit 1 without masks and noise: each row holds its weight in one polynomial
abbrev toy_rows : List ℕ
toy_rows = (2 ^ 61) ∷ (replicate 23 0 ++ (2 ^ 61) ∷ replicate 7 0)

-- the first word of a mask counts for a mask word of two marks, the others for nothing
abbrev toy_switch : List ℕ
toy_switch = (2 ^ 61) ∷ replicate 15 0

abbrev toy_key : ServerWords
toy_key = record { params = toy; boot = toy_rows; switch = toy_switch }

toy_places : (boot_rows toy toy_rows 0 0 0 0 0 ≡ pos (2 ^ 61)) × (boot_rows toy toy_rows 0 1 0 0 0 ≡ pos 0) × (boot_rows toy toy_rows 0 1 0 1 0 ≡ pos (2 ^ 61))
toy_places = (refl, refl, refl)

-- what the rows of the bit 1 hide under the key polynomial X: less the key, and 1, each times 2 ^ 61
toy_hidden : (row_hidden toy (1 ∷ []) (0 ∷ 1 ∷ []) 0 0 0 1 ≡ neg_ℤ (pos (2 ^ 61))) × (row_hidden toy (1 ∷ []) (0 ∷ 1 ∷ []) 0 1 0 0 ≡ pos (2 ^ 61)) × (row_hidden toy (1 ∷ []) (0 ∷ 1 ∷ []) 0 1 0 1 ≡ pos 0)
toy_hidden = (refl, refl, refl)

-- The mask word 2 ^ 63 has the digit -1, so the switched mask word is two marks. The body is six marks, the phase four: the
-- middle of box 2, whose entry is 3.
entry_two : bootstrapped toy_key (1 ∷ 2 ∷ 3 ∷ 0 ∷ []) ((2 ^ 63) ∷ (replicate 7 0 ++ (6 * 2 ^ 60) ∷ [])) ≡ replicate 8 0 ++ (3 * 2 ^ 61) ∷ []
unfolding bootstrapped large_dim extracted turn turns turned external product accumulator switched switched_by digit rests sum_to word
entry_two = refl

-- half a box below 0 the entry is still the first: the phase is less than a mark below 0
entry_below : bootstrapped toy_key (1 ∷ 2 ∷ 3 ∷ 0 ∷ []) (replicate 8 0 ++ (15 * 2 ^ 60 + 2 ^ 58) ∷ []) ≡ replicate 8 0 ++ (2 ^ 61) ∷ []
unfolding bootstrapped large_dim extracted turn turns turned external product accumulator switched switched_by digit rests sum_to word
entry_below = refl

-- ---- the greatest noise of an input: five times the base noise
greatest_noise : input_noise rx_2_2 ≡ 33908938600611840
unfolding rest_of step_of boot_of base_of
greatest_noise = refl

-- under the key bits 1 and 0 the mask word 7 is taken off the body, which leaves 3 and the noise -1000
near : IsNear rx_test (1 ∷ 0 ∷ []) (7 ∷ 9 ∷ (3 * unit 2 + 7 - 1000) ∷ []) 3 1000
unfolding lwe_phase sum_to word distance
near = omega arith

-- ---- bodies: 8,192 words of bootstrapping rows and 1,536 of switch rows; of a toy the second word of each row
body_count : body_size rx_test ≡ 9728
unfolding large_dim
body_count = refl

abbrev few_words : ServerWords
few_words = record { params = set_of 2 1 1 1 1 1 1 1 0 0; boot = 1 ∷ 2 ∷ 3 ∷ 4 ∷ []; switch = 5 ∷ 6 ∷ [] }

few_bodies : key_bodies few_words ≡ 2 ∷ 4 ∷ 6 ∷ []
unfolding large_dim boot_bodies switch_bodies
few_bodies = refl
