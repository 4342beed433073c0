-- Worked values of the definitions, by computation.
use Rattle.std.proofs.Common.{◌≡◌, ◌+◌, ◌-◌, ◌*◌, ◌/◌, ◌^◌, pos, negsuc, refl, [], ◌∷◌}
use Rattle.rx_laws.specs.Sum.{sum_to}
use Rattle.rx_laws.specs.Torus.{word, distance}
use Rattle.rx_laws.specs.Digits.{rounded, digits_total}
use Rattle.rx_laws.specs.Words.{of_words, of_numbers, words_below}
use Rattle.rx_laws.specs.Lwe.{lwe_phase, lwe_hiding}
use Rattle.rx_laws.specs.Decode.{plaintexts, unit, decoded}

minus_one : word (negsuc 0) ≡ 0xFFFF_FFFF_FFFF_FFFF
unfolding word
minus_one = refl

near : distance (negsuc 4) ≡ 5
unfolding word distance
near = refl

-- the phase of the mask (2 ^ 63, 3) and the body 1 under the bits 1 and 1
phase : word (lwe_phase 2 (of_words (1 ∷ 1 ∷ [])) (of_words (2 ^ 63 ∷ 3 ∷ 1 ∷ []))) ≡ 9223372036854775806
unfolding lwe_phase sum_to word
phase = refl

-- the body that hides 5 under the noise -2 with that mask and these bits
hidden_body : word (lwe_hiding 2 (of_words (1 ∷ 1 ∷ [])) (of_words (2 ^ 63 ∷ 3 ∷ [])) (pos 5) (negsuc 1) 2) ≡ 9223372036854775814
unfolding lwe_hiding sum_to word
hidden_body = refl

one : unit 2 ≡ 576460752303423488
one = refl

half_goes_up : decoded 2 (3 * unit 2 - unit 2 / 2) ≡ 3
half_goes_up = refl

below_half : decoded 2 (3 * unit 2 - unit 2 / 2 - 1) ≡ 2
below_half = refl

just_below_zero : decoded 2 (2 ^ 64 - 1) ≡ 0
just_below_zero = refl

-- ---- three message bits
three_bits : (plaintexts 3 ≡ 64) × (unit 3 ≡ 2 ^ 57) × (decoded 3 (127 * unit 3) ≡ 127) × (decoded 3 (127 * unit 3 + unit 3 / 2) ≡ 0)
three_bits = (refl, refl, refl, refl)

-- ---- numbers as words
as_words : words_below 3 (of_numbers (pos 5 ∷ negsuc 0 ∷ pos (2 ^ 64) ∷ [])) ≡ 5 ∷ 0xFFFF_FFFF_FFFF_FFFF ∷ 0 ∷ []
unfolding word
as_words = refl

-- the digits 1 and -2047 of 12 bits stand for 2049 times 2 ^ 40, which is rounded to itself
digits_stand : (word (digits_total 12 2 (of_numbers (pos 1 ∷ negsuc 2046 ∷ []))) ≡ 0x0008_0100_0000_0000) × (rounded 0x0008_0100_0000_0000 24 ≡ 0x0008_0100_0000_0000)
unfolding sum_to word
digits_stand = (refl, refl)
