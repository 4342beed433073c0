-- Worked sizes, external products and extractions over lists, computed by the definitions.
use Rattle.std.proofs.Common.{◌≡◌, ◌-◌, ◌*◌, ◌^◌, pos, negsuc, List, ℕ, [], ◌∷◌, refl}
use Rattle.rx_laws.specs.Sum.{sum_to}
use Rattle.rx_laws.specs.Torus.{word}
use Rattle.rx_laws.specs.Digits.{rests, digit}
use Rattle.rx_ring.specs.Polynomial.{turned, product}
use Rattle.rx_ring.specs.Parts.{of_parts}
use Rattle.rx_ring.specs.Glwe.{external, extracted}
use Rattle.rx_params.specs.declared.params.Params.{Params}
use Rattle.rx_params.specs.Derived.{large_dim}
use Rattle.rx_params.specs.Sets.{set_of, rx_test, rx_k2}
use Rattle.rx_glwe.specs.Sizes.{glwe_size, ggsw_size}
use Rattle.rx_glwe.specs.External.{ggsw_rows, glwe_digits, external_of, extracted_words}
use Rattle.rx_glwe.specs.Levels.{levels_added}

sizes : (glwe_size rx_test ≡ 512) × (ggsw_size rx_test ≡ 2048) × (glwe_size rx_k2 ≡ 768) × (ggsw_size rx_k2 ≡ 4608)
sizes = (refl, refl, refl, refl)

-- ---- polynomials of two coefficients, one mask polynomial, one level of digits of three bits
abbrev toy : Params
toy = set_of 1 1 2 1 3 1 1 1 0 0

-- the encryption of the bit 1 without masks and noise: each row holds 2 ^ 61 in one polynomial
abbrev one : List ℕ
one = (2 ^ 61) ∷ 0 ∷ 0 ∷ 0 ∷ 0 ∷ 0 ∷ (2 ^ 61) ∷ 0 ∷ []

places : (ggsw_rows toy one 0 0 0 0 ≡ pos (2 ^ 61)) × (ggsw_rows toy one 1 0 1 0 ≡ pos (2 ^ 61)) × (ggsw_rows toy one 1 0 0 0 ≡ pos 0)
places = (refl, refl, refl)

-- the mask 5 + X and the body 2 + 7 X, each times 2 ^ 61, and a little that is rounded away
abbrev input : List ℕ
input = (5 * 2 ^ 61) ∷ (2 ^ 61) ∷ (2 ^ 62 - 1) ∷ (7 * 2 ^ 61) ∷ []

input_digits : (glwe_digits toy (of_parts 2 input) 0 0 0 ≡ negsuc 2) × (glwe_digits toy (of_parts 2 input) 1 0 0 ≡ pos 2) × (glwe_digits toy (of_parts 2 input) 1 0 1 ≡ negsuc 0)
unfolding digit rests word
input_digits = (refl, refl, refl)

gives_back : (word (external_of toy one input 0 0) ≡ 5 * 2 ^ 61) × (word (external_of toy one input 0 1) ≡ 2 ^ 61) × (word (external_of toy one input 1 0) ≡ 2 ^ 62) × (word (external_of toy one input 1 1) ≡ 7 * 2 ^ 61)
unfolding external product sum_to turned digit rests word
gives_back = (refl, refl, refl, refl)

-- the mask 1 + 2 X and the body 7 + 8 X: the mask of coefficient 0 is (1, -2)
extracts : extracted_words toy (1 ∷ 2 ∷ 7 ∷ 8 ∷ []) ≡ 1 ∷ (2 ^ 64 - 2) ∷ 7 ∷ []
unfolding large_dim extracted turned word
extracts = refl

-- the digits 1 - 2 X times the second polynomial of a row, 3 X, are 6 + 3 X
added : (levels_added toy (pos 1 ∷ negsuc 1 ∷ []) (9 ∷ 9 ∷ 0 ∷ 3 ∷ []) (10 ∷ 20 ∷ 30 ∷ 40 ∷ []) 1 1 0 ≡ pos 36) × (levels_added toy (pos 1 ∷ negsuc 1 ∷ []) (9 ∷ 9 ∷ 0 ∷ 3 ∷ []) (10 ∷ 20 ∷ 30 ∷ 40 ∷ []) 1 1 1 ≡ pos 43) × (levels_added toy [] [] (10 ∷ 20 ∷ 30 ∷ 40 ∷ []) 0 0 1 ≡ pos 20)
unfolding levels_added product sum_to turned
added = (refl, refl, refl)
