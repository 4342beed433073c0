-- A worked bootstrap by a pair of bits, computed by the definitions.
use Rattle.std.proofs.Common.{◌≡◌, ◌*◌, ◌^◌, ℕ, List, [], ◌∷◌, ◌++◌, refl, replicate}
use Rattle.rx_laws.specs.Sum.{sum_to}
use Rattle.rx_laws.specs.Torus.{word}
use Rattle.rx_laws.specs.Digits.{rests, digit}
use Rattle.rx_ring.specs.Polynomial.{turned, product, turns}
use Rattle.rx_ring.specs.Glwe.{external, extracted}
use Rattle.rx_ring.specs.Accumulator.{accumulator}
use Rattle.rx_ring.specs.Switch.{switched, switched_by}
use Rattle.rx_ring.specs.Rotation.{turn}
use Rattle.rx_ring.specs.Pairs.{one_rows, pair_bit, pair_amount, pair_rows, pair_turn}
use Rattle.rx_params.specs.declared.params.Params.{Params}
use Rattle.rx_params.specs.Derived.{large_dim}
use Rattle.rx_params.specs.Sets.{set_of, rx_test}
use Rattle.rx_multi.specs.PairKeys.{PairWords, pair_size, pair_bits}
use Rattle.rx_multi.specs.PairBootstrap.{pair_bootstrapped}

size : pair_size rx_test ≡ 24576
size = refl

-- of the bits 1 and 0 the first stands without the second, and of 1 and 1 both stand
products : pair_bits (1 ∷ 0 ∷ 1 ∷ 1 ∷ []) ≡ 1 ∷ 0 ∷ 0 ∷ 0 ∷ 0 ∷ 1 ∷ []
unfolding pair_bits pair_bit
products = refl

-- ---- A toy: polynomials of 8 coefficients, two bits in the small key, one message bit. A table has 4 numbers, each fills a box of
-- two coefficients, and the 16 marks lie 2 ^ 60 apart. Digits have three bits in the bootstrap and one in the key switch.
abbrev toy : Params
toy = set_of 1 1 8 2 3 1 1 1 0 0

-- the encryptions, without masks and noise, of the three products: each row of the one that is 1 holds its weight in one
-- polynomial, and all other words are 0
abbrev none : List ℕ
none = replicate 32 0

abbrev one : List ℕ
one = (2 ^ 61) ∷ (replicate 23 0 ++ (2 ^ 61) ∷ replicate 7 0)

-- the first word of a mask counts for a mask of two marks and of one, the others for nothing
abbrev toy_key : List ℕ → PairWords
toy_key rows = record { params = toy; rows = rows; switch = (2 ^ 61) ∷ (2 ^ 60) ∷ replicate 22 0 }

-- The mask word 2 ^ 63 has the digit -1, so the switched masks are two marks and one. Of the bits 1 and 1 both count: the body is
-- seven marks, the phase four, the middle of box 2, whose entry is 3.
both_bits : pair_bootstrapped (toy_key (none ++ none ++ one)) (1 ∷ 2 ∷ 3 ∷ 0 ∷ []) ((2 ^ 63) ∷ (replicate 7 0 ++ (7 * 2 ^ 60) ∷ []))
    ≡ replicate 8 0 ++ (3 * 2 ^ 61) ∷ []
unfolding pair_bootstrapped large_dim extracted pair_turn pair_rows one_rows pair_amount turn turns turned external product accumulator switched switched_by digit rests sum_to word
both_bits = refl

-- of the bits 0 and 1 the second alone: of the body, seven marks, six are left, box 3, whose entry is 0
second_bit : pair_bootstrapped (toy_key (none ++ one ++ none)) (1 ∷ 2 ∷ 3 ∷ 0 ∷ []) ((2 ^ 63) ∷ (replicate 7 0 ++ (7 * 2 ^ 60) ∷ []))
    ≡ replicate 9 0
unfolding pair_bootstrapped large_dim extracted pair_turn pair_rows one_rows pair_amount turn turns turned external product accumulator switched switched_by digit rests sum_to word
second_bit = refl
