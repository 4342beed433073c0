-- Worked sums, lookups and readings of blocks, computed by the definitions.
use Rattle.std.proofs.Common.{◌≡◌, ◌+◌, ◌-◌, ◌*◌, ◌^◌, ℕ, ℤ, pos, negsuc, List, [], ◌∷◌, Ok, Err, refl, arith, zero, suc, ◌<◌, get_or}
use Rattle.std.specs.List.{range_with_len}
use Rattle.rx_laws.specs.Sum.{sum_to}
use Rattle.rx_laws.specs.Torus.{word, distance}
use Rattle.rx_laws.specs.Lwe.{lwe_phase}
use Rattle.rx_laws.specs.Decode.{unit}
use Rattle.rx_params.specs.declared.params.Params.{Params}
use Rattle.rx_params.specs.declared.kind.Kind.TheVariants.{Int, Bit}
use Rattle.rx_params.specs.Derived.{large_dim, rest_of, step_of, boot_of, base_of}
use Rattle.rx_params.specs.Sets.{set_of, rx_test}
use Rattle.rx_net.specs.declared.term.Term.{Term}
use Rattle.rx_net.specs.Tags.{greatest_of, greatest_between}
use Rattle.rx_block.specs.declared.block.Block.{Block}
use Rattle.rx_block.specs.declared.block.TagFault.TheVariants.{Range, Noise}
use Rattle.rx_block.specs.Fresh.{fresh}
use Rattle.rx_block.specs.Combine.{no_block, combined}
use Rattle.rx_block.specs.Keeps.{Keeps, AreKept, decrypted}
use Rattle.rx_block.specs.Lookup.{looked_up}

-- ---- sums of two blocks of two words: one of the degree 3 and the noise tag 1, one of the degree 1 and the noise tag 3
abbrev two_words : Params
two_words = set_of 2 1 1 1 1 1 1 1 0 0

abbrev blocks : List Block
blocks =
    record { words = 7 ∷ 100 ∷ []; degree = 3; noise = 1 }
    ∷ record { words = 2 ∷ 30 ∷ []; degree = 1; noise = 3 } ∷ []

abbrev term : ℕ → ℤ → Term
term cell weight = record { cell = cell; weight = weight }

-- the first block less the second and a unit more: words modulo 2 ^ 64, numbers from 0 to 4
difference : combined two_words blocks (term 0 (pos 1) ∷ term 1 (negsuc 0) ∷ []) (pos 1) ≡ Ok (record { words = 5 ∷ (70 + unit 2) ∷ []; degree = 4; noise = 4 })
unfolding large_dim sum_to word
difference = refl

negative_word : combined two_words blocks (term 1 (negsuc 0) ∷ []) (pos 1) ≡ Ok (record { words = (2 ^ 64 - 2) ∷ (unit 2 - 30) ∷ []; degree = 1; noise = 3 })
unfolding large_dim sum_to word
negative_word = refl

-- a sum without terms is the constant, with the noise tag 0
constant : combined two_words blocks [] (pos 15) ≡ Ok (record { words = 0 ∷ (15 * unit 2) ∷ []; degree = 15; noise = 0 })
unfolding large_dim sum_to word
constant = refl

fives : combined rx_test (record { words = []; degree = 3; noise = 1 } ∷ []) (term 0 (pos 6) ∷ []) (pos 0) ≡ Err (Range (pos 0) (pos 18))
fives = refl

above : combined two_words blocks [] (pos 16) ≡ Err (Range (pos 16) (pos 16))
above = refl

below : combined two_words blocks (term 0 (negsuc 0) ∷ []) (pos 2) ≡ Err (Range (negsuc 0) (pos 2))
below = refl

-- the noise is tried after the range, and counts each weight by its size
loud : combined two_words blocks (term 1 (negsuc 1) ∷ []) (pos 2) ≡ Err (Noise 6)
loud = refl

-- ---- tags of fresh blocks and of a lookup
abbrev degree_of : Block → ℕ
degree_of b = b.degree

abbrev noise_of_block : Block → ℕ
noise_of_block b = b.noise

fresh_tags : (degree_of (fresh rx_test [] [] [] 0 Int 2) ≡ 3) × (degree_of (fresh rx_test [] [] [] 0 Bit 1) ≡ 1) × (noise_of_block (fresh rx_test [] [] [] 0 Int 2) ≡ 1)
unfolding fresh
fresh_tags = (refl, refl, refl)

lookup_tags : (degree_of (looked_up (record { params = rx_test; boot = []; switch = [] }) (range_with_len 1 16) (record { words = []; degree = 3; noise = 5 })) ≡ 4) × (noise_of_block (looked_up (record { params = rx_test; boot = []; switch = [] }) (range_with_len 1 16) (record { words = []; degree = 3; noise = 5 })) ≡ 1)
unfolding greatest_between greatest_of
lookup_tags = (refl, refl)

-- ---- a block of 3 and a little noise, under the key bits 1 and 0: the mask word 7 is taken off the body
abbrev noisy : ℕ → Block
noisy degree = record { words = 7 ∷ 9 ∷ (3 * unit 2 + 7 + 1000) ∷ []; degree = degree; noise = 1 }

read_back : decrypted rx_test (1 ∷ 0 ∷ []) (noisy 3) ≡ Ok 3
unfolding lwe_phase sum_to word
read_back = refl

above_degree : decrypted rx_test (1 ∷ 0 ∷ []) (noisy 2) ≡ Err (record { decoded = 3; degree = 2 })
unfolding lwe_phase sum_to word
above_degree = refl

-- ---- the block keeps 3
keeps : Keeps rx_test (1 ∷ 0 ∷ []) (noisy 3) 3
unfolding lwe_phase sum_to word distance rest_of step_of boot_of base_of
keeps = record { value = omega arith; degree = omega arith; noise = omega arith; near = omega arith }

each_keeps : (c : ℕ) → c < 1 → Keeps rx_test (1 ∷ 0 ∷ []) (get_or (noisy 3 ∷ []) c no_block) (get_or (3 ∷ []) c 0)
each_keeps zero p = keeps
each_keeps (suc c) p = absurd (omega (arith, p))

list_keeps : AreKept rx_test (1 ∷ 0 ∷ []) (noisy 3 ∷ []) (3 ∷ [])
list_keeps = record { count = refl; each = each_keeps }
