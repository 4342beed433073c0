-- Numbers of digits, items of lines, and what a client reads, computed by the definitions.
use Rattle.std.proofs.Common.{◌≡◌, ◌+◌, ◌-◌, ◌*◌, ◌^◌, ℕ, List, [], ◌∷◌, ◌++◌, Some, None, refl, replicate}
use Rattle.std.specs.Fmt.{digits}
use Rattle.std.specs.Prelude.{codes}
use Rattle.rx_laws.specs.Sum.{sum_to}
use Rattle.rx_laws.specs.Torus.{word}
use Rattle.rx_laws.specs.Lwe.{lwe_phase}
use Rattle.rx_laws.specs.Decode.{unit}
use Rattle.rx_params.specs.declared.kind.Kind.{Kind}
use Rattle.rx_params.specs.declared.kind.Kind.TheVariants.{Int, Bit}
use Rattle.rx_params.specs.Sets.{rx_test}
use Rattle.rx_block.specs.declared.block.Block.{Block}
use Rattle.rx_block.specs.Fresh.{fresh}
use Rattle.rx_circuit.specs.declared.values.ValueLine.{ValueLine}
use Rattle.rx_codec.specs.declared.cipher.Item.{Item}
use Rattle.rx_client.specs.Encrypt.{line_digits, line_blocks, line_item, items_from, encrypted_values, first_width}
use Rattle.rx_net.specs.Numbers.{number_of}
use Rattle.rx_client.specs.Decrypt.{named_line, item_lines, first_damage, kept_lines}

-- ---- the number of some digits: 200, and the greatest numbers of 63 and of 64 bits
numbers : (number_of 2 (0 ∷ 2 ∷ 0 ∷ 3 ∷ []) ≡ 200) × (number_of 3 (replicate 21 7) ≡ 2 ^ 63 - 1) × (number_of 2 (replicate 32 3) ≡ 2 ^ 64 - 1) × (number_of 2 [] ≡ 0)
numbers = (refl, refl, refl, refl)

greatest_line : named_line (codes "a") (2 ^ 64 - 1) ≡ codes "a 18446744073709551615" ++ 10 ∷ []
unfolding digits
greatest_line = refl

-- ---- lines as items: `nine` has two blocks, so the block of `on` has the number 2
abbrev line : Kind → List ℕ → ℕ → ℕ → ValueLine
line kind name bits value = record { kind = kind; name = name; bits = bits; value = value }

abbrev nine : ValueLine
nine = line Int (codes "nine") 4 9

abbrev on : ValueLine
on = line Bit (codes "on") 1 1

-- the digits of 9 in 4 bits, of 200 in 9 bits, and of a bit
digits_of_lines : (line_digits 2 nine ≡ 1 ∷ 2 ∷ []) × (line_digits 3 (line Int (codes "most") 9 200) ≡ 0 ∷ 1 ∷ 3 ∷ []) × (line_digits 2 on ≡ 1 ∷ [])
digits_of_lines = (refl, refl, refl)

nine_blocks : line_blocks rx_test [] [] [] 5 nine ≡ fresh rx_test [] [] [] 5 Int 1 ∷ fresh rx_test [] [] [] 6 Int 2 ∷ []
nine_blocks = refl

items : items_from rx_test [] [] [] 0 (nine ∷ on ∷ []) ≡ line_item rx_test [] [] [] 0 nine ∷ line_item rx_test [] [] [] 2 on ∷ []
items = refl

no_lines : encrypted_values rx_test [] [] [] [] ≡ record { params = rx_test; items = [] }
unfolding encrypted_values
no_lines = refl

-- blocks of two bits make up 4 bits and not 9, blocks of three 9 and not 4; a bit is always a block
widths : (first_width 2 (on ∷ nine ∷ line Int (codes "odd") 9 0 ∷ []) ≡ Some (line Int (codes "odd") 9 0)) × (first_width 3 (on ∷ line Int (codes "odd") 9 0 ∷ nine ∷ []) ≡ Some nine) × (first_width 2 (on ∷ nine ∷ []) ≡ None)
widths = (refl, refl, refl)

-- ---- blocks of a number and a little noise, under the key bits 1 and 0: the mask word 7 is taken off the body
abbrev key : List ℕ
key = 1 ∷ 0 ∷ []

abbrev block : ℕ → ℕ → Block
block number degree = record { words = 7 ∷ 9 ∷ (number * unit 2 + 7 + 1000) ∷ []; degree = degree; noise = 1 }

abbrev item : Kind → List ℕ → ℕ → List Block → Item
item kind name bits blocks = record { name = name; kind = kind; bits = bits; blocks = blocks }

lines : item_lines rx_test key (item Int (codes "nine") 4 (block 1 3 ∷ block 2 3 ∷ []) ∷ item Bit (codes "on") 1 (block 1 1 ∷ []) ∷ []) ≡ codes "nine 9" ++ 10 ∷ codes "on 1" ++ 10 ∷ []
unfolding digits lwe_phase sum_to word
lines = refl

-- the first block that exceeds its degree is told by its place in its item
damage : first_damage rx_test key (item Bit (codes "on") 1 (block 1 1 ∷ []) ∷ item Int (codes "nine") 4 (block 1 3 ∷ block 2 1 ∷ []) ∷ []) ≡ Some (record { name = codes "nine"; block = 1; decoded = 2; degree = 1 })
unfolding lwe_phase sum_to word
damage = refl

no_damage : first_damage rx_test key (item Int (codes "nine") 4 (block 1 3 ∷ block 2 2 ∷ []) ∷ []) ≡ None
unfolding lwe_phase sum_to word
no_damage = refl

-- the same lines from the digits
kept : kept_lines 2 (item Int (codes "nine") 4 [] ∷ item Bit (codes "on") 1 [] ∷ []) ((1 ∷ 2 ∷ []) ∷ (1 ∷ []) ∷ []) ≡ codes "nine 9" ++ 10 ∷ codes "on 1" ++ 10 ∷ []
unfolding digits
kept = refl
