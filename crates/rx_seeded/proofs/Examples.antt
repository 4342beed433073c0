-- Worked values of the definitions, computed.
use Rattle.std.proofs.Common.{◌≡◌, ℕ, List, [], ◌∷◌, length, Some, None, Ok, Err, refl}
use Rattle.std.specs.Prelude.{codes, replicate}
use Rattle.rx_params.specs.declared.kind.Kind.TheVariants.{Int}
use Rattle.rx_params.specs.Acceptance.{refusal_of}
use Rattle.rx_params.specs.Derived.{large_dim, key_words, rest_of, step_of, boot_of, base_of, switch_of, round_of, left_of}
use Rattle.rx_params.specs.Sets.{rx_test, set_of}
use Rattle.rx_codec.specs.declared.cipher.Item.{Item}
use Rattle.rx_codec.specs.declared.cipher.Cipher.{Cipher}
use Rattle.rx_codec.specs.declared.fault.CodecFault.TheVariants.{Short, Magic}
use Rattle.rx_codec.specs.ParamsFields.{fields_at, params_at}
use Rattle.rx_codec.specs.CipherFile.{item_bytes}
use Rattle.rx_seeded.specs.declared.kind.FileKind.TheVariants.{SeededServer as IsSeededServer, Net as IsNet, Pairs as IsPairs, Cipher as IsCipherFile}
use Rattle.rx_seeded.specs.FileKinds.{kind_of}
use Rattle.rx_seeded.specs.Masks.{first_unlike}
use Rattle.rx_seeded.specs.SeededServer.{seeded_server_from}
use Rattle.rx_seeded.specs.SeededCipher.{short_item, seeded_cipher_bytes, bodies_from, seeded_cipher_from}

kinds : (kind_of (codes "RXS2 and more") ≡ Some IsSeededServer) × (kind_of (codes "RXE1") ≡ Some IsCipherFile)
    × (kind_of (codes "RXN1") ≡ Some IsNet) × (kind_of (codes "RXM1") ≡ Some IsPairs) × (kind_of (codes "RXN") ≡ None) × (kind_of (codes "RXF1") ≡ None)
kinds = (refl, refl, refl, refl, refl, refl)

-- the second word differs, and stands at 52
unlike : (first_unlike 44 (1 ∷ 2 ∷ 3 ∷ []) (1 ∷ 9 ∷ 8 ∷ []) ≡ Some 52) × (first_unlike 44 (1 ∷ 2 ∷ []) (1 ∷ 2 ∷ []) ≡ None)
unlike = (refl, refl)

-- of a block of two words the body, 6, is left
item : Item
item = record { name = codes "a"; kind = Int; bits = 2; blocks = record { words = 5 ∷ 6 ∷ []; degree = 3; noise = 1 } ∷ [] }

bodies_spelled : item_bytes (short_item (set_of 2 1 1 1 1 1 1 1 0 0) item) ≡ 1 ∷ 97 ∷ 0 ∷ 2 ∷ 3 ∷ 1 ∷ 6 ∷ replicate 7 0
unfolding item large_dim
bodies_spelled = refl

-- ---- the file of no items
abbrev no_items : Cipher
no_items = record { params = rx_test; items = [] }

abbrev ones : List ℕ
ones = replicate 32 17

no_items_size : length (seeded_cipher_bytes ones no_items) ≡ 80
no_items_size = refl

no_items_read : seeded_cipher_from (seeded_cipher_bytes ones no_items) ≡ Ok no_items
unfolding bodies_from params_at fields_at refusal_of key_words rest_of step_of boot_of base_of switch_of round_of left_of
no_items_read = refl

-- the magic of the other version, and a file that is too short for one
others : (seeded_cipher_from (codes "RXE1") ≡ Err Magic) × (seeded_cipher_from (codes "RXE") ≡ Err (Short 4 3)) × (seeded_server_from (codes "RXS1") ≡ Err Magic)
unfolding bodies_from seeded_server_from
others = (refl, refl, refl)
