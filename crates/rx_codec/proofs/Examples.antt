-- A client file, and its reading, by computing.
use Rattle.std.proofs.Common.{◌≡◌, ℕ, List, ◌∷◌, Ok, refl, replicate}
use Rattle.rx_params.specs.Derived.{key_words, rest_of, step_of, boot_of, base_of, switch_of, round_of, left_of}
use Rattle.rx_params.specs.Acceptance.{refusal_of}
use Rattle.rx_params.specs.Sets.{rx_test}
use Rattle.rx_codec.specs.declared.client.Client.{Client}
use Rattle.rx_codec.specs.ParamsFields.{fields_at, params_at}
use Rattle.rx_codec.specs.ClientFile.{client_bytes, client_from}

-- the client of the small set whose seed is 32 zeros
abbrev zero_client : Client
zero_client = record { params = rx_test; seed = replicate 32 0 }

abbrev zero_file : List ℕ
zero_file =
    0x52 ∷ 0x58 ∷ 0x43 ∷ 0x31
    ∷ 2 ∷ 0 ∷ 0 ∷ 0 ∷ 1 ∷ 0 ∷ 0 ∷ 0 ∷ 0 ∷ 1 ∷ 0 ∷ 0 ∷ 8 ∷ 0 ∷ 0 ∷ 0 ∷ 0x0c ∷ 0 ∷ 0 ∷ 0
    ∷ 2 ∷ 0 ∷ 0 ∷ 0 ∷ 4 ∷ 0 ∷ 0 ∷ 0 ∷ 6 ∷ 0 ∷ 0 ∷ 0 ∷ 0x11 ∷ 0 ∷ 0 ∷ 0 ∷ 0x14 ∷ 0 ∷ 0 ∷ 0 ∷ replicate 32 0

zero_bytes : client_bytes zero_client ≡ zero_file
zero_bytes = refl

zero_read : client_from zero_file ≡ Ok zero_client
unfolding client_from params_at fields_at refusal_of key_words rest_of step_of boot_of base_of switch_of round_of left_of
zero_read = refl
