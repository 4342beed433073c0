-- decrypt CLIENT IN: prints the number of each item.
use Rattle.std.specs.Prelude.{ℕ, ◌≡◌, List, [], ◌∷◌, Option, Some, None, Result, Ok, Err}
use Rattle.std.specs.Option.{option_map}
use Rattle.rx_lwe.specs.Secret.{large_key}
use Rattle.rx_codec.specs.declared.client.Client.{Client}
use Rattle.rx_codec.specs.declared.cipher.Cipher.{Cipher}
use Rattle.rx_codec.specs.declared.fault.CodecFault.{CodecFault}
use Rattle.rx_codec.specs.ClientFile.{ClientFile, client_from}
use Rattle.rx_seeded.specs.Versions.{CipherRead, any_cipher_from}
use Rattle.rx_codec.specs.Kept.{AreItemsKept}
use Rattle.rx_client.specs.Decrypt.{item_lines, kept_lines, first_damage}
use Rattle.rx_report.specs.declared.difference.Difference.{Difference}
use Rattle.rx_report.specs.Reports.{Report, malformed_binary, difference_of, mismatch, damaged}
use Rattle.rx_tool.specs.declared.command.Command.{Command}
use Rattle.rx_tool.specs.declared.command.Command.TheVariants.{Decrypt}

abbrev pub decrypt_of : List (List ℕ) → Option Command
decrypt_of (client ∷ input ∷ []) = Some (Decrypt client input)
decrypt_of _ = None

-- a block that exceeds its degree
abbrev pub damage_refusal : Client → Cipher → Option Report
damage_refusal c x = option_map damaged (first_damage c.params (large_key c.params c.seed) x.items)

-- the sets of the two files differ, else a block is damaged
abbrev pub differs_or_damaged : List ℕ → Option Difference → Client → Cipher → Option Report
differs_or_damaged input (Some difference) c x = Some (mismatch input difference)
differs_or_damaged input None c x = damage_refusal c x

abbrev pub decrypt_refused : List ℕ → List ℕ → Result Client CodecFault → Result Cipher CodecFault → Option Report
decrypt_refused client input (Err fault) cipher = malformed_binary client fault
decrypt_refused client input (Ok c) (Err fault) = malformed_binary input fault
decrypt_refused client input (Ok c) (Ok x) = differs_or_damaged input (difference_of c.params x.params) c x

-- what refuses: the client file, then the ciphertext file, then a difference of their sets, then a damaged block
abbrev pub decrypt_refusal : List ℕ → List ℕ → List (List ℕ) → Option Report
decrypt_refusal client input (client_file ∷ cipher_file ∷ []) =
    decrypt_refused client input (client_from client_file) (any_cipher_from cipher_file)
decrypt_refusal client input _ = None

-- where the blocks keep digits under the client's key, the lines are those of the digits' numbers
abbrev pub PrintsKept : Client → Cipher → List ℕ → Type 0
PrintsKept c x lines =
    (digits : List (List ℕ)) → AreItemsKept c.params (large_key c.params c.seed) x.items digits →
    lines ≡ kept_lines c.params.message_bits x.items digits

-- the two files are a client's and a ciphertext of its set, whose blocks keep some digits under the client's key
abbrev pub AreKeptFiles : List (List ℕ) → Type 0
AreKeptFiles (client_file ∷ cipher_file ∷ []) =
    (c : Client) × (x : Cipher) × (digits : List (List ℕ)) × ClientFile client_file c × CipherRead cipher_file x
    × (x.params ≡ c.params) × AreItemsKept c.params (large_key c.params c.seed) x.items digits
AreKeptFiles _ = ⊥

abbrev pub DecryptDoes : List (List ℕ) → List (List ℕ × List ℕ) → List ℕ → Type 0
DecryptDoes (client_file ∷ cipher_file ∷ []) writes lines =
    (c : Client) × (x : Cipher) × ClientFile client_file c × CipherRead cipher_file x × (x.params ≡ c.params)
    × (writes ≡ []) × (lines ≡ item_lines c.params (large_key c.params c.seed) x.items) × PrintsKept c x lines
DecryptDoes _ writes lines = ⊥
