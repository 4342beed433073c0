-- encrypt CLIENT MASKSEED NOISESEED VALUES OUT: writes the seeded ciphertext file of the fresh blocks of all numbers.
use Rattle.std.specs.Prelude.{ℕ, ◌≡◌, List, [], ◌∷◌, map, Option, Some, None, Result, Ok, Err}
use Rattle.std.specs.Option.{option_map, option_and_then}
use Rattle.rx_text.specs.declared.fault.LineFault.{LineFault}
use Rattle.rx_lwe.specs.Secret.{large_key}
use Rattle.rx_circuit.specs.declared.values.ValueLine.{ValueLine}
use Rattle.rx_circuit.specs.Values.{ValuesText, values_from}
use Rattle.rx_codec.specs.declared.client.Client.{Client}
use Rattle.rx_codec.specs.declared.cipher.Cipher.{Cipher}
use Rattle.rx_codec.specs.declared.fault.CodecFault.{CodecFault}
use Rattle.rx_codec.specs.ClientFile.{ClientFile, client_from}
use Rattle.rx_seeded.specs.SeededCipher.{SeededCipher}
use Rattle.rx_codec.specs.Kept.{AreItemsKept}
use Rattle.rx_client.specs.Encrypt.{line_digits, encrypted_values, first_width, KeepsValues}
use Rattle.rx_report.specs.Reports.{Report, malformed_binary, malformed_text, wrong_width}
use Rattle.rx_tool.specs.declared.command.Command.{Command}
use Rattle.rx_tool.specs.declared.command.Command.TheVariants.{Encrypt}
use Rattle.rx_tool.specs.MakeClient.{seed_of}

abbrev pub encrypt_of : List (List ℕ) → Option Command
encrypt_of (client ∷ mask_seed ∷ noise_seed ∷ values ∷ out ∷ []) =
    option_and_then (λ mask. option_map (λ noise. Encrypt client mask noise values out) (seed_of noise_seed)) (seed_of mask_seed)
encrypt_of _ = None

-- a number whose bits the blocks do not make up
abbrev pub width_refusal : Client → List ValueLine → Option Report
width_refusal c lines = option_map (λ v. wrong_width v.name v.bits) (first_width c.params.message_bits lines)

abbrev pub encrypt_refused : List ℕ → List ℕ → Result Client CodecFault → Result (List ValueLine) LineFault → Option Report
encrypt_refused client values (Err fault) lines = malformed_binary client fault
encrypt_refused client values (Ok c) (Err fault) = Some (malformed_text values fault)
encrypt_refused client values (Ok c) (Ok lines) = width_refusal c lines

-- what refuses: the client file, then the value file, then a width
abbrev pub encrypt_refusal : List ℕ → List ℕ → List (List ℕ) → Option Report
encrypt_refusal client values (client_file ∷ value_file ∷ []) =
    encrypt_refused client values (client_from client_file) (values_from value_file)
encrypt_refusal client values _ = None

-- the ciphertext of the lines under a client's key
abbrev pub encryption : Client → List ℕ → List ℕ → List ValueLine → Cipher
encryption c mask_seed noise_seed lines = encrypted_values c.params (large_key c.params c.seed) mask_seed noise_seed lines

-- the files that a client and its value lines spell, the seeded ciphertext file of their encryption, and that each of its blocks
-- keeps its digit under the client's key, item by item
abbrev pub EncryptDoes : List ℕ → List ℕ → List ℕ → List (List ℕ) → List (List ℕ × List ℕ) → List ℕ → Type 0
EncryptDoes mask_seed noise_seed out (client_file ∷ value_file ∷ []) writes lines =
    (c : Client) × (values : List ValueLine) × (bytes : List ℕ) × ClientFile client_file c × ValuesText value_file values
    × SeededCipher bytes mask_seed (encryption c mask_seed noise_seed values)
    × KeepsValues c.params (large_key c.params c.seed) (encryption c mask_seed noise_seed values).items values
    × AreItemsKept c.params (large_key c.params c.seed) (encryption c mask_seed noise_seed values).items
    (map (line_digits c.params.message_bits) values)
    × (writes ≡ (out, bytes) ∷ []) × (lines ≡ [])
EncryptDoes mask_seed noise_seed out _ writes lines = ⊥
