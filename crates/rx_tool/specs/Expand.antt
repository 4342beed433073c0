-- expand IN OUT: writes the version 1 file of the value of a seeded server or ciphertext file.
use Rattle.std.specs.Prelude.{ℕ, ◌≡◌, ◌⊎◌, List, [], ◌∷◌, codes, if◌then◌else◌, Option, Some, None, Result, Ok, Err}
use Rattle.rx_boot.specs.ServerKeys.{ServerWords}
use Rattle.rx_codec.specs.declared.cipher.Cipher.{Cipher}
use Rattle.rx_codec.specs.declared.fault.CodecFault.{CodecFault}
use Rattle.rx_codec.specs.ServerFile.{ServerFile}
use Rattle.rx_codec.specs.CipherFile.{CipherFile}
use Rattle.rx_seeded.specs.FileKinds.{begins}
use Rattle.rx_seeded.specs.SeededServer.{SeededServer, seeded_server_from}
use Rattle.rx_seeded.specs.SeededCipher.{SeededCipher, seeded_cipher_from}
use Rattle.rx_report.specs.Reports.{Report, malformed_binary}
use Rattle.rx_tool.specs.declared.command.Command.{Command}
use Rattle.rx_tool.specs.declared.command.Command.TheVariants.{Expand}

abbrev pub expand_of : List (List ℕ) → Option Command
expand_of (input ∷ out ∷ []) = Some (Expand input out)
expand_of _ = None

abbrev pub expand_server_refused : List ℕ → Result ServerWords CodecFault → Option Report
expand_server_refused input (Err fault) = malformed_binary input fault
expand_server_refused input (Ok k) = None

abbrev pub expand_cipher_refused : List ℕ → Result Cipher CodecFault → Option Report
expand_cipher_refused input (Err fault) = malformed_binary input fault
expand_cipher_refused input (Ok c) = None

-- what refuses: the file, as a seeded server file where it begins as one, and else as a seeded ciphertext file
abbrev pub expand_refusal : List ℕ → List (List ℕ) → Option Report
expand_refusal input (file ∷ []) =
    if begins file (codes "RXS2") then expand_server_refused input (seeded_server_from file)
    else expand_cipher_refused input (seeded_cipher_from file)
expand_refusal input _ = None

-- the file is a seeded one of this mask seed, whatever its value is
abbrev pub IsSeededBy : List ℕ → List ℕ → Type 0
IsSeededBy mask_seed file = ((k : ServerWords) × SeededServer file mask_seed k) ⊎ ((c : Cipher) × SeededCipher file mask_seed c)

-- the bytes are the version 1 file of the value whose seeded file this is
abbrev pub IsExpanded : List ℕ → List ℕ → Type 0
IsExpanded file bytes =
    ((mask_seed : List ℕ) × (k : ServerWords) × SeededServer file mask_seed k × ServerFile bytes k)
    ⊎ ((mask_seed : List ℕ) × (c : Cipher) × SeededCipher file mask_seed c × CipherFile bytes c)

abbrev pub ExpandDoes : List ℕ → List (List ℕ) → List (List ℕ × List ℕ) → List ℕ → Type 0
ExpandDoes out (file ∷ []) writes lines =
    (bytes : List ℕ) × IsExpanded file bytes × (writes ≡ (out, bytes) ∷ []) × (lines ≡ [])
ExpandDoes out _ writes lines = ⊥
