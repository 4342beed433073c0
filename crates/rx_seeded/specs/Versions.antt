-- Server and ciphertext files of either version. Where such a file is wanted, one that begins with the magic of version 2 is
-- read as that, and every other one as version 1.
use Rattle.std.specs.Prelude.{ℕ, List, codes, if◌then◌else◌, Result, ◌⊎◌}
use Rattle.rx_boot.specs.ServerKeys.{ServerWords}
use Rattle.rx_codec.specs.declared.cipher.Cipher.{Cipher}
use Rattle.rx_codec.specs.declared.fault.CodecFault.{CodecFault}
use Rattle.rx_codec.specs.ServerFile.{ServerFile, server_from}
use Rattle.rx_codec.specs.CipherFile.{CipherFile, cipher_from}
use Rattle.rx_seeded.specs.FileKinds.{begins}
use Rattle.rx_seeded.specs.SeededServer.{SeededServer, seeded_server_from}
use Rattle.rx_seeded.specs.SeededCipher.{SeededCipher, seeded_cipher_from}

-- the bytes are a file of the key: its version 1 file, or its seeded file for some mask seed
abbrev pub ServerRead : List ℕ → ServerWords → Type 0
ServerRead bytes k = ServerFile bytes k ⊎ ((mask_seed : List ℕ) × SeededServer bytes mask_seed k)

abbrev pub CipherRead : List ℕ → Cipher → Type 0
CipherRead bytes c = CipherFile bytes c ⊎ ((mask_seed : List ℕ) × SeededCipher bytes mask_seed c)

-- the server key that a file of either version spells, or its first fault
abbrev pub any_server_from : List ℕ → Result ServerWords CodecFault
any_server_from file = if begins file (codes "RXS2") then seeded_server_from file else server_from file

abbrev pub any_cipher_from : List ℕ → Result Cipher CodecFault
any_cipher_from file = if begins file (codes "RXE2") then seeded_cipher_from file else cipher_from file
