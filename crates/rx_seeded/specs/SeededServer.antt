-- The seeded server file: the magic `RXS2`, the ten parameter fields, one field of 32 bytes, the mask seed, and one field of
-- all bodies, first those of the bootstrapping rows and then those of the switch rows, 8 bytes each.
use Rattle.std.specs.Prelude.{ℕ, ◌≡◌, List, ◌++◌, codes, Option, Result}
use Rattle.rx_boot.specs.ServerKeys.{ServerWords}
use Rattle.rx_boot.specs.Seeded.{body_size, key_of_bodies, key_bodies, redrawn_key}
use Rattle.rx_codec.specs.declared.fault.CodecFault.{CodecFault}
use Rattle.rx_codec.specs.ParamsFields.{params_bytes, params_at}
use Rattle.rx_codec.specs.WordFields.{word_bytes, words_at}
use Rattle.rx_codec.specs.ServerFile.{IsServer}
use Rattle.rx_codec.specs.Reading.{◌>>=◌, bytes_at, magic_at, ends_at}
use Rattle.rx_seeded.specs.Masks.{IsSeed, first_unlike}

-- the one spelling of a mask seed and a server key
abbrev pub seeded_server_bytes : List ℕ → ServerWords → List ℕ
seeded_server_bytes mask_seed k = codes "RXS2" ++ params_bytes k.params ++ mask_seed ++ word_bytes (key_bodies k)

-- the bytes are the seeded file of the mask seed and the key: the masks of the key are those that the seed draws
pub record SeededServer (bytes mask_seed : List ℕ) (k : ServerWords) : Type 0 where
  pub seed : IsSeed mask_seed
  pub fits : IsServer k
  pub drawn : redrawn_key mask_seed k ≡ k
  pub spelled : bytes ≡ seeded_server_bytes mask_seed k

-- the server key that a seeded file spells, or its first fault
unfoldable pub seeded_server_from : List ℕ → Result ServerWords CodecFault
seeded_server_from file = do
  after ← magic_at (codes "RXS2") file
  params ← params_at file after
  seed ← bytes_at file 32 params.1
  bodies ← words_at (body_size params.0) file seed.1
  ends_at file bodies.1 (key_of_bodies params.0 seed.0 bodies.0)

-- the first mask word of a server key that a seed does not draw, by the place of its first byte in the version 1 file
abbrev pub wrong_server_mask : List ℕ → ServerWords → Option ℕ
wrong_server_mask mask_seed k =
    first_unlike 44 (k.boot ++ k.switch) ((redrawn_key mask_seed k).boot ++ (redrawn_key mask_seed k).switch)
