-- The server file: the magic `RXS1`, the ten parameter fields, and one field of all words, first those of the bootstrapping
-- rows and then those of the switch rows, 8 bytes each.
use Rattle.std.specs.Prelude.{ℕ, ◌≡◌, ◌<◌, ◌^◌, List, ◌++◌, length, take, drop, codes, Result, EachIndex, slice_index}
use Rattle.rx_params.specs.declared.params.Params.{Params}
use Rattle.rx_params.specs.Acceptance.{Accepts}
use Rattle.rx_params.specs.Derived.{key_words}
use Rattle.rx_lwe.specs.SwitchKeys.{switch_size}
use Rattle.rx_boot.specs.BootKeys.{boot_size}
use Rattle.rx_boot.specs.ServerKeys.{ServerWords}
use Rattle.rx_codec.specs.declared.fault.CodecFault.{CodecFault}
use Rattle.rx_codec.specs.ParamsFields.{params_bytes, params_at}
use Rattle.rx_codec.specs.WordFields.{word_bytes, words_at}
use Rattle.rx_codec.specs.Reading.{◌>>=◌, magic_at, ends_at}

-- the one spelling of a server key
abbrev pub server_bytes : ServerWords → List ℕ
server_bytes k = codes "RXS1" ++ params_bytes k.params ++ word_bytes (k.boot ++ k.switch)

abbrev pub AreWords64 : List ℕ → Type 0
AreWords64 words = EachIndex words (λ i. slice_index words i < 2 ^ 64)

-- what has a spelling
pub record IsServer (k : ServerWords) : Type 0 where
  pub accepted : Accepts k.params
  pub boot_count : length k.boot ≡ boot_size k.params
  pub switch_count : length k.switch ≡ switch_size k.params
  pub boot_words : AreWords64 k.boot
  pub switch_words : AreWords64 k.switch

-- the bytes are the server file of the key
pub record ServerFile (bytes : List ℕ) (k : ServerWords) : Type 0 where
  pub fits : IsServer k
  pub spelled : bytes ≡ server_bytes k

-- the key of a set with these words, those of the bootstrapping rows first
abbrev pub key_of : Params → List ℕ → ServerWords
key_of p words = record { params = p; boot = take (boot_size p) words; switch = drop (boot_size p) words }

-- the server key that a file spells, or its first fault
unfoldable pub server_from : List ℕ → Result ServerWords CodecFault
server_from file = do
  after ← magic_at (codes "RXS1") file
  params ← params_at file after
  words ← words_at (key_words params.0) file params.1
  ends_at file words.1 (key_of params.0 words.0)
