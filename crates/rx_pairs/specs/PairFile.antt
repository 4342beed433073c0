-- The pair file: the magic `RXM1`, the ten parameter fields, and one field of all words, first those of the rows of the pairs
-- and then those of the switch rows, 8 bytes each.
use Rattle.std.specs.Prelude.{ℕ, ◌≡◌, List, ◌++◌, length, take, drop, codes, Result}
use Rattle.rx_params.specs.declared.params.Params.{Params}
use Rattle.rx_params.specs.Acceptance.{PairAccepts, pair_checked}
use Rattle.rx_params.specs.Derived.{pair_words}
use Rattle.rx_lwe.specs.SwitchKeys.{switch_size}
use Rattle.rx_multi.specs.PairKeys.{PairWords, pair_size}
use Rattle.rx_codec.specs.declared.fault.CodecFault.{CodecFault}
use Rattle.rx_codec.specs.ParamsFields.{params_bytes, accepted_or, fields_at}
use Rattle.rx_codec.specs.WordFields.{word_bytes, words_at}
use Rattle.rx_codec.specs.ServerFile.{AreWords64}
use Rattle.rx_codec.specs.Reading.{◌>>=◌, magic_at, ends_at}

-- the one spelling of a pair key
abbrev pub pair_bytes : PairWords → List ℕ
pair_bytes k = codes "RXM1" ++ params_bytes k.params ++ word_bytes (k.rows ++ k.switch)

-- what has a spelling
pub record IsPairs (k : PairWords) : Type 0 where
  pub accepted : PairAccepts k.params
  pub row_count : length k.rows ≡ pair_size k.params
  pub switch_count : length k.switch ≡ switch_size k.params
  pub row_words : AreWords64 k.rows
  pub switch_words : AreWords64 k.switch

-- the bytes are the pair file of the key
pub record PairFile (bytes : List ℕ) (k : PairWords) : Type 0 where
  pub fits : IsPairs k
  pub spelled : bytes ≡ pair_bytes k

-- the key of a set with these words, those of the rows of the pairs first
abbrev pub pair_key_of : Params → List ℕ → PairWords
pair_key_of p words = record { params = p; rows = take (pair_size p) words; switch = drop (pair_size p) words }

-- the set at a place; the check for pairs comes once all fields were read
unfoldable pub pair_params_at : List ℕ → ℕ → Result (Params × ℕ) CodecFault
pair_params_at file at = do
  read ← fields_at file at
  accepted_or (pair_checked read.0) read

-- the pair key that a file spells, or its first fault
unfoldable pub pairs_from : List ℕ → Result PairWords CodecFault
pairs_from file = do
  after ← magic_at (codes "RXM1") file
  params ← pair_params_at file after
  words ← words_at (pair_words params.0) file params.1
  ends_at file words.1 (pair_key_of params.0 words.0)
