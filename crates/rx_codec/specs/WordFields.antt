-- A field of words, eight bytes each.
use Rattle.std.specs.Prelude.{ℕ, ◌+◌, ◌*◌, List, map, slice_range, Result, Ok}
use Rattle.std.specs.List.{flat_map, range_with_len}
use Rattle.std.specs.Int.{w64, to_le_bytes, from_le_bytes}
use Rattle.rx_codec.specs.declared.fault.CodecFault.{CodecFault}
use Rattle.rx_codec.specs.Reading.{◌>>=◌, bytes_at}

-- the one spelling of the words
abbrev pub word_bytes : List ℕ → List ℕ
word_bytes words = flat_map (to_le_bytes w64) words

-- the words that the bytes spell
abbrev pub words_in : ℕ → List ℕ → List ℕ
words_in count bytes = map (λ i. from_le_bytes w64 (slice_range bytes (8 * i) (8 * i + 8))) (range_with_len 0 count)

unfoldable pub words_at : ℕ → List ℕ → ℕ → Result (List ℕ × ℕ) CodecFault
words_at count file at = do
  bytes ← bytes_at file (8 * count) at
  Ok (words_in count bytes.0, bytes.1)
