-- Worked readings, computed.
use Rattle.std.proofs.Common.{◌≡◌, [], ◌∷◌, ◌++◌, length, Err, refl}
use Rattle.std.specs.Prelude.{codes, replicate}
use Rattle.rx_params.specs.declared.bounds.Refused.TheVariants.{Limit}
use Rattle.rx_params.specs.Acceptance.{pair_refusal_of}
use Rattle.rx_params.specs.Derived.{pair_words, rest_of, pair_step_of, pair_boot_of, pair_base_of, switch_of, round_of, pair_left_of}
use Rattle.rx_params.specs.Sets.{rx_test, set_of}
use Rattle.rx_multi.specs.PairKeys.{PairWords}
use Rattle.rx_codec.specs.declared.fault.CodecFault.TheVariants.{Magic, Short, Params as NotAccepted}
use Rattle.rx_codec.specs.ParamsFields.{params_bytes, fields_at}
use Rattle.rx_codec.specs.WordFields.{words_at}
use Rattle.rx_pairs.specs.PairFile.{pair_bytes, pair_key_of, pair_params_at, pairs_from}

-- the words of the rows of the pairs come first: 3 products of 4 words for two bits
abbrev few_words : PairWords
few_words = record { params = set_of 2 1 1 2 1 1 1 1 0 0; rows = replicate 12 1; switch = 5 ∷ 6 ∷ 7 ∷ [] }

words_shared : pair_key_of (set_of 2 1 1 2 1 1 1 1 0 0) (replicate 12 1 ++ 5 ∷ 6 ∷ 7 ∷ []) ≡ few_words
words_shared = refl

pair_file_size : length (pair_bytes few_words) ≡ 164
pair_file_size = refl

-- the whole file of the small set has 307,244 bytes
too_short : pairs_from (codes "RXM1" ++ params_bytes rx_test) ≡ Err (Short 307244 44)
unfolding pairs_from pair_params_at fields_at words_at pair_refusal_of pair_words rest_of pair_step_of pair_boot_of pair_base_of switch_of round_of pair_left_of
too_short = refl

-- seven bits are no pairs
odd : pairs_from (codes "RXM1" ++ params_bytes (set_of 2 1 256 7 12 2 4 6 17 20)) ≡ Err (NotAccepted (Limit 4 7))
unfolding pairs_from pair_params_at fields_at pair_refusal_of pair_words
odd = refl

others : (pairs_from (codes "RXS1") ≡ Err Magic) × (pairs_from (codes "RXM") ≡ Err (Short 4 3))
unfolding pairs_from
others = (refl, refl)
