-- Switch keys, and what they make of the words of a ciphertext.
use Rattle.std.specs.Prelude.{ℕ, ℤ, pos, suc, ◌≡◌, ◌≤◌, ◌+◌, ◌-◌, ◌*◌, ◌/◌, ◌%◌, ◌^◌, List, length, get_or}
use Rattle.std.specs.List.{range_with_len, flat_map}
use Rattle.rx_laws.specs.Words.{of_words, words_below}
use Rattle.rx_ring.specs.Switch.{switched_by}
use Rattle.rx_torus.specs.Streams.{stream_of}
use Rattle.rx_torus.specs.Kinds.{stream_number}
use Rattle.rx_torus.specs.declared.kind.StreamKind.TheVariants.{SwitchMask, SwitchNoise}
use Rattle.rx_params.specs.declared.params.Params.{Params}
use Rattle.rx_params.specs.Acceptance.{most_levels}
use Rattle.rx_params.specs.Derived.{large_dim}
use Rattle.rx_lwe.specs.Lwe.{encrypted}

-- what a contract sees of a switch key: it goes from a key of `big` bits to one of `small` bits, by digits
pub record SwitchRows : Type 0 where
  pub big : ℕ
  pub small : ℕ
  pub base_log : ℕ
  pub levels : ℕ
  pub words : List ℕ

-- what every switch key keeps: the ranges of a set, and its count of words
pub record IsSized (s : SwitchRows) : Type 0 where
  pub big : s.big ≤ 2 ^ 14
  pub small : s.small ≤ 2 ^ 10
  pub base_low : 1 ≤ s.base_log
  pub base_high : s.base_log ≤ 24
  pub levels_low : 1 ≤ s.levels
  pub levels_high : s.levels ≤ most_levels
  pub digits : s.base_log * s.levels ≤ 60
  pub count : length s.words ≡ s.big * s.levels * (s.small + 1)

-- number i of row (u, t); place `small` holds the body
abbrev pub switch_rows : SwitchRows → ℕ → ℕ → ℕ → ℤ
switch_rows s u t i = pos (get_or s.words ((u * s.levels + t) * (s.small + 1) + i) 0)

-- the words of a ciphertext, switched to the small key
abbrev pub switched_words : SwitchRows → List ℕ → List ℕ
switched_words s input =
    words_below (s.small + 1) (switched_by s.big s.small s.base_log s.levels (switch_rows s) (of_words input))

-- how many words the switch key of a set has
abbrev pub switch_size : Params → ℕ
switch_size p = large_dim p * p.ks_level * (p.lwe_dim + 1)

-- the switch key of a set with these words
abbrev pub switch_key : Params → List ℕ → SwitchRows
switch_key p xs = record {
  big = large_dim p;
  small = p.lwe_dim;
  base_log = p.ks_base_log;
  levels = p.ks_level;
  words = xs;
}

-- The words of row (u, t) of a made key, which is row u * levels + t. They hide bit u of the large key, times the weight
-- of level t, under the small key.
unfoldable pub switch_row : Params → (large small mask_seed noise_seed : List ℕ) → (row : ℕ) → List ℕ
switch_row p large small mask_seed noise_seed row =
    encrypted small (stream_of mask_seed (stream_number SwitchMask row)) (stream_of noise_seed (stream_number SwitchNoise row))
    p.lwe_bound (get_or large (row / p.ks_level) 0 * 2 ^ (64 - p.ks_base_log * suc (row % p.ks_level)))

-- the words of a made key: those of its rows, in order
unfoldable pub switch_key_words : Params → (large small mask_seed noise_seed : List ℕ) → List ℕ
switch_key_words p large small mask_seed noise_seed =
    flat_map (switch_row p large small mask_seed noise_seed) (range_with_len 0 (large_dim p * p.ks_level))
