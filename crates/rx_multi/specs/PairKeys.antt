-- The pair key: what evaluates by pairs of key bits, and holds no secret.
use Rattle.std.specs.Prelude.{ℕ, ◌+◌, ◌*◌, ◌/◌, ◌%◌, ◌^◌, List, length, get_or, map}
use Rattle.std.specs.List.{range_with_len}
use Rattle.rx_laws.specs.Words.{of_words}
use Rattle.rx_ring.specs.Parts.{of_parts}
use Rattle.rx_ring.specs.Keys.{level_weight, IsSwitch}
use Rattle.rx_ring.specs.Pairs.{pair_bit}
use Rattle.rx_ring.specs.PairLaws.{ArePairs}
use Rattle.rx_params.specs.declared.params.Params.{Params}
use Rattle.rx_params.specs.declared.rotation.Rotation.TheVariants.{Pairs}
use Rattle.rx_params.specs.Derived.{large_dim}
use Rattle.rx_lwe.specs.Secret.{small_key, large_key}
use Rattle.rx_lwe.specs.SwitchKeys.{switch_key, switch_rows, switch_key_words}
use Rattle.rx_boot.specs.BootKeys.{rows_size, boot_rows, key_rows}

-- what a contract sees of a pair key: its set, the words of the rows of the pairs, and those of the switch rows
pub record PairWords : Type 0 where
  pub params : Params
  pub rows : List ℕ
  pub switch : List ℕ

-- the words of the rows of all pairs
abbrev pub pair_size : Params → ℕ
pair_size p = rows_size Pairs p

-- the bits that a pair key encrypts: three products for each pair of bits of the small key, in order
unfoldable pub pair_bits : List ℕ → List ℕ
pair_bits small =
    map (λ u. pair_bit (u % 3) (get_or small (2 * (u / 3)) 0) (get_or small (2 * (u / 3) + 1) 0))
    (range_with_len 0 (3 * (length small / 2)))

-- The key is a pair key of the secret: each coefficient of the phase of each row is within the noise bound of what the row
-- hides.
pub record IsPairKey (small large : List ℕ) (key : PairWords) : Type 0 where
  pub rows : ArePairs key.params.poly_size key.params.glwe_dim key.params.lwe_dim key.params.pbs_level (2 ^ key.params.glwe_bound)
      (level_weight key.params.pbs_base_log) (of_parts key.params.poly_size large) (λ i. get_or small i 0) (boot_rows key.params key.rows)
  pub switch : IsSwitch (large_dim key.params) key.params.lwe_dim key.params.ks_level (2 ^ key.params.lwe_bound)
      (level_weight key.params.ks_base_log) (of_words large) (of_words small) (switch_rows (switch_key key.params key.switch))

-- the words of the rows that hide the products of the pairs of the small key
abbrev pub pair_key_rows : Params → List ℕ → List ℕ → List ℕ → List ℕ → List ℕ
pair_key_rows p small large mask_seed noise_seed = key_rows Pairs p (pair_bits small) large mask_seed noise_seed

-- the pair key that a client's seed and a mask seed make
unfoldable pub pair_key : Params → List ℕ → List ℕ → PairWords
pair_key p client_seed mask_seed = record {
  params = p;
  rows = pair_key_rows p (small_key p client_seed) (large_key p client_seed) mask_seed client_seed;
  switch = switch_key_words p (large_key p client_seed) (small_key p client_seed) mask_seed client_seed;
}
