-- The server key: what evaluates, and holds no secret.
use Rattle.std.specs.Prelude.{ℕ, ◌^◌, ◌<◌, ◌≡◌, List, length, EachIndex, slice_index}
use Rattle.rx_laws.specs.Words.{of_words}
use Rattle.rx_ring.specs.Parts.{of_parts}
use Rattle.rx_ring.specs.Keys.{level_weight, IsGgsw, IsSwitch}
use Rattle.rx_params.specs.declared.params.Params.{Params}
use Rattle.rx_params.specs.Derived.{large_dim}
use Rattle.rx_lwe.specs.Secret.{small_key, large_key}
use Rattle.rx_lwe.specs.SwitchKeys.{switch_key, switch_rows, switch_key_words}
use Rattle.rx_boot.specs.BootKeys.{boot_rows, boot_key_words}

-- what a contract sees of a server key: its set, the words of the bootstrapping rows, and those of the switch rows
pub record ServerWords : Type 0 where
  pub params : Params
  pub boot : List ℕ
  pub switch : List ℕ

-- a secret of a set: the bits of the small key and of the flattened large key
pub record IsSecret (p : Params) (small large : List ℕ) : Type 0 where
  pub small_size : length small ≡ p.lwe_dim
  pub large_size : length large ≡ large_dim p
  pub small_bits : EachIndex small (λ i. slice_index small i < 2)
  pub large_bits : EachIndex large (λ i. slice_index large i < 2)

-- The key is a server key of the secret: each coefficient of the phase of each row is within the noise bound of what the row
-- hides.
pub record IsServerKey (small large : List ℕ) (key : ServerWords) : Type 0 where
  pub boot : (i : ℕ) → i < key.params.lwe_dim →
      IsGgsw key.params.poly_size key.params.glwe_dim key.params.pbs_level (2 ^ key.params.glwe_bound)
      (level_weight key.params.pbs_base_log) (of_parts key.params.poly_size large) (of_words small i) (boot_rows key.params key.boot i)
  pub switch : IsSwitch (large_dim key.params) key.params.lwe_dim key.params.ks_level (2 ^ key.params.lwe_bound)
      (level_weight key.params.ks_base_log) (of_words large) (of_words small) (switch_rows (switch_key key.params key.switch))

-- the server key that a client's seed and a mask seed make
unfoldable pub server_key : Params → List ℕ → List ℕ → ServerWords
server_key p client_seed mask_seed = record {
  params = p;
  boot = boot_key_words p (small_key p client_seed) (large_key p client_seed) mask_seed client_seed;
  switch = switch_key_words p (large_key p client_seed) (small_key p client_seed) mask_seed client_seed;
}
