-- Rows of the server key of a client's seed and a mask seed, one at a time.
use Rattle.std.specs.Prelude.{ℕ, List, drop}
use Rattle.std.specs.List.{range_with_len, flat_map}
use Rattle.rx_params.specs.declared.params.Params.{Params}
use Rattle.rx_params.specs.declared.rotation.Rotation.TheVariants.{Bits}
use Rattle.rx_params.specs.Derived.{large_dim}
use Rattle.rx_lwe.specs.Secret.{small_key, large_key}
use Rattle.rx_lwe.specs.SwitchKeys.{switch_row}
use Rattle.rx_boot.specs.BootKeys.{numbered_row}

-- what the rows of a server key are made of
pub record KeySeeds : Type 0 where
  pub params : Params
  pub client_seed : List ℕ
  pub mask_seed : List ℕ

-- the bootstrapping row of a number
abbrev pub fresh_boot_row : KeySeeds → ℕ → List ℕ
fresh_boot_row s row =
    numbered_row Bits s.params (small_key s.params s.client_seed) (large_key s.params s.client_seed) s.mask_seed s.client_seed row

-- the switch row of a number
abbrev pub fresh_switch_row : KeySeeds → ℕ → List ℕ
fresh_switch_row s row =
    switch_row s.params (large_key s.params s.client_seed) (small_key s.params s.client_seed) s.mask_seed s.client_seed row

-- the bodies of the first rows, so many
unfoldable pub fresh_boot_bodies : KeySeeds → ℕ → List ℕ
fresh_boot_bodies s rows = flat_map (λ row. drop (large_dim s.params) (fresh_boot_row s row)) (range_with_len 0 rows)

unfoldable pub fresh_switch_bodies : KeySeeds → ℕ → List ℕ
fresh_switch_bodies s rows = flat_map (λ row. drop s.params.lwe_dim (fresh_switch_row s row)) (range_with_len 0 rows)
