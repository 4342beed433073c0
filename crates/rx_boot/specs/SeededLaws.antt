-- Laws of server keys whose masks a seed draws, as a contract can name them.
use Rattle.std.specs.Prelude.{ℕ, ◌≡◌, List, ◌++◌, length}
use Rattle.rx_params.specs.declared.params.Params.{Params}
use Rattle.rx_params.specs.Acceptance.{FieldsInRange}
use Rattle.rx_lwe.specs.SwitchKeys.{switch_size}
use Rattle.rx_lwe.specs.Seeded.{switch_row_count}
use Rattle.rx_boot.specs.BootKeys.{boot_row_count, boot_size}
use Rattle.rx_boot.specs.ServerKeys.{ServerWords, server_key}
use Rattle.rx_boot.specs.FreshRows.{KeySeeds, fresh_boot_bodies, fresh_switch_bodies}
use Rattle.rx_boot.specs.Seeded.{body_size, key_of_bodies, key_bodies, redrawn_key}

-- A key of bodies has these bodies and the sizes of its set; a key has as many bodies as its set says; and of a made key the
-- masks are those that its mask seed draws, and the bodies those of its rows, in order.
pub record SeededKeyLaws : Type 0 where
  pub bodies : (p : Params) (mask_seed bodies : List ℕ) → length bodies ≡ body_size p →
      key_bodies (key_of_bodies p mask_seed bodies) ≡ bodies
  pub boot_words : (p : Params) (mask_seed bodies : List ℕ) → length bodies ≡ body_size p →
      length (key_of_bodies p mask_seed bodies).boot ≡ boot_size p
  pub switch_words : (p : Params) (mask_seed bodies : List ℕ) → length bodies ≡ body_size p →
      length (key_of_bodies p mask_seed bodies).switch ≡ switch_size p
  pub body_words : (key : ServerWords) → length key.boot ≡ boot_size key.params → length key.switch ≡ switch_size key.params →
      length (key_bodies key) ≡ body_size key.params
  pub made : (p : Params) (client_seed mask_seed : List ℕ) → FieldsInRange p →
      redrawn_key mask_seed (server_key p client_seed mask_seed) ≡ server_key p client_seed mask_seed
  pub made_bodies : (s : KeySeeds) → FieldsInRange s.params →
      key_bodies (server_key s.params s.client_seed s.mask_seed)
      ≡ fresh_boot_bodies s (boot_row_count s.params) ++ fresh_switch_bodies s (switch_row_count s.params)
