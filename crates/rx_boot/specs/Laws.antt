-- Laws of the definitions, as a contract can name them.
use Rattle.std.specs.Prelude.{ℕ, ◌+◌, ◌^◌, ◌<◌, ◌≡◌, List, length, EachIndex, slice_index}
use Rattle.rx_params.specs.declared.params.Params.{Params}
use Rattle.rx_params.specs.Acceptance.{FieldsInRange}
use Rattle.rx_params.specs.Derived.{key_words}
use Rattle.rx_lwe.specs.Secret.{small_key, large_key}
use Rattle.rx_lwe.specs.SwitchKeys.{switch_size}
use Rattle.rx_boot.specs.BootKeys.{boot_size}
use Rattle.rx_boot.specs.ServerKeys.{IsSecret, IsServerKey, server_key}

-- The two keys of a client's seed are a secret, and the server key that the seed makes is one of that secret, whatever the
-- mask seed. Its two lists of words have their sizes, and no word is 2 ^ 64 or more.
pub record ServerKeyLaws : Type 0 where
  pub secret : (p : Params) (client_seed : List ℕ) → FieldsInRange p → IsSecret p (small_key p client_seed) (large_key p client_seed)
  pub near : (p : Params) (client_seed mask_seed : List ℕ) → FieldsInRange p →
      IsServerKey (small_key p client_seed) (large_key p client_seed) (server_key p client_seed mask_seed)
  pub boot_words : (p : Params) (client_seed mask_seed : List ℕ) → FieldsInRange p →
      length (server_key p client_seed mask_seed).boot ≡ boot_size p
  pub switch_words : (p : Params) (client_seed mask_seed : List ℕ) → FieldsInRange p →
      length (server_key p client_seed mask_seed).switch ≡ switch_size p
  pub all_words : (p : Params) → boot_size p + switch_size p ≡ key_words p
  pub boot_below : (p : Params) (client_seed mask_seed : List ℕ) → FieldsInRange p →
      EachIndex (server_key p client_seed mask_seed).boot (λ i. slice_index (server_key p client_seed mask_seed).boot i < 2 ^ 64)
  pub switch_below : (p : Params) (client_seed mask_seed : List ℕ) → FieldsInRange p →
      EachIndex (server_key p client_seed mask_seed).switch (λ i. slice_index (server_key p client_seed mask_seed).switch i < 2 ^ 64)
