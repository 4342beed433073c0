-- Laws of pair keys and of the bootstrap by pairs, as a contract can name them.
use Rattle.std.specs.Prelude.{ℕ, ◌+◌, ◌≡◌, List, length}
use Rattle.rx_params.specs.declared.params.Params.{Params}
use Rattle.rx_params.specs.Acceptance.{FieldsInRange, PairAccepts}
use Rattle.rx_params.specs.Derived.{pair_words}
use Rattle.rx_lwe.specs.Secret.{small_key, large_key}
use Rattle.rx_lwe.specs.SwitchKeys.{switch_size}
use Rattle.rx_multi.specs.PairKeys.{PairWords, IsPairKey, pair_size, pair_key}
use Rattle.rx_multi.specs.PairBootstrap.{pair_bootstrapped, PairLooksUp}

-- The pair key of a client's seed is one of the secret that the seed makes, whatever the mask seed. Its two lists of words have
-- their sizes.
pub record PairKeyLaws : Type 0 where
  pub near : (p : Params) (client_seed mask_seed : List ℕ) → FieldsInRange p →
      IsPairKey (small_key p client_seed) (large_key p client_seed) (pair_key p client_seed mask_seed)
  pub row_words : (p : Params) (client_seed mask_seed : List ℕ) → FieldsInRange p →
      length (pair_key p client_seed mask_seed).rows ≡ pair_size p
  pub switch_words : (p : Params) (client_seed mask_seed : List ℕ) → FieldsInRange p →
      length (pair_key p client_seed mask_seed).switch ≡ switch_size p
  pub all_words : (p : Params) → pair_size p + switch_size p ≡ pair_words p

-- Under a set that is accepted for pairs, a bootstrap by pairs looks its input up.
pub record PairLookupLaws : Type 0 where
  pub looks_up : (key : PairWords) (table input : List ℕ) → PairAccepts key.params →
      PairLooksUp key table input (pair_bootstrapped key table input)
