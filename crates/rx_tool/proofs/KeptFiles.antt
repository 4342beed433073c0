-- A ciphertext file whose blocks keep digits under the client's key is decrypted without a refusal.
use Rattle.std.proofs.Common.{◌≡◌, ℕ, ◌+◌, List, [], ◌∷◌, Option, Some, None, Ok, refl, ap, ◌∙◌, eq-eqb}
use Rattle.std.specs.Option.{option_map}
use Rattle.rx_params.specs.declared.params.Params.{Params}
use Rattle.rx_params.specs.Acceptance.{Accepts}
use Rattle.rx_params.specs.Text.{fields_of}
use Rattle.rx_lwe.specs.Secret.{large_key}
use Rattle.rx_codec.specs.declared.client.Client.{Client}
use Rattle.rx_codec.specs.declared.cipher.Cipher.{Cipher}
use Rattle.rx_seeded.specs.Versions.{any_cipher_from}
use Rattle.rx_seeded.specs.Laws.{SeededFileLaws}
use Rattle.rx_codec.specs.Kept.{AreItemsKept}
use Rattle.rx_codec.specs.Laws.{FileLaws}
use Rattle.rx_client.specs.Laws.{ReadingLaws}
use Rattle.rx_report.specs.Reports.{damaged, difference_of, first_difference}
use Rattle.rx_tool.specs.declared.command.Command.{Command}
use Rattle.rx_tool.specs.declared.command.Command.TheVariants.{Decrypt}
use Rattle.rx_tool.specs.Decrypt.{differs_or_damaged, decrypt_refused, decrypt_refusal, AreKeptFiles}
use Rattle.rx_tool.specs.Got.{Got, whole, as_report, refuses}
use Rattle.rx_tool.specs.Told.{DecryptsKept}

none_differs : (field : ℕ) (fields : List ℕ) → first_difference field fields fields ≡ None
none_differs field [] = refl
none_differs field (x ∷ xs) = rw (eq-eqb x x refl) (none_differs (field + 1) xs)

same_sets : (p q : Params) → q ≡ p → difference_of p q ≡ None
same_sets p q e = ap (difference_of p) e ∙ none_differs 1 (fields_of p)

module _ (reading : ReadingLaws) (laws : FileLaws) (versions : SeededFileLaws) where
  not_damaged : (input : List ℕ) (c : Client) (x : Cipher) (digits : List (List ℕ)) → Accepts c.params → x.params ≡ c.params →
      AreItemsKept c.params (large_key c.params c.seed) x.items digits →
      differs_or_damaged input (difference_of c.params x.params) c x ≡ None
  not_damaged input c x digits accepted same are =
      ap (λ difference. differs_or_damaged input difference c x) (same_sets c.params x.params same)
      ∙ ap (option_map damaged) (reading.undamaged c.params (large_key c.params c.seed) x.items digits accepted are)

  decrypt_passes : (client input : List ℕ) (files : List (List ℕ)) → AreKeptFiles files → decrypt_refusal client input files ≡ None
  decrypt_passes client input [] kept = absurd kept
  decrypt_passes client input (first ∷ []) kept = absurd kept
  decrypt_passes client input (first ∷ second ∷ []) (c, x, digits, of_client, of_cipher, same, are) =
      ap (λ read. decrypt_refused client input read (any_cipher_from second)) (laws.client_read first c of_client)
      ∙ ap (decrypt_refused client input (Ok c)) (versions.cipher_read second x of_cipher)
      ∙ not_damaged input c x digits of_client.fits.accepted same are
  decrypt_passes client input (first ∷ second ∷ more ∷ files) kept = absurd kept

  pub kept_passes : (command : Option Command) (given : Got) (line : List ℕ) → DecryptsKept command given → refuses command given ≡ Some (9, line) → ⊥
  kept_passes (Some (Decrypt client input)) (whole files) line kept nine =
      let none : refuses (Some (Decrypt client input)) (whole files) ≡ None = ap (option_map as_report) (decrypt_passes client input files kept) in cc
  kept_passes _ _ line kept nine = absurd kept
