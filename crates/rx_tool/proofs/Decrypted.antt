-- A ciphertext file that was decrypted over its two files.
use Rattle.std.proofs.Common.{◌≡◌, ℕ, List, [], ◌∷◌, length, get_or, Option, None, Ok, sym, ◌∙◌, ap, subst, arith}
use Rattle.std.specs.Option.{option_map}
use Rattle.rx_params.specs.declared.params.Params.{Params}
use Rattle.rx_lwe.specs.Secret.{large_key}
use Rattle.rx_codec.specs.declared.client.Client.{Client}
use Rattle.rx_codec.specs.declared.cipher.Item.{Item}
use Rattle.rx_codec.specs.declared.cipher.Cipher.{Cipher}
use Rattle.rx_codec.specs.ClientFile.{ClientFile, client_from}
use Rattle.rx_seeded.specs.Versions.{CipherRead, any_cipher_from}
use Rattle.rx_codec.specs.Kept.{AreItemsKept}
use Rattle.rx_client.specs.Decrypt.{item_lines, kept_lines, first_damage}
use Rattle.rx_report.specs.declared.difference.Difference.{Difference}
use Rattle.rx_report.specs.Reports.{damaged, difference_of}
use Rattle.rx_tool.specs.Decrypt.{differs_or_damaged, decrypt_refused, decrypt_refusal, DecryptDoes}
use Rattle.rx_tool.proofs.RunInputs.{same_set}

pub both_files : (files : List (List ℕ)) (s t first second : List ℕ) → length files ≡ 2 → first ≡ get_or files 0 first →
    second ≡ get_or files 1 second → s ≡ first → t ≡ second → files ≡ s ∷ t ∷ []
both_files [] s t first second two e f h i = absurd (omega (arith, two))
both_files (a ∷ []) s t first second two e f h i = absurd (omega (arith, two))
both_files (a ∷ b ∷ []) s t first second two e f h i =
    ap (λ x. x ∷ b ∷ []) (sym e ∙ sym h) ∙ ap (λ y. s ∷ y ∷ []) (sym f ∙ sym i)
both_files (a ∷ b ∷ more ∷ files) s t first second two e f h i = absurd (omega (arith, two))

-- the lines are those of the items, of which no block is damaged; where the blocks keep digits, they are those of the digits
pub record AreLinesOf (p : Params) (key : List ℕ) (items : List Item) (lines : List ℕ) : Type 0 where
  pub whole : (first_damage p key items ≡ None) × (lines ≡ item_lines p key items)
  pub kept : (digits : List (List ℕ)) → AreItemsKept p key items digits → lines ≡ kept_lines p.message_bits items digits

module _ (client input first second : List ℕ) (c : Client) (x : Cipher) (found : Option Difference) where
  not_refused : client_from first ≡ Ok c → any_cipher_from second ≡ Ok x → found ≡ difference_of c.params x.params → found ≡ None →
      first_damage c.params (large_key c.params c.seed) x.items ≡ None → decrypt_refusal client input (first ∷ second ∷ []) ≡ None
  not_refused of_client of_cipher compared same none =
      ap (λ read. decrypt_refused client input read (any_cipher_from second)) of_client
      ∙ ap (decrypt_refused client input (Ok c)) of_cipher
      ∙ ap (λ difference. differs_or_damaged input difference c x) (sym compared ∙ same)
      ∙ ap (option_map damaged) none

  pub decrypted : (files : List (List ℕ)) (key : List ℕ) (items : List Item) (writes : List (List ℕ × List ℕ)) (lines : List ℕ) →
      files ≡ first ∷ second ∷ [] → client_from first ≡ Ok c → any_cipher_from second ≡ Ok x → ClientFile first c → CipherRead second x →
      found ≡ difference_of c.params x.params → found ≡ None → key ≡ large_key c.params c.seed → items ≡ x.items →
      AreLinesOf c.params key items lines → writes ≡ [] →
      (decrypt_refusal client input files ≡ None) × DecryptDoes files writes lines
  decrypted files key items writes lines two of_client of_cipher client_file cipher_file compared same is all read wrote =
      let owned : AreLinesOf c.params (large_key c.params c.seed) x.items lines =
      subst (λ xs. AreLinesOf c.params (large_key c.params c.seed) xs lines) all (subst (λ k. AreLinesOf c.params k items lines) is read) in
      let Done : List (List ℕ) → Type 0 = λ fs. (decrypt_refusal client input fs ≡ None) × DecryptDoes fs writes lines in
      subst Done (sym two) (
        not_refused of_client of_cipher compared same owned.whole.0,
        (c, x, client_file, cipher_file, same_set c.params x.params (sym compared ∙ same), wrote, owned.whole.1, owned.kept),
      )
