-- `migrate` and `expand`, one after the other, give the bytes back.
use Rattle.std.proofs.Common.{◌≡◌, ◌⊎◌, inl, inr, ℕ, Bool, true, false, cond, List, [], ◌∷◌, Option, None, Some, Result, Ok, Err, refl, sym, ap, subst, ◌∙◌}
use Rattle.std.specs.Prelude.{codes}
use Rattle.std.specs.Option.{option_map}
use Rattle.rx_boot.specs.ServerKeys.{ServerWords}
use Rattle.rx_codec.specs.declared.cipher.Cipher.{Cipher}
use Rattle.rx_codec.specs.declared.fault.CodecFault.{CodecFault}
use Rattle.rx_codec.specs.ServerFile.{ServerFile, server_bytes, server_from}
use Rattle.rx_codec.specs.CipherFile.{CipherFile, cipher_bytes, cipher_from}
use Rattle.rx_codec.specs.Laws.{FileLaws}
use Rattle.rx_codec.proofs.Fields.{ok_is}
use Rattle.rx_seeded.specs.FileKinds.{begins}
use Rattle.rx_seeded.specs.SeededServer.{SeededServer, seeded_server_bytes, seeded_server_from}
use Rattle.rx_seeded.specs.SeededCipher.{SeededCipher, seeded_cipher_bytes, seeded_cipher_from}
use Rattle.rx_seeded.specs.Laws.{SeededFileLaws}
use Rattle.rx_seeded.proofs.EitherVersion.{first_begins, cipher_begins_otherwise, seeded_server_begins, seeded_cipher_begins_otherwise}
use Rattle.rx_report.specs.Reports.{Report, wrong_mask}
use Rattle.rx_tool.specs.Migrate.{migrate_server_refused, migrate_cipher_refused, migrate_refusal, IsMigrated, MigrateDoes}
use Rattle.rx_tool.specs.Expand.{expand_server_refused, expand_cipher_refused, expand_refusal, IsSeededBy, IsExpanded, ExpandDoes}
use Rattle.rx_tool.specs.BothWays.{BothWaysLaws}

-- the bytes of the one file that is written
last_of : List (List ℕ × List ℕ) → List ℕ
last_of [] = []
last_of ((name, bytes) ∷ writes) = bytes

-- a Bool is not both
both : (b : Bool) → b ≡ true → b ≡ false → ⊥
both b is other = let e : ◌≡◌ {A = Bool} true false = sym is ∙ other in absurd cc

module _ (laws : FileLaws) (versions : SeededFileLaws) where
  -- ---- what was written, over the relations

  expands_to : (mask_seed input file bytes : List ℕ) → IsMigrated mask_seed file bytes → expand_refusal input (bytes ∷ []) ≡ None
  expands_to mask_seed input file bytes (inl (k, first, second)) =
      ap (λ (b : Bool). cond b (expand_server_refused input (seeded_server_from bytes)) (expand_cipher_refused input (seeded_cipher_from bytes)))
      (seeded_server_begins bytes mask_seed k second)
      ∙ ap (expand_server_refused input) (versions.seeded_server bytes mask_seed k second).0
  expands_to mask_seed input file bytes (inr (c, first, second)) =
      ap (λ (b : Bool). cond b (expand_server_refused input (seeded_server_from bytes)) (expand_cipher_refused input (seeded_cipher_from bytes)))
      (seeded_cipher_begins_otherwise bytes mask_seed c second)
      ∙ ap (expand_cipher_refused input) (versions.seeded_cipher bytes mask_seed c second).0

  back : (mask_seed file bytes again : List ℕ) → IsMigrated mask_seed file bytes → IsExpanded bytes again → again ≡ file
  back mask_seed file bytes again (inl (k, first, second)) (inl (seed, l, third, fourth)) =
      let same : l ≡ k = ok_is l k (sym (versions.seeded_server bytes seed l third).0 ∙ (versions.seeded_server bytes mask_seed k second).0) in
      fourth.spelled ∙ ap server_bytes same ∙ sym first.spelled
  back mask_seed file bytes again (inl (k, first, second)) (inr (seed, c, third, fourth)) =
      absurd (both (begins bytes (codes "RXS2")) (seeded_server_begins bytes mask_seed k second) (seeded_cipher_begins_otherwise bytes seed c third))
  back mask_seed file bytes again (inr (c, first, second)) (inl (seed, k, third, fourth)) =
      absurd (both (begins bytes (codes "RXS2")) (seeded_server_begins bytes seed k third) (seeded_cipher_begins_otherwise bytes mask_seed c second))
  back mask_seed file bytes again (inr (c, first, second)) (inr (seed, d, third, fourth)) =
      let same : d ≡ c = ok_is d c (sym (versions.seeded_cipher bytes seed d third).0 ∙ (versions.seeded_cipher bytes mask_seed c second).0) in
      fourth.spelled ∙ ap cipher_bytes same ∙ sym first.spelled

  -- a seeded file of a mask seed that is expanded has the value of that seed
  expanded_by : (mask_seed file bytes : List ℕ) → IsSeededBy mask_seed file → IsExpanded file bytes →
      ((k : ServerWords) × SeededServer file mask_seed k × ServerFile bytes k)
      ⊎ ((c : Cipher) × SeededCipher file mask_seed c × CipherFile bytes c)
  expanded_by mask_seed file bytes (inl (k, seeded)) (inl (seed, l, third, fourth)) =
      let same : l ≡ k = ok_is l k (sym (versions.seeded_server file seed l third).0 ∙ (versions.seeded_server file mask_seed k seeded).0) in
      inl (k, seeded, subst (ServerFile bytes) same fourth)
  expanded_by mask_seed file bytes (inl (k, seeded)) (inr (seed, c, third, fourth)) =
      absurd (both (begins file (codes "RXS2")) (seeded_server_begins file mask_seed k seeded) (seeded_cipher_begins_otherwise file seed c third))
  expanded_by mask_seed file bytes (inr (c, seeded)) (inl (seed, k, third, fourth)) =
      absurd (both (begins file (codes "RXS2")) (seeded_server_begins file seed k third) (seeded_cipher_begins_otherwise file mask_seed c seeded))
  expanded_by mask_seed file bytes (inr (c, seeded)) (inr (seed, d, third, fourth)) =
      let same : d ≡ c = ok_is d c (sym (versions.seeded_cipher file seed d third).0 ∙ (versions.seeded_cipher file mask_seed c seeded).0) in
      inr (c, seeded, subst (CipherFile bytes) same fourth)

  migrates_to : (mask_seed input file bytes : List ℕ) → IsSeededBy mask_seed file → IsExpanded file bytes →
      migrate_refusal mask_seed input (bytes ∷ []) ≡ None
  migrates_to mask_seed input file bytes seeded expanded = of_parts (expanded_by mask_seed file bytes seeded expanded)
    where
      of_parts : ((k : ServerWords) × SeededServer file mask_seed k × ServerFile bytes k)
          ⊎ ((c : Cipher) × SeededCipher file mask_seed c × CipherFile bytes c) → migrate_refusal mask_seed input (bytes ∷ []) ≡ None
      of_parts (inl (k, second, first)) =
          ap (λ (b : Bool). cond b (migrate_server_refused mask_seed input (server_from bytes)) (migrate_cipher_refused mask_seed input (cipher_from bytes)))
          (first_begins bytes k first)
          ∙ ap (migrate_server_refused mask_seed input) (laws.server_read bytes k first)
          ∙ ap (option_map (wrong_mask input)) (versions.seeded_server file mask_seed k second).1
      of_parts (inr (c, second, first)) =
          ap (λ (b : Bool). cond b (migrate_server_refused mask_seed input (server_from bytes)) (migrate_cipher_refused mask_seed input (cipher_from bytes)))
          (cipher_begins_otherwise bytes c first)
          ∙ ap (migrate_cipher_refused mask_seed input) (laws.cipher_read bytes c first)
          ∙ ap (option_map (wrong_mask input)) (versions.seeded_cipher file mask_seed c second).1

  forth : (mask_seed file bytes again : List ℕ) → IsSeededBy mask_seed file → IsExpanded file bytes → IsMigrated mask_seed bytes again →
      again ≡ file
  forth mask_seed file bytes again seeded expanded migrated = of_parts (expanded_by mask_seed file bytes seeded expanded) migrated
    where
      of_parts : ((k : ServerWords) × SeededServer file mask_seed k × ServerFile bytes k)
          ⊎ ((c : Cipher) × SeededCipher file mask_seed c × CipherFile bytes c) → IsMigrated mask_seed bytes again → again ≡ file
      of_parts (inl (k, second, first)) (inl (l, third, fourth)) =
          let same : l ≡ k = ok_is l k (sym (laws.server_read bytes l third) ∙ laws.server_read bytes k first) in
          fourth.spelled ∙ ap (seeded_server_bytes mask_seed) same ∙ sym second.spelled
      of_parts (inl (k, second, first)) (inr (c, third, fourth)) =
          absurd (both (begins bytes (codes "RXS1")) (first_begins bytes k first) (cipher_begins_otherwise bytes c third))
      of_parts (inr (c, second, first)) (inl (k, third, fourth)) =
          absurd (both (begins bytes (codes "RXS1")) (first_begins bytes k third) (cipher_begins_otherwise bytes c first))
      of_parts (inr (c, second, first)) (inr (d, third, fourth)) =
          let same : d ≡ c = ok_is d c (sym (laws.cipher_read bytes d third) ∙ laws.cipher_read bytes c first) in
          fourth.spelled ∙ ap (seeded_cipher_bytes mask_seed) same ∙ sym second.spelled

  -- ---- the commands

  -- what stands in the one write
  written : (out x bytes : List ℕ) → ◌≡◌ {A = List (List ℕ × List ℕ)} ((out, x) ∷ []) ((out, bytes) ∷ []) → x ≡ bytes
  unfolding last_of
  written out x bytes e = ap last_of e

  pub both_ways : BothWaysLaws
  both_ways = record {
    expands = λ mask_seed out input file bytes (made, is, writes, lines).
        expands_to mask_seed input file bytes (subst (IsMigrated mask_seed file) (sym (written out bytes made writes)) is);
    expanded = λ mask_seed out name file bytes again (made, is, writes, lines) (given, reads, wrote, printed).
        back mask_seed file bytes again (subst (IsMigrated mask_seed file) (sym (written out bytes made writes)) is)
        (subst (IsExpanded bytes) (sym (written name again given wrote)) reads);
    migrates = λ mask_seed out input file bytes seeded (made, is, writes, lines).
        migrates_to mask_seed input file bytes seeded (subst (IsExpanded file) (sym (written out bytes made writes)) is);
    migrated = λ mask_seed out name file bytes again seeded (made, is, writes, lines) (given, reads, wrote, printed).
        forth mask_seed file bytes again seeded (subst (IsExpanded file) (sym (written out bytes made writes)) is)
        (subst (IsMigrated mask_seed bytes) (sym (written name again given wrote)) reads);
  }
