-- The seeded server file of a made key: its bodies are those of its rows, and it is the file of the key.
use Rattle.std.proofs.Common.{◌≡◌, ℕ, ◌+◌, List, [], ◌++◌, append_assoc, ap, refl, sym, ◌∙◌}
use Rattle.std.specs.Prelude.{codes}
use Rattle.std.specs.Int.{w64, to_le_bytes}
use Rattle.std.specs.List.{range_with_len, flat_map}
use Rattle.std.proofs.lemmas.List.{append-nil}
use Rattle.std.proofs.lemmas.List.Concat.{flat_map-append}
use Rattle.rx_params.specs.declared.params.Params.{Params}
use Rattle.rx_params.specs.Acceptance.{Accepts}
use Rattle.rx_lwe.specs.Seeded.{switch_row_count}
use Rattle.rx_lwe.proofs.Rows.{rows-more}
use Rattle.rx_boot.specs.BootKeys.{boot_row_count}
use Rattle.rx_boot.specs.FreshRows.{KeySeeds, fresh_boot_bodies, fresh_switch_bodies}
use Rattle.rx_boot.specs.Laws.{ServerKeyLaws}
use Rattle.rx_boot.specs.Seeded.{key_bodies}
use Rattle.rx_boot.specs.SeededLaws.{SeededKeyLaws}
use Rattle.rx_boot.specs.ServerKeys.{ServerWords, server_key}
use Rattle.rx_codec.specs.ParamsFields.{params_bytes}
use Rattle.rx_codec.specs.WordFields.{word_bytes}
use Rattle.rx_seeded.specs.Masks.{IsSeed}
use Rattle.rx_seeded.specs.SeededServer.{SeededServer}

-- the bytes of no body
pub no_bodies : (before : List ℕ) → before ≡ before ++ word_bytes []
no_bodies before = sym (append-nil before)

-- the bytes of one more body
pub body_added : (f : ℕ → List ℕ) (n : ℕ) (before out new body : List ℕ) →
    out ≡ before ++ word_bytes (flat_map f (range_with_len 0 n)) → new ≡ out ++ word_bytes body → body ≡ f n →
    new ≡ before ++ word_bytes (flat_map f (range_with_len 0 (n + 1)))
body_added f n before out new body so_far added is =
    let rows : List ℕ = flat_map f (range_with_len 0 n) in
    added
    ∙ ap (λ xs. xs ++ word_bytes body) so_far
    ∙ append_assoc before (word_bytes rows) (word_bytes body)
    ∙ ap (λ xs. before ++ xs) (sym (flat_map-append (to_le_bytes w64) rows body))
    ∙ ap (λ xs. before ++ word_bytes (rows ++ xs)) is
    ∙ ap (λ xs. before ++ word_bytes xs) (rows-more f n)

-- the file of a made key, from its head and the bodies of its rows
file_of_rows : ServerKeyLaws → SeededKeyLaws → (s : KeySeeds) (head boot whole : List ℕ) → Accepts s.params → IsSeed s.mask_seed →
    head ≡ codes "RXS2" ++ params_bytes s.params ++ s.mask_seed →
    boot ≡ head ++ word_bytes (fresh_boot_bodies s (boot_row_count s.params)) →
    whole ≡ boot ++ word_bytes (fresh_switch_bodies s (switch_row_count s.params)) →
    SeededServer whole s.mask_seed (server_key s.params s.client_seed s.mask_seed)
unfolding server_key
file_of_rows key_laws laws s head boot whole accepts seed is_head is_boot is_whole =
    let p : Params = s.params in
    let front : List ℕ = fresh_boot_bodies s (boot_row_count p) in
    let back : List ℕ = fresh_switch_bodies s (switch_row_count p) in
    let key : ServerWords = server_key p s.client_seed s.mask_seed in
    record {
      seed = seed;
      fits = record {
        accepted = accepts;
        boot_count = key_laws.boot_words p s.client_seed s.mask_seed accepts.fields;
        switch_count = key_laws.switch_words p s.client_seed s.mask_seed accepts.fields;
        boot_words = key_laws.boot_below p s.client_seed s.mask_seed accepts.fields;
        switch_words = key_laws.switch_below p s.client_seed s.mask_seed accepts.fields;
      };
      drawn = laws.made p s.client_seed s.mask_seed accepts.fields;
      spelled = is_whole
          ∙ ap (λ xs. xs ++ word_bytes back) is_boot
          ∙ append_assoc head (word_bytes front) (word_bytes back)
          ∙ ap (λ xs. head ++ xs) (sym (flat_map-append (to_le_bytes w64) front back))
          ∙ ap (λ xs. head ++ word_bytes xs) (sym (laws.made_bodies s accepts.fields))
          ∙ ap (λ xs. xs ++ word_bytes (key_bodies key)) is_head;
    }

-- the same, where the rows of a code are those of the seeds
pub fresh_file : ServerKeyLaws → SeededKeyLaws → (p : Params) (client_seed mask_seed : List ℕ) (rows : KeySeeds)
    (head boot whole : List ℕ) → rows ≡ record { params = p; client_seed = client_seed; mask_seed = mask_seed } →
    Accepts p → IsSeed mask_seed → head ≡ codes "RXS2" ++ params_bytes p ++ mask_seed →
    boot ≡ head ++ word_bytes (fresh_boot_bodies rows (boot_row_count rows.params)) →
    whole ≡ boot ++ word_bytes (fresh_switch_bodies rows (switch_row_count rows.params)) →
    SeededServer whole mask_seed (server_key p client_seed mask_seed)
fresh_file key_laws laws p client_seed mask_seed rows head boot whole is accepts seed is_head is_boot is_whole =
    file_of_rows key_laws laws (record { params = p; client_seed = client_seed; mask_seed = mask_seed }) head boot whole accepts seed
    is_head
    (is_boot ∙ ap (λ (s : KeySeeds). head ++ word_bytes (fresh_boot_bodies s (boot_row_count s.params))) is)
    (is_whole ∙ ap (λ (s : KeySeeds). boot ++ word_bytes (fresh_switch_bodies s (switch_row_count s.params))) is)
