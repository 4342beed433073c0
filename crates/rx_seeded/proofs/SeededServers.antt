-- The seeded server file: what is read is spelled so, and what is spelled so is read; and its masks.
use Rattle.std.proofs.Common.{◌≡◌, ℕ, zero, suc, ◌+◌, ◌*◌, List, ◌++◌, length, take, drop, Option, None, Result, Ok, refl, sym, ap, subst, ◌∙◌, arith}
use Rattle.std.specs.Prelude.{codes}
use Rattle.std.specs.List.{range_with_len, flat_map}
use Rattle.std.specs.Option.{option_or}
use Rattle.rx_laws.proofs.Words.{words_below-fit}
use Rattle.rx_torus.specs.Streams.{Draws}
use Rattle.rx_params.specs.declared.params.Params.{Params}
use Rattle.rx_params.specs.Derived.{large_dim}
use Rattle.rx_lwe.specs.Seeded.{drawn_words, seeded_row, seeded_rows, row_bodies, switch_masks, seeded_switch, switch_bodies, switch_row_count}
use Rattle.rx_lwe.specs.SwitchKeys.{switch_size}
use Rattle.rx_lwe.proofs.Rows.{rows-suc}
use Rattle.rx_lwe.proofs.SeededRows.{drawn_words-length}
use Rattle.rx_boot.specs.BootKeys.{boot_row_count, boot_size}
use Rattle.rx_boot.specs.ServerKeys.{ServerWords}
use Rattle.rx_boot.specs.Seeded.{boot_body_size, body_size, boot_masks, seeded_boot, boot_bodies, key_of_bodies, key_bodies, redrawn_key}
use Rattle.rx_boot.specs.SeededLaws.{SeededKeyLaws}
use Rattle.rx_codec.specs.declared.fault.CodecFault.{CodecFault}
use Rattle.rx_codec.specs.Reading.{◌>>=◌, bytes_at, magic_at, ends_at}
use Rattle.rx_codec.specs.ParamsFields.{params_bytes, params_at}
use Rattle.rx_codec.specs.WordFields.{word_bytes, words_at}
use Rattle.rx_codec.specs.ServerFile.{IsServer, AreWords64}
use Rattle.rx_codec.proofs.Fields.{IsBytes, IsBytes-within, Stands, Stands-then, Stands-first, Stands-second, Stands-whole, whole-Stands, bind_ok, bytes_takes, bytes_again, magic_takes, magic_again, ends_takes, ends_again}
use Rattle.rx_codec.proofs.Params.{params_takes, params_again}
use Rattle.rx_codec.proofs.Words.{words_takes, words_again}
use Rattle.rx_codec.proofs.Servers.{words64-take, words64-drop, words64-append}
use Rattle.rx_seeded.specs.Masks.{first_unlike}
use Rattle.rx_seeded.specs.SeededServer.{SeededServer, seeded_server_from, wrong_server_mask}
use Rattle.rx_seeded.proofs.Unlike.{unlike-same, unlike-none, unlike-append}
use Rattle.rx_seeded.proofs.WrongMasks.{or_none}

-- ---- words below 2 ^ 64

rows64 : (f : ℕ → List ℕ) (n : ℕ) → ((r : ℕ) → AreWords64 (f r)) → AreWords64 (flat_map f (range_with_len 0 n))
rows64 f zero each = λ i p. absurd (omega (arith, p))
rows64 f (suc n) each = rw (rows-suc f n) (words64-append (flat_map f (range_with_len 0 n)) (f n) (rows64 f n each) (each n))

drawn64 : (count : ℕ) (s : Draws) → AreWords64 (drawn_words count s)
drawn64 count s i p = words_below-fit count _ i (omega (arith, p, drawn_words-length count s))

seeded_rows64 : (mask : ℕ → Draws) (masks wide rows : ℕ) (bodies : List ℕ) → AreWords64 bodies →
    AreWords64 (seeded_rows mask masks wide rows bodies)
seeded_rows64 mask masks wide rows bodies h =
    rows64 (seeded_row mask masks wide bodies) rows
    (λ r. words64-append (drawn_words masks (mask r)) (take wide (drop (r * wide) bodies)) (drawn64 masks (mask r))
    (words64-take wide (drop (r * wide) bodies) (words64-drop (r * wide) bodies h)))

row_bodies64 : (masks wide rows : ℕ) (words : List ℕ) → AreWords64 words → AreWords64 (row_bodies masks wide rows words)
row_bodies64 masks wide rows words h =
    rows64 (λ row. take wide (drop (row * (masks + wide) + masks) words)) rows
    (λ r. words64-take wide (drop (r * (masks + wide) + masks) words) (words64-drop (r * (masks + wide) + masks) words h))

seeded_boot64 : (p : Params) (mask_seed bodies : List ℕ) → AreWords64 bodies → AreWords64 (seeded_boot p mask_seed bodies)
unfolding seeded_boot
seeded_boot64 p mask_seed bodies h = seeded_rows64 (boot_masks mask_seed) (large_dim p) p.poly_size (boot_row_count p) bodies h

seeded_switch64 : (p : Params) (mask_seed bodies : List ℕ) → AreWords64 bodies → AreWords64 (seeded_switch p mask_seed bodies)
unfolding seeded_switch
seeded_switch64 p mask_seed bodies h = seeded_rows64 (switch_masks mask_seed) p.lwe_dim 1 (switch_row_count p) bodies h

boot_bodies64 : (p : Params) (words : List ℕ) → AreWords64 words → AreWords64 (boot_bodies p words)
unfolding boot_bodies
boot_bodies64 p words h = row_bodies64 (large_dim p) p.poly_size (boot_row_count p) words h

switch_bodies64 : (p : Params) (words : List ℕ) → AreWords64 words → AreWords64 (switch_bodies p words)
unfolding switch_bodies
switch_bodies64 p words h = row_bodies64 p.lwe_dim 1 (switch_row_count p) words h

key_bodies64 : (k : ServerWords) → IsServer k → AreWords64 (key_bodies k)
key_bodies64 k fits =
    words64-append (boot_bodies k.params k.boot) (switch_bodies k.params k.switch) (boot_bodies64 k.params k.boot fits.boot_words)
    (switch_bodies64 k.params k.switch fits.switch_words)

-- ---- the file

abbrev after_seed : Params → List ℕ → List ℕ × ℕ → Result ServerWords CodecFault
after_seed p file seed = words_at (body_size p) file seed.1 >>= λ bodies. ends_at file bodies.1 (key_of_bodies p seed.0 bodies.0)

abbrev after_params : List ℕ → Params × ℕ → Result ServerWords CodecFault
after_params file params = bytes_at file 32 params.1 >>= after_seed params.0 file

-- what is read is a seeded server file
pub seeded_server_spelled : SeededKeyLaws → (file : List ℕ) (k : ServerWords) → IsBytes file → seeded_server_from file ≡ Ok k →
    (mask_seed : List ℕ) × SeededServer file mask_seed k
unfolding seeded_server_from
seeded_server_spelled laws file k fits e =
    let magic = bind_ok (magic_at (codes "RXS2") file) (λ after. params_at file after >>= after_params file) k e in
    let params = bind_ok (params_at file magic.0) (after_params file) k magic.2 in
    let p : Params = params.0.0 in
    let seed = bind_ok (bytes_at file 32 params.0.1) (after_seed p file) k params.2 in
    let s : List ℕ = seed.0.0 in
    let words = bind_ok (words_at (body_size p) file seed.0.1) (λ bodies. ends_at file bodies.1 (key_of_bodies p s bodies.0)) k seed.2 in
    let bodies : List ℕ = words.0.0 in
    let end = ends_takes file words.0.1 (key_of_bodies p s bodies) k words.2 in
    let t0 = magic_takes (codes "RXS2") file magic.0 magic.1 in
    let t1 = params_takes file magic.0 params.0 fits t0.within params.1 in
    let t2 = bytes_takes file 32 params.0.1 seed.0 seed.1 in
    let t3 = words_takes (body_size p) file seed.0.1 words.0 fits words.1 in
    let e01 = Stands-then file 0 (codes "RXS2") magic.0 (params_bytes p) params.0.1 t0 t1.there in
    let e02 = Stands-then file 0 (codes "RXS2" ++ params_bytes p) params.0.1 s seed.0.1 e01 t2.0 in
    let e03 = Stands-then file 0 (codes "RXS2" ++ params_bytes p ++ s) seed.0.1 (word_bytes bodies) words.0.1 e02 t3.0 in
    let bytes : IsBytes s = IsBytes-within file params.0.1 s seed.0.1 fits t2.0 in
    let again : key_bodies (key_of_bodies p s bodies) ≡ bodies = laws.bodies p s bodies t3.1 in (
      s,
      subst (SeededServer file s) end.1 (record {
        seed = record { size = t2.1; bytes = λ i lt. bytes i };
        fits = record {
          accepted = t1.accepted;
          boot_count = laws.boot_words p s bodies t3.1;
          switch_count = laws.switch_words p s bodies t3.1;
          boot_words = seeded_boot64 p s (take (boot_body_size p) bodies) (words64-take (boot_body_size p) bodies t3.2);
          switch_words = seeded_switch64 p s (drop (boot_body_size p) bodies) (words64-drop (boot_body_size p) bodies t3.2);
        };
        drawn = ap (key_of_bodies p s) again;
        spelled = whole-Stands file (codes "RXS2" ++ params_bytes p ++ s ++ word_bytes bodies) words.0.1 e03 end.0
            ∙ ap (λ (ws : List ℕ). codes "RXS2" ++ params_bytes p ++ s ++ word_bytes ws) (sym again);
      }),
    )

-- a seeded server file is read
pub seeded_server_again : SeededKeyLaws → (file mask_seed : List ℕ) (k : ServerWords) → SeededServer file mask_seed k →
    seeded_server_from file ≡ Ok k
unfolding seeded_server_from
seeded_server_again laws file mask_seed k h =
    let p : Params = k.params in
    let magic : List ℕ = codes "RXS2" in
    let head : List ℕ = params_bytes p in
    let bodies : List ℕ = key_bodies k in
    let whole : Stands file 0 (magic ++ head ++ mask_seed ++ word_bytes bodies) (length file) =
    subst (λ (text : List ℕ). Stands file 0 text (length file)) h.spelled (Stands-whole file) in
    let p3 = Stands-first file 0 (magic ++ head ++ mask_seed) (word_bytes bodies) (length file) whole in
    let s3 = Stands-second file 0 (magic ++ head ++ mask_seed) (word_bytes bodies) (length file) whole in
    let p2 = Stands-first file 0 (magic ++ head) mask_seed (0 + length (magic ++ head ++ mask_seed)) p3 in
    let s2 = Stands-second file 0 (magic ++ head) mask_seed (0 + length (magic ++ head ++ mask_seed)) p3 in
    let p1 = Stands-first file 0 magic head (0 + length (magic ++ head)) p2 in
    let s1 = Stands-second file 0 magic head (0 + length (magic ++ head)) p2 in
    let count : length bodies ≡ body_size p = laws.body_words k h.fits.boot_count h.fits.switch_count in
    ap (λ (r : Result ℕ CodecFault). r >>= λ after. params_at file after >>= after_params file) (magic_again magic file _ refl p1)
    ∙ ap (λ (r : Result (Params × ℕ) CodecFault). r >>= after_params file) (params_again file _ p _ h.fits.accepted s1)
    ∙ ap (λ (r : Result (List ℕ × ℕ) CodecFault). r >>= after_seed p file) (bytes_again file 32 _ mask_seed _ s2 h.seed.size)
    ∙ ap (λ (r : Result (List ℕ × ℕ) CodecFault). r >>= λ ws. ends_at file ws.1 (key_of_bodies p mask_seed ws.0))
    (words_again (body_size p) file _ bodies _ count (key_bodies64 k h.fits) s3)
    ∙ ends_again file (length file) (key_of_bodies p mask_seed bodies) refl
    ∙ ap done h.drawn
  where
    done : ServerWords → Result ServerWords CodecFault
    done x = Ok x

-- ---- masks

-- the words of a key and those that a seed draws in place of them are as many
redrawn-boot : SeededKeyLaws → (mask_seed : List ℕ) (k : ServerWords) → length (key_bodies k) ≡ body_size k.params →
    length k.boot ≡ boot_size k.params → length k.boot ≡ length (redrawn_key mask_seed k).boot
redrawn-boot laws mask_seed k count size = size ∙ sym (laws.boot_words k.params mask_seed (key_bodies k) count)

redrawn-switch : SeededKeyLaws → (mask_seed : List ℕ) (k : ServerWords) → length (key_bodies k) ≡ body_size k.params →
    length k.switch ≡ switch_size k.params → length k.switch ≡ length (redrawn_key mask_seed k).switch
redrawn-switch laws mask_seed k count size = size ∙ sym (laws.switch_words k.params mask_seed (key_bodies k) count)

-- the first wrong mask stands in the one list, or else in the other
abbrev pub wrong_part : ServerWords → ServerWords → Option ℕ
wrong_part k drawn =
    option_or (first_unlike 44 k.boot drawn.boot) (first_unlike (44 + 8 * length k.boot) k.switch drawn.switch)

pub wrong-parts : SeededKeyLaws → (mask_seed : List ℕ) (k : ServerWords) → length (key_bodies k) ≡ body_size k.params →
    length k.boot ≡ boot_size k.params → wrong_server_mask mask_seed k ≡ wrong_part k (redrawn_key mask_seed k)
wrong-parts laws mask_seed k count size =
    unlike-append 44 k.boot (redrawn_key mask_seed k).boot k.switch (redrawn_key mask_seed k).switch
    (redrawn-boot laws mask_seed k count size)

-- what a code compares with: the key that it makes of the bodies
pub told_part : SeededKeyLaws → (mask_seed bodies : List ℕ) (k drawn : ServerWords) → bodies ≡ key_bodies k →
    length bodies ≡ body_size k.params → length k.boot ≡ boot_size k.params → drawn ≡ key_of_bodies k.params mask_seed bodies →
    wrong_server_mask mask_seed k ≡ wrong_part k drawn
told_part laws mask_seed bodies k drawn same count size is =
    wrong-parts laws mask_seed k (ap length (sym same) ∙ count) size
    ∙ ap (wrong_part k) (ap (key_of_bodies k.params mask_seed) (sym same) ∙ sym is)

-- a key without a wrong mask is drawn
pub key-drawn : SeededKeyLaws → (mask_seed : List ℕ) (k : ServerWords) → length (key_bodies k) ≡ body_size k.params →
    length k.boot ≡ boot_size k.params → length k.switch ≡ switch_size k.params →
    wrong_part k (redrawn_key mask_seed k) ≡ None → redrawn_key mask_seed k ≡ k
key-drawn laws mask_seed k count boot_size switch_size none =
    let drawn : ServerWords = redrawn_key mask_seed k in
    let parts = or_none (first_unlike 44 k.boot drawn.boot) (first_unlike (44 + 8 * length k.boot) k.switch drawn.switch) none in
    let boot : k.boot ≡ drawn.boot = unlike-none 44 k.boot drawn.boot (redrawn-boot laws mask_seed k count boot_size) parts.0 in
    let switch : k.switch ≡ drawn.switch =
    unlike-none (44 + 8 * length k.boot) k.switch drawn.switch (redrawn-switch laws mask_seed k count switch_size) parts.1 in
    let key : List ℕ → List ℕ → ServerWords = λ b s. record { params = k.params; boot = b; switch = s } in
    ap (λ b. key b drawn.switch) (sym boot) ∙ ap (key k.boot) (sym switch)

-- and one that is drawn has none
pub key-right : (mask_seed : List ℕ) (k : ServerWords) → redrawn_key mask_seed k ≡ k → wrong_server_mask mask_seed k ≡ None
key-right mask_seed k drawn =
    ap (λ (d : ServerWords). first_unlike 44 (k.boot ++ k.switch) (d.boot ++ d.switch)) drawn ∙ unlike-same 44 (k.boot ++ k.switch)
