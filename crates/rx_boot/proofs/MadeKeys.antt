-- The server key that a client's seed makes: its sizes, its words and what its rows hide.
use Rattle.std.proofs.Common.{◌≡◌, ℕ, ◌+◌, ◌*◌, ◌/◌, ◌%◌, ◌^◌, ◌<◌, ◌≤◌, refl, sym, ◌∙◌, ap, arith, List, length, get_or, map}
use Rattle.std.specs.List.{range_with_len, flat_map}
use Rattle.std.proofs.lemmas.List.FromFn.{get_or-map-range_with_len}
use Rattle.std.proofs.lemmas.Nat.{div-add-mod', div_below, mod_below}
use Rattle.rx_laws.proofs.Words.{words_below-fit}
use Rattle.rx_params.specs.declared.params.Params.{Params}
use Rattle.rx_params.specs.declared.rotation.Rotation.{Rotation}
use Rattle.rx_params.specs.declared.rotation.Rotation.TheVariants.{Bits}
use Rattle.rx_params.specs.Acceptance.{FieldsInRange, Accepts}
use Rattle.rx_params.specs.Derived.{large_dim, encrypted_count, words_with, key_words}
use Rattle.rx_params.proofs.Sizes.{square}
use Rattle.rx_lwe.specs.Lwe.{encrypted}
use Rattle.rx_lwe.specs.Secret.{key_bit, small_key, large_key}
use Rattle.rx_lwe.specs.SwitchKeys.{SwitchRows, switch_key, switch_size, switch_row, switch_key_words}
use Rattle.rx_lwe.proofs.Keys.{small_key-length, small_key-bits, large_key-length}
use Rattle.rx_lwe.proofs.Rows.{rows-place}
use Rattle.rx_lwe.proofs.Made.{switch_row-length, switch_key_words-length, switch_key-near}
use Rattle.rx_glwe.specs.Rows.{glwe_row}
use Rattle.rx_glwe.specs.Sizes.{glwe_size}
use Rattle.rx_boot.specs.BootKeys.{ggsw_row_count, key_row_count, rows_size, boot_size, key_row, numbered_row, key_rows, boot_key_words}
use Rattle.rx_boot.specs.ServerKeys.{ServerWords, IsSecret, IsServerKey, server_key}
use Rattle.rx_boot.specs.Laws.{ServerKeyLaws}
use Rattle.rx_boot.proofs.Sizes.{some_coefficients}
use Rattle.rx_boot.proofs.RowWords.{key_row-length, key_rows-length, key_rows-near}

-- ---- the secret
large_key-bits : (p : Params) (seed : List ℕ) (i : ℕ) → i < length (large_key p seed) → get_or (large_key p seed) i 0 < 2
unfolding large_key
large_key-bits p seed i q =
    let bit : ℕ → ℕ = λ u. key_bit seed (u / p.poly_size) (u % p.poly_size) in
    let count : length (large_key p seed) ≡ large_dim p = large_key-length p seed in
    let here : get_or (map bit (range_with_len 0 (large_dim p))) i 0 ≡ bit i =
    get_or-map-range_with_len bit 0 (large_dim p) i i 0 (omega (arith, count)) (omega arith) in
    omega (arith, here)

pub made_secret : (p : Params) (seed : List ℕ) → IsSecret p (small_key p seed) (large_key p seed)
made_secret p seed = record {
  small_size = small_key-length p seed;
  large_size = large_key-length p seed;
  small_bits = small_key-bits p seed (small_key p seed) refl;
  large_bits = large_key-bits p seed;
}

-- ---- words below 2 ^ 64
rows-fit : (f : ℕ → List ℕ) (width n u : ℕ) → 0 < width → ((r : ℕ) → r < n → length (f r) ≡ width) →
    ((r i : ℕ) → i < width → get_or (f r) i 0 < 2 ^ 64) → u < n * width →
    get_or (flat_map f (range_with_len 0 n)) u 0 < 2 ^ 64
rows-fit f width n u some each fit q =
    let place : u / width * width + u % width ≡ u = div-add-mod' u width in
    let within : u % width < width = mod_below u width some in
    let here : get_or (flat_map f (range_with_len 0 n)) u 0 ≡ get_or (f (u / width)) (u % width) 0 =
    ap (λ x. get_or (flat_map f (range_with_len 0 n)) x 0) (sym place)
    ∙ rows-place f width n (u / width) (u % width) each (div_below u width n some q) within in
    omega (arith, here, fit (u / width) (u % width) within)

key_row-fit : (rotation : Rotation) (p : Params) (bits large mask_seed noise_seed : List ℕ) (i j t u : ℕ) → u < glwe_size p →
    get_or (key_row rotation p bits large mask_seed noise_seed i j t) u 0 < 2 ^ 64
unfolding key_row glwe_row
key_row-fit rotation p bits large mask_seed noise_seed i j t u q = words_below-fit ((p.glwe_dim + 1) * p.poly_size) _ u q

switch_row-fit : (p : Params) (large small mask_seed noise_seed : List ℕ) (row u : ℕ) → length small ≡ p.lwe_dim → u < p.lwe_dim + 1 →
    get_or (switch_row p large small mask_seed noise_seed row) u 0 < 2 ^ 64
unfolding switch_row encrypted
switch_row-fit p large small mask_seed noise_seed row u size q = words_below-fit (length small + 1) _ u (omega (arith, size))

pub key_rows-fit : (rotation : Rotation) (p : Params) (bits large mask_seed noise_seed : List ℕ) (u : ℕ) → 0 < p.poly_size → u < rows_size rotation p →
    get_or (key_rows rotation p bits large mask_seed noise_seed) u 0 < 2 ^ 64
unfolding key_rows
key_rows-fit rotation p bits large mask_seed noise_seed u some q =
    let wide : 0 < glwe_size p = omega arith in
    rows-fit (numbered_row rotation p bits large mask_seed noise_seed) (glwe_size p) (key_row_count rotation p) u wide
    (λ r _. key_row-length rotation p bits large mask_seed noise_seed (r / ggsw_row_count p) (r / p.pbs_level % (p.glwe_dim + 1)) (r % p.pbs_level) some)
    (λ r i s. key_row-fit rotation p bits large mask_seed noise_seed (r / ggsw_row_count p) (r / p.pbs_level % (p.glwe_dim + 1)) (r % p.pbs_level) i s)
    (omega arith)

pub switch_key_words-fit : (p : Params) (large small mask_seed noise_seed : List ℕ) (u : ℕ) → length small ≡ p.lwe_dim → u < switch_size p →
    get_or (switch_key_words p large small mask_seed noise_seed) u 0 < 2 ^ 64
unfolding switch_key_words
switch_key_words-fit p large small mask_seed noise_seed u size q =
    rows-fit (switch_row p large small mask_seed noise_seed) (p.lwe_dim + 1) (large_dim p * p.ks_level) u (omega arith)
    (λ r _. switch_row-length p large small mask_seed noise_seed r size)
    (λ r i s. switch_row-fit p large small mask_seed noise_seed r i size s) q

-- ---- the whole key
in_order : (d k l n : ℕ) → d * (k * l * (k * n)) ≡ d * (k * k) * l * n
in_order d k l n = omega arith

-- the rows of a rotation and the switch rows are the words of its key
pub rows_words : (rotation : Rotation) (p : Params) → rows_size rotation p + switch_size p ≡ words_with (encrypted_count rotation p) p
unfolding large_dim
rows_words rotation p =
    let k : ℕ = p.glwe_dim + 1 in
    ap (λ x. x + p.glwe_dim * p.poly_size * p.ks_level * (p.lwe_dim + 1))
    (in_order (encrypted_count rotation p) k p.pbs_level p.poly_size ∙ ap (λ x. encrypted_count rotation p * x * p.pbs_level * p.poly_size) (sym (square k)))

pub all_words : (p : Params) → boot_size p + switch_size p ≡ key_words p
unfolding key_words
all_words p = rows_words Bits p

pub boot_size-few : (p : Params) → Accepts p → boot_size p ≤ 2 ^ 24
boot_size-few p h = omega (arith, all_words p, h.key)

pub switch_size-few : (p : Params) → Accepts p → switch_size p ≤ 2 ^ 24
switch_size-few p h = omega (arith, all_words p, h.key)

pub made_near : (p : Params) (client_seed mask_seed : List ℕ) → FieldsInRange p →
    IsServerKey (small_key p client_seed) (large_key p client_seed) (server_key p client_seed mask_seed)
unfolding server_key
made_near p client_seed mask_seed fields =
    let small : List ℕ = small_key p client_seed in
    let large : List ℕ = large_key p client_seed in
    record {
      boot = λ i q. key_rows-near Bits p small large mask_seed client_seed i (some_coefficients p fields) q;
      switch = switch_key-near p large small mask_seed client_seed (small_key-length p client_seed);
    }

abbrev pub made_of : Params → List ℕ → SwitchRows → ServerWords
made_of p boot switch = record { params = p; boot = boot; switch = switch.words }

-- the key that a code makes, from what each of its parts is
pub made_key : (p : Params) (client_seed mask_seed small large boot : List ℕ) (switch : SwitchRows) →
    small ≡ small_key p client_seed → large ≡ large_key p client_seed → boot ≡ boot_key_words p small large mask_seed client_seed →
    switch ≡ switch_key p (switch_key_words p large small mask_seed client_seed) →
    made_of p boot switch ≡ server_key p client_seed mask_seed
unfolding server_key
made_key p client_seed mask_seed small large boot switch is_small is_large is_boot is_switch =
    let key : List ℕ → List ℕ → ServerWords = λ b s. record { params = p; boot = b; switch = s } in
    let rows : List ℕ → List ℕ → ServerWords = λ s l. key (boot_key_words p s l mask_seed client_seed) (switch_key_words p l s mask_seed client_seed) in
    ap (λ b. key b switch.words) is_boot
    ∙ ap (λ (s : SwitchRows). key (boot_key_words p small large mask_seed client_seed) s.words) is_switch
    ∙ ap (λ s. rows s large) is_small ∙ ap (rows (small_key p client_seed)) is_large

pub server_key_laws : ServerKeyLaws
unfolding server_key
server_key_laws = record {
  secret = λ p client_seed _. made_secret p client_seed;
  near = made_near;
  boot_words = λ p client_seed mask_seed fields.
      key_rows-length Bits p (small_key p client_seed) (large_key p client_seed) mask_seed client_seed (some_coefficients p fields);
  switch_words = λ p client_seed mask_seed _.
      switch_key_words-length p (large_key p client_seed) (small_key p client_seed) mask_seed client_seed (small_key-length p client_seed);
  all_words = all_words;
  boot_below = λ p client_seed mask_seed fields i q.
      let some : 0 < p.poly_size = some_coefficients p fields in
      key_rows-fit Bits p (small_key p client_seed) (large_key p client_seed) mask_seed client_seed i some
      (omega (arith, key_rows-length Bits p (small_key p client_seed) (large_key p client_seed) mask_seed client_seed some));
  switch_below = λ p client_seed mask_seed _ i q.
      let size : length (small_key p client_seed) ≡ p.lwe_dim = small_key-length p client_seed in
      switch_key_words-fit p (large_key p client_seed) (small_key p client_seed) mask_seed client_seed i size
      (omega (arith, switch_key_words-length p (large_key p client_seed) (small_key p client_seed) mask_seed client_seed size));
}
