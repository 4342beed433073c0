-- The rows of a made key hide what its encrypted bits ask for.
use Rattle.std.proofs.Common.{◌≡◌, ℕ, ℤ, pos, ◌+◌, ◌*◌, ◌/◌, ◌%◌, ◌^◌, ◌<◌, ◌∙◌, ap, arith, List, length, get_or}
use Rattle.std.specs.List.{range_with_len, flat_map}
use Rattle.std.proofs.lemmas.Nat.{mul-add-lt}
use Rattle.rx_laws.specs.Torus.{word}
use Rattle.rx_laws.specs.Words.{of_words, AreWords}
use Rattle.rx_ring.specs.Parts.{of_parts, AreParts}
use Rattle.rx_ring.specs.Keys.{level_weight, IsGgsw}
use Rattle.rx_laws.proofs.Torus.{word-word}
use Rattle.rx_ring.proofs.Hiding.{hiding-IsGgsw}
use Rattle.rx_torus.specs.Streams.{Draws, stream_of, draw, uniform}
use Rattle.rx_torus.specs.Kinds.{stream_number}
use Rattle.rx_params.specs.declared.params.Params.{Params}
use Rattle.rx_params.specs.declared.rotation.Rotation.{Rotation}
use Rattle.rx_params.specs.Derived.{encrypted_count}
use Rattle.rx_lwe.proofs.Noises.{uniform-size}
use Rattle.rx_lwe.proofs.Rows.{rows-length, rows-place}
use Rattle.rx_glwe.specs.Sizes.{glwe_size}
use Rattle.rx_glwe.specs.Rows.{glwe_row}
use Rattle.rx_glwe.proofs.Rows.{row_numbers, glwe_row-are, glwe_row-words}
use Rattle.rx_boot.specs.BootKeys.{ggsw_row_count, key_row_count, rows_size, boot_rows, row_hidden, mask_kind, noise_kind, key_row, numbered_row, key_rows}
use Rattle.rx_boot.proofs.Sizes.{row_number, row_number-level, row_number-polynomial, row_number-bit, row_number-lt, row_number-of}

key_row-are : (rotation : Rotation) (p : Params) (bits large mask_seed noise_seed : List ℕ) (i j t : ℕ) → 0 < p.poly_size →
    AreParts p.poly_size (p.glwe_dim + 1)
    (row_numbers p large (stream_of mask_seed (stream_number (mask_kind rotation) (row_number (p.glwe_dim + 1) p.pbs_level i j t)))
    (stream_of noise_seed (stream_number (noise_kind rotation) (row_number (p.glwe_dim + 1) p.pbs_level i j t)))
    (row_hidden p bits large i j t))
    (key_row rotation p bits large mask_seed noise_seed i j t)
unfolding key_row
key_row-are rotation p bits large mask_seed noise_seed i j t some =
    glwe_row-are p large (stream_of mask_seed (stream_number (mask_kind rotation) (row_number (p.glwe_dim + 1) p.pbs_level i j t)))
    (stream_of noise_seed (stream_number (noise_kind rotation) (row_number (p.glwe_dim + 1) p.pbs_level i j t)))
    (row_hidden p bits large i j t) some

pub key_row-length : (rotation : Rotation) (p : Params) (bits large mask_seed noise_seed : List ℕ) (i j t : ℕ) → 0 < p.poly_size →
    length (key_row rotation p bits large mask_seed noise_seed i j t) ≡ glwe_size p
key_row-length rotation p bits large mask_seed noise_seed i j t some = (key_row-are rotation p bits large mask_seed noise_seed i j t some).count_is

pub key_rows-length : (rotation : Rotation) (p : Params) (bits large mask_seed noise_seed : List ℕ) → 0 < p.poly_size →
    length (key_rows rotation p bits large mask_seed noise_seed) ≡ rows_size rotation p
unfolding key_rows
key_rows-length rotation p bits large mask_seed noise_seed some =
    rows-length (numbered_row rotation p bits large mask_seed noise_seed) (glwe_size p) (key_row_count rotation p)
    (λ r _. key_row-length rotation p bits large mask_seed noise_seed (r / ggsw_row_count p) (r / p.pbs_level % (p.glwe_dim + 1)) (r % p.pbs_level) some)
    ∙ omega arith

numbered_row-at : (rotation : Rotation) (p : Params) (bits large mask_seed noise_seed : List ℕ) (i j t : ℕ) → j < p.glwe_dim + 1 → t < p.pbs_level →
    numbered_row rotation p bits large mask_seed noise_seed (row_number (p.glwe_dim + 1) p.pbs_level i j t) ≡ key_row rotation p bits large mask_seed noise_seed i j t
numbered_row-at rotation p bits large mask_seed noise_seed i j t q r =
    let k : ℕ = p.glwe_dim + 1 in
    let l : ℕ = p.pbs_level in
    let number : ℕ = row_number k l i j t in
    let row : ℕ → ℕ → ℕ → List ℕ = key_row rotation p bits large mask_seed noise_seed in
    ap (λ x. row x (number / l % k) (number % l)) (row_number-bit k l i j t q r)
    ∙ ap (λ x. row i x (number % l)) (row_number-polynomial k l i j t q r)
    ∙ ap (λ x. row i j x) (row_number-level k l i j t r)

place_of_row : (k l n i j t q x : ℕ) →
    i * (k * l * (k * n)) + ((j * l + t) * (k * n) + (q * n + x)) ≡ row_number k l i j t * (k * n) + (q * n + x)
place_of_row k l n i j t q x = omega arith

-- a coefficient of a row, as a word of the whole key
boot_rows-at : (rotation : Rotation) (p : Params) (bits large mask_seed noise_seed : List ℕ) (i j t q x : ℕ) →
    0 < p.poly_size → i < encrypted_count rotation p → j < p.glwe_dim + 1 → t < p.pbs_level → q < p.glwe_dim + 1 → x < p.poly_size →
    boot_rows p (key_rows rotation p bits large mask_seed noise_seed) i j t q x
    ≡ of_parts p.poly_size (key_row rotation p bits large mask_seed noise_seed i j t) q x
unfolding key_rows
boot_rows-at rotation p bits large mask_seed noise_seed i j t q x some below_i below_j below_t below_q below_x =
    let k : ℕ = p.glwe_dim + 1 in
    let l : ℕ = p.pbs_level in
    let n : ℕ = p.poly_size in
    let number : ℕ = row_number k l i j t in
    let row : ℕ → List ℕ = numbered_row rotation p bits large mask_seed noise_seed in
    let words : List ℕ = flat_map row (range_with_len 0 (key_row_count rotation p)) in
    ap (λ u. pos (get_or words u 0)) (place_of_row k l n i j t q x)
    ∙ ap pos (rows-place row (k * n) (key_row_count rotation p) number (q * n + x)
    (λ r _. key_row-length rotation p bits large mask_seed noise_seed (r / ggsw_row_count p) (r / l % k) (r % l) some)
    (row_number-lt k l (encrypted_count rotation p) i j t below_i below_j below_t) (omega (arith, mul-add-lt q n x k below_q below_x)))
    ∙ ap (λ ys. pos (get_or ys (q * n + x) 0)) (numbered_row-at rotation p bits large mask_seed noise_seed i j t below_j below_t)

-- a made key encrypts each bit
pub key_rows-near : (rotation : Rotation) (p : Params) (bits large mask_seed noise_seed : List ℕ) (i : ℕ) → 0 < p.poly_size → i < encrypted_count rotation p →
    IsGgsw p.poly_size p.glwe_dim p.pbs_level (2 ^ p.glwe_bound) (level_weight p.pbs_base_log) (of_parts p.poly_size large)
    (of_words bits i) (boot_rows p (key_rows rotation p bits large mask_seed noise_seed) i)
key_rows-near rotation p bits large mask_seed noise_seed i some below_i =
    let k : ℕ = p.glwe_dim + 1 in
    let l : ℕ = p.pbs_level in
    let n : ℕ = p.poly_size in
    let mask : ℕ → ℕ → Draws = λ j t. stream_of mask_seed (stream_number (mask_kind rotation) (row_number k l i j t)) in
    let noise : ℕ → ℕ → Draws = λ j t. stream_of noise_seed (stream_number (noise_kind rotation) (row_number k l i j t)) in
    hiding-IsGgsw n p.glwe_dim l (2 ^ p.glwe_bound) (level_weight p.pbs_base_log) (of_parts n large) (of_words bits i)
    (λ j t q x. pos (draw (mask j t) (q * n + x))) (λ j t x. uniform p.glwe_bound (draw (noise j t) x))
    (boot_rows p (key_rows rotation p bits large mask_seed noise_seed) i)
    (λ j t q x a b c d.
    let e : j < k = omega arith in
    let f : q < k = omega arith in
    let hidden : ℕ → ℤ = row_hidden p bits large i j t in
    let are : AreParts n k (row_numbers p large (mask j t) (noise j t) hidden) (key_row rotation p bits large mask_seed noise_seed i j t) =
    key_row-are rotation p bits large mask_seed noise_seed i j t some in
    ap word (boot_rows-at rotation p bits large mask_seed noise_seed i j t q x some below_i e b f d)
    ∙ ap (λ v. word (pos v)) (are.each q x f d)
    ∙ word-word (row_numbers p large (mask j t) (noise j t) hidden q x))
    (λ j t x _ _ _. uniform-size p.glwe_bound (draw (noise j t) x))

-- ---- the row that a code encrypts
pub encrypted_row : (rotation : Rotation) (p : Params) (bits large mask_seed noise_seed hidden out : List ℕ) (mask noise : Draws) (row mask_number noise_number : ℕ) →
    0 < p.poly_size → mask_number ≡ stream_number (mask_kind rotation) row → noise_number ≡ stream_number (noise_kind rotation) row →
    mask ≡ stream_of mask_seed mask_number → noise ≡ stream_of noise_seed noise_number →
    AreWords p.poly_size
    (row_hidden p bits large (row / ggsw_row_count p) (row / p.pbs_level % (p.glwe_dim + 1)) (row % p.pbs_level)) hidden →
    out ≡ glwe_row p large mask noise (of_words hidden) → out ≡ numbered_row rotation p bits large mask_seed noise_seed row
unfolding key_row
encrypted_row rotation p bits large mask_seed noise_seed hidden out mask noise row mask_number noise_number some is_mask is_noise new_mask new_noise hides made =
    let k : ℕ = p.glwe_dim + 1 in
    let l : ℕ = p.pbs_level in
    let number : ℕ = row_number k l (row / (k * l)) (row / l % k) (row % l) in
    let f : ℕ → ℤ = row_hidden p bits large (row / (k * l)) (row / l % k) (row % l) in
    let whole : row ≡ number = row_number-of k l row in
    made
    ∙ ap (λ s. glwe_row p large s noise (of_words hidden)) (new_mask ∙ ap (stream_of mask_seed) (is_mask ∙ ap (stream_number (mask_kind rotation)) whole))
    ∙ ap (λ s. glwe_row p large (stream_of mask_seed (stream_number (mask_kind rotation) number)) s (of_words hidden))
    (new_noise ∙ ap (stream_of noise_seed) (is_noise ∙ ap (stream_number (noise_kind rotation)) whole))
    ∙ glwe_row-words p large (stream_of mask_seed (stream_number (mask_kind rotation) number)) (stream_of noise_seed (stream_number (noise_kind rotation) number))
    (of_words hidden) f some (λ x q. ap (λ w. word (pos w)) (hides.each x q) ∙ word-word (f x))
