-- The rows of a made switch key, and what they hide.
use Rattle.std.proofs.Common.{◌≡◌, ℕ, suc, ℤ, pos, ◌-ℤ◌, ◌*ℤ◌, ◌+◌, ◌-◌, ◌*◌, ◌/◌, ◌%◌, ◌^◌, ◌<◌, ◌≤◌, sym, ◌∙◌, ap, arith, List, length, get_or}
use Rattle.std.proofs.lemmas.Nat.{shl_whole, div-mul-add, mod-mul-add}
use Rattle.std.proofs.Math.Nat.{mul-le-mul_right}
use Rattle.rx_torus.specs.Streams.{Draws, stream_of}
use Rattle.rx_torus.specs.Kinds.{stream_number}
use Rattle.rx_torus.specs.declared.kind.StreamKind.TheVariants.{SwitchMask, SwitchNoise}
use Rattle.rx_params.specs.declared.params.Params.{Params}
use Rattle.rx_params.specs.Derived.{large_dim}
use Rattle.rx_laws.specs.Sum.{sum_to}
use Rattle.rx_laws.specs.Torus.{distance}
use Rattle.rx_laws.specs.Words.{of_words, AreWords}
use Rattle.rx_laws.specs.Lwe.{lwe_phase, lwe_hiding}
use Rattle.rx_laws.proofs.Lwe.{hiding_near, lwe_phase_is}
use Rattle.rx_laws.proofs.Ring.{mul_comm_ℤ}
use Rattle.rx_laws.proofs.Sums.{sum_to-same}
use Rattle.rx_laws.proofs.Words.{words_below-are}
use Rattle.rx_ring.specs.Keys.{IsSwitch, level_weight}
use Rattle.rx_torus.specs.Streams.{draw, uniform}
use Rattle.rx_lwe.specs.Lwe.{encrypted}
use Rattle.rx_lwe.specs.SwitchKeys.{switch_key, switch_key_words, switch_row, switch_rows, switch_size}
use Rattle.rx_lwe.proofs.Noises.{uniform-size}
use Rattle.rx_lwe.proofs.Rows.{rows-length, rows-place}

-- the bit at the weight of its level is below 2 ^ 64
pub message_whole : (bit base_log t : ℕ) → bit < 2 → 1 ≤ base_log →
    bit * 2 ^ (64 - base_log * (t + 1)) % 2 ^ 64 ≡ bit * 2 ^ (64 - base_log * suc t)
message_whole bit base_log t binary some =
    let e : base_log * (t + 1) ≡ base_log * suc t = omega arith in
    let high : 64 - base_log * suc t ≤ 63 = omega arith in
    ap (λ k. bit * 2 ^ (64 - k) % 2 ^ 64) e ∙ shl_whole bit 1 (64 - base_log * suc t) 64 binary (omega arith)

pub switch_row-is : (p : Params) (large small mask_seed noise_seed : List ℕ) (row : ℕ) (words : List ℕ) (mask noise : Draws)
    (mask_number noise_number message : ℕ) → words ≡ encrypted small mask noise p.lwe_bound message →
    mask ≡ stream_of mask_seed mask_number → mask_number ≡ stream_number SwitchMask row →
    noise ≡ stream_of noise_seed noise_number → noise_number ≡ stream_number SwitchNoise row →
    message ≡ get_or large (row / p.ks_level) 0 * 2 ^ (64 - p.ks_base_log * suc (row % p.ks_level)) →
    words ≡ switch_row p large small mask_seed noise_seed row
unfolding switch_row
switch_row-is p large small mask_seed noise_seed row words mask noise mask_number noise_number message e f g h k l = cc

-- a row ends within its list
pub row_room : (row rows width : ℕ) → row < rows → row * width + width ≤ rows * width
row_room row rows width p = let room : (row + 1) * width ≤ rows * width = mul-le-mul_right width (omega arith) in omega arith

-- row (u, t) is one of those rows
pub row_below : (u t big levels : ℕ) → u < big → t < levels → u * levels + t < big * levels
row_below u t big levels p q = let room : (u + 1) * levels ≤ big * levels = mul-le-mul_right levels (omega arith) in omega arith

encrypted-are : (key : List ℕ) (mask noise : Draws) (bound message : ℕ) →
    AreWords (length key + 1) (lwe_hiding (length key) (of_words key) (λ i. pos (draw mask i)) (pos message) (uniform bound (draw noise 0)))
    (encrypted key mask noise bound message)
unfolding encrypted
encrypted-are key mask noise bound message =
    words_below-are (length key + 1) (lwe_hiding (length key) (of_words key) (λ i. pos (draw mask i)) (pos message) (uniform bound (draw noise 0)))

pub encrypted-length : (key : List ℕ) (mask noise : Draws) (bound message : ℕ) → length (encrypted key mask noise bound message) ≡ length key + 1
encrypted-length key mask noise bound message = (encrypted-are key mask noise bound message).count

-- the phase of a fresh ciphertext is within the noise of its message
pub encrypted-near : (key : List ℕ) (mask noise : Draws) (bound message : ℕ) →
    distance (lwe_phase (length key) (of_words key) (of_words (encrypted key mask noise bound message)) -ℤ pos message) ≤ 2 ^ bound
encrypted-near key mask noise bound message =
    let near = hiding_near (length key) (of_words key) (λ i. pos (draw mask i)) (pos message) (uniform bound (draw noise 0))
    (encrypted key mask noise bound message) (encrypted-are key mask noise bound message) in
    omega (arith, near, uniform-size bound (draw noise 0))

pub switch_row-length : (p : Params) (large small mask_seed noise_seed : List ℕ) (row : ℕ) → length small ≡ p.lwe_dim →
    length (switch_row p large small mask_seed noise_seed row) ≡ p.lwe_dim + 1
unfolding switch_row
switch_row-length p large small mask_seed noise_seed row size =
    encrypted-length small (stream_of mask_seed (stream_number SwitchMask row)) (stream_of noise_seed (stream_number SwitchNoise row))
    p.lwe_bound (get_or large (row / p.ks_level) 0 * 2 ^ (64 - p.ks_base_log * suc (row % p.ks_level)))
    ∙ ap (λ n. n + 1) size

-- row (u, t) hides bit u at the weight of level t
switch_row-near : (p : Params) (large small mask_seed noise_seed : List ℕ) (u t : ℕ) → t < p.ks_level →
    distance (lwe_phase (length small) (of_words small) (of_words (switch_row p large small mask_seed noise_seed (u * p.ks_level + t)))
    -ℤ level_weight p.ks_base_log t *ℤ of_words large u) ≤ 2 ^ p.lwe_bound
unfolding switch_row
switch_row-near p large small mask_seed noise_seed u t below =
    let row : ℕ = u * p.ks_level + t in
    let message : ℕ = get_or large (row / p.ks_level) 0 * 2 ^ (64 - p.ks_base_log * suc (row % p.ks_level)) in
    let mask : Draws = stream_of mask_seed (stream_number SwitchMask row) in
    let noise : Draws = stream_of noise_seed (stream_number SwitchNoise row) in
    let phase : ℤ = lwe_phase (length small) (of_words small) (of_words (encrypted small mask noise p.lwe_bound message)) in
    let hidden : pos message ≡ level_weight p.ks_base_log t *ℤ of_words large u =
    ap (λ k. pos (get_or large k 0 * 2 ^ (64 - p.ks_base_log * suc (row % p.ks_level)))) (div-mul-add u p.ks_level t below)
    ∙ ap (λ k. pos (get_or large u 0 * 2 ^ (64 - p.ks_base_log * suc k))) (mod-mul-add u p.ks_level t below)
    ∙ mul_comm_ℤ (of_words large u) (level_weight p.ks_base_log t) in
    let same : distance (phase -ℤ pos message) ≡ distance (phase -ℤ level_weight p.ks_base_log t *ℤ of_words large u) =
    ap (λ z. distance (phase -ℤ z)) hidden in
    omega (arith, same, encrypted-near small mask noise p.lwe_bound message)

lwe_phase-same : (d : ℕ) (key v w : ℕ → ℤ) → ((i : ℕ) → i < d + 1 → v i ≡ w i) → lwe_phase d key v ≡ lwe_phase d key w
lwe_phase-same d key v w same =
    lwe_phase_is d key v ∙ ap (λ x. x -ℤ sum_to d (λ i. key i *ℤ v i)) (same d (omega arith))
    ∙ ap (λ x. w d -ℤ x) (sum_to-same d (λ i. key i *ℤ v i) (λ i. key i *ℤ w i) (λ i p. ap (λ x. key i *ℤ x) (same i (omega arith))))
    ∙ sym (lwe_phase_is d key w)

pub switch_key_words-length : (p : Params) (large small mask_seed noise_seed : List ℕ) → length small ≡ p.lwe_dim →
    length (switch_key_words p large small mask_seed noise_seed) ≡ switch_size p
unfolding switch_key_words
switch_key_words-length p large small mask_seed noise_seed size =
    rows-length (switch_row p large small mask_seed noise_seed) (p.lwe_dim + 1) (large_dim p * p.ks_level)
    (λ r _. switch_row-length p large small mask_seed noise_seed r size)

-- number i of row (u, t) of a made key
switch_rows-made : (p : Params) (large small mask_seed noise_seed : List ℕ) (u t i : ℕ) → length small ≡ p.lwe_dim →
    u < large_dim p → t < p.ks_level → i < p.lwe_dim + 1 →
    switch_rows (switch_key p (switch_key_words p large small mask_seed noise_seed)) u t i
    ≡ of_words (switch_row p large small mask_seed noise_seed (u * p.ks_level + t)) i
unfolding switch_key_words
switch_rows-made p large small mask_seed noise_seed u t i size place level within =
    ap pos
    (rows-place (switch_row p large small mask_seed noise_seed) (p.lwe_dim + 1) (large_dim p * p.ks_level) (u * p.ks_level + t) i
    (λ r _. switch_row-length p large small mask_seed noise_seed r size) (row_below u t (large_dim p) p.ks_level place level) within)

-- a made key switches from the large key to the small one
pub switch_key-near : (p : Params) (large small mask_seed noise_seed : List ℕ) → length small ≡ p.lwe_dim →
    IsSwitch (large_dim p) p.lwe_dim p.ks_level (2 ^ p.lwe_bound) (level_weight p.ks_base_log) (of_words large) (of_words small)
    (switch_rows (switch_key p (switch_key_words p large small mask_seed noise_seed)))
switch_key-near p large small mask_seed noise_seed size = record {
  near = λ u t place level.
      let rows : ℕ → ℤ = switch_rows (switch_key p (switch_key_words p large small mask_seed noise_seed)) u t in
      let words : ℕ → ℤ = of_words (switch_row p large small mask_seed noise_seed (u * p.ks_level + t)) in
      let hidden : ℤ = level_weight p.ks_base_log t *ℤ of_words large u in
      let same : lwe_phase p.lwe_dim (of_words small) rows ≡ lwe_phase (length small) (of_words small) words =
      lwe_phase-same p.lwe_dim (of_words small) rows words (λ i p'. switch_rows-made p large small mask_seed noise_seed u t i size place level p')
      ∙ ap (λ d. lwe_phase d (of_words small) words) (sym size) in
      let gap : distance (lwe_phase p.lwe_dim (of_words small) rows -ℤ hidden) ≡ distance (lwe_phase (length small) (of_words small) words -ℤ hidden) =
      ap (λ z. distance (z -ℤ hidden)) same in
      omega (arith, gap, switch_row-near p large small mask_seed noise_seed u t level);
}
