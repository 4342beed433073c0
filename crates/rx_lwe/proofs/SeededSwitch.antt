-- Switch keys whose masks a seed draws: their sizes and bodies, and that each made key is one.
use Rattle.std.proofs.Common.{◌≡◌, ℕ, suc, ℤ, pos, ◌+◌, ◌-◌, ◌*◌, ◌/◌, ◌%◌, ◌^◌, sym, ◌∙◌, ap, arith, List, ◌++◌, length, get_or, take, drop}
use Rattle.std.specs.List.{range_with_len, flat_map}
use Rattle.std.proofs.lemmas.List.{take-append-drop, get_or-take, length-take-le, length-drop}
use Rattle.rx_laws.specs.Torus.{word}
use Rattle.rx_laws.specs.Words.{of_words, words_below}
use Rattle.rx_laws.specs.Lwe.{lwe_hiding}
use Rattle.rx_laws.proofs.Lwe.{hiding_mask}
use Rattle.rx_laws.proofs.Words.{words_below-are, are-words_below}
use Rattle.rx_torus.specs.Streams.{Draws, draw, uniform, stream_of}
use Rattle.rx_torus.specs.Kinds.{stream_number}
use Rattle.rx_torus.specs.declared.kind.StreamKind.TheVariants.{SwitchNoise}
use Rattle.rx_params.specs.declared.params.Params.{Params}
use Rattle.rx_lwe.specs.Lwe.{encrypted}
use Rattle.rx_lwe.specs.SwitchKeys.{switch_size, switch_row, switch_key_words}
use Rattle.rx_lwe.specs.Seeded.{drawn_words, seeded_switch, switch_bodies, switch_masks, switch_row_count}
use Rattle.rx_lwe.proofs.Made.{encrypted-length, switch_row-length}
use Rattle.rx_lwe.proofs.SeededRows.{seeded_rows-length, row_bodies-length, seeded_rows-bodies, rows-bodies, rows-seeded}

-- ---- the masks of what is encrypted are drawn

pub encrypted-masks : (key : List ℕ) (mask noise : Draws) (bound message : ℕ) →
    take (length key) (encrypted key mask noise bound message) ≡ drawn_words (length key) mask
unfolding encrypted
encrypted-masks key mask noise bound message =
    let n : ℕ = length key in
    let f : ℕ → ℤ = lwe_hiding n (of_words key) (λ i. pos (draw mask i)) (pos message) (uniform bound (draw noise 0)) in
    let are = words_below-are (n + 1) f in
    are-words_below n (λ i. pos (draw mask i)) (take n (words_below (n + 1) f)) record {
      count = length-take-le n (words_below (n + 1) f) (omega (arith, are.count));
      each = λ i p.
          get_or-take n (words_below (n + 1) f) i 0 p ∙ are.each i (omega arith)
          ∙ ap word (hiding_mask n (of_words key) (λ j. pos (draw mask j)) (pos message) (uniform bound (draw noise 0)) i p);
    }

-- what is encrypted is its masks and its body
pub encrypted-split : (key : List ℕ) (mask noise : Draws) (bound message : ℕ) →
    encrypted key mask noise bound message
    ≡ drawn_words (length key) mask ++ drop (length key) (encrypted key mask noise bound message)
encrypted-split key mask noise bound message =
    sym (take-append-drop (length key) (encrypted key mask noise bound message))
    ∙ ap (λ xs. xs ++ drop (length key) (encrypted key mask noise bound message)) (encrypted-masks key mask noise bound message)

pub encrypted-body : (key : List ℕ) (mask noise : Draws) (bound message : ℕ) →
    length (drop (length key) (encrypted key mask noise bound message)) ≡ 1
encrypted-body key mask noise bound message =
    length-drop (length key) (encrypted key mask noise bound message)
    ∙ omega (arith, encrypted-length key mask noise bound message)

-- ---- switch keys

pub seeded_switch-length : (p : Params) (mask_seed bodies : List ℕ) → length bodies ≡ switch_row_count p →
    length (seeded_switch p mask_seed bodies) ≡ switch_size p
unfolding seeded_switch
seeded_switch-length p mask_seed bodies count =
    seeded_rows-length (switch_masks mask_seed) p.lwe_dim 1 (switch_row_count p) bodies (omega (arith, count))

pub switch_bodies-length : (p : Params) (words : List ℕ) → length words ≡ switch_size p →
    length (switch_bodies p words) ≡ switch_row_count p
unfolding switch_bodies
switch_bodies-length p words count =
    row_bodies-length p.lwe_dim 1 (switch_row_count p) words count ∙ omega arith

pub seeded_switch-bodies : (p : Params) (mask_seed bodies : List ℕ) → length bodies ≡ switch_row_count p →
    switch_bodies p (seeded_switch p mask_seed bodies) ≡ bodies
unfolding seeded_switch switch_bodies
seeded_switch-bodies p mask_seed bodies count =
    seeded_rows-bodies (switch_masks mask_seed) p.lwe_dim 1 (switch_row_count p) bodies (omega (arith, count))

-- row `row` of a made key, after its masks
abbrev made_body : Params → List ℕ → List ℕ → List ℕ → List ℕ → ℕ → List ℕ
made_body p large small mask_seed noise_seed row = drop p.lwe_dim (switch_row p large small mask_seed noise_seed row)

made_row : (p : Params) (large small mask_seed noise_seed : List ℕ) (row : ℕ) → length small ≡ p.lwe_dim →
    switch_row p large small mask_seed noise_seed row
    ≡ drawn_words p.lwe_dim (switch_masks mask_seed row) ++ made_body p large small mask_seed noise_seed row
unfolding switch_row
made_row p large small mask_seed noise_seed row size =
    let message : ℕ = get_or large (row / p.ks_level) 0 * 2 ^ (64 - p.ks_base_log * suc (row % p.ks_level)) in
    let mask : Draws = switch_masks mask_seed row in
    let noise : Draws = stream_of noise_seed (stream_number SwitchNoise row) in
    encrypted-split small mask noise p.lwe_bound message
    ∙ ap (λ (n : ℕ). drawn_words n mask ++ drop n (encrypted small mask noise p.lwe_bound message)) size

-- the bodies of a made key are those of its rows
pub switch_key_words-bodies : (p : Params) (large small mask_seed noise_seed : List ℕ) → length small ≡ p.lwe_dim →
    switch_bodies p (switch_key_words p large small mask_seed noise_seed)
    ≡ flat_map (λ row. drop p.lwe_dim (switch_row p large small mask_seed noise_seed row)) (range_with_len 0 (switch_row_count p))
unfolding switch_bodies switch_key_words
switch_key_words-bodies p large small mask_seed noise_seed size =
    rows-bodies (switch_row p large small mask_seed noise_seed) (switch_masks mask_seed)
    (made_body p large small mask_seed noise_seed) p.lwe_dim 1 (switch_row_count p)
    (λ r _. made_row p large small mask_seed noise_seed r size)
    (λ r _. length-drop p.lwe_dim (switch_row p large small mask_seed noise_seed r)
    ∙ omega (arith, switch_row-length p large small mask_seed noise_seed r size))

-- the masks of a made key are those that its seed draws
pub switch_key_words-seeded : (p : Params) (large small mask_seed noise_seed : List ℕ) → length small ≡ p.lwe_dim →
    seeded_switch p mask_seed (switch_bodies p (switch_key_words p large small mask_seed noise_seed))
    ≡ switch_key_words p large small mask_seed noise_seed
unfolding seeded_switch switch_bodies switch_key_words
switch_key_words-seeded p large small mask_seed noise_seed size =
    rows-seeded (switch_row p large small mask_seed noise_seed) (switch_masks mask_seed)
    (made_body p large small mask_seed noise_seed) p.lwe_dim 1 (switch_row_count p)
    (λ r _. made_row p large small mask_seed noise_seed r size)
    (λ r _. length-drop p.lwe_dim (switch_row p large small mask_seed noise_seed r)
    ∙ omega (arith, switch_row-length p large small mask_seed noise_seed r size))
