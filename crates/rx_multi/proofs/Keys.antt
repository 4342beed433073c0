-- The pair key that a client's seed makes: its sizes and what its rows hide.
use Rattle.std.proofs.Common.{◌≡◌, ℕ, ℤ, pos, ◌+◌, ◌*◌, ◌/◌, ◌^◌, ◌<◌, ◌≤◌, ◌∙◌, ap, subst, arith, List, length, get_or}
use Rattle.std.proofs.Math.Nat.{mul-le-mul}
use Rattle.rx_params.proofs.Sizes.{poly_size-high}
use Rattle.rx_laws.specs.Words.{of_words}
use Rattle.rx_ring.specs.Parts.{of_parts}
use Rattle.rx_ring.specs.Keys.{level_weight, IsGgsw}
use Rattle.rx_ring.specs.Pairs.{pair_bit}
use Rattle.rx_ring.specs.PairLaws.{ArePairs}
use Rattle.rx_params.specs.declared.params.Params.{Params}
use Rattle.rx_params.specs.declared.rotation.Rotation.TheVariants.{Pairs}
use Rattle.rx_params.specs.Acceptance.{FieldsInRange, PairAccepts}
use Rattle.rx_params.specs.Derived.{pair_words}
use Rattle.rx_lwe.specs.Secret.{small_key, large_key}
use Rattle.rx_lwe.specs.SwitchKeys.{SwitchRows, switch_key, switch_size, switch_key_words}
use Rattle.rx_lwe.proofs.Keys.{small_key-length}
use Rattle.rx_lwe.proofs.Made.{switch_key_words-length, switch_key-near}
use Rattle.rx_glwe.specs.Sizes.{ggsw_size}
use Rattle.rx_boot.specs.BootKeys.{boot_rows, key_rows}
use Rattle.rx_boot.proofs.Sizes.{some_coefficients}
use Rattle.rx_boot.proofs.RowWords.{key_rows-length, key_rows-near}
use Rattle.rx_boot.proofs.MadeKeys.{rows_words}
use Rattle.rx_multi.specs.PairKeys.{PairWords, IsPairKey, pair_size, pair_bits, pair_key_rows, pair_key}
use Rattle.rx_multi.specs.Laws.{PairKeyLaws}
use Rattle.rx_multi.proofs.PairProducts.{pair_bits-at}

rows_near : (p : Params) (small large mask_seed noise_seed : List ℕ) → 0 < p.poly_size → length small ≡ p.lwe_dim →
    ArePairs p.poly_size p.glwe_dim p.lwe_dim p.pbs_level (2 ^ p.glwe_bound) (level_weight p.pbs_base_log) (of_parts p.poly_size large)
    (λ i. get_or small i 0) (boot_rows p (pair_key_rows p small large mask_seed noise_seed))
rows_near p small large mask_seed noise_seed some size i e below_i below_e =
    let bit : of_words (pair_bits small) (3 * i + e) ≡ pos (pair_bit e (get_or small (2 * i) 0) (get_or small (2 * i + 1) 0)) =
    ap pos (pair_bits-at small i e (omega (arith, size)) below_e) in
    subst (λ (z : ℤ). IsGgsw p.poly_size p.glwe_dim p.pbs_level (2 ^ p.glwe_bound) (level_weight p.pbs_base_log) (of_parts p.poly_size large) z
    (boot_rows p (pair_key_rows p small large mask_seed noise_seed) (3 * i + e))) bit
    (key_rows-near Pairs p (pair_bits small) large mask_seed noise_seed (3 * i + e) some (omega arith))

pub made_near : (p : Params) (client_seed mask_seed : List ℕ) → FieldsInRange p →
    IsPairKey (small_key p client_seed) (large_key p client_seed) (pair_key p client_seed mask_seed)
unfolding pair_key
made_near p client_seed mask_seed fields =
    let small : List ℕ = small_key p client_seed in
    let large : List ℕ = large_key p client_seed in
    record {
      rows = rows_near p small large mask_seed client_seed (some_coefficients p fields) (small_key-length p client_seed);
      switch = switch_key-near p large small mask_seed client_seed (small_key-length p client_seed);
    }

pub all_words : (p : Params) → pair_size p + switch_size p ≡ pair_words p
unfolding pair_words
all_words p = rows_words Pairs p

pub pair_size-few : (p : Params) → PairAccepts p → pair_size p ≤ 2 ^ 24
pair_size-few p h = omega (arith, all_words p, h.key)

pub switch_size-few : (p : Params) → PairAccepts p → switch_size p ≤ 2 ^ 24
switch_size-few p h = omega (arith, all_words p, h.key)

abbrev pub made_of : Params → List ℕ → SwitchRows → PairWords
made_of p rows switch = record { params = p; rows = rows; switch = switch.words }

-- the key that a code makes, from what each of its parts is
pub made_key : (p : Params) (client_seed mask_seed small large bits rows : List ℕ) (switch : SwitchRows) →
    small ≡ small_key p client_seed → large ≡ large_key p client_seed → bits ≡ pair_bits small →
    rows ≡ key_rows Pairs p bits large mask_seed client_seed →
    switch ≡ switch_key p (switch_key_words p large small mask_seed client_seed) →
    made_of p rows switch ≡ pair_key p client_seed mask_seed
unfolding pair_key
made_key p client_seed mask_seed small large bits rows switch is_small is_large are_bits are_rows is_switch =
    let key : List ℕ → List ℕ → PairWords = λ b s. record { params = p; rows = b; switch = s } in
    let of : List ℕ → List ℕ → PairWords = λ s l. key (pair_key_rows p s l mask_seed client_seed) (switch_key_words p l s mask_seed client_seed) in
    ap (λ b. key b switch.words) (are_rows ∙ ap (λ b. key_rows Pairs p b large mask_seed client_seed) are_bits)
    ∙ ap (λ (s : SwitchRows). key (pair_key_rows p small large mask_seed client_seed) s.words) is_switch
    ∙ ap (λ s. of s large) is_small ∙ ap (of (small_key p client_seed)) is_large

pub pair_key_laws : PairKeyLaws
unfolding pair_key
pair_key_laws = record {
  near = made_near;
  row_words = λ p client_seed mask_seed fields.
      key_rows-length Pairs p (pair_bits (small_key p client_seed)) (large_key p client_seed) mask_seed client_seed (some_coefficients p fields);
  switch_words = λ p client_seed mask_seed _.
      switch_key_words-length p (large_key p client_seed) (small_key p client_seed) mask_seed client_seed (small_key-length p client_seed);
  all_words = all_words;
}

-- the rows of the pairs, one pair after another
pub pairs_size : (p : Params) → p.lwe_dim / 2 * (3 * ggsw_size p) ≡ pair_size p
pairs_size p = in_order (p.lwe_dim / 2) (ggsw_size p)
  where
    in_order : (d g : ℕ) → d * (3 * g) ≡ 3 * d * g
    in_order d g = omega arith

-- the rows of an encrypted bit are few
pub ggsw_few : (p : Params) → FieldsInRange p → ggsw_size p ≤ 5 * 30 * (5 * 4096)
ggsw_few p f =
    let dim : p.glwe_dim + 1 ≤ 5 = omega (arith, f.glwe_dim.1) in
    let rows : (p.glwe_dim + 1) * p.pbs_level ≤ 5 * 30 = mul-le-mul dim f.pbs_level.0.1 in
    let row : (p.glwe_dim + 1) * p.poly_size ≤ 5 * 4096 = mul-le-mul dim (poly_size-high p f) in
    mul-le-mul rows row
