-- The law of the bootstrap by pairs on the lists of words of a program.
use Rattle.std.proofs.Common.{◌≡◌, ℕ, zero, suc, ℤ, pos, ◌+ℤ◌, ◌-ℤ◌, ◌+◌, ◌-◌, ◌*◌, ◌/◌, ◌^◌, ◌<◌, ◌≤◌, refl, sym, ◌∙◌, ap, arith, subst, List, length, get_or}
use Rattle.rx_laws.specs.Sum.{sum_to}
use Rattle.rx_laws.specs.Torus.{word, distance}
use Rattle.rx_laws.specs.Words.{of_words, AreWords, words_below}
use Rattle.rx_laws.specs.Digits.{digit}
use Rattle.rx_laws.specs.Decode.{plaintexts, unit}
use Rattle.rx_laws.specs.Lwe.{lwe_phase}
use Rattle.rx_laws.proofs.Torus.{word-word}
use Rattle.rx_laws.proofs.Words.{words_below-are}
use Rattle.rx_ring.specs.Polynomial.{turns}
use Rattle.rx_ring.specs.Parts.{of_parts}
use Rattle.rx_ring.specs.Glwe.{external, extracted, flat}
use Rattle.rx_ring.specs.Keys.{level_weight}
use Rattle.rx_ring.specs.Noise.{external_bound, turn_bound, switch_bound}
use Rattle.rx_ring.specs.Rotation.{turn, turned_away}
use Rattle.rx_ring.specs.Switch.{switched_marks}
use Rattle.rx_ring.specs.Pairs.{one_rows, pair_amount, pair_rows, pair_turn, pair_rotation}
use Rattle.rx_ring.proofs.PairBootstrap.{pair_bootstrap_noise}
use Rattle.rx_ring.proofs.Congruence.{external_same, extracted-word}
use Rattle.rx_params.specs.declared.params.Params.{Params}
use Rattle.rx_params.specs.Acceptance.{PairAccepts}
use Rattle.rx_params.specs.Derived.{large_dim, rest_of, pair_step_of, pair_boot_of, pair_left_of, switch_of, round_of}
use Rattle.rx_lwe.specs.SwitchKeys.{switch_key, switch_rows, switched_words}
use Rattle.rx_boot.specs.BootKeys.{boot_rows}
use Rattle.rx_boot.specs.Bootstrap.{half_box, half_mark, marks, table_accumulator}
use Rattle.rx_boot.proofs.Sizes.{some_coefficients}
use Rattle.rx_boot.proofs.Budget.{boxes, marks_round, half, some_half}
use Rattle.rx_boot.proofs.Lookup.{marks_of, bit_key, small_bit, switch_flat, near_flat, box_place}
use Rattle.rx_multi.specs.PairKeys.{PairWords}
use Rattle.rx_multi.specs.PairBootstrap.{pair_rotation_of, pair_bootstrapped, pair_input_noise, PairLooksUp}
use Rattle.rx_multi.specs.Laws.{PairLookupLaws}

-- ---- the turns by two lists of marks that agree
turn_marks : (n k b l : ℕ) (rows : ℕ → ℕ → ℕ → ℕ → ℕ → ℤ) (v w : ℕ → ℕ) (f : ℕ → ℤ) (t : ℕ) → ((i : ℕ) → i < 2 * t → v i ≡ w i) →
    (q i : ℕ) → i < n → pair_turn n k b l rows v f t q i ≡ pair_turn n k b l rows w f t q i
unfolding pair_turn pair_rows turn
turn_marks n k b l rows v w f zero same q i r = refl
turn_marks n k b l rows v w f (suc t) same q i r =
    let c : ℕ → ℕ → ℤ = pair_turn n k b l rows v f t in
    let d : ℕ → ℕ → ℤ = pair_turn n k b l rows w f t in
    let before : (j x : ℕ) → x < n → c j x ≡ d j x = turn_marks n k b l rows v w f t (λ j s. same j (omega arith)) in
    let old : ℕ → ℕ → ℕ → ℤ = λ j s x. digit b l (word (c j x)) s in
    let new : ℕ → ℕ → ℕ → ℤ = λ j s x. digit b l (word (d j x)) s in
    let by : ℕ → ℕ → ℕ → ℕ → ℕ → ℕ → ℤ = λ a1 a2 j s y x.
    one_rows b j s y x +ℤ sum_to 3 (λ e. turned_away n (pair_amount n e a1 a2) (rows (3 * t + e) j s) y x) in
    let first : v (2 * t) ≡ w (2 * t) = same (2 * t) (omega arith) in
    let second : v (2 * t + 1) ≡ w (2 * t + 1) = same (2 * t + 1) (omega arith) in
    external_same n k l old new (by (v (2 * t)) (v (2 * t + 1))) q i (λ j s x _ _ z. ap (λ y. digit b l (word y) s) (before j x z)) r
    ∙ ap (λ a. external n k l new (by a (v (2 * t + 1))) q i) first
    ∙ ap (λ a. external n k l new (by (w (2 * t)) a) q i) second

rotation_marks : (n k b l d : ℕ) (rows : ℕ → ℕ → ℕ → ℕ → ℕ → ℤ) (v w : ℕ → ℕ) (f : ℕ → ℤ) → ((i : ℕ) → i < d + 1 → v i ≡ w i) →
    (q i : ℕ) → i < n → pair_rotation n k b l d rows v f q i ≡ pair_rotation n k b l d rows w f q i
rotation_marks n k b l d rows v w f same q i r =
    turn_marks n k b l rows v w (turns n f (2 * n - v d)) (d / 2) (λ j s. same j (omega arith)) q i r
    ∙ ap (λ m. pair_turn n k b l rows w (turns n f (2 * n - m)) (d / 2) q i) (same d (omega arith))

-- ---- the bootstrap
-- what the law of the bootstrap extracts
abbrev extracted_by : PairWords → List ℕ → List ℕ → ℕ → ℤ
extracted_by key table input =
    let p : Params = key.params in
    extracted p.poly_size p.glwe_dim (pair_rotation p.poly_size p.glwe_dim p.pbs_base_log p.pbs_level p.lwe_dim (boot_rows p key.rows)
    (switched_marks (half_mark p) (2 * p.poly_size) (p.glwe_dim * p.poly_size) p.lwe_dim p.ks_base_log p.ks_level
    (switch_rows (switch_key p key.switch)) (of_words input)) (table_accumulator p table))

bootstrapped-word : (key : PairWords) (table input : List ℕ) (u : ℕ) → 0 < key.params.poly_size →
    u < key.params.glwe_dim * key.params.poly_size + 1 →
    word (of_words (pair_bootstrapped key table input) u) ≡ word (extracted_by key table input u)
unfolding pair_bootstrapped large_dim
bootstrapped-word key table input u some q =
    let p : Params = key.params in
    let n : ℕ = p.poly_size in
    let k : ℕ = p.glwe_dim in
    let switched : List ℕ = switched_words (switch_key p key.switch) input in
    let law_marks : ℕ → ℕ = switched_marks (half_mark p) (2 * n) (k * n) p.lwe_dim p.ks_base_log p.ks_level (switch_rows (switch_key p key.switch)) (of_words input) in
    let by_words : ℕ → ℕ → ℤ = pair_rotation_of p key.rows table switched in
    let by_law : ℕ → ℕ → ℤ = pair_rotation n k p.pbs_base_log p.pbs_level p.lwe_dim (boot_rows p key.rows) law_marks (table_accumulator p table) in
    let read : AreWords (k * n + 1) (extracted n k by_words) (words_below (k * n + 1) (extracted n k by_words)) =
    words_below-are (k * n + 1) (extracted n k by_words) in
    ap (λ x. word (pos x)) (read.each u q) ∙ word-word (extracted n k by_words u)
    ∙ extracted-word n k by_words by_law u
    (λ j i _ r. ap word (rotation_marks n k p.pbs_base_log p.pbs_level p.lwe_dim (boot_rows p key.rows) (marks p switched) law_marks
    (table_accumulator p table) (λ t s. marks_of p key.switch input t s) j i r)) some q

-- the sums of the rotation by pairs as the bounds of the laws
boot_is : (p : Params) → pair_boot_of p ≡ p.lwe_dim / 2 * turn_bound p.poly_size p.glwe_dim p.pbs_base_log p.pbs_level (6 * 2 ^ p.glwe_bound)
unfolding rest_of pair_step_of pair_boot_of turn_bound external_bound
boot_is p = refl

switch_is : (p : Params) → switch_of p ≡ switch_bound (p.glwe_dim * p.poly_size) p.ks_base_log p.ks_level (2 ^ p.lwe_bound)
unfolding switch_of switch_bound
switch_is p = refl

round_is : (p : Params) → round_of p ≡ (p.lwe_dim + 1) * half_mark p
unfolding round_of
round_is p = refl

left_is : (p : Params) → pair_left_of p ≡ pair_input_noise p + switch_of p + round_of p
unfolding pair_left_of
left_is p = refl

room_left : (p : Params) → PairAccepts p →
    pair_input_noise p + switch_bound (p.glwe_dim * p.poly_size) p.ks_base_log p.ks_level (2 ^ p.lwe_bound) + (p.lwe_dim + 1) * half_mark p
    < 2 * half_mark p * half_box p
room_left p ok = omega (arith, ok.below, left_is p, switch_is p, round_is p, half p ok.fields ok.wide)

looked_up : (key : PairWords) (table input : List ℕ) → PairAccepts key.params → PairLooksUp key table input (pair_bootstrapped key table input)
unfolding large_dim
looked_up key table input ok small large x secret keyed below near =
    let p : Params = key.params in
    let n : ℕ = p.poly_size in
    let k : ℕ = p.glwe_dim in
    let d : ℕ = p.lwe_dim in
    let e : ℕ = half_mark p in
    let h : ℕ = half_box p in
    let bits : ℕ → ℕ → ℤ = of_parts n large in
    let some : 0 < n = some_coefficients p ok.fields in
    let entry : ℤ = pos (unit p.message_bits * get_or table x 0) in
    let first : distance (lwe_phase (k * n) (flat n bits) (of_words input) -ℤ pos (2 * e * (2 * h * x))) ≤ pair_input_noise p =
    subst (λ (m : ℕ). m ≤ pair_input_noise p)
    (ap (λ m. distance (lwe_phase (length large) (of_words large) (of_words input) -ℤ pos m)) (box_place p x ok.fields ok.wide)
    ∙ near_flat n k large input (of_words input) (pos (2 * e * (2 * h * x))) secret.large_size (λ u _. refl)) near in
    let last : distance (lwe_phase (k * n) (flat n bits) (extracted_by key table input) -ℤ entry)
    ≤ d / 2 * turn_bound n k p.pbs_base_log p.pbs_level (6 * 2 ^ p.glwe_bound) =
    pair_bootstrap_noise n k d p.pbs_base_log p.pbs_level p.ks_base_log p.ks_level (plaintexts p.message_bits) h e x (unit p.message_bits)
    (pair_input_noise p) (2 ^ p.glwe_bound) (2 ^ p.lwe_bound) bits (λ i. get_or small i 0) (λ i. get_or table i 0)
    (boot_rows p key.rows) (switch_rows (switch_key p key.switch)) (of_words input)
    some (some_half p ok.fields) (sym (boxes p ok.fields ok.wide)) (marks_round p ok.fields) below ok.pairs
    ok.fields.pbs_base_log.0 (omega (arith, ok.fields.pbs_level.1)) ok.fields.ks_base_log.0 (omega (arith, ok.fields.ks_level.1))
    (bit_key p small large secret) (small_bit p small large secret) keyed.rows
    (switch_flat n k d p.ks_level (2 ^ p.lwe_bound) (level_weight p.ks_base_log) (of_words small) large (switch_rows (switch_key p key.switch)) keyed.switch)
    first (room_left p ok) in
    omega (
      arith,
      last,
      boot_is p,
      near_flat n k large (pair_bootstrapped key table input) (extracted_by key table input) entry secret.large_size
          (λ u q. bootstrapped-word key table input u some q),
    )

pub pair_lookup_laws : PairLookupLaws
pair_lookup_laws = record { looks_up = looked_up }

-- what a code writes that is the bootstrap of its input looks the input up
pub looks_up-is : (key : PairWords) (table input out : List ℕ) → PairAccepts key.params → out ≡ pair_bootstrapped key table input →
    PairLooksUp key table input out
looks_up-is key table input out ok made = subst (PairLooksUp key table input) (sym made) (looked_up key table input ok)
