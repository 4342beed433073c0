-- The law of the bootstrap on the lists of words of a program: its marks, its keys and its phases as functions.
use Rattle.std.proofs.Common.{◌≡◌, ℕ, zero, suc, ℤ, pos, ◌+ℤ◌, ◌*ℤ◌, ◌-ℤ◌, ◌+◌, ◌-◌, ◌*◌, ◌^◌, ◌<◌, ◌≤◌, refl, sym, ◌∙◌, ap, arith, subst, List, length, get_or}
use Rattle.std.proofs.lemmas.Nat.{div-add-mod', mul-add-lt}
use Rattle.rx_laws.specs.Sum.{sum_to}
use Rattle.rx_laws.specs.Torus.{word, distance}
use Rattle.rx_laws.specs.Words.{of_words, AreWords, words_below}
use Rattle.rx_laws.specs.Digits.{digit}
use Rattle.rx_laws.specs.Decode.{plaintexts, unit}
use Rattle.rx_laws.specs.Lwe.{lwe_phase}
use Rattle.rx_laws.proofs.Sums.{sum_to-same}
use Rattle.rx_laws.proofs.Lwe.{lwe_phase_is, lwe_phase-word}
use Rattle.rx_laws.proofs.Torus.{word-add, word-word, distance-word}
use Rattle.rx_laws.proofs.Words.{words_below-are}
use Rattle.rx_ring.specs.Polynomial.{turns}
use Rattle.rx_ring.specs.Parts.{of_parts}
use Rattle.rx_ring.specs.Glwe.{external, extracted, flat}
use Rattle.rx_ring.specs.Keys.{level_weight, IsBitKey, IsSwitch}
use Rattle.rx_ring.specs.Noise.{turn_bound, switch_bound}
use Rattle.rx_ring.specs.Rotation.{turn, turned_away, blind_rotation}
use Rattle.rx_ring.specs.Switch.{switched_by, mark, switched_marks}
use Rattle.rx_ring.proofs.Bootstrap.{bootstrap_noise}
use Rattle.rx_ring.proofs.Congruence.{external_same, extracted-word}
use Rattle.rx_ring.proofs.TurnWords.{turned_away-word}
use Rattle.rx_params.specs.declared.params.Params.{Params}
use Rattle.rx_params.specs.Acceptance.{FieldsInRange, Accepts}
use Rattle.rx_params.specs.Derived.{large_dim}
use Rattle.rx_lwe.specs.SwitchKeys.{switch_key, switch_rows, switched_words}
use Rattle.rx_boot.specs.BootKeys.{boot_rows}
use Rattle.rx_boot.specs.ServerKeys.{ServerWords, IsSecret}
use Rattle.rx_boot.specs.Bootstrap.{half_box, half_mark, marks, table_accumulator, rotation_of, bootstrapped}
use Rattle.rx_boot.specs.Noise.{input_noise, LooksUp}
use Rattle.rx_boot.specs.NoiseLaws.{LookupLaws}
use Rattle.rx_boot.proofs.Sizes.{some_coefficients}
use Rattle.rx_boot.proofs.Budget.{budget_laws, units, some_half}
use lib.IntN.{neg_ℤ}

-- ---- the turns by two lists of marks that agree
turn_marks : (n k b l : ℕ) (rows : ℕ → ℕ → ℕ → ℕ → ℕ → ℤ) (v w : ℕ → ℕ) (f : ℕ → ℤ) (t : ℕ) → ((i : ℕ) → i < t → v i ≡ w i) →
    (q i : ℕ) → i < n → turn n k b l rows v f t q i ≡ turn n k b l rows w f t q i
unfolding turn
turn_marks n k b l rows v w f zero same q i r = refl
turn_marks n k b l rows v w f (suc t) same q i r =
    let c : ℕ → ℕ → ℤ = turn n k b l rows v f t in
    let d : ℕ → ℕ → ℤ = turn n k b l rows w f t in
    let before : (j x : ℕ) → x < n → c j x ≡ d j x = turn_marks n k b l rows v w f t (λ j s. same j (omega arith)) in
    let old : ℕ → ℕ → ℕ → ℤ = λ j s x. digit b l (word (turned_away n (v t) c j x)) s in
    let new : ℕ → ℕ → ℕ → ℤ = λ j s x. digit b l (word (turned_away n (w t) d j x)) s in
    let digits : (j s x : ℕ) → j < suc k → s < l → x < n → old j s x ≡ new j s x =
    λ j s x _ _ z. ap (λ a. digit b l (word (turned_away n a c j x)) s) (same t (omega arith))
    ∙ ap (λ y. digit b l y s) (turned_away-word n (w t) c d j x (λ u below. ap word (before j u below)) z) in
    ap (λ x. x +ℤ external n k l old (rows t) q i) (before q i r)
    ∙ ap (λ x. d q i +ℤ x) (external_same n k l old new (rows t) q i digits r)

rotation_marks : (n k b l d : ℕ) (rows : ℕ → ℕ → ℕ → ℕ → ℕ → ℤ) (v w : ℕ → ℕ) (f : ℕ → ℤ) → ((i : ℕ) → i < d + 1 → v i ≡ w i) →
    (q i : ℕ) → i < n → blind_rotation n k b l d rows v f q i ≡ blind_rotation n k b l d rows w f q i
rotation_marks n k b l d rows v w f same q i r =
    turn_marks n k b l rows v w (turns n f (2 * n - v d)) d (λ j s. same j (omega arith)) q i r
    ∙ ap (λ m. turn n k b l rows w (turns n f (2 * n - m)) d q i) (same d (omega arith))

-- the marks of the words of a switched input, read from their list
pub marks_of : (p : Params) (switch input : List ℕ) (i : ℕ) → i < p.lwe_dim + 1 →
    marks p (switched_words (switch_key p switch) input) i
    ≡ switched_marks (half_mark p) (2 * p.poly_size) (large_dim p) p.lwe_dim p.ks_base_log p.ks_level (switch_rows (switch_key p switch)) (of_words input) i
marks_of p switch input i q =
    let f : ℕ → ℤ = switched_by (large_dim p) p.lwe_dim p.ks_base_log p.ks_level (switch_rows (switch_key p switch)) (of_words input) in
    let are : AreWords (p.lwe_dim + 1) f (words_below (p.lwe_dim + 1) f) = words_below-are (p.lwe_dim + 1) f in
    ap (mark (half_mark p) (2 * p.poly_size)) (are.each i q)

-- ---- phases under keys that agree
phase_key : (d : ℕ) (key other w : ℕ → ℤ) → ((u : ℕ) → u < d → key u ≡ other u) → lwe_phase d key w ≡ lwe_phase d other w
phase_key d key other w same =
    let terms : sum_to d (λ i. key i *ℤ w i) ≡ sum_to d (λ i. other i *ℤ w i) =
    sum_to-same d (λ i. key i *ℤ w i) (λ i. other i *ℤ w i) (λ i q. ap (λ x. x *ℤ w i) (same i q)) in
    lwe_phase_is d key w ∙ ap (λ x. w d -ℤ x) terms ∙ sym (lwe_phase_is d other w)

-- the distance of a phase from a number depends on the words and on the key's places alone
pub phase_gap : (d : ℕ) (key other v w : ℕ → ℤ) (z : ℤ) → ((u : ℕ) → u < d → key u ≡ other u) → ((u : ℕ) → u < d + 1 → word (v u) ≡ word (w u)) →
    distance (lwe_phase d key v -ℤ z) ≡ distance (lwe_phase d other w -ℤ z)
phase_gap d key other v w z keys words =
    ap (λ x. distance (x -ℤ z)) (phase_key d key other v keys)
    ∙ distance-word (lwe_phase d other v -ℤ z) (lwe_phase d other w -ℤ z)
    (word-add (lwe_phase d other v) (lwe_phase d other w) (neg_ℤ z) (neg_ℤ z) (lwe_phase-word d other v w words) refl)

-- ---- a list of bits as a key
flat_parts : (n u : ℕ) (large : List ℕ) → of_words large u ≡ flat n (of_parts n large) u
unfolding flat
flat_parts n u large = ap (of_words large) (sym (div-add-mod' u n))

pub bit_key : (p : Params) (small large : List ℕ) → IsSecret p small large → IsBitKey p.poly_size p.glwe_dim (of_parts p.poly_size large)
unfolding IsBitKey large_dim
bit_key p small large secret j i q r =
    let place : j * p.poly_size + i < length large = omega (arith, mul-add-lt j p.poly_size i p.glwe_dim q r, secret.large_size) in
    omega (arith, secret.large_bits (j * p.poly_size + i) place)

pub small_bit : (p : Params) (small large : List ℕ) → IsSecret p small large → (i : ℕ) → i < p.lwe_dim → get_or small i 0 ≤ 1
small_bit p small large secret i q = omega (arith, secret.small_bits i (omega (arith, secret.small_size, q)))

pub switch_flat : (n k small levels noise : ℕ) (weight to : ℕ → ℤ) (large : List ℕ) (rows : ℕ → ℕ → ℕ → ℤ) →
    IsSwitch (k * n) small levels noise weight (of_words large) to rows →
    IsSwitch (k * n) small levels noise weight (flat n (of_parts n large)) to rows
switch_flat n k small levels noise weight to large rows is = record {
  near = λ u t q r. subst (λ (z : ℤ). distance (lwe_phase small to (rows u t) -ℤ weight t *ℤ z) ≤ noise) (flat_parts n u large) (is.near u t q r);
}

-- the phase of a list of words under a list of bits, as the laws of ciphertexts speak of it
pub near_flat : (n k : ℕ) (large xs : List ℕ) (f : ℕ → ℤ) (z : ℤ) → length large ≡ k * n →
    ((u : ℕ) → u < k * n + 1 → word (of_words xs u) ≡ word (f u)) →
    distance (lwe_phase (length large) (of_words large) (of_words xs) -ℤ z) ≡ distance (lwe_phase (k * n) (flat n (of_parts n large)) f -ℤ z)
near_flat n k large xs f z size words =
    ap (λ d. distance (lwe_phase d (of_words large) (of_words xs) -ℤ z)) size
    ∙ phase_gap (k * n) (of_words large) (flat n (of_parts n large)) (of_words xs) f z (λ u _. flat_parts n u large) words

-- ---- the bootstrap
-- what the law of the bootstrap extracts
abbrev extracted_by : ServerWords → List ℕ → List ℕ → ℕ → ℤ
extracted_by key table input =
    let p : Params = key.params in
    extracted p.poly_size p.glwe_dim (blind_rotation p.poly_size p.glwe_dim p.pbs_base_log p.pbs_level p.lwe_dim (boot_rows p key.boot)
    (switched_marks (half_mark p) (2 * p.poly_size) (p.glwe_dim * p.poly_size) p.lwe_dim p.ks_base_log p.ks_level
    (switch_rows (switch_key p key.switch)) (of_words input)) (table_accumulator p table))

bootstrapped-word : (key : ServerWords) (table input : List ℕ) (u : ℕ) → 0 < key.params.poly_size →
    u < key.params.glwe_dim * key.params.poly_size + 1 →
    word (of_words (bootstrapped key table input) u) ≡ word (extracted_by key table input u)
unfolding bootstrapped large_dim
bootstrapped-word key table input u some q =
    let p : Params = key.params in
    let n : ℕ = p.poly_size in
    let k : ℕ = p.glwe_dim in
    let switched : List ℕ = switched_words (switch_key p key.switch) input in
    let by_words : ℕ → ℕ → ℤ = rotation_of p key.boot table switched in
    let by_law : ℕ → ℕ → ℤ = blind_rotation n k p.pbs_base_log p.pbs_level p.lwe_dim (boot_rows p key.boot)
    (switched_marks (half_mark p) (2 * n) (k * n) p.lwe_dim p.ks_base_log p.ks_level (switch_rows (switch_key p key.switch)) (of_words input))
    (table_accumulator p table) in
    let read : AreWords (k * n + 1) (extracted n k by_words) (words_below (k * n + 1) (extracted n k by_words)) =
    words_below-are (k * n + 1) (extracted n k by_words) in
    ap (λ x. word (pos x)) (read.each u q) ∙ word-word (extracted n k by_words u)
    ∙ extracted-word n k by_words by_law u
    (λ j i _ r. ap word (rotation_marks n k p.pbs_base_log p.pbs_level p.lwe_dim (boot_rows p key.boot) (marks p switched)
    (switched_marks (half_mark p) (2 * n) (k * n) p.lwe_dim p.ks_base_log p.ks_level (switch_rows (switch_key p key.switch)) (of_words input))
    (table_accumulator p table) (λ t s. marks_of p key.switch input t s) j i r)) some q

-- where number x stands on the torus, by the marks of its box
pub box_place : (p : Params) (x : ℕ) → FieldsInRange p → 2 * plaintexts p.message_bits ≤ p.poly_size → unit p.message_bits * x ≡ 2 * half_mark p * (2 * half_box p * x)
box_place p x fields wide =
    let e : ℕ = half_mark p in
    let h : ℕ = half_box p in
    let order : 2 * e * (2 * h) * x ≡ 2 * e * (2 * h * x) = omega arith in
    ap (λ u. u * x) (sym (units p fields wide)) ∙ order

room_left : (p : Params) → Accepts p →
    input_noise p + switch_bound (p.glwe_dim * p.poly_size) p.ks_base_log p.ks_level (2 ^ p.lwe_bound) + (p.lwe_dim + 1) * half_mark p
    < 2 * half_mark p * half_box p
unfolding large_dim
room_left p ok = omega (arith, budget_laws.room p ok, budget_laws.left p, budget_laws.switch p, budget_laws.round p)

looked_up : (key : ServerWords) (table input : List ℕ) → Accepts key.params → LooksUp key table input (bootstrapped key table input)
unfolding large_dim
looked_up key table input ok small large x secret server below near =
    let p : Params = key.params in
    let n : ℕ = p.poly_size in
    let k : ℕ = p.glwe_dim in
    let d : ℕ = p.lwe_dim in
    let e : ℕ = half_mark p in
    let h : ℕ = half_box p in
    let bits : ℕ → ℕ → ℤ = of_parts n large in
    let some : 0 < n = some_coefficients p ok.fields in
    let entry : ℤ = pos (unit p.message_bits * get_or table x 0) in
    let first : distance (lwe_phase (k * n) (flat n bits) (of_words input) -ℤ pos (2 * e * (2 * h * x))) ≤ input_noise p =
    subst (λ (m : ℕ). m ≤ input_noise p)
    (ap (λ m. distance (lwe_phase (length large) (of_words large) (of_words input) -ℤ pos m)) (box_place p x ok.fields ok.wide)
    ∙ near_flat n k large input (of_words input) (pos (2 * e * (2 * h * x))) secret.large_size (λ u _. refl)) near in
    let last : distance (lwe_phase (k * n) (flat n bits) (extracted_by key table input) -ℤ entry)
    ≤ d * turn_bound n k p.pbs_base_log p.pbs_level (2 ^ p.glwe_bound) =
    bootstrap_noise n k d p.pbs_base_log p.pbs_level p.ks_base_log p.ks_level (plaintexts p.message_bits) h e x (unit p.message_bits)
    (input_noise p) (2 ^ p.glwe_bound) (2 ^ p.lwe_bound) bits (λ i. get_or small i 0) (λ i. get_or table i 0)
    (boot_rows p key.boot) (switch_rows (switch_key p key.switch)) (of_words input)
    some (some_half p ok.fields) (sym (budget_laws.boxes p ok)) (budget_laws.marks p ok.fields) below
    ok.fields.pbs_base_log.0 (omega (arith, ok.fields.pbs_level.1)) ok.fields.ks_base_log.0 (omega (arith, ok.fields.ks_level.1))
    (bit_key p small large secret) (small_bit p small large secret) server.boot
    (switch_flat n k d p.ks_level (2 ^ p.lwe_bound) (level_weight p.ks_base_log) (of_words small) large (switch_rows (switch_key p key.switch)) server.switch)
    first (room_left p ok) in
    omega (
      arith,
      last,
      budget_laws.boot p,
      near_flat n k large (bootstrapped key table input) (extracted_by key table input) entry secret.large_size
          (λ u q. bootstrapped-word key table input u some q),
    )

pub lookup_laws : LookupLaws
lookup_laws = record { looks_up = looked_up }

-- what a code writes that is the bootstrap of its input looks the input up
pub looks_up-is : (key : ServerWords) (p : Params) (table input out : List ℕ) → Accepts p → p ≡ key.params → out ≡ bootstrapped key table input →
    LooksUp key table input out
looks_up-is key p table input out ok is_set made =
    subst (LooksUp key table input) (sym made) (looked_up key table input (subst Accepts is_set ok))
