-- A turn by a pair of bits: what its rows hide, and what it does to the phase.
use Rattle.std.proofs.Common.{◌≡◌, ℕ, zero, suc, ℤ, pos, ◌+ℤ◌, ◌*ℤ◌, ◌-ℤ◌, ◌+◌, ◌-◌, ◌*◌, ◌/◌, ◌%◌, ◌^◌, ◌<◌, ◌≤◌, ◌≢◌, ◌⊎◌, inl, inr, refl, sym, ◌∙◌, ap, arith, nat_eq, nat_lt, Bool, true, false, if◌then◌else◌}
use Rattle.std.proofs.lemmas.Int.{ints}
use Rattle.std.proofs.lemmas.Nat.{mod_below}
use Rattle.std.proofs.lemmas.Bool.{cases_lt, eq-eqb, ne_eqb, lt-ltb, le-ltb}
use Rattle.std.specs.Int.RustNames.{unsigned_abs}
use Rattle.rx_laws.specs.Sum.{sum_to}
use Rattle.rx_laws.specs.Torus.{word, distance}
use Rattle.rx_laws.specs.Digits.{digit}
use Rattle.rx_laws.proofs.Ring.{mul_comm_ℤ, mul_assoc_ℤ, mul_neg, mul_sub}
use Rattle.rx_laws.proofs.Sums.{sum_to-suc, sum_to-same, sum_to-nothing}
use Rattle.rx_laws.proofs.Torus.{distance-sub}
use Rattle.rx_ring.specs.Polynomial.{product, turns, unit_polynomial}
use Rattle.rx_ring.specs.Glwe.{glwe_phase, external}
use Rattle.rx_ring.specs.Keys.{level_weight, IsBitKey, ggsw_hidden, IsGgsw}
use Rattle.rx_ring.specs.Noise.{AreDigits, external_bound, turn_bound, turns_so_far}
use Rattle.rx_ring.specs.Rotation.{turned_away}
use Rattle.rx_ring.specs.Pairs.{one_rows, pair_bit, pair_amount, pair_rows, pair_turn, pair_chosen}
use Rattle.rx_ring.specs.PairLaws.{ArePairs}
use Rattle.rx_ring.proofs.Polynomial.{turned_same, turned-mul, product_same, product-mul_right, product-comm}
use Rattle.rx_ring.proofs.Rotation.{turns-add, turns-sub, turns-sum, turns_same, turns_rounds, rotated_turns, rotated_mod, distance-turns, product_turns_right}
use Rattle.rx_ring.proofs.Glwe.{glwe_phase_is, glwe_phase-add, glwe_phase-sum, glwe_phase_turns}
use Rattle.rx_ring.proofs.Noise.{distance-sum, product_unit, word_digits}
use Rattle.rx_ring.proofs.Turn.{glwe_phase_away, product_nothing, external_noise, all_turns_noise, first_phase}
use lib.IntN.{neg_ℤ}

-- ---- the identity
three : (g : ℕ → ℤ) → sum_to 3 g ≡ g 0 +ℤ g 1 +ℤ g 2
unfolding sum_to
three g = omega (arith, ints)

turns_none : (n : ℕ) (f : ℕ → ℤ) (i : ℕ) → turns n f 0 i ≡ f i
unfolding turns
turns_none n f i = refl

-- amounts count modulo 2 * n
turns_mod : (n : ℕ) (f : ℕ → ℤ) (t i : ℕ) → i < n → turns n f (t % (2 * n)) i ≡ turns n f t i
turns_mod n f t i p =
    let below : t % (2 * n) < 2 * n = mod_below t (2 * n) (omega arith) in
    sym (rotated_turns n f (t % (2 * n)) i (omega arith) p) ∙ rotated_mod n f t i p

both_amounts : (n a1 a2 i : ℕ) (f : ℕ → ℤ) → i < n → turns n f (pair_amount n 2 a1 a2) i ≡ turns n f (a1 + a2) i
unfolding pair_amount
both_amounts n a1 a2 i f p = turns_mod n f (a1 + a2) i p

pub pair_identity : (n s1 s2 a1 a2 i : ℕ) (f : ℕ → ℤ) → s1 ≤ 1 → s2 ≤ 1 → i < n →
    f i +ℤ sum_to 3 (λ e. pos (pair_bit e s1 s2) *ℤ (turns n f (pair_amount n e a1 a2) i -ℤ f i)) ≡ turns n f (s1 * a1 + s2 * a2) i
unfolding pair_bit pair_amount
pair_identity n zero zero a1 a2 i f p q r =
    let amount : 0 * a1 + 0 * a2 ≡ 0 = omega arith in
    omega (arith, ints, three (λ e. pos (pair_bit e 0 0) *ℤ (turns n f (pair_amount n e a1 a2) i -ℤ f i)), ap (λ t. turns n f t i) amount, turns_none n f i)
pair_identity n (suc zero) zero a1 a2 i f p q r =
    let amount : 1 * a1 + 0 * a2 ≡ a1 = omega arith in
    omega (arith, ints, three (λ e. pos (pair_bit e 1 0) *ℤ (turns n f (pair_amount n e a1 a2) i -ℤ f i)), ap (λ t. turns n f t i) amount)
pair_identity n zero (suc zero) a1 a2 i f p q r =
    let amount : 0 * a1 + 1 * a2 ≡ a2 = omega arith in
    omega (arith, ints, three (λ e. pos (pair_bit e 0 1) *ℤ (turns n f (pair_amount n e a1 a2) i -ℤ f i)), ap (λ t. turns n f t i) amount)
pair_identity n (suc zero) (suc zero) a1 a2 i f p q r =
    let amount : 1 * a1 + 1 * a2 ≡ a1 + a2 = omega arith in
    omega (
      arith,
      ints,
      three (λ e. pos (pair_bit e 1 1) *ℤ (turns n f (pair_amount n e a1 a2) i -ℤ f i)),
      ap (λ t. turns n f t i) amount,
      both_amounts n a1 a2 i f r,
    )
pair_identity n (suc (suc s1)) s2 a1 a2 i f p q r = absurd (omega arith)
pair_identity n zero (suc (suc s2)) a1 a2 i f p q r = absurd (omega arith)
pair_identity n (suc zero) (suc (suc s2)) a1 a2 i f p q r = absurd (omega arith)

-- ---- what a row of 1 hides
sum_to-one : (m j : ℕ) (g : ℕ → ℤ) → j < m → ((p : ℕ) → p < m → p ≢ j → g p ≡ pos 0) → sum_to m g ≡ g j
sum_to-one zero j g p none = absurd (omega arith)
sum_to-one (suc m) j g p none = by (λ q. sum_to-one m j g q (λ i r s. none i (omega arith) s)) (cases_lt j m)
  where
    by : (j < m → sum_to m g ≡ g j) → (j < m) ⊎ (m ≤ j) → sum_to (suc m) g ≡ g j
    by rest (inl q) =
        let last : g m ≡ pos 0 = none m (omega arith) (λ e. absurd (omega arith)) in
        omega (arith, ints, sum_to-suc m g, last, rest q)
    by rest (inr q) =
        let here : j ≡ m = omega arith in
        let nothing : sum_to m g ≡ pos 0 = sum_to-same m g (λ i. pos 0) (λ i r. none i (omega arith) (λ e. absurd (omega arith))) ∙ sum_to-nothing m in
        omega (arith, ints, sum_to-suc m g, nothing, ap g here)

one_rows-here : (base_log j t x : ℕ) → one_rows base_log j t j x ≡ level_weight base_log t *ℤ unit_polynomial x
unfolding one_rows
one_rows-here base_log j t x = ap (λ b. if b then level_weight base_log t *ℤ unit_polynomial x else pos 0) (eq-eqb j j refl)

one_rows-other : (base_log j t q x : ℕ) → q ≢ j → one_rows base_log j t q x ≡ pos 0
unfolding one_rows
one_rows-other base_log j t q x ne = ap (λ b. if b then level_weight base_log t *ℤ unit_polynomial x else pos 0) (ne_eqb q j ne)

product_other : (n base_log j t q i : ℕ) (key : ℕ → ℕ → ℤ) → q ≢ j → i < n → product n (key q) (one_rows base_log j t q) i ≡ pos 0
product_other n base_log j t q i key ne p =
    product_same n (key q) (key q) (one_rows base_log j t q) (λ x. pos 0) i (λ x _. refl) (λ x _. one_rows-other base_log j t q x ne) p
    ∙ product_nothing n (key q) i

product_here : (n base_log j t i : ℕ) (key : ℕ → ℕ → ℤ) → i < n →
    product n (key j) (one_rows base_log j t j) i ≡ level_weight base_log t *ℤ key j i
product_here n base_log j t i key p =
    product_same n (key j) (key j) (one_rows base_log j t j) (λ x. level_weight base_log t *ℤ unit_polynomial x) i (λ x _. refl) (λ x _. one_rows-here base_log j t x) p
    ∙ product-mul_right n (level_weight base_log t) (key j) unit_polynomial i
    ∙ ap (λ z. level_weight base_log t *ℤ z) (product-comm n (key j) unit_polynomial i p ∙ product_unit n (key j) i p)

pub one_phase : (n k base_log j t i : ℕ) (key : ℕ → ℕ → ℤ) → j < suc k → i < n →
    glwe_phase n k key (one_rows base_log j t) i ≡ ggsw_hidden k (level_weight base_log) key (pos 1) j t i
one_phase n k base_log j t i key p q = by (cases_lt j k)
  where
    w : ℤ
    w = level_weight base_log t

    hidden : (b : Bool) → nat_lt j k ≡ b → ggsw_hidden k (level_weight base_log) key (pos 1) j t i ≡ w *ℤ (if b then neg_ℤ (pos 1 *ℤ key j i) else pos 1 *ℤ unit_polynomial i)
    hidden b e = ap (λ b. w *ℤ (if b then neg_ℤ (pos 1 *ℤ key j i) else pos 1 *ℤ unit_polynomial i)) e

    by : (j < k) ⊎ (k ≤ j) → glwe_phase n k key (one_rows base_log j t) i ≡ ggsw_hidden k (level_weight base_log) key (pos 1) j t i
    by (inl r) =
        let body : one_rows base_log j t k i ≡ pos 0 = one_rows-other base_log j t k i (λ e. absurd (omega arith)) in
        let masks : sum_to k (λ u. product n (key u) (one_rows base_log j t u) i) ≡ w *ℤ key j i =
        sum_to-one k j (λ u. product n (key u) (one_rows base_log j t u) i) r (λ u _ s. product_other n base_log j t u i key s q)
        ∙ product_here n base_log j t i key q in
        let once : neg_ℤ (pos 1 *ℤ key j i) ≡ neg_ℤ (key j i) = omega (arith, ints) in
        omega (arith, ints, glwe_phase_is n k key (one_rows base_log j t) i, body, masks, hidden true (lt-ltb j k r), ap (λ z. w *ℤ z) once, mul_neg w (key j i))
    by (inr r) =
        let last : j ≡ k = omega arith in
        let body : one_rows base_log j t k i ≡ w *ℤ unit_polynomial i =
        ap (λ u. one_rows base_log j t u i) (sym last) ∙ one_rows-here base_log j t i in
        let masks : sum_to k (λ u. product n (key u) (one_rows base_log j t u) i) ≡ pos 0 =
        sum_to-same k (λ u. product n (key u) (one_rows base_log j t u) i) (λ u. pos 0)
        (λ u s. product_other n base_log j t u i key (λ e. absurd (omega arith)) q) ∙ sum_to-nothing k in
        let once : pos 1 *ℤ unit_polynomial i ≡ unit_polynomial i = omega (arith, ints) in
        omega (arith, ints, glwe_phase_is n k key (one_rows base_log j t) i, body, masks, hidden false (le-ltb j k r), ap (λ z. w *ℤ z) once)

-- what an encrypted bit hides is the bit times what an encrypted 1 hides
hidden_scaled : (k : ℕ) (weight : ℕ → ℤ) (key : ℕ → ℕ → ℤ) (bit : ℤ) (j t i : ℕ) →
    ggsw_hidden k weight key bit j t i ≡ bit *ℤ ggsw_hidden k weight key (pos 1) j t i
hidden_scaled k weight key bit j t i = by (nat_lt j k)
  where
    masks : (w b x : ℤ) → w *ℤ neg_ℤ (b *ℤ x) ≡ b *ℤ (w *ℤ neg_ℤ (pos 1 *ℤ x))
    masks w b x =
        let once : neg_ℤ (pos 1 *ℤ x) ≡ neg_ℤ x = omega (arith, ints) in
        ap (λ z. w *ℤ z) (sym (mul_neg b x)) ∙ sym (mul_assoc_ℤ w b (neg_ℤ x)) ∙ ap (λ z. z *ℤ neg_ℤ x) (mul_comm_ℤ w b)
        ∙ mul_assoc_ℤ b w (neg_ℤ x) ∙ ap (λ z. b *ℤ (w *ℤ z)) (sym once)

    body : (w b x : ℤ) → w *ℤ (b *ℤ x) ≡ b *ℤ (w *ℤ (pos 1 *ℤ x))
    body w b x =
        let once : pos 1 *ℤ x ≡ x = omega (arith, ints) in
        sym (mul_assoc_ℤ w b x) ∙ ap (λ z. z *ℤ x) (mul_comm_ℤ w b) ∙ mul_assoc_ℤ b w x ∙ ap (λ z. b *ℤ (w *ℤ z)) (sym once)

    by : (c : Bool) → weight t *ℤ (if c then neg_ℤ (bit *ℤ key j i) else bit *ℤ unit_polynomial i)
        ≡ bit *ℤ (weight t *ℤ (if c then neg_ℤ (pos 1 *ℤ key j i) else pos 1 *ℤ unit_polynomial i))
    by true = masks (weight t) bit (key j i)
    by false = body (weight t) bit (unit_polynomial i)

-- ---- what the rows of a pair hide
turns-mul : (n : ℕ) (c : ℤ) (f : ℕ → ℤ) (t i : ℕ) → i < n → turns n (λ x. c *ℤ f x) t i ≡ c *ℤ turns n f t i
unfolding turns
turns-mul n c f zero i p = refl
turns-mul n c f (suc t) i p =
    turned_same n (turns n (λ x. c *ℤ f x) t) (λ x. c *ℤ turns n f t x) 1 i (λ x q. turns-mul n c f t x q) (omega arith) p
    ∙ turned-mul n c (turns n f t) 1 i

pair_phase : (n k base_log : ℕ) (key : ℕ → ℕ → ℤ) (rows : ℕ → ℕ → ℕ → ℕ → ℕ → ℤ) (amount : ℕ → ℕ) (u j t i : ℕ) → j < suc k → i < n →
    glwe_phase n k key (pair_rows n base_log rows amount u j t) i
    ≡ ggsw_hidden k (level_weight base_log) key (pos 1) j t i
    +ℤ sum_to 3 (λ e. turns n (glwe_phase n k key (rows (3 * u + e) j t)) (pair_amount n e (amount (2 * u)) (amount (2 * u + 1))) i
    -ℤ glwe_phase n k key (rows (3 * u + e) j t) i)
unfolding pair_rows
pair_phase n k base_log key rows amount u j t i p q =
    let away : ℕ → ℕ → ℕ → ℤ = λ e. turned_away n (pair_amount n e (amount (2 * u)) (amount (2 * u + 1))) (rows (3 * u + e) j t) in
    glwe_phase-add n k key (one_rows base_log j t) (λ y x. sum_to 3 (λ e. away e y x)) i
    ∙ ap (λ z. z +ℤ glwe_phase n k key (λ y x. sum_to 3 (λ e. away e y x)) i) (one_phase n k base_log j t i key p q)
    ∙ ap (λ z. ggsw_hidden k (level_weight base_log) key (pos 1) j t i +ℤ z)
    (glwe_phase-sum n k 3 key away i
    ∙ sum_to-same 3 (λ e. glwe_phase n k key (away e) i)
    (λ e. turns n (glwe_phase n k key (rows (3 * u + e) j t)) (pair_amount n e (amount (2 * u)) (amount (2 * u + 1))) i -ℤ glwe_phase n k key (rows (3 * u + e) j t) i)
    (λ e _. glwe_phase_away n k key (rows (3 * u + e) j t) (pair_amount n e (amount (2 * u)) (amount (2 * u + 1))) i q))

-- one product's part: what its turn changes in the row, less what it has to change
away_gap : (n noise amount i : ℕ) (bit : ℤ) (f h : ℕ → ℤ) → i < n → ((x : ℕ) → x < n → distance (f x -ℤ bit *ℤ h x) ≤ noise) →
    distance ((turns n f amount i -ℤ f i) -ℤ bit *ℤ (turns n h amount i -ℤ h i)) ≤ 2 * noise
away_gap n noise amount i bit f h p near =
    let gap : ℕ → ℤ = λ x. f x -ℤ bit *ℤ h x in
    let turned : turns n gap amount i ≡ turns n f amount i -ℤ bit *ℤ turns n h amount i =
    turns-sub n f (λ x. bit *ℤ h x) amount i p ∙ ap (λ z. turns n f amount i -ℤ z) (turns-mul n bit h amount i p) in
    let same : (turns n f amount i -ℤ f i) -ℤ bit *ℤ (turns n h amount i -ℤ h i) ≡ turns n gap amount i -ℤ gap i =
    omega (arith, ints, turned, mul_sub bit (turns n h amount i) (h i)) in
    omega (arith, ap distance same, distance-sub (turns n gap amount i) (gap i), distance-turns n gap amount i noise near p, near i p)

-- each row of a pair hides what that of an encrypted 1 hides, turned by what the bits have chosen
pub pair_near : (n k base_log levels noise d : ℕ) (key : ℕ → ℕ → ℤ) (small : ℕ → ℕ) (rows : ℕ → ℕ → ℕ → ℕ → ℕ → ℤ) (amount : ℕ → ℕ) (u j t i : ℕ) →
    u < d / 2 → ((v : ℕ) → v < d → small v ≤ 1) → ArePairs n k d levels noise (level_weight base_log) key small rows →
    j < suc k → t < levels → i < n →
    distance (glwe_phase n k key (pair_rows n base_log rows amount u j t) i
    -ℤ turns n (ggsw_hidden k (level_weight base_log) key (pos 1) j t) (pair_chosen small amount u) i)
    ≤ 6 * noise
unfolding pair_chosen
pair_near n k base_log levels noise d key small rows amount u j t i below bits are p q r =
    let s1 : ℕ = small (2 * u) in
    let s2 : ℕ = small (2 * u + 1) in
    let a1 : ℕ = amount (2 * u) in
    let a2 : ℕ = amount (2 * u + 1) in
    let h : ℕ → ℤ = ggsw_hidden k (level_weight base_log) key (pos 1) j t in
    let f : ℕ → ℕ → ℤ = λ e. glwe_phase n k key (rows (3 * u + e) j t) in
    let bit : ℕ → ℤ = λ e. pos (pair_bit e s1 s2) in
    let by : ℕ → ℕ = λ e. pair_amount n e a1 a2 in
    let made : ℕ → ℤ = λ e. turns n (f e) (by e) i -ℤ f e i in
    let wanted : ℕ → ℤ = λ e. bit e *ℤ (turns n h (by e) i -ℤ h i) in
    let each : (e x : ℕ) → e < 3 → x < n → distance (f e x -ℤ bit e *ℤ h x) ≤ noise =
    λ e x v w. omega (
      arith,
      ap (λ z. distance (f e x -ℤ z)) (hidden_scaled k (level_weight base_log) key (bit e) j t x),
      (are u e below v).near j t x p q w,
    ) in
    let parts : distance (sum_to 3 (λ e. made e -ℤ wanted e)) ≤ 3 * (2 * noise) =
    distance-sum 3 (2 * noise) (λ e. made e -ℤ wanted e) (λ e v. away_gap n noise (by e) i (bit e) (f e) h r (λ x w. each e x v w)) in
    let identity : h i +ℤ sum_to 3 wanted ≡ turns n h (s1 * a1 + s2 * a2) i =
    pair_identity n s1 s2 a1 a2 i h (bits (2 * u) (omega arith)) (bits (2 * u + 1) (omega arith)) r in
    let same : glwe_phase n k key (pair_rows n base_log rows amount u j t) i -ℤ turns n h (s1 * a1 + s2 * a2) i ≡ sum_to 3 (λ e. made e -ℤ wanted e) =
    omega (arith, ints, pair_phase n k base_log key rows amount u j t i p r, identity, three made, three wanted, three (λ e. made e -ℤ wanted e)) in
    omega (arith, ap distance same, parts)

-- ---- an external product by rows that hide a turned 1
external_turns : (n k l : ℕ) (d : ℕ → ℕ → ℕ → ℤ) (rows : ℕ → ℕ → ℕ → ℕ → ℤ) (b q i : ℕ) → i < n →
    external n k l d (λ j t y. turns n (rows j t y) b) q i ≡ turns n (external n k l d rows q) b i
unfolding external
external_turns n k l d rows b q i p =
    let term : ℕ → ℕ → ℕ → ℤ = λ j t. product n (d j t) (rows j t q) in
    sum_to-same (suc k) (λ j. sum_to l (λ t. product n (d j t) (turns n (rows j t q) b) i)) (λ j. turns n (λ x. sum_to l (λ t. term j t x)) b i)
    (λ j _. sum_to-same l (λ t. product n (d j t) (turns n (rows j t q) b) i) (λ t. turns n (term j t) b i)
    (λ t _. product_turns_right n (d j t) (rows j t q) b i p)
    ∙ sym (turns-sum n l (λ t. term j t) b i p))
    ∙ sym (turns-sum n (suc k) (λ j x. sum_to l (λ t. term j t x)) b i p)

glwe_phase_same : (n k : ℕ) (key c d : ℕ → ℕ → ℤ) (i : ℕ) → ((q x : ℕ) → x < n → c q x ≡ d q x) → i < n → glwe_phase n k key c i ≡ glwe_phase n k key d i
glwe_phase_same n k key c d i same p =
    let masks : sum_to k (λ j. product n (key j) (c j) i) ≡ sum_to k (λ j. product n (key j) (d j) i) =
    sum_to-same k (λ j. product n (key j) (c j) i) (λ j. product n (key j) (d j) i)
    (λ j _. product_same n (key j) (key j) (c j) (d j) i (λ x _. refl) (λ x q. same j x q) p) in
    glwe_phase_is n k key c i ∙ ap (λ z. z -ℤ sum_to k (λ j. product n (key j) (c j) i)) (same k i p)
    ∙ ap (λ z. d k i -ℤ z) masks ∙ sym (glwe_phase_is n k key d i)

-- turned by a and then by a * (2 * n - 1), everything is where it was
turns_back : (n a : ℕ) (f : ℕ → ℤ) (i : ℕ) → i < n → turns n (turns n f a) (a * (2 * n - 1)) i ≡ f i
turns_back n a f i p =
    let round : a + a * (2 * n - 1) ≡ 0 + a * (2 * n) = rounds n a (omega arith) in
    ap (λ g. g i) (turns-add n f a (a * (2 * n - 1))) ∙ ap (λ t. turns n f t i) round ∙ turns_rounds n f a 0 i p ∙ turns_none n f i
  where
    rounds : (n a : ℕ) → 0 < n → a + a * (2 * n - 1) ≡ 0 + a * (2 * n)
    rounds n a o =
        let m : ℕ = 2 * n - 1 in
        let whole : 2 * n ≡ m + 1 = omega arith in
        let split : a * (m + 1) ≡ a * m + a = omega arith in
        omega (arith, ap (λ k. a * k) whole, split)

turns_forth : (n a : ℕ) (f : ℕ → ℤ) (i : ℕ) → i < n → turns n (turns n f (a * (2 * n - 1))) a i ≡ f i
turns_forth n a f i p =
    let order : a * (2 * n - 1) + a ≡ a + a * (2 * n - 1) = omega arith in
    ap (λ g. g i) (turns-add n f (a * (2 * n - 1)) a) ∙ ap (λ t. turns n f t i) order
    ∙ sym (ap (λ g. g i) (turns-add n f a (a * (2 * n - 1)))) ∙ turns_back n a f i p

-- The rows, turned back, are an encryption of 1; so the external product by them is near the turned phase.
pub turning_product : (n k l size gap noise a : ℕ) (weight : ℕ → ℤ) (key c : ℕ → ℕ → ℤ) (d : ℕ → ℕ → ℕ → ℤ) (rows : ℕ → ℕ → ℕ → ℕ → ℤ) →
    IsBitKey n k key →
    ((j t i : ℕ) → j < suc k → t < l → i < n →
    distance (glwe_phase n k key (rows j t) i -ℤ turns n (ggsw_hidden k weight key (pos 1) j t) a i) ≤ noise) →
    AreDigits n k l size gap weight c d → (i : ℕ) → i < n →
    distance (glwe_phase n k key (external n k l d rows) i -ℤ turns n (glwe_phase n k key c) a i) ≤ external_bound n k l size gap noise
turning_product n k l size gap noise a weight key c d rows bits near digits i p =
    let b : ℕ = a * (2 * n - 1) in
    let back : ℕ → ℕ → ℕ → ℕ → ℤ = λ j t y. turns n (rows j t y) b in
    let made : ℕ → ℤ = glwe_phase n k key (external n k l d rows) in
    let old : ℕ → ℤ = glwe_phase n k key c in
    let hides : IsGgsw n k l noise weight key (pos 1) back = record {
      near = λ j t x q r s.
          let h : ℕ → ℤ = ggsw_hidden k weight key (pos 1) j t in
          let row : ℕ → ℤ = glwe_phase n k key (rows j t) in
          let gap_of : ℕ → ℤ = λ y. row y -ℤ turns n h a y in
          let same : glwe_phase n k key (back j t) x -ℤ h x ≡ turns n gap_of b x =
          omega (arith, ints, glwe_phase_turns n k key (rows j t) b x s, turns-sub n row (turns n h a) b x s, turns_back n a h x s) in
          omega (arith, ap distance same, distance-turns n gap_of b x noise (λ y v. near j t y q r v) s);
    } in
    let gap_of : ℕ → ℤ = λ x. turns n made b x -ℤ old x in
    let each : (x : ℕ) → x < n → distance (gap_of x) ≤ external_bound n k l size gap noise =
    λ x q.
    let phase : glwe_phase n k key (external n k l d back) x ≡ turns n made b x =
    glwe_phase_same n k key (external n k l d back) (λ y. turns n (external n k l d rows y) b) x (λ y z r. external_turns n k l d rows b y z r) q
    ∙ glwe_phase_turns n k key (external n k l d rows) b x q in
    let same : gap_of x ≡ glwe_phase n k key (external n k l d back) x -ℤ pos 1 *ℤ old x = omega (arith, ints, phase) in
    omega (arith, ap distance same, external_noise n k l size gap noise weight key c (pos 1) d back (omega (arith, ints)) bits hides digits x q) in
    let same : made i -ℤ turns n old a i ≡ turns n gap_of a i =
    omega (arith, ints, turns-sub n (turns n made b) old a i p, turns_forth n a made i p) in
    omega (arith, ap distance same, distance-turns n gap_of a i (external_bound n k l size gap noise) each p)

-- ---- one turn, and all of them
pub pair_turn_near : (n k b l noise d : ℕ) (key : ℕ → ℕ → ℤ) (small : ℕ → ℕ) (rows : ℕ → ℕ → ℕ → ℕ → ℕ → ℤ) (amount : ℕ → ℕ) (f : ℕ → ℤ) (t i : ℕ) →
    t < d / 2 → i < n → 1 ≤ b → b * l ≤ 63 → IsBitKey n k key → ((u : ℕ) → u < d → small u ≤ 1) → ArePairs n k d l noise (level_weight b) key small rows →
    distance (glwe_phase n k key (pair_turn n k b l rows amount f (suc t)) i
    -ℤ turns n (glwe_phase n k key (pair_turn n k b l rows amount f t)) (pair_chosen small amount t) i)
    ≤ turn_bound n k b l (6 * noise)
unfolding pair_turn turn_bound
pair_turn_near n k b l noise d key small rows amount f t i below p q r bits ones are =
    let c : ℕ → ℕ → ℤ = pair_turn n k b l rows amount f t in
    turning_product n k l (2 ^ (b - 1)) (2 ^ (63 - b * l)) (6 * noise) (pair_chosen small amount t) (level_weight b) key c
    (λ j r x. digit b l (word (c j x)) r) (pair_rows n b rows amount t) bits
    (λ j u x s v w. pair_near n k b l noise d key small rows amount t j u x below ones are s v w)
    (word_digits n k b l c q r) i p

pub pair_first_phase : (n k b l : ℕ) (key : ℕ → ℕ → ℤ) (rows : ℕ → ℕ → ℕ → ℕ → ℕ → ℤ) (amount : ℕ → ℕ) (f : ℕ → ℤ) (i : ℕ) → i < n →
    glwe_phase n k key (pair_turn n k b l rows amount f 0) i ≡ f i
unfolding pair_turn
pair_first_phase n k b l key rows amount f i p = first_phase n k b l key rows amount f i p

pub pair_turns_near : (n k b l noise d : ℕ) (key : ℕ → ℕ → ℤ) (small : ℕ → ℕ) (rows : ℕ → ℕ → ℕ → ℕ → ℕ → ℤ) (amount : ℕ → ℕ) (f : ℕ → ℤ) (i : ℕ) →
    i < n → 1 ≤ b → b * l ≤ 63 → IsBitKey n k key → ((u : ℕ) → u < d → small u ≤ 1) → ArePairs n k d l noise (level_weight b) key small rows →
    distance (glwe_phase n k key (pair_turn n k b l rows amount f (d / 2)) i -ℤ turns n f (turns_so_far (pair_chosen small amount) (d / 2)) i)
    ≤ d / 2 * turn_bound n k b l (6 * noise)
pair_turns_near n k b l noise d key small rows amount f i p q r bits ones are =
    let phases : ℕ → ℕ → ℤ = λ t. glwe_phase n k key (pair_turn n k b l rows amount f t) in
    let so_far : ℕ = turns_so_far (pair_chosen small amount) (d / 2) in
    let all : distance (phases (d / 2) i -ℤ turns n (phases 0) so_far i) ≤ d / 2 * turn_bound n k b l (6 * noise) =
    all_turns_noise n (turn_bound n k b l (6 * noise)) (d / 2) phases (pair_chosen small amount)
    (λ t x s v. pair_turn_near n k b l noise d key small rows amount f t x s v q r bits ones are) i p in
    let first : turns n (phases 0) so_far i ≡ turns n f so_far i =
    turns_same n (phases 0) f so_far i (λ x s. pair_first_phase n k b l key rows amount f x s) p in
    omega (arith, all, ap (λ z. distance (phases (d / 2) i -ℤ z)) first)
