-- The phase of a ciphertext that hides a number.
use Rattle.std.proofs.Common.{◌≡◌, ℕ, ℤ, pos, ◌+ℤ◌, ◌*ℤ◌, ◌-ℤ◌, ◌+◌, ◌<◌, ◌≤◌, refl, ◌∙◌, ap, arith, if◌then◌else◌, zero, suc, List}
use Rattle.std.proofs.lemmas.Int.{ints}
use Rattle.std.proofs.lemmas.Bool.{lt-ltb, le-ltb}
use Rattle.std.specs.Int.RustNames.{unsigned_abs}
use Rattle.rx_laws.specs.Sum.{sum_to}
use Rattle.rx_laws.specs.Torus.{word, distance}
use Rattle.rx_laws.specs.Words.{of_words, AreWords}
use Rattle.rx_laws.specs.Lwe.{lwe_phase, lwe_hiding}
use Rattle.rx_laws.proofs.Sums.{sum_to-same}
use Rattle.rx_laws.proofs.Torus.{word-add, word-neg, word-mul, word-word, distance-word, distance_size}
use lib.IntN.{neg_ℤ}

pub lwe_phase_is : (d : ℕ) (key w : ℕ → ℤ) → lwe_phase d key w ≡ w d -ℤ sum_to d (λ i. key i *ℤ w i)
unfolding lwe_phase
lwe_phase_is d key w = refl

pub sum_to-word : (n : ℕ) (f g : ℕ → ℤ) → ((j : ℕ) → j < n → word (f j) ≡ word (g j)) → word (sum_to n f) ≡ word (sum_to n g)
unfolding sum_to
sum_to-word zero f g h = refl
sum_to-word (suc n) f g h =
    word-add (sum_to n f) (sum_to n g) (f n) (g n) (sum_to-word n f g (λ j p. h j (omega arith))) (h n (omega arith))

-- the phase modulo 2 ^ 64 depends on the words alone
pub lwe_phase-word : (d : ℕ) (key v w : ℕ → ℤ) → ((i : ℕ) → i < d + 1 → word (v i) ≡ word (w i)) → word (lwe_phase d key v) ≡ word (lwe_phase d key w)
unfolding lwe_phase
lwe_phase-word d key v w h =
    word-add (v d) (w d) (neg_ℤ (sum_to d (λ i. key i *ℤ v i))) (neg_ℤ (sum_to d (λ i. key i *ℤ w i))) (h d (omega arith))
    (word-neg (sum_to d (λ i. key i *ℤ v i)) (sum_to d (λ i. key i *ℤ w i))
    (sum_to-word d (λ i. key i *ℤ v i) (λ i. key i *ℤ w i) (λ i p. word-mul (key i) (v i) (w i) (h i (omega arith)))))

pub hiding_mask : (d : ℕ) (key mask : ℕ → ℤ) (hidden noise : ℤ) (i : ℕ) → i < d → lwe_hiding d key mask hidden noise i ≡ mask i
unfolding lwe_hiding
hiding_mask d key mask hidden noise i p =
    ap (λ b. if b then mask i else (sum_to d (λ j. key j *ℤ mask j) +ℤ hidden) +ℤ noise) (lt-ltb i d p)

pub hiding_body : (d : ℕ) (key mask : ℕ → ℤ) (hidden noise : ℤ) → lwe_hiding d key mask hidden noise d ≡ (sum_to d (λ j. key j *ℤ mask j) +ℤ hidden) +ℤ noise
unfolding lwe_hiding
hiding_body d key mask hidden noise =
    ap (λ b. if b then mask d else (sum_to d (λ j. key j *ℤ mask j) +ℤ hidden) +ℤ noise) (le-ltb d d (omega arith))

pub lwe_phase-hiding : (d : ℕ) (key mask : ℕ → ℤ) (hidden noise : ℤ) → lwe_phase d key (lwe_hiding d key mask hidden noise) ≡ hidden +ℤ noise
lwe_phase-hiding d key mask hidden noise =
    let w : ℕ → ℤ = lwe_hiding d key mask hidden noise in
    let s : sum_to d (λ i. key i *ℤ w i) ≡ sum_to d (λ i. key i *ℤ mask i) =
    sum_to-same d (λ i. key i *ℤ w i) (λ i. key i *ℤ mask i) (λ i p. ap (λ x. key i *ℤ x) (hiding_mask d key mask hidden noise i p)) in
    omega (arith, ints, lwe_phase_is d key w, hiding_body d key mask hidden noise)

-- the phase of the words is within the noise of what is hidden
pub hiding_near : (d : ℕ) (key mask : ℕ → ℤ) (hidden noise : ℤ) (xs : List ℕ) → AreWords (d + 1) (lwe_hiding d key mask hidden noise) xs →
    distance (lwe_phase d key (of_words xs) -ℤ hidden) ≤ unsigned_abs noise
hiding_near d key mask hidden noise xs are =
    let w : ℕ → ℤ = lwe_hiding d key mask hidden noise in
    let same : word (lwe_phase d key (of_words xs)) ≡ word (lwe_phase d key w) =
    lwe_phase-word d key (of_words xs) w (λ i p. ap (λ x. word (pos x)) (are.each i p) ∙ word-word (w i)) in
    let gap : word (lwe_phase d key (of_words xs) -ℤ hidden) ≡ word (lwe_phase d key w -ℤ hidden) =
    word-add (lwe_phase d key (of_words xs)) (lwe_phase d key w) (neg_ℤ hidden) (neg_ℤ hidden) same refl in
    let e : lwe_phase d key w -ℤ hidden ≡ noise = omega (arith, ints, lwe_phase-hiding d key mask hidden noise) in
    omega (arith, distance-word (lwe_phase d key (of_words xs) -ℤ hidden) (lwe_phase d key w -ℤ hidden) gap, ap distance e, distance_size noise)
