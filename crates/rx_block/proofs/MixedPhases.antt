-- The phase of a weighted sum of words.
use Rattle.std.proofs.Common.{◌≡◌, ℕ, suc, ℤ, pos, neg_ℤ, ◌+ℤ◌, ◌-ℤ◌, ◌*ℤ◌, ◌+◌, ◌*◌, ◌<◌, ◌≤◌, refl, sym, ◌∙◌, ap, arith, List, [], ◌∷◌, length, get_or, zero}
use Rattle.std.specs.Int.RustNames.{unsigned_abs}
use Rattle.std.proofs.lemmas.Int.{ints}
use Rattle.rx_laws.specs.Sum.{sum_to}
use Rattle.rx_laws.specs.Torus.{word, distance}
use Rattle.rx_laws.specs.Words.{of_words, words_below}
use Rattle.rx_laws.specs.Lwe.{lwe_phase}
use Rattle.rx_laws.proofs.Ring.{mul_add, mul_comm_ℤ, mul_assoc_ℤ}
use Rattle.rx_laws.proofs.Sums.{sum_to-zero, sum_to-first, sum_to-same}
use Rattle.rx_laws.proofs.Torus.{word-add, word-word, distance-word}
use Rattle.rx_laws.proofs.Words.{words_below-are}
use Rattle.rx_laws.proofs.Lwe.{lwe_phase_is, lwe_phase-word}
use Rattle.rx_ring.specs.Noise.{count_to}
use Rattle.rx_ring.proofs.Combination.{combination_noise}
use Rattle.rx_net.specs.declared.term.Term.{Term}
use Rattle.rx_net.specs.Tags.{value_of, noise_of}
use Rattle.rx_block.specs.declared.block.Block.{Block}
use Rattle.rx_block.specs.Combine.{no_block, no_term, noise_in, weighted}
use Rattle.rx_block.proofs.Mixed.{last_only, last_only-before, last_only-at}

-- a number that is added to the body is added to the phase
phase-last : (d : ℕ) (key f : ℕ → ℤ) (last : ℤ) → lwe_phase d key (λ i. f i +ℤ last_only d last i) ≡ lwe_phase d key f +ℤ last
phase-last d key f last =
    let w : ℕ → ℤ = λ i. f i +ℤ last_only d last i in
    let body : w d ≡ f d +ℤ last = ap (λ z. f d +ℤ z) (last_only-at d last d (omega arith)) in
    let same : (i : ℕ) → i < d → w i ≡ f i =
    λ i q. ap (λ z. f i +ℤ z) (last_only-before d last i q) ∙ omega (arith, ints) in
    let mask : sum_to d (λ i. key i *ℤ w i) ≡ sum_to d (λ i. key i *ℤ f i) =
    sum_to-same d (λ i. key i *ℤ w i) (λ i. key i *ℤ f i) (λ i q. ap (λ z. key i *ℤ z) (same i q)) in
    omega (arith, ints, lwe_phase_is d key w, lwe_phase_is d key f, body, mask)

-- the words of a function have its phase, as far as distances go
words-distance : (d : ℕ) (key w : ℕ → ℤ) (z : ℤ) →
    distance (lwe_phase d key (of_words (words_below (d + 1) w)) -ℤ z) ≡ distance (lwe_phase d key w -ℤ z)
words-distance d key w z =
    let xs : List ℕ = words_below (d + 1) w in
    let same : word (lwe_phase d key (of_words xs)) ≡ word (lwe_phase d key w) =
    lwe_phase-word d key (of_words xs) w (λ i p. ap (λ x. word (pos x)) ((words_below-are (d + 1) w).each i p) ∙ word-word (w i)) in
    distance-word (lwe_phase d key (of_words xs) -ℤ z) (lwe_phase d key w -ℤ z)
    (word-add (lwe_phase d key (of_words xs)) (lwe_phase d key w) (neg_ℤ z) (neg_ℤ z) same refl)

-- term t: its weight, the words of its block, and the number that the cell of its block holds
abbrev pub weight_at : List Term → ℕ → ℤ
weight_at terms t = let x : Term = get_or terms t no_term in x.weight

abbrev pub words_at : List Block → List Term → ℕ → List ℕ
words_at blocks terms t = let x : Term = get_or terms t no_term in let b : Block = get_or blocks x.cell no_block in b.words

abbrev pub held_at : (ℕ → ℕ) → List Term → ℕ → ℕ
held_at value terms t = let x : Term = get_or terms t no_term in value x.cell

unit-out : (w : ℤ) (step v : ℕ) → w *ℤ pos (step * v) ≡ pos step *ℤ (w *ℤ pos v)
unit-out w step v =
    sym (mul_assoc_ℤ w (pos step) (pos v)) ∙ ap (λ z. z *ℤ pos v) (mul_comm_ℤ w (pos step)) ∙ mul_assoc_ℤ (pos step) w (pos v)

-- the weighted sum of units, term after term
sum-units : (step : ℕ) (value : ℕ → ℕ) (constant : ℤ) (terms : List Term) →
    sum_to (length terms) (λ t. weight_at terms t *ℤ pos (step * held_at value terms t)) +ℤ pos step *ℤ constant
    ≡ pos step *ℤ value_of value constant terms
sum-units step value constant [] =
    omega (arith, ints, sum_to-zero (λ t. weight_at [] t *ℤ pos (step * held_at value [] t)))
sum-units step value constant (t ∷ ts) =
    let held : ℤ = t.weight *ℤ pos (value t.cell) in
    let rest : ℤ = value_of value constant ts in
    omega (
      arith,
      ints,
      sum_to-first (length ts) (λ j. weight_at (t ∷ ts) j *ℤ pos (step * held_at value (t ∷ ts) j)),
      sum-units step value constant ts,
      unit-out t.weight step (value t.cell),
      mul_add (pos step) held rest,
    )

count_to-first : (n : ℕ) (f : ℕ → ℕ) → count_to (suc n) f ≡ f 0 + count_to n (λ j. f (suc j))
unfolding count_to
count_to-first zero f = omega arith
count_to-first (suc n) f = omega (arith, count_to-first n f)

count_to-zero : (f : ℕ → ℕ) → count_to 0 f ≡ 0
unfolding count_to
count_to-zero f = refl

-- the weighted sum of noises, term after term
count-noises : (base : ℕ) (noise : ℕ → ℕ) (terms : List Term) →
    count_to (length terms) (λ t. unsigned_abs (weight_at terms t) * (held_at noise terms t * base)) ≡ noise_of noise terms * base
count-noises base noise [] = omega (arith, count_to-zero (λ t. unsigned_abs (weight_at [] t) * (held_at noise [] t * base)))
count-noises base noise (t ∷ ts) =
    omega (
      arith,
      count_to-first (length ts) (λ j. unsigned_abs (weight_at (t ∷ ts) j) * (held_at noise (t ∷ ts) j * base)),
      count-noises base noise ts,
    )

-- Where the words of each term's block are near the units of its value, the mixed words are near those of the weighted sum.
pub mixed-near : (d step base : ℕ) (key : ℕ → ℤ) (blocks : List Block) (terms : List Term) (constant : ℤ) (value : ℕ → ℕ) →
    ((t : ℕ) → t < length terms →
    distance (lwe_phase d key (of_words (words_at blocks terms t)) -ℤ pos (step * held_at value terms t)) ≤ held_at (noise_in blocks) terms t * base) →
    distance (lwe_phase d key (of_words (words_below (d + 1) (λ i. sum_to (length terms) (weighted blocks terms i) +ℤ last_only d (pos step *ℤ constant) i)))
    -ℤ pos step *ℤ value_of value constant terms) ≤ noise_of (noise_in blocks) terms * base
mixed-near d step base key blocks terms constant value near =
    let n : ℕ = length terms in
    let f : ℕ → ℤ = λ i. sum_to n (weighted blocks terms i) in
    let last : ℤ = pos step *ℤ constant in
    let whole : ℤ = pos step *ℤ value_of value constant terms in
    let units : ℤ = sum_to n (λ t. weight_at terms t *ℤ pos (step * held_at value terms t)) in
    let parts : distance (lwe_phase d key f -ℤ units) ≤ count_to n (λ t. unsigned_abs (weight_at terms t) * (held_at (noise_in blocks) terms t * base)) =
    combination_noise d n key (weight_at terms) (λ t. pos (step * held_at value terms t)) (λ t. held_at (noise_in blocks) terms t * base)
    (λ t. of_words (words_at blocks terms t)) near in
    let moved : lwe_phase d key (λ i. f i +ℤ last_only d last i) -ℤ whole ≡ lwe_phase d key f -ℤ units =
    omega (arith, ints, phase-last d key f last, sum-units step value constant terms) in
    omega (
      arith,
      words-distance d key (λ i. f i +ℤ last_only d last i) whole,
      ap distance moved,
      parts,
      count-noises base (noise_in blocks) terms,
    )
