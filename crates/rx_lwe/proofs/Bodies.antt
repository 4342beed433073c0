-- Bodies and phases of ciphertexts, as far as a loop over the key has come.
use Rattle.std.proofs.Common.{◌≡◌, ℕ, suc, ℤ, pos, ◌+ℤ◌, ◌-ℤ◌, ◌*ℤ◌, ◌+◌, ◌-◌, ◌*◌, ◌<◌, ◌%◌, ◌^◌, refl, sym, ◌∙◌, ap, arith, add-one}
use Rattle.std.proofs.lemmas.Int.{ints, to_z-of_z}
use Rattle.rx_laws.specs.Sum.{sum_to}
use Rattle.rx_laws.specs.Torus.{word}
use Rattle.rx_laws.proofs.Sums.{sum_to-zero, sum_to-suc}
use Rattle.rx_laws.proofs.Torus.{word-add, word-word, word_of, word_of_word, word_same, word-cast, word-wrapping_add}
use lib.IntN.{neg_ℤ}
use mir.Syntax.{w64}
use mir.Val.{SFits, to_z, of_z}

-- the body after the first n places: the mask times the key, plus the message, plus the noise
abbrev pub body_to : ℕ → (ℕ → ℤ) → (ℕ → ℤ) → ℤ → ℤ → ℤ
body_to n key mask message noise = (sum_to n (λ j. key j *ℤ mask j) +ℤ message) +ℤ noise

-- the phase after the first n places: the body less the mask times the key
abbrev pub phase_to : ℕ → (ℕ → ℤ) → (ℕ → ℤ) → ℤ → ℤ
phase_to n key mask body = body -ℤ sum_to n (λ j. key j *ℤ mask j)

pub body_to-start : (key mask : ℕ → ℤ) (message n : ℕ) (noise : ℤ) → word (pos n) ≡ word noise →
    (message + n) % 2 ^ 64 ≡ word (body_to 0 key mask (pos message) noise)
body_to-start key mask message n noise e =
    word-wrapping_add message n (pos message) noise refl e
    ∙ ap word (omega (arith, ints, sum_to-zero (λ j. key j *ℤ mask j)))

pub body_to-signed : (key mask : ℕ → ℤ) (message : ℕ) (z noise : ℤ) → SFits w64 z → z ≡ noise →
    (message + of_z w64 (to_z w64 (of_z w64 z))) % 2 ^ 64 ≡ word (body_to 0 key mask (pos message) noise)
body_to-signed key mask message z noise fits e =
    body_to-start key mask message (of_z w64 (to_z w64 (of_z w64 z))) noise
    (ap (λ x. word (pos (of_z w64 x))) (to_z-of_z w64 z fits) ∙ word-cast z fits ∙ ap word e)

pub body_to-more : (n : ℕ) (key mask : ℕ → ℤ) (message noise : ℤ) (body bit w : ℕ) →
    body ≡ word (body_to n key mask message noise) → key n ≡ pos bit → mask n ≡ pos w →
    (body + bit * w) % 2 ^ 64 ≡ word (body_to (n + 1) key mask message noise)
body_to-more n key mask message noise body bit w b k m =
    let old : ℤ = body_to n key mask message noise in
    let p : pos (bit * w) ≡ key n *ℤ mask n = ap (λ x. x *ℤ pos w) (sym k) ∙ ap (λ x. key n *ℤ x) (sym m) in
    let s : old +ℤ key n *ℤ mask n ≡ body_to (suc n) key mask message noise =
    omega (arith, ints, sum_to-suc n (λ j. key j *ℤ mask j)) in
    word-wrapping_add body (bit * w) old (key n *ℤ mask n) (ap (λ x. word (pos x)) b ∙ word-word old) (ap word p)
    ∙ ap word s ∙ ap (λ x. word (body_to x key mask message noise)) (sym (add-one n))

pub phase_to-start : (key mask : ℕ → ℤ) (body : ℕ) → body < 2 ^ 64 → body ≡ word (phase_to 0 key mask (pos body))
phase_to-start key mask body fits =
    sym (word_of_word body fits) ∙ ap word (omega (arith, ints, sum_to-zero (λ j. key j *ℤ mask j)))

pub phase_to-more : (n : ℕ) (key mask : ℕ → ℤ) (body : ℤ) (phase bit w : ℕ) →
    phase ≡ word (phase_to n key mask body) → key n ≡ pos bit → mask n ≡ pos w → bit * w < 2 ^ 64 →
    (phase + (2 ^ 64 - bit * w)) % 2 ^ 64 ≡ word (phase_to (n + 1) key mask body)
phase_to-more n key mask body phase bit w b k m fits =
    let old : ℤ = phase_to n key mask body in
    let p : pos (bit * w) ≡ key n *ℤ mask n = ap (λ x. x *ℤ pos w) (sym k) ∙ ap (λ x. key n *ℤ x) (sym m) in
    let s : old -ℤ key n *ℤ mask n ≡ phase_to (suc n) key mask body =
    omega (arith, ints, sum_to-suc n (λ j. key j *ℤ mask j)) in
    let turn : pos (phase + (2 ^ 64 - bit * w)) ≡ (pos phase -ℤ pos (bit * w)) +ℤ pos 1 *ℤ pos (2 ^ 64) = omega (arith, ints, fits) in
    sym (word_of (phase + (2 ^ 64 - bit * w)))
    ∙ word_same (pos (phase + (2 ^ 64 - bit * w))) (pos phase -ℤ pos (bit * w)) (pos 1) turn
    ∙ word-add (pos phase) old (neg_ℤ (pos (bit * w))) (neg_ℤ (key n *ℤ mask n)) (ap (λ x. word (pos x)) b ∙ word-word old)
    (ap (λ x. word (neg_ℤ x)) p)
    ∙ ap word s ∙ ap (λ x. word (phase_to x key mask body)) (sym (add-one n))
