-- Ciphertexts over words (LWE): a mask of d words, and then a body. Place d holds the body. All numbers are whole and
-- unreduced; the words of a ciphertext are these numbers modulo 2 ^ 64.
use Rattle.std.specs.Prelude.{ℕ, ℤ, ◌+ℤ◌, ◌-ℤ◌, ◌*ℤ◌, nat_lt, if◌then◌else◌}
use Rattle.rx_laws.specs.Sum.{sum_to}

-- the phase of a ciphertext of dimension d
unfoldable pub lwe_phase : ℕ → (ℕ → ℤ) → (ℕ → ℤ) → ℤ
lwe_phase d key w = w d -ℤ sum_to d (λ i. key i *ℤ w i)

-- the ciphertext with this mask that hides a number under a noise
unfoldable pub lwe_hiding : ℕ → (ℕ → ℤ) → (ℕ → ℤ) → ℤ → ℤ → ℕ → ℤ
lwe_hiding d key mask hidden noise i =
    if nat_lt i d then mask i else (sum_to d (λ j. key j *ℤ mask j) +ℤ hidden) +ℤ noise
