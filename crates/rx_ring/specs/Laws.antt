-- Laws of products, of ciphertexts over polynomials and of their turns, as a contract can name them.
use Rattle.std.specs.Prelude.{ℕ, ℤ, pos, suc, ◌+ℤ◌, ◌-ℤ◌, ◌*ℤ◌, ◌+◌, ◌-◌, ◌*◌, ◌^◌, ◌<◌, ◌≤◌, ◌≡◌, List}
use Rattle.std.specs.Int.RustNames.{unsigned_abs}
use Rattle.rx_laws.specs.Torus.{word, distance}
use Rattle.rx_laws.specs.Digits.{digit}
use Rattle.rx_laws.specs.Lwe.{lwe_phase}
use Rattle.rx_ring.specs.Polynomial.{product, rotated, turns, monomial}
use Rattle.rx_ring.specs.Linear.{raised, linear, high_half, half_sum, middle}
use Rattle.rx_ring.specs.Parts.{of_parts, AreParts}
use Rattle.rx_ring.specs.Glwe.{glwe_phase, glwe_hiding, external, extracted, flat}
use Rattle.rx_ring.specs.Keys.{level_weight, IsBitKey, ggsw_hidden, IsGgsw}
use Rattle.rx_ring.specs.Rotation.{turn}
use Rattle.rx_ring.specs.Noise.{AreDigits, external_bound, turn_bound, turns_so_far, greatest_distance}

-- The product is linear in each argument, commutative and associative, and a turn passes through it. A turn by t is the product
-- by X ^ t; turns add, all 2 * n are none, and none changes the greatest distance.
pub record ProductLaws : Type 0 where
  pub adds_left : (n : ℕ) (a b c : ℕ → ℤ) (i : ℕ) → i < n → product n (λ j. a j +ℤ b j) c i ≡ product n a c i +ℤ product n b c i
  pub adds_right : (n : ℕ) (a b c : ℕ → ℤ) (i : ℕ) → i < n → product n a (λ j. b j +ℤ c j) i ≡ product n a b i +ℤ product n a c i
  pub scales_left : (n : ℕ) (times : ℤ) (a b : ℕ → ℤ) (i : ℕ) → i < n → product n (λ j. times *ℤ a j) b i ≡ times *ℤ product n a b i
  pub scales_right : (n : ℕ) (times : ℤ) (a b : ℕ → ℤ) (i : ℕ) → i < n → product n a (λ j. times *ℤ b j) i ≡ times *ℤ product n a b i
  pub commutes : (n : ℕ) (a b : ℕ → ℤ) (i : ℕ) → i < n → product n a b i ≡ product n b a i
  pub associates : (n : ℕ) (a b c : ℕ → ℤ) (i : ℕ) → i < n → product n (product n a b) c i ≡ product n a (product n b c) i
  pub turns_through : (n : ℕ) (a b : ℕ → ℤ) (t i : ℕ) → i < n → product n (turns n a t) b i ≡ turns n (product n a b) t i
  pub turn_is_product : (n : ℕ) (a : ℕ → ℤ) (t i : ℕ) → i < n → turns n a t i ≡ product n (monomial n t) a i
  pub turn_is_rotation : (n : ℕ) (a : ℕ → ℤ) (t i : ℕ) → t ≤ 2 * n → i < n → turns n a t i ≡ rotated n a t i
  pub turns_add : (n : ℕ) (a : ℕ → ℤ) (s t i : ℕ) → turns n (turns n a s) t i ≡ turns n a (s + t) i
  pub whole_turn : (n : ℕ) (a : ℕ → ℤ) (i : ℕ) → i < n → turns n a (2 * n) i ≡ a i
  pub turn_keeps_distance : (n : ℕ) (a : ℕ → ℤ) (t : ℕ) → greatest_distance n (turns n a t) ≡ greatest_distance n a

-- The plain product of two polynomials of 2 * h coefficients comes from three of h: that of the first halves stands at 0, that
-- of the second ones at 2 * h, and the middle at h. The product modulo X ^ n + 1 is a plain one folded; so each of the three is
-- added to both halves of it, with the sign that X ^ (2 * h) = -1 gives.
pub record LinearLaws : Type 0 where
  pub from_halves : (h : ℕ) (a b : ℕ → ℤ) (i : ℕ) → linear (h + h) a b i ≡
      (linear h a b i +ℤ raised h (middle h a b) i) +ℤ raised (h + h) (linear h (high_half h a) (high_half h b)) i
  pub folds : (n : ℕ) (a b : ℕ → ℤ) (i : ℕ) → i < n → product n a b i ≡ linear n a b i -ℤ linear n a b (n + i)
  pub folds_low : (h : ℕ) (a b : ℕ → ℤ) (i : ℕ) → i < h → product (h + h) a b i ≡
      ((linear h a b i +ℤ linear h a b (h + i))
      +ℤ (linear h (high_half h a) (high_half h b) (h + i) -ℤ linear h (high_half h a) (high_half h b) i))
      -ℤ linear h (half_sum h a) (half_sum h b) (h + i)
  pub folds_high : (h : ℕ) (a b : ℕ → ℤ) (i : ℕ) → i < h → product (h + h) a b (h + i) ≡
      ((linear h a b (h + i) -ℤ linear h a b i)
      -ℤ (linear h (high_half h a) (high_half h b) i +ℤ linear h (high_half h a) (high_half h b) (h + i)))
      +ℤ linear h (half_sum h a) (half_sum h b) i
  pub of_words : (n : ℕ) (a b c d : ℕ → ℤ) (i : ℕ) → ((k : ℕ) → k < n → word (a k) ≡ word (c k)) →
      ((k : ℕ) → k < n → word (b k) ≡ word (d k)) → word (linear n a b i) ≡ word (linear n c d i)

-- The phase of a ciphertext that hides a polynomial is that polynomial and the noise, coefficient by coefficient. Rows that hide
-- what those of an encrypted bit have to hide are an encryption of the bit.
pub record GlweLaws : Type 0 where
  pub phase : (n k : ℕ) (key masks : ℕ → ℕ → ℤ) (hidden noise : ℕ → ℤ) (i : ℕ) → i < n →
      glwe_phase n k key (glwe_hiding n k key masks hidden noise) i ≡ hidden i +ℤ noise i
  pub near : (n k : ℕ) (key masks : ℕ → ℕ → ℤ) (hidden noise : ℕ → ℤ) (xs : List ℕ) (i : ℕ) → i < n →
      AreParts n (suc k) (glwe_hiding n k key masks hidden noise) xs →
      distance (glwe_phase n k key (of_parts n xs) i -ℤ hidden i) ≤ unsigned_abs (noise i)
  pub encrypts_bit : (n k levels bound : ℕ) (weight : ℕ → ℤ) (key : ℕ → ℕ → ℤ) (bit : ℤ)
      (masks : ℕ → ℕ → ℕ → ℕ → ℤ) (noise : ℕ → ℕ → ℕ → ℤ) (rows : ℕ → ℕ → ℕ → ℕ → ℤ) →
      ((j t p i : ℕ) → j < suc k → t < levels → p < suc k → i < n →
      word (rows j t p i) ≡ word (glwe_hiding n k key (masks j t) (ggsw_hidden k weight key bit j t) (noise j t) p i)) →
      ((j t i : ℕ) → j < suc k → t < levels → i < n → unsigned_abs (noise j t i) ≤ bound) →
      IsGgsw n k levels bound weight key bit rows

-- Coefficient 0 of a ciphertext keeps its phase when it is extracted.
pub record ExtractionLaws : Type 0 where
  pub keeps_phase : (n k : ℕ) (key c : ℕ → ℕ → ℤ) → lwe_phase (k * n) (flat n key) (extracted n k c) ≡ glwe_phase n k key c 0

-- The external product with an encrypted bit is near the bit times the phase, and the digits of the words of a ciphertext
-- are digits of that ciphertext.
pub record ExternalProductLaws : Type 0 where
  pub multiplies : (n k levels size gap noise : ℕ) (weight : ℕ → ℤ) (key c : ℕ → ℕ → ℤ) (bit : ℤ)
      (digits : ℕ → ℕ → ℕ → ℤ) (rows : ℕ → ℕ → ℕ → ℕ → ℤ) (i : ℕ) → i < n →
      unsigned_abs bit ≤ 1 → IsBitKey n k key → IsGgsw n k levels noise weight key bit rows →
      AreDigits n k levels size gap weight c digits →
      distance (glwe_phase n k key (external n k levels digits rows) i -ℤ bit *ℤ glwe_phase n k key c i)
      ≤ external_bound n k levels size gap noise
  pub computed : (n k base_log levels : ℕ) (c : ℕ → ℕ → ℤ) → 1 ≤ base_log → base_log * levels ≤ 63 →
      AreDigits n k levels (2 ^ (base_log - 1)) (2 ^ (63 - base_log * levels)) (level_weight base_log) c
      (λ j t i. digit base_log levels (word (c j i)) t)

-- A turn by an encrypted bit turns the phase by the amount where the bit is 1, and leaves it where the bit is 0, but for the
-- noise of a turn; all turns together turn the first body by what the bits have chosen.
pub record TurnLaws : Type 0 where
  pub one_turn : (n k base_log levels noise : ℕ) (key : ℕ → ℕ → ℤ) (bits : ℕ → ℕ) (rows : ℕ → ℕ → ℕ → ℕ → ℕ → ℤ)
      (amount : ℕ → ℕ) (f : ℕ → ℤ) (t i : ℕ) → i < n →
      1 ≤ base_log → base_log * levels ≤ 63 → IsBitKey n k key → bits t ≤ 1 →
      IsGgsw n k levels noise (level_weight base_log) key (pos (bits t)) (rows t) →
      distance (glwe_phase n k key (turn n k base_log levels rows amount f (suc t)) i
      -ℤ turns n (glwe_phase n k key (turn n k base_log levels rows amount f t)) (bits t * amount t) i)
      ≤ turn_bound n k base_log levels noise
  pub all_turns : (n k d base_log levels noise : ℕ) (key : ℕ → ℕ → ℤ) (bits : ℕ → ℕ) (rows : ℕ → ℕ → ℕ → ℕ → ℕ → ℤ)
      (amount : ℕ → ℕ) (f : ℕ → ℤ) (i : ℕ) → i < n →
      1 ≤ base_log → base_log * levels ≤ 63 → IsBitKey n k key → ((t : ℕ) → t < d → bits t ≤ 1) →
      ((t : ℕ) → t < d → IsGgsw n k levels noise (level_weight base_log) key (pos (bits t)) (rows t)) →
      distance (glwe_phase n k key (turn n k base_log levels rows amount f d) i
      -ℤ turns n f (turns_so_far (λ t. bits t * amount t) d) i)
      ≤ d * turn_bound n k base_log levels noise
