-- Laws of the definitions, as a contract can name them.
use Rattle.std.specs.Prelude.{ℕ, ℤ, pos, ◌+ℤ◌, ◌-ℤ◌, ◌*ℤ◌, ◌+◌, ◌*◌, ◌/◌, ◌^◌, ◌<◌, ◌≤◌, ◌≡◌, ◌⊎◌, List, length, get_or}
use Rattle.std.specs.Int.RustNames.{unsigned_abs}
use Rattle.rx_laws.specs.Torus.{distance}
use Rattle.rx_laws.specs.Digits.{IsDigits, digit}
use Rattle.rx_laws.specs.Words.{of_words, AreWords}
use Rattle.rx_laws.specs.Lwe.{lwe_phase, lwe_hiding}
use Rattle.rx_laws.specs.Decode.{plaintexts, unit, decoded}

-- the distance is the least size over all whole turns
pub record DistanceLaws : Type 0 where
  pub least : (z turns : ℤ) → distance z ≤ unsigned_abs (z +ℤ turns *ℤ pos (2 ^ 64))
  pub reached : (z : ℤ) → (turns : ℤ) × (unsigned_abs (z +ℤ turns *ℤ pos (2 ^ 64)) ≡ distance z)

-- exactly one list meets the range and the sum of digits, and the computed digits are that list
pub record DigitLaws : Type 0 where
  pub one : (w base_log levels : ℕ) (ds es : List ℤ) → 1 ≤ base_log → base_log * levels ≤ 63 →
      IsDigits w base_log levels ds → IsDigits w base_log levels es → ds ≡ es
  pub computed : (w base_log levels : ℕ) (ds : List ℤ) → 1 ≤ base_log → base_log * levels ≤ 63 →
      length ds ≡ levels → ((t : ℕ) → t < levels → get_or ds t (pos 0) ≡ digit base_log levels w t) → IsDigits w base_log levels ds

-- the phase of a ciphertext that hides a number is that number and the noise
pub record LweLaws : Type 0 where
  pub phase : (d : ℕ) (key mask : ℕ → ℤ) (hidden noise : ℤ) → lwe_phase d key (lwe_hiding d key mask hidden noise) ≡ hidden +ℤ noise
  pub near : (d : ℕ) (key mask : ℕ → ℤ) (hidden noise : ℤ) (xs : List ℕ) → AreWords (d + 1) (lwe_hiding d key mask hidden noise) xs →
      distance (lwe_phase d key (of_words xs) -ℤ hidden) ≤ unsigned_abs noise

-- a phase nearer to that of x than half the unit decodes to x
pub record DecodeLaws : Type 0 where
  pub decodes : (message_bits phase x : ℕ) → (message_bits ≡ 2) ⊎ (message_bits ≡ 3) → x < 2 * plaintexts message_bits →
      distance (pos phase -ℤ pos (unit message_bits * x)) < unit message_bits / 2 → decoded message_bits phase ≡ x
