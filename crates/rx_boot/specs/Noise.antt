-- What a bootstrap keeps: the number that its input holds is looked up, whatever the noise of the key and of the input is.
use Rattle.std.specs.Prelude.{ℕ, pos, ◌-ℤ◌, ◌*◌, ◌<◌, ◌≤◌, List, length, get_or}
use Rattle.rx_laws.specs.Torus.{distance}
use Rattle.rx_laws.specs.Words.{of_words}
use Rattle.rx_laws.specs.Lwe.{lwe_phase}
use Rattle.rx_laws.specs.Decode.{plaintexts, unit}
use Rattle.rx_params.specs.declared.params.Params.{Params}
use Rattle.rx_params.specs.Derived.{noise_limit, base_of, boot_of}
use Rattle.rx_boot.specs.ServerKeys.{ServerWords, IsSecret, IsServerKey}

-- The words hold the number x under the key, up to a noise: their phase is within the noise of x times the unit.
abbrev pub IsNear : Params → List ℕ → List ℕ → ℕ → ℕ → Type 0
IsNear p key words x noise =
    distance (lwe_phase (length key) (of_words key) (of_words words) -ℤ pos (unit p.message_bits * x)) ≤ noise

-- the greatest noise that a lookup may be given
abbrev pub input_noise : Params → ℕ
input_noise p = noise_limit p.message_bits * base_of p

-- For every secret of which the key is a server key: where the input holds a number within the noise that a lookup may be
-- given, the output holds the table's entry at that number within the noise of a bootstrap.
abbrev pub LooksUp : ServerWords → List ℕ → List ℕ → List ℕ → Type 0
LooksUp key table input output =
    (small large : List ℕ) (x : ℕ) → IsSecret key.params small large → IsServerKey small large key →
    x < plaintexts key.params.message_bits → IsNear key.params large input x (input_noise key.params) →
    IsNear key.params large output (get_or table x 0) (boot_of key.params)
