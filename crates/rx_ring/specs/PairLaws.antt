-- Laws of the rotation by pairs of key bits, as a contract can name them.
use Rattle.std.specs.Prelude.{ℕ, ℤ, pos, suc, ◌+ℤ◌, ◌-ℤ◌, ◌*ℤ◌, ◌+◌, ◌-◌, ◌*◌, ◌/◌, ◌%◌, ◌^◌, ◌<◌, ◌≤◌, ◌≡◌}
use Rattle.rx_laws.specs.Sum.{sum_to}
use Rattle.rx_laws.specs.Torus.{distance}
use Rattle.rx_laws.specs.Lwe.{lwe_phase}
use Rattle.rx_ring.specs.Polynomial.{turns}
use Rattle.rx_ring.specs.Glwe.{glwe_phase, extracted, flat}
use Rattle.rx_ring.specs.Accumulator.{accumulator}
use Rattle.rx_ring.specs.Switch.{switched_marks}
use Rattle.rx_ring.specs.Keys.{level_weight, IsBitKey, ggsw_hidden, IsGgsw, IsSwitch}
use Rattle.rx_ring.specs.Noise.{turn_bound, switch_bound, turns_so_far}
use Rattle.rx_ring.specs.Pairs.{one_rows, pair_bit, pair_amount, pair_turn, pair_rotation, pair_chosen}

-- the three products of the two bits of each pair of a small key, for d / 2 pairs, are encrypted in order
abbrev pub ArePairs : ℕ → ℕ → ℕ → ℕ → ℕ → (ℕ → ℤ) → (ℕ → ℕ → ℤ) → (ℕ → ℕ) → (ℕ → ℕ → ℕ → ℕ → ℕ → ℤ) → Type 0
ArePairs n k d levels noise weight key small rows =
    (i e : ℕ) → i < d / 2 → e < 3 →
    IsGgsw n k levels noise weight key (pos (pair_bit e (small (2 * i)) (small (2 * i + 1)))) (rows (3 * i + e))

-- One row of 1 hides what the row of an encrypted 1 has to hide, without noise. For two bits, 1 and the three products times
-- what their turns change is one turn by what the bits have chosen, whatever is turned. A turn by a pair turns the phase by
-- that, within the noise of a turn by rows of six times the noise; and all turns together turn the first body by what all bits
-- have chosen, within so many times that.
pub record PairTurnLaws : Type 0 where
  pub one : (n k base_log j t i : ℕ) (key : ℕ → ℕ → ℤ) → j < suc k → i < n →
      glwe_phase n k key (one_rows base_log j t) i ≡ ggsw_hidden k (level_weight base_log) key (pos 1) j t i
  pub identity : (n s1 s2 a1 a2 i : ℕ) (f : ℕ → ℤ) → s1 ≤ 1 → s2 ≤ 1 → i < n →
      f i +ℤ sum_to 3 (λ e. pos (pair_bit e s1 s2) *ℤ (turns n f (pair_amount n e a1 a2) i -ℤ f i))
      ≡ turns n f (s1 * a1 + s2 * a2) i
  pub one_turn : (n k base_log levels noise d : ℕ) (key : ℕ → ℕ → ℤ) (small : ℕ → ℕ) (rows : ℕ → ℕ → ℕ → ℕ → ℕ → ℤ)
      (amount : ℕ → ℕ) (f : ℕ → ℤ) (t i : ℕ) → t < d / 2 → i < n →
      1 ≤ base_log → base_log * levels ≤ 63 → IsBitKey n k key → ((u : ℕ) → u < d → small u ≤ 1) →
      ArePairs n k d levels noise (level_weight base_log) key small rows →
      distance (glwe_phase n k key (pair_turn n k base_log levels rows amount f (suc t)) i
      -ℤ turns n (glwe_phase n k key (pair_turn n k base_log levels rows amount f t)) (pair_chosen small amount t) i)
      ≤ turn_bound n k base_log levels (6 * noise)
  pub all_turns : (n k base_log levels noise d : ℕ) (key : ℕ → ℕ → ℤ) (small : ℕ → ℕ) (rows : ℕ → ℕ → ℕ → ℕ → ℕ → ℤ)
      (amount : ℕ → ℕ) (f : ℕ → ℤ) (i : ℕ) → i < n →
      1 ≤ base_log → base_log * levels ≤ 63 → IsBitKey n k key → ((u : ℕ) → u < d → small u ≤ 1) →
      ArePairs n k d levels noise (level_weight base_log) key small rows →
      distance (glwe_phase n k key (pair_turn n k base_log levels rows amount f (d / 2)) i
      -ℤ turns n f (turns_so_far (pair_chosen small amount) (d / 2)) i)
      ≤ d / 2 * turn_bound n k base_log levels (6 * noise)

-- The bootstrap by pairs looks its number up as the bootstrap by bits does, with the noise of its own turns: `turn_bound` of
-- rows of six times the noise, for each pair of bits.
pub record PairBootstrapLaws : Type 0 where
  pub looks_up : (n k d base_log levels switch_base_log switch_levels p h e x unit within noise switch_noise : ℕ)
      (key : ℕ → ℕ → ℤ) (small table : ℕ → ℕ) (rows : ℕ → ℕ → ℕ → ℕ → ℕ → ℤ) (switch_rows : ℕ → ℕ → ℕ → ℤ) (w : ℕ → ℤ) →
      0 < n → 0 < e → n ≡ p * (2 * h) → 2 * e * (2 * n) ≡ 2 ^ 64 → x < p → d % 2 ≡ 0 →
      1 ≤ base_log → base_log * levels ≤ 63 → 1 ≤ switch_base_log → switch_base_log * switch_levels ≤ 63 →
      IsBitKey n k key → ((i : ℕ) → i < d → small i ≤ 1) →
      ArePairs n k d levels noise (level_weight base_log) key small rows →
      IsSwitch (k * n) d switch_levels switch_noise (level_weight switch_base_log) (flat n key) (λ i. pos (small i)) switch_rows →
      distance (lwe_phase (k * n) (flat n key) w -ℤ pos (2 * e * (2 * h * x))) ≤ within →
      within + switch_bound (k * n) switch_base_log switch_levels switch_noise + (d + 1) * e < 2 * e * h →
      distance (
      lwe_phase (k * n) (flat n key) (extracted n k (pair_rotation n k base_log levels d rows
      (switched_marks e (2 * n) (k * n) d switch_base_log switch_levels switch_rows w) (accumulator unit h p table)))
      -ℤ pos (unit * table x)
      )
      ≤ d / 2 * turn_bound n k base_log levels (6 * noise)
