-- The blind rotation by pairs of key bits: each turn is one external product, by rows that the two bits of a pair choose.
use Rattle.std.specs.Prelude.{ℕ, zero, suc, ℤ, pos, ◌+ℤ◌, ◌*ℤ◌, ◌+◌, ◌-◌, ◌*◌, ◌/◌, ◌%◌, nat_eq, if◌then◌else◌}
use Rattle.rx_laws.specs.Sum.{sum_to}
use Rattle.rx_laws.specs.Torus.{word}
use Rattle.rx_laws.specs.Digits.{digit}
use Rattle.rx_ring.specs.Polynomial.{turns, unit_polynomial}
use Rattle.rx_ring.specs.Glwe.{external}
use Rattle.rx_ring.specs.Keys.{level_weight}
use Rattle.rx_ring.specs.Rotation.{turn, turned_away}

-- The encryption of 1 without masks and without noise: polynomial j of row (j, t) is the weight of level t, and all others
-- are 0.
unfoldable pub one_rows : ℕ → ℕ → ℕ → ℕ → ℕ → ℤ
one_rows base_log j t q x = if nat_eq q j then level_weight base_log t *ℤ unit_polynomial x else pos 0

-- the products of the two bits of a pair that a key encrypts: 0 the first without the second, 1 the second without the first,
-- 2 both
unfoldable pub pair_bit : ℕ → ℕ → ℕ → ℕ
pair_bit zero first second = first * (1 - second)
pair_bit (suc zero) first second = (1 - first) * second
pair_bit (suc (suc e)) first second = first * second

-- how far each of the three turns, by the amounts of the two bits: the last by both, modulo 2 * n
unfoldable pub pair_amount : ℕ → ℕ → ℕ → ℕ → ℕ
pair_amount n zero first second = first
pair_amount n (suc zero) first second = second
pair_amount n (suc (suc e)) first second = (first + second) % (2 * n)

-- the rows of pair i: 1, and for each of the three products its rows turned by its amount, less the rows themselves; product e
-- of pair i is the encrypted bit 3 * i + e
unfoldable pub pair_rows : ℕ → ℕ → (ℕ → ℕ → ℕ → ℕ → ℕ → ℤ) → (ℕ → ℕ) → ℕ → ℕ → ℕ → ℕ → ℕ → ℤ
pair_rows n base_log rows amount i j t q x =
    one_rows base_log j t q x
    +ℤ sum_to 3 (λ e. turned_away n (pair_amount n e (amount (2 * i)) (amount (2 * i + 1))) (rows (3 * i + e) j t) q x)

-- the ciphertext after i turns by pairs, from one with no masks and the body f
unfoldable pub pair_turn : ℕ → ℕ → ℕ → ℕ → (ℕ → ℕ → ℕ → ℕ → ℕ → ℤ) → (ℕ → ℕ) → (ℕ → ℤ) → ℕ → ℕ → ℕ → ℤ
pair_turn n k base_log levels rows amount f zero q x = turn n k base_log levels rows amount f 0 q x
pair_turn n k base_log levels rows amount f (suc i) q x =
    external n k levels (λ j r y. digit base_log levels (word (pair_turn n k base_log levels rows amount f i j y)) r)
    (pair_rows n base_log rows amount i) q x

-- The ciphertext after the turns by all d / 2 pairs of the marks of a switched ciphertext, whose mark d is that of the body: the
-- accumulator is first turned back by the mark of the body.
abbrev pub pair_rotation : ℕ → ℕ → ℕ → ℕ → ℕ → (ℕ → ℕ → ℕ → ℕ → ℕ → ℤ) → (ℕ → ℕ) → (ℕ → ℤ) → ℕ → ℕ → ℤ
pair_rotation n k base_log levels d rows marks f =
    pair_turn n k base_log levels rows marks (turns n f (2 * n - marks d)) (d / 2)

-- by how much the bits of pair i turn
unfoldable pub pair_chosen : (ℕ → ℕ) → (ℕ → ℕ) → ℕ → ℕ
pair_chosen bits amount i = bits (2 * i) * amount (2 * i) + bits (2 * i + 1) * amount (2 * i + 1)
