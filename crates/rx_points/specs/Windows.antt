-- Sums of products with what stands in a window over a list.
use Rattle.std.specs.Prelude.{ℕ, ℤ, ◌*ℤ◌, ◌+◌}
use Rattle.rx_laws.specs.Sum.{sum_to}

-- the first n numbers of a times those of b from a place on, summed up
unfoldable pub window_sum : ℕ → (ℕ → ℤ) → (ℕ → ℤ) → ℕ → ℤ
window_sum n a b place = sum_to n (λ i. a i *ℤ b (place + i))
