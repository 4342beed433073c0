-- The draws of a sample: a linear recurrence modulo 2 ^ 64, of which each draw takes the high bits.
use Rattle.std.specs.Prelude.{ℕ, zero, suc, ◌+◌, ◌*◌, ◌/◌, ◌%◌, ◌^◌}

-- the state after one more draw
abbrev pub next : ℕ → ℕ
next state = (6364136223846793005 * state + 1442695040888963407) % 2 ^ 64

-- what a draw gives that left this state
abbrev pub drawn_of : ℕ → ℕ → ℕ
drawn_of state modulus = state / 2 ^ 33 % modulus

-- the state after so many draws
unfoldable pub state_after : ℕ → ℕ → ℕ
state_after number zero = number
state_after number (suc draws) = next (state_after number draws)

-- draw i of a sample, from 0, below a modulus
abbrev pub drawn : ℕ → ℕ → ℕ → ℕ
drawn number i modulus = drawn_of (state_after number (i + 1)) modulus
