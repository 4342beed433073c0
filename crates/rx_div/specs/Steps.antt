-- Division bit by bit, from the top of the numerator.
use Rattle.std.specs.Prelude.{ℕ, zero, suc, ◌+◌, ◌-◌, ◌*◌, ◌%◌, ◌^◌}
use Rattle.rx_residue.specs.Division.{remainder}
use Rattle.rx_carry.specs.Carries.{is_less}
use Rattle.rx_cmp.specs.Selection.{chosen}

-- the number that the top bits of so many are, of which `bit` says the lowest first
unfoldable pub leading : (ℕ → ℕ) → ℕ → ℕ → ℕ
leading bit width zero = 0
leading bit width (suc taken) = 2 * leading bit width taken + bit (width - 1 - taken)

-- what is left of the bits so far, with the next bit below
abbrev pub with_next : (ℕ → ℕ) → ℕ → ℕ → ℕ → ℕ
with_next bit width divisor taken = 2 * remainder (leading bit width taken) divisor + bit (width - 1 - taken)

-- the borrow where the divisor is taken off: 1 where it is greater
abbrev pub borrow_at : (ℕ → ℕ) → ℕ → ℕ → ℕ → ℕ
borrow_at bit width divisor taken = is_less (with_next bit width divisor taken) divisor

-- ---- a step, on numbers of so many bits
abbrev pub taken_in : ℕ → ℕ → ℕ → ℕ
taken_in bits rest bit = (2 * rest + bit) % 2 ^ bits

-- the number where the divisor is greater, else the number less the divisor, modulo 2 ^ bits: it is told with
-- 2 ^ bits more
abbrev pub reduced : ℕ → ℕ → ℕ → ℕ
reduced bits divisor number = chosen (is_less number divisor) number (number + 2 ^ bits - divisor % 2 ^ bits)
