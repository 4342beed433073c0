-- Carries and borrows: what goes out of a block, and the states that tell it before it is known what comes in.
use Rattle.std.specs.Prelude.{ℕ, Bool, true, false, zero, suc, ◌+◌, ◌-◌, ◌/◌, ◌%◌, nat_lt, nat_eq, if◌then◌else◌}
use Rattle.rx_carry.specs.declared.operation.Operation.{Operation}
use Rattle.rx_carry.specs.declared.operation.Operation.TheVariants.{Sum, Difference, Negation}

-- 1 where the first is less, else 0
abbrev pub is_less : ℕ → ℕ → ℕ
is_less a b = if nat_lt a b then 1 else 0

-- the number that a job looks up: of the blocks x and y, to the base u, and of what comes into them
abbrev pub joint : Operation → ℕ → ℕ → ℕ → ℕ → ℕ
joint Sum u x y c = x + y + c
joint Difference u x y c = u + x - (y + c)
joint Negation u x y c = y + c

-- what goes out of a block, from that number: a carry, or a borrow
abbrev pub passed : Operation → ℕ → ℕ → ℕ
passed Sum u t = t / u
passed Difference u t = is_less t u
passed Negation u t = if nat_eq t 0 then 0 else 1

-- the digit that is left in it
abbrev pub digit_left : Operation → ℕ → ℕ → ℕ
digit_left Sum u t = t % u
digit_left Difference u t = t % u
digit_left Negation u t = (u - t) % u

-- the whole number whose digits are wanted, of numbers below p; it is not less than 0
abbrev pub whole : Operation → ℕ → ℕ → ℕ → ℕ
whole Sum p a b = a + b
whole Difference p a b = a + p - b
whole Negation p a b = p - b

-- ---- states: 0 none, 1 generated, 2 propagated

-- what goes out of a block by its state: nothing, 1, or what comes in
abbrev pub combine : ℕ → ℕ → ℕ
combine zero low = zero
combine (suc zero) low = suc zero
combine (suc (suc zero)) low = low
combine (suc (suc (suc n))) low = suc (suc (suc n))

-- the state of a block, where nothing came in yet
abbrev pub state_of : Operation → ℕ → ℕ → ℕ
state_of Sum u t = if nat_eq t (u - 1) then 2 else t / u
state_of Difference u t = if nat_lt t u then 1 else if nat_eq t u then 2 else 0
state_of Negation u t = if nat_eq t 0 then 2 else 1

-- into block 0 comes nothing
unfoldable pub state_at : Operation → ℕ → ℕ → ℕ → ℕ
state_at op u place t = if nat_lt place 1 then combine (state_of op u t) 0 else state_of op u t

-- what comes into a place, where v says the states
unfoldable pub carry_of : (ℕ → ℕ) → ℕ → ℕ
carry_of v zero = 0
carry_of v (suc i) = combine (v i) (carry_of v i)

-- what comes into a place, where w says what goes out of each
unfoldable pub carried_in : (ℕ → ℕ) → ℕ → ℕ
carried_in w zero = 0
carried_in w (suc i) = w i

-- the degree of a state: one that reaches block 0 is a carry
unfoldable pub tops_at : ℕ → ℕ → ℕ
tops_at span place = if nat_lt place span then 1 else 2

-- a bit, or its opposite
abbrev pub flipped : Bool → ℕ → ℕ
flipped true bit = 1 - bit
flipped false bit = bit
