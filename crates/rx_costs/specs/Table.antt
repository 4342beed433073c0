-- The cost table. A job is one bootstrap, and the depth is that of the longest chain of jobs. Numbers have so many blocks, and a
-- block has so many message bits. An operation is a row: its jobs and its depth.
use Rattle.std.specs.Prelude.{ℕ, ◌+◌, ◌-◌, ◌*◌}
use Rattle.rx_params.specs.Derived.{noise_limit}
use Rattle.rx_costs.specs.declared.table.Cost.{Cost}
use Rattle.rx_costs.specs.Logs.{log_up}
use Rattle.rx_costs.specs.Rounds.{rounds, round_jobs}

abbrev pub row : ℕ → ℕ → Cost
row jobs depth = record { jobs = jobs; depth = depth }

-- ---- a constant
abbrev pub constant_jobs : ℕ → ℕ
constant_jobs blocks = blocks

abbrev pub constant_depth : ℕ
constant_depth = 1

-- ---- a sum, a difference, a number with its sign turned
abbrev pub add_jobs : ℕ → ℕ
add_jobs blocks = 2 * blocks - 1 + (blocks - 1) * log_up 2 blocks

abbrev pub add_depth : ℕ → ℕ
add_depth blocks = 2 + log_up 2 blocks

-- ---- a product
abbrev pub mul_jobs : ℕ → ℕ → ℕ
mul_jobs message_bits blocks = blocks * blocks + round_jobs blocks (noise_limit message_bits) (2 * blocks - 1) + add_jobs blocks

abbrev pub mul_depth : ℕ → ℕ → ℕ
mul_depth message_bits blocks = 3 + rounds (noise_limit message_bits) (2 * blocks - 1) + log_up 2 blocks

-- ---- bit by bit
abbrev pub bitwise_jobs : ℕ → ℕ
bitwise_jobs blocks = blocks

abbrev pub bitwise_depth : ℕ
bitwise_depth = 1

-- ---- a shift by a told amount
abbrev pub shift_jobs : ℕ → ℕ
shift_jobs blocks = blocks

abbrev pub shift_depth : ℕ
shift_depth = 1

-- ---- a shift by an encrypted amount, of which so many low bits are looked at one by one
abbrev pub amount_shift_jobs : ℕ → ℕ → ℕ
amount_shift_jobs low_bits blocks = low_bits + 4 * blocks * low_bits + 2 * blocks + 1

abbrev pub amount_shift_depth : ℕ → ℕ
amount_shift_depth low_bits = 2 * low_bits + 2

-- ---- the same to the right of a signed number
abbrev pub signed_shift_jobs : ℕ → ℕ → ℕ
signed_shift_jobs low_bits blocks = low_bits + 4 * blocks * low_bits + 4 * blocks + 2

abbrev pub signed_shift_depth : ℕ → ℕ
signed_shift_depth low_bits = 2 * low_bits + 4

-- ---- whether two numbers are equal
abbrev pub equal_jobs : ℕ → ℕ
equal_jobs blocks = 2 * blocks - 1

abbrev pub equal_depth : ℕ → ℕ → ℕ
equal_depth message_bits blocks = 1 + log_up (noise_limit message_bits) blocks

-- ---- which of two numbers is less
abbrev pub compare_jobs : ℕ → ℕ
compare_jobs blocks = 2 * blocks - 1

abbrev pub compare_depth : ℕ → ℕ
compare_depth blocks = 1 + log_up 2 blocks

-- ---- one of two numbers, by a bit
abbrev pub select_jobs : ℕ → ℕ
select_jobs blocks = 3 * blocks

abbrev pub select_depth : ℕ
select_depth = 2

-- ---- the lesser or the greater of two numbers
abbrev pub extreme_jobs : ℕ → ℕ
extreme_jobs blocks = 5 * blocks - 1

abbrev pub extreme_depth : ℕ → ℕ
extreme_depth blocks = 3 + log_up 2 blocks

-- ---- a number of so many blocks in so many others: a job for each that comes on top
abbrev pub cast_jobs : ℕ → ℕ → ℕ
cast_jobs given wanted = wanted - given

abbrev pub cast_depth : ℕ
cast_depth = 1

-- ---- a quotient with its remainder: a step for each bit of the numerator, whose bits, and the blocks of the quotient, take a job each
abbrev pub div_step_jobs : ℕ → ℕ
div_step_jobs blocks = 8 * (blocks + 1) - 2 + blocks * log_up 2 (blocks + 1)

abbrev pub div_step_depth : ℕ → ℕ
div_step_depth blocks = 5 + log_up 2 (blocks + 1)

abbrev pub div_jobs : ℕ → ℕ → ℕ
div_jobs message_bits blocks = message_bits * blocks * div_step_jobs blocks + message_bits * blocks + 2 * blocks + 2

abbrev pub div_depth : ℕ → ℕ → ℕ
div_depth message_bits blocks = message_bits * blocks * div_step_depth blocks + 2
