-- The cost table at worked values.
use Rattle.std.proofs.Common.{◌≡◌, refl}
use Rattle.rx_costs.specs.Logs.{log_from, log_up}
use Rattle.rx_costs.specs.Rounds.{groups, rounds_in, rounds, round_jobs_in, round_jobs}
use Rattle.rx_costs.specs.Table.{row, constant_jobs, constant_depth, add_jobs, add_depth, mul_jobs, mul_depth, bitwise_jobs, bitwise_depth, shift_jobs, shift_depth, amount_shift_jobs, amount_shift_depth, signed_shift_jobs, signed_shift_depth, equal_jobs, equal_depth, compare_jobs, compare_depth, select_jobs, select_depth, extreme_jobs, extreme_depth, cast_jobs, cast_depth, div_step_jobs, div_step_depth, div_jobs, div_depth}

logs : (log_up 2 0 ≡ 0) × (log_up 2 1 ≡ 0) × (log_up 2 2 ≡ 1) × (log_up 2 5 ≡ 3) × (log_up 2 32 ≡ 5)
    × (log_up 2 33 ≡ 6) × (log_up 5 25 ≡ 2) × (log_up 5 26 ≡ 3)
unfolding log_from log_up
logs = (refl, refl, refl, refl, refl, refl, refl, refl)

-- a sum of four blocks
add_four : (add_jobs 4 ≡ 13) × (add_depth 4 ≡ 4)
unfolding log_from log_up
add_four = (refl, refl)

-- a product of 32 blocks of two message bits: over the counts 63, 26, 12, 6 and 4
mul_long : (rounds 5 63 ≡ 5) × (round_jobs 32 5 63 ≡ 1600) × (add_jobs 32 ≡ 218) × (mul_jobs 2 32 ≡ 2842)
    × (mul_depth 2 32 ≡ 13)
unfolding log_from log_up groups rounds_in rounds round_jobs_in round_jobs
mul_long = (refl, refl, refl, refl, refl)

-- ---- at 64 bits in 32 blocks of two message bits, and in 24 bits in 8 blocks of three
shifts : (amount_shift_jobs (log_up 2 64) 32 ≡ 839) × (amount_shift_depth (log_up 2 64) ≡ 14)
    × (signed_shift_jobs (log_up 2 24) 8 ≡ 199)
unfolding log_from log_up
shifts = (refl, refl, refl)

-- groups of five and of nine, and pairs
comparisons : (equal_depth 2 32 ≡ 4) × (equal_depth 3 8 ≡ 2) × (compare_depth 32 ≡ 6)
    × (extreme_depth 32 ≡ 8) × (extreme_jobs 32 ≡ 159)
unfolding log_from log_up
comparisons = (refl, refl, refl, refl, refl)

-- from two blocks to four, and back
casts : (cast_jobs 2 4 ≡ 2) × (cast_jobs 4 2 ≡ 0)
casts = (refl, refl)

-- a quotient of 8 bits and of 64, in blocks of two
quotients : (div_jobs 2 4 ≡ 418) × (div_depth 2 4 ≡ 66) × (div_jobs 2 32 ≡ 29186)
unfolding log_from log_up
quotients = (refl, refl, refl)

-- a step of a quotient of four blocks works on five
division_step : (div_step_jobs 4 ≡ 50) × (div_step_depth 4 ≡ 8)
unfolding log_from log_up
division_step = (refl, refl)

-- ---- the other rows, of four blocks
one_job_each : (row (constant_jobs 4) constant_depth ≡ row 4 1)
    × (row (bitwise_jobs 4) bitwise_depth ≡ row 4 1) × (row (shift_jobs 4) shift_depth ≡ row 4 1)
    × (cast_depth ≡ 1)
one_job_each = (refl, refl, refl, refl)

others : (row (select_jobs 4) select_depth ≡ row 12 2) × (equal_jobs 4 ≡ 7) × (compare_jobs 4 ≡ 7)
    × (signed_shift_depth 3 ≡ 10)
others = (refl, refl, refl, refl)
