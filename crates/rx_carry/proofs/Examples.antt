-- Carries, borrows and their states at worked values.
use Rattle.std.proofs.Common.{◌≡◌, ℕ, [], ◌∷◌, refl}
use Rattle.std.specs.Prelude.{true, false, get_or}
use Rattle.rx_costs.specs.Logs.{log_from, log_up}
use Rattle.rx_plan.specs.Values.{total}
use Rattle.rx_carry.specs.declared.operation.Operation.TheVariants.{Sum, Difference, Negation}
use Rattle.rx_carry.specs.Carries.{is_less, joint, passed, digit_left, whole, combine, state_of, state_at, carry_of, carried_in, tops_at, flipped}
use Rattle.rx_carry.specs.Prefix.{stepped, combined_at, ones_below, sum_jobs}
use Rattle.rx_carry.specs.Tree.{halved, join_jobs}

-- ---- blocks of two bits: 3 + 2 + 1, 1 - 2 - 1 and -(3 + 1)
looked_up : (joint Sum 4 3 2 1 ≡ 6) × (joint Difference 4 1 2 1 ≡ 2) × (joint Negation 4 0 3 1 ≡ 4)
looked_up = (refl, refl, refl)

out_of_a_block : (passed Sum 4 6 ≡ 1) × (passed Sum 4 3 ≡ 0) × (passed Difference 4 2 ≡ 1)
    × (passed Difference 4 4 ≡ 0) × (passed Negation 4 4 ≡ 1) × (passed Negation 4 0 ≡ 0)
out_of_a_block = (refl, refl, refl, refl, refl, refl)

left_in_it : (digit_left Sum 4 6 ≡ 2) × (digit_left Difference 4 2 ≡ 2) × (digit_left Difference 4 5 ≡ 1)
    × (digit_left Negation 4 3 ≡ 1) × (digit_left Negation 4 4 ≡ 0) × (digit_left Negation 4 0 ≡ 0)
left_in_it = (refl, refl, refl, refl, refl, refl)

-- ---- numbers of eight bits
wholes : (whole Sum 256 200 100 ≡ 300) × (whole Difference 256 0 1 ≡ 255) × (whole Negation 256 0 0 ≡ 256)
    × (is_less 3 4 ≡ 1) × (is_less 3 3 ≡ 0)
wholes = (refl, refl, refl, refl, refl)

-- ---- states: a sum generates from 4 on and passes on at 3, a difference borrows below 4 and passes on at 4
states : (state_of Sum 4 4 ≡ 1) × (state_of Sum 4 3 ≡ 2) × (state_of Sum 4 2 ≡ 0)
    × (state_of Difference 4 3 ≡ 1) × (state_of Difference 4 4 ≡ 2) × (state_of Difference 4 5 ≡ 0)
    × (state_of Negation 4 1 ≡ 1) × (state_of Negation 4 0 ≡ 2)
states = (refl, refl, refl, refl, refl, refl, refl, refl)

-- nothing comes into block 0, so it has none to pass on
at_places : (state_at Sum 4 0 3 ≡ 0) × (state_at Sum 4 1 3 ≡ 2) × (state_at Difference 4 0 4 ≡ 0)
    × (tops_at 2 1 ≡ 1) × (tops_at 2 2 ≡ 2)
unfolding state_at tops_at
at_places = (refl, refl, refl, refl, refl)

combined : (combine 2 1 ≡ 1) × (combine 2 0 ≡ 0) × (combine 1 0 ≡ 1) × (combine 0 1 ≡ 0) × (combine 2 2 ≡ 2)
    × (flipped true 1 ≡ 0) × (flipped false 1 ≡ 1)
combined = (refl, refl, refl, refl, refl, refl, refl)

-- the states 1, 2, 2, 0 of four places: a carry comes into each but the first, and none goes out
abbrev four : ℕ → ℕ
four i = get_or (1 ∷ 2 ∷ 2 ∷ 0 ∷ []) i 0

carries : (carry_of four 0 ≡ 0) × (carry_of four 1 ≡ 1) × (carry_of four 3 ≡ 1) × (carry_of four 4 ≡ 0)
    × (carried_in four 0 ≡ 0) × (carried_in four 2 ≡ 2)
unfolding carry_of carried_in
carries = (refl, refl, refl, refl, refl, refl)

-- ---- the prefix: places 1 and 3 with the places before them, then 2 and 3 with place 1
levels : (stepped 1 four 0 ≡ 1) × (stepped 1 four 1 ≡ 1) × (stepped 1 four 2 ≡ 2) × (stepped 1 four 3 ≡ 0)
    × (stepped 2 (stepped 1 four) 2 ≡ 1)
unfolding stepped
levels = (refl, refl, refl, refl, refl)

-- the ones of 0, 1, 10 and 11
combinations : (combined_at 1 4 ≡ 2) × (combined_at 2 4 ≡ 2) × (ones_below 4 ≡ 4) × (sum_jobs 4 ≡ 9)
    × (sum_jobs 32 ≡ 138)
unfolding ones_below total log_up log_from
combinations = (refl, refl, refl, refl, refl)

-- ---- the tree: of three states the first two are combined, and the third stays
halves : (halved 3 four 0 ≡ 1) × (halved 3 four 1 ≡ 2) × (join_jobs 3 0 ≡ 1) × (join_jobs 3 1 ≡ 0)
unfolding halved join_jobs
halves = (refl, refl, refl, refl)
