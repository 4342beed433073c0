-- Shifts by an encrypted amount at worked values.
use Rattle.std.proofs.Common.{◌≡◌, [], ◌∷◌, refl}
use Rattle.rx_shift.specs.declared.direction.Direction.TheVariants.{Up, Down}
use Rattle.rx_shift.specs.Shifts.{moved, opposite, in_order, place, part, part_entry, stage_jobs, moving_jobs}
use Rattle.rx_shift.specs.Amount.{bit_at, is_wide, digit_above}
use Rattle.rx_shift.specs.Signed.{turned_under, turned_entry}

numbers : (moved Up 1 7 ≡ 128) × (moved Down 200 3 ≡ 25) × (moved Down 255 8 ≡ 0)
numbers = (refl, refl, refl)

orders : (opposite Up ≡ Down) × (in_order Up (5 ∷ 6 ∷ 7 ∷ []) ≡ 5 ∷ 6 ∷ 7 ∷ [])
    × (in_order Down (5 ∷ 6 ∷ 7 ∷ []) ≡ 7 ∷ 6 ∷ 5 ∷ []) × (place Up 4 1 ≡ 1) × (place Down 4 1 ≡ 2)
orders = (refl, refl, refl, refl, refl)

-- the block 3 by one bit; the index 7 is the bit 1 with that block, and 3 the bit 0
parts : (part Up 4 1 3 ≡ 2) × (part Down 4 1 3 ≡ 1) × (part_entry Up 4 1 7 ≡ 2)
    × (part_entry Down 4 1 7 ≡ 1) × (part_entry Up 4 1 3 ≡ 0)
parts = (refl, refl, refl, refl, refl)

-- four blocks, and three stages of them
jobs : (stage_jobs 4 ≡ 15) × (moving_jobs 3 4 ≡ 49)
jobs = (refl, refl)

-- the amount 6 has the bits 0, 1 and 1; the index 14 ends with the digit 2
amounts : (bit_at 6 0 ≡ 0) × (bit_at 6 1 ≡ 1) × (bit_at 6 2 ≡ 1) × (is_wide 8 3 ≡ 1) × (is_wide 7 3 ≡ 0)
    × (digit_above 4 1 14 ≡ 1)
amounts = (refl, refl, refl, refl, refl, refl)

-- under a top block of 2 the number is negative
signs : (turned_under 2 2 1 ≡ 2) × (turned_under 2 1 1 ≡ 1) × (turned_entry 2 9 ≡ 2) × (turned_entry 2 5 ≡ 1)
signs = (refl, refl, refl, refl)
