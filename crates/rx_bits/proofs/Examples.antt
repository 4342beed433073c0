-- Bits, shifts and casts at worked values.
use Rattle.std.proofs.Common.{◌≡◌, refl}
use Rattle.std.specs.Prelude.{true, false}
use Rattle.rx_params.specs.declared.kind.Kind.TheVariants.{Int, Bit}
use Rattle.rx_params.specs.Kinds.{digit_at}
use Rattle.rx_bits.specs.declared.operation.Operation.TheVariants.{And, Or, Xor}
use Rattle.rx_bits.specs.Bits.{bitwise, all_ones}
use Rattle.rx_bits.specs.Signs.{is_negative, complement, shifted_down, cast_to, fill_digit, filled_digit, between}
use Rattle.rx_bits.specs.Shifts.{raised_digit, lowered_digit}

bit_by_bit : (bitwise And 204 170 ≡ 136) × (bitwise Or 204 170 ≡ 238) × (bitwise Xor 204 170 ≡ 102)
    × (all_ones Int 2 4 ≡ 255) × (all_ones Bit 2 1 ≡ 1)
bit_by_bit = (refl, refl, refl, refl, refl)

-- ---- four bits: 9 is -7 with a sign
signs : (is_negative true 4 8 ≡ true) × (is_negative true 4 7 ≡ false) × (is_negative false 4 8 ≡ false)
    × (complement 4 9 ≡ 6)
signs = (refl, refl, refl, refl)

-- -7 moved down by one bit is -4, and by nine -1; without a sign 9 is 4, and 0
moved_down : (shifted_down true 4 1 9 ≡ 12) × (shifted_down true 4 9 9 ≡ 15)
    × (shifted_down false 4 1 9 ≡ 4) × (shifted_down false 4 9 9 ≡ 0)
moved_down = (refl, refl, refl, refl)

-- -7 in eight bits, and in two; 15 without a sign
cast : (cast_to true 4 8 9 ≡ 249) × (cast_to true 4 2 9 ≡ 1) × (cast_to false 4 8 15 ≡ 15)
cast = (refl, refl, refl)

-- ---- the same of the digits 1 and 2 of 9
fills : (fill_digit true 2 2 ≡ 3) × (fill_digit true 2 1 ≡ 0) × (fill_digit false 2 3 ≡ 0)
    × (filled_digit true 2 2 (digit_at 2 9) 1 ≡ 2) × (filled_digit true 2 2 (digit_at 2 9) 2 ≡ 3)
fills = (refl, refl, refl, refl, refl)

-- one bit above the lower of 2 and 3, which are 1011
window : between 2 1 2 3 ≡ 1
window = refl

-- 18 without its bits above four is 2: the digits 2 and 0
raised : (raised_digit 2 1 (digit_at 2 9) 0 ≡ 2) × (raised_digit 2 1 (digit_at 2 9) 1 ≡ 0)
raised = (refl, refl)

-- -4 has the digits 0 and 3, and 4 the digits 0 and 1
lowered : (lowered_digit true 2 2 1 (digit_at 2 9) 0 ≡ 0) × (lowered_digit true 2 2 1 (digit_at 2 9) 1 ≡ 3)
    × (lowered_digit false 2 2 1 (digit_at 2 9) 1 ≡ 1)
lowered = (refl, refl, refl)
