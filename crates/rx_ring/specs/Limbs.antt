-- A number of 69 bits as six limbs of 10, 10, 10, 8, 15 and 16 bits, low first, each with a sign.
use Rattle.std.specs.Prelude.{ℕ, zero, suc, ℤ, pos, ◌+ℤ◌, ◌-ℤ◌, ◌*ℤ◌, ◌+◌, ◌-◌, ◌/◌, ◌%◌, ◌^◌}

-- the lowest bits of v, as a number in [-2 ^ (bits - 1), 2 ^ (bits - 1)), and what is left of v without them
unfoldable pub limb : ℕ → ℕ → ℤ
limb bits v = pos ((v + 2 ^ (bits - 1)) % 2 ^ bits) -ℤ pos (2 ^ (bits - 1))

unfoldable pub without : ℕ → ℕ → ℕ
without bits v = (v + 2 ^ (bits - 1)) / 2 ^ bits

-- the limbs of weights 1, 2 ^ 10 and 2 ^ 20
unfoldable pub low_part : ℕ → ℤ
low_part v = limb 10 v +ℤ pos (2 ^ 10) *ℤ limb 10 (without 10 v)
    +ℤ pos (2 ^ 20) *ℤ limb 10 (without 10 (without 10 v))

-- what is left above them, and its limbs of weights 1, 2 ^ 8 and 2 ^ 23
unfoldable pub above : ℕ → ℕ
above v = without 10 (without 10 (without 10 v))

unfoldable pub high_part : ℕ → ℤ
high_part v = limb 8 (above v) +ℤ pos (2 ^ 8) *ℤ limb 15 (without 8 (above v))
    +ℤ pos (2 ^ 23) *ℤ limb 16 (without 15 (without 8 (above v)))

-- limb l of v, counted from the lowest; there are six
unfoldable pub limb_at : ℕ → ℕ → ℤ
limb_at zero v = limb 10 v
limb_at (suc zero) v = limb 10 (without 10 v)
limb_at (suc (suc zero)) v = limb 10 (without 10 (without 10 v))
limb_at (suc (suc (suc zero))) v = limb 8 (above v)
limb_at (suc (suc (suc (suc zero)))) v = limb 15 (without 8 (above v))
limb_at (suc (suc (suc (suc (suc l))))) v = limb 16 (without 15 (without 8 (above v)))
