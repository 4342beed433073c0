-- Whole numbers and bits, as blocks.
use Rattle.std.specs.Prelude.{ℕ, ◌-◌, ◌*◌, ◌/◌, ◌%◌, ◌^◌, ◌==◌, nat_le, ◌&&◌, Bool}
use Rattle.rx_params.specs.declared.kind.Kind.{Kind}
use Rattle.rx_params.specs.declared.kind.Kind.TheVariants.{Int, Bit}

-- the greatest number of a block without a carry
abbrev pub greatest : Kind → ℕ → ℕ
greatest Int message_bits = 2 ^ message_bits - 1
greatest Bit message_bits = 1

-- how many blocks a number of some bits has
abbrev pub block_count : Kind → ℕ → ℕ → ℕ
block_count Int message_bits bits = bits / message_bits
block_count Bit message_bits bits = 1

-- whether a number of a kind may have so many bits
abbrev pub is_form : ℕ → Kind → ℕ → Bool
is_form message_bits Int bits = nat_le message_bits bits && (nat_le bits 64 && (bits % message_bits == 0))
is_form message_bits Bit bits = bits == 1

-- block i of a number: digit i to the base 2 ^ message_bits
abbrev pub digit_at : ℕ → ℕ → ℕ → ℕ
digit_at message_bits value i = value / 2 ^ (message_bits * i) % 2 ^ message_bits
