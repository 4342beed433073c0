-- One of two numbers, by a bit.
use Rattle.std.specs.Prelude.{ℕ, ◌/◌, ◌%◌, ◌==◌, if◌then◌else◌}

-- the first where the bit is 1, else the second
abbrev pub chosen : ℕ → ℕ → ℕ → ℕ
chosen bit x y = if bit == 1 then x else y

-- what a table says of the digits of each index, a bit and a block: the block where the bit is as it is wanted, else 0
abbrev pub kept_entry : ℕ → ℕ → ℕ → ℕ
kept_entry wanted unit i = if i / unit == wanted then i % unit else 0
