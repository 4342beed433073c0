-- What a phase stands for. A block of m message bits and m carry bits holds one of 4 ^ m numbers, and a number x stands
-- near phase x times the unit.
use Rattle.std.specs.Prelude.{ℕ, ◌+◌, ◌/◌, ◌%◌, ◌^◌}

-- how many numbers a block holds
abbrev pub plaintexts : ℕ → ℕ
plaintexts message_bits = 4 ^ message_bits

-- the phase of 1: half of the torus is cut into that many parts
abbrev pub unit : ℕ → ℕ
unit message_bits = 2 ^ 63 / plaintexts message_bits

-- the number whose phase is nearest, a tie going up; it is below twice the number of plaintexts
abbrev pub decoded : ℕ → ℕ → ℕ
decoded message_bits phase = (phase + unit message_bits / 2) % 2 ^ 64 / unit message_bits
