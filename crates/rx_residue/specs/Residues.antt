-- Whole numbers modulo two to a width, and the numbers with a sign that these residues stand for in two's complement.
use Rattle.std.specs.Prelude.{ℕ, ◌-◌, ◌%◌, ◌^◌, nat_lt, Bool, true, false, ℤ, pos, negsuc, ◌-ℤ◌, if◌then◌else◌}

-- the number below 2 ^ width that differs from this one by a multiple of it
unfoldable pub residue : ℕ → ℤ → ℕ
residue width (pos n) = n % 2 ^ width
residue width (negsuc n) = 2 ^ width - 1 - n % 2 ^ width

-- the number with a sign whose residue is x: x itself below half of 2 ^ width, else x less 2 ^ width
unfoldable pub signed : ℕ → ℕ → ℤ
signed width x = if nat_lt x (2 ^ (width - 1)) then pos x else pos x -ℤ pos (2 ^ width)

-- the number that a residue stands for, with a sign or without
abbrev pub number_as : Bool → ℕ → ℕ → ℤ
number_as true width x = signed width x
number_as false width x = pos x
