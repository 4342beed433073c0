-- Numbers whose top bit may be a sign, and what a shift or a cast makes of them.
use Rattle.std.specs.Prelude.{ℕ, ◌+◌, ◌-◌, ◌*◌, ◌/◌, ◌%◌, ◌^◌, Bool, ◌&&◌, nat_le, nat_lt, if◌then◌else◌}

-- whether a number of so many bits is negative: where it is signed, its top bit says so
abbrev pub is_negative : Bool → ℕ → ℕ → Bool
is_negative signed bits z = signed && nat_le (2 ^ (bits - 1)) z

-- a number of so many bits, with each of them turned
abbrev pub complement : ℕ → ℕ → ℕ
complement bits z = 2 ^ bits - 1 - z

-- A number of so many bits, shifted down: what is signed takes in copies of its sign. The complement of a negative number is
-- not negative; it is shifted, and its complement is the result.
abbrev pub shifted_down : Bool → ℕ → ℕ → ℕ → ℕ
shifted_down signed bits amount z =
    if is_negative signed bits z then complement bits (complement bits z / 2 ^ amount) else z / 2 ^ amount

-- A number of so many bits as one of as many as are wanted: what is signed is widened by copies of its sign, again by the complement.
abbrev pub cast_to : Bool → ℕ → ℕ → ℕ → ℕ
cast_to signed bits wanted z =
    if is_negative signed bits z then complement wanted (complement bits z % 2 ^ wanted) else z % 2 ^ wanted

-- the digit that stands above a number whose top digit is x: all ones above a negative one
abbrev pub fill_digit : Bool → ℕ → ℕ → ℕ
fill_digit signed m x = if is_negative signed m x then 2 ^ m - 1 else 0

-- the digits of a number of count digits, and above them those that fill
abbrev pub filled_digit : Bool → ℕ → ℕ → (ℕ → ℕ) → ℕ → ℕ
filled_digit signed m count digit i = if nat_lt i count then digit i else fill_digit signed m (digit (count - 1))

-- the digit that stands so many bits above the lower of two
abbrev pub between : ℕ → ℕ → ℕ → ℕ → ℕ
between m bits high low = (2 ^ m * high + low) / 2 ^ bits % 2 ^ m
