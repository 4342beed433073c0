-- What follows from the fields of a set. All are whole numbers, without rounding.
use Rattle.std.specs.Prelude.{ℕ, ◌+◌, ◌-◌, ◌*◌, ◌/◌, ◌^◌, max}
use Rattle.rx_laws.specs.Decode.{unit}
use Rattle.rx_params.specs.declared.params.Params.{Params}
use Rattle.rx_params.specs.declared.bounds.Bounds.{Bounds}
use Rattle.rx_params.specs.declared.rotation.Rotation.{Rotation}
use Rattle.rx_params.specs.declared.rotation.Rotation.TheVariants.{Bits, Pairs}

-- the dimension of blocks: bits of the large key
unfoldable pub large_dim : Params → ℕ
large_dim p = p.glwe_dim * p.poly_size

-- the turns of a rotation: one for each bit of the small key, or one for each pair of bits
abbrev pub turn_count : Rotation → Params → ℕ
turn_count Bits p = p.lwe_dim
turn_count Pairs p = p.lwe_dim / 2

-- the bits that a key encrypts for a rotation: those of the small key, or three products of the bits of each pair
abbrev pub encrypted_count : Rotation → Params → ℕ
encrypted_count Bits p = p.lwe_dim
encrypted_count Pairs p = 3 * (p.lwe_dim / 2)

-- words of a key with so many encrypted bits: those of the bits' rows, and those of the switch rows
abbrev pub words_with : ℕ → Params → ℕ
words_with bits p =
    bits * (p.glwe_dim + 1) ^ 2 * p.pbs_level * p.poly_size
    + p.glwe_dim * p.poly_size * p.ks_level * (p.lwe_dim + 1)

-- words of a server key, and of a pair key
unfoldable pub key_words : Params → ℕ
key_words p = words_with (encrypted_count Bits p) p

unfoldable pub pair_words : Params → ℕ
pair_words p = words_with (encrypted_count Pairs p) p

-- the greatest sum of noise tags that a lookup may be given
abbrev pub noise_limit : ℕ → ℕ
noise_limit message_bits = 2 ^ message_bits + 1

-- the part of a word that the digits of the bootstrap leave out, at most
unfoldable pub rest_of : Params → ℕ
rest_of p = 2 ^ (63 - p.pbs_base_log * p.pbs_level)

-- how often the noise of a row counts in the rows that a turn multiplies by: once, or twice for each of the three encrypted
-- products of a pair, which are turned and less themselves
abbrev pub noise_count : Rotation → ℕ
noise_count Bits = 1
noise_count Pairs = 6

-- the noise that a turn adds, at most, by rows of that noise
abbrev pub step_with : ℕ → Params → ℕ
step_with noise p =
    rest_of p * (1 + p.glwe_dim * p.poly_size)
    + (p.glwe_dim + 1) * p.pbs_level * p.poly_size * 2 ^ (p.pbs_base_log - 1) * noise

-- the noise that one turn of the bootstrap adds, at most, and one turn by a pair of bits
unfoldable pub step_of : Params → ℕ
step_of p = step_with (2 ^ p.glwe_bound) p

unfoldable pub pair_step_of : Params → ℕ
pair_step_of p = step_with (noise_count Pairs * 2 ^ p.glwe_bound) p

-- the noise of what a bootstrap gives, at most, and of what a bootstrap by pairs gives
unfoldable pub boot_of : Params → ℕ
boot_of p = turn_count Bits p * step_of p

unfoldable pub pair_boot_of : Params → ℕ
pair_boot_of p = turn_count Pairs p * pair_step_of p

-- the noise of a block whose noise tag is 1, at most: fresh, or given by a bootstrap with that noise
abbrev pub base_with : ℕ → Params → ℕ
base_with boot p = max boot (2 ^ p.glwe_bound)

unfoldable pub base_of : Params → ℕ
base_of p = base_with (boot_of p) p

unfoldable pub pair_base_of : Params → ℕ
pair_base_of p = base_with (pair_boot_of p) p

-- the noise that the key switch adds, at most
unfoldable pub switch_of : Params → ℕ
switch_of p =
    p.glwe_dim * p.poly_size * 2 ^ (63 - p.ks_base_log * p.ks_level)
    + p.glwe_dim * p.poly_size * p.ks_level * 2 ^ (p.ks_base_log - 1) * 2 ^ p.lwe_bound

-- the noise that the rounding to 2N steps adds, at most
unfoldable pub round_of : Params → ℕ
round_of p = (p.lwe_dim + 1) * (2 ^ 62 / p.poly_size)

-- the greatest noise that reaches the table of a bootstrap, from blocks of that base
abbrev pub left_with : ℕ → Params → ℕ
left_with base p = noise_limit p.message_bits * base + switch_of p + round_of p

unfoldable pub left_of : Params → ℕ
left_of p = left_with (base_of p) p

unfoldable pub pair_left_of : Params → ℕ
pair_left_of p = left_with (pair_base_of p) p

-- what that noise has to stay below: half of the unit
abbrev pub right_of : Params → ℕ
right_of p = unit p.message_bits / 2

-- the seven sums, from the noise of a turn, that of a bootstrap, the base and what reaches a table
abbrev pub bounds_with : ℕ → ℕ → ℕ → ℕ → Params → Bounds
bounds_with step boot base left p = record {
  step = step;
  boot = boot;
  base = base;
  switch = switch_of p;
  round = round_of p;
  left = left;
  right = right_of p;
}

abbrev pub bounds_of : Params → Bounds
bounds_of p = bounds_with (step_of p) (boot_of p) (base_of p) (left_of p) p

abbrev pub pair_bounds_of : Params → Bounds
pair_bounds_of p = bounds_with (pair_step_of p) (pair_boot_of p) (pair_base_of p) (pair_left_of p) p

-- ---- the same for either rotation
abbrev pub words_by : Rotation → Params → ℕ
words_by Bits p = key_words p
words_by Pairs p = pair_words p

abbrev pub step_by : Rotation → Params → ℕ
step_by Bits p = step_of p
step_by Pairs p = pair_step_of p

abbrev pub bounds_by : Rotation → Params → Bounds
bounds_by Bits p = bounds_of p
bounds_by Pairs p = pair_bounds_of p
