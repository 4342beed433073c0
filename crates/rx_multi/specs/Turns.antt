-- A turn by a pair, over lists: the rows that the two amounts choose.
use Rattle.std.specs.Prelude.{ℕ, ℤ, ◌+ℤ◌, ◌+◌, ◌*◌, ◌/◌, ◌%◌, List}
use Rattle.rx_laws.specs.Sum.{sum_to}
use Rattle.rx_ring.specs.Parts.{of_parts}
use Rattle.rx_ring.specs.Glwe.{external}
use Rattle.rx_ring.specs.Pairs.{one_rows, pair_amount}
use Rattle.rx_ring.specs.Rotation.{turned_away}
use Rattle.rx_params.specs.declared.params.Params.{Params}
use Rattle.rx_glwe.specs.External.{glwe_digits}
use Rattle.rx_boot.specs.BootKeys.{boot_rows}

-- the polynomials of the rows of an encrypted bit
abbrev pub row_parts : Params → ℕ
row_parts p = (p.glwe_dim + 1) * p.pbs_level * (p.glwe_dim + 1)

-- coefficient x of polynomial q of row (j, t) that a pair multiplies by, from the words of its three products and its two
-- amounts
abbrev pub chosen_rows : Params → List ℕ → ℕ → ℕ → ℕ → ℕ → ℕ → ℕ → ℤ
chosen_rows p products first second j t q x =
    one_rows p.pbs_base_log j t q x
    +ℤ sum_to 3 (λ e. turned_away p.poly_size (pair_amount p.poly_size e first second) (boot_rows p products e j t) q x)

-- polynomial u of all rows, one after another
abbrev pub chosen_part : Params → List ℕ → ℕ → ℕ → ℕ → ℕ → ℤ
chosen_part p products first second u x =
    chosen_rows p products first second (u / (p.glwe_dim + 1) / p.pbs_level) (u / (p.glwe_dim + 1) % p.pbs_level) (u % (p.glwe_dim + 1)) x

-- what the turn makes of a ciphertext
abbrev pub turned_by : Params → List ℕ → ℕ → ℕ → List ℕ → ℕ → ℕ → ℤ
turned_by p products first second glwe =
    external p.poly_size p.glwe_dim p.pbs_level (glwe_digits p (of_parts p.poly_size glwe)) (chosen_rows p products first second)
