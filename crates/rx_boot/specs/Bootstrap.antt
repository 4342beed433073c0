-- The bootstrap: a table looked up under encryption.
use Rattle.std.specs.Prelude.{ℕ, ℤ, ◌+◌, ◌*◌, ◌/◌, ◌^◌, List, get_or}
use Rattle.rx_laws.specs.Words.{words_below}
use Rattle.rx_laws.specs.Decode.{plaintexts, unit}
use Rattle.rx_ring.specs.Accumulator.{accumulator}
use Rattle.rx_ring.specs.Switch.{mark}
use Rattle.rx_ring.specs.Rotation.{blind_rotation}
use Rattle.rx_ring.specs.Glwe.{extracted}
use Rattle.rx_params.specs.declared.params.Params.{Params}
use Rattle.rx_params.specs.Derived.{large_dim}
use Rattle.rx_lwe.specs.SwitchKeys.{switch_key, switched_words}
use Rattle.rx_boot.specs.BootKeys.{boot_rows}
use Rattle.rx_boot.specs.ServerKeys.{ServerWords}

-- half of the box of coefficients that a number of the table fills
abbrev pub half_box : Params → ℕ
half_box p = p.poly_size / plaintexts p.message_bits / 2

-- half of the distance between two of the 2N marks of the switched modulus
abbrev pub half_mark : Params → ℕ
half_mark p = 2 ^ 62 / p.poly_size

-- the marks of an input that was switched to the small key; the last one is that of the body
abbrev pub marks : Params → List ℕ → ℕ → ℕ
marks p switched i = mark (half_mark p) (2 * p.poly_size) (get_or switched i 0)

-- the accumulator of a table
abbrev pub table_accumulator : Params → List ℕ → ℕ → ℤ
table_accumulator p table = accumulator (unit p.message_bits) (half_box p) (plaintexts p.message_bits) (λ x. get_or table x 0)

-- what the accumulator of a table becomes when it is turned by a switched input and the rows of a bootstrapping key
abbrev pub rotation_of : Params → List ℕ → List ℕ → List ℕ → ℕ → ℕ → ℤ
rotation_of p rows table switched =
    blind_rotation p.poly_size p.glwe_dim p.pbs_base_log p.pbs_level p.lwe_dim (boot_rows p rows) (marks p switched) (table_accumulator p table)

-- the words of what a bootstrap of the input gives for a table
unfoldable pub bootstrapped : ServerWords → List ℕ → List ℕ → List ℕ
bootstrapped key table input =
    let p : Params = key.params in
    let switched : List ℕ = switched_words (switch_key p key.switch) input in
    words_below (large_dim p + 1) (extracted p.poly_size p.glwe_dim (rotation_of p key.boot table switched))
