-- How many words things have.
use Rattle.std.specs.Prelude.{ℕ, ◌+◌, ◌*◌}
use Rattle.rx_params.specs.declared.params.Params.{Params}

-- a ciphertext over polynomials: the mask polynomials and the body
abbrev pub glwe_size : Params → ℕ
glwe_size p = (p.glwe_dim + 1) * p.poly_size

-- an encrypted bit: a row for each polynomial of a ciphertext and each level
abbrev pub ggsw_size : Params → ℕ
ggsw_size p = (p.glwe_dim + 1) * p.pbs_level * glwe_size p
