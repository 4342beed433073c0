-- The sets that have names. They are sized for exactness at worst, and no strength is claimed of them.
use Rattle.std.specs.Prelude.{ℕ, List, codes, Option, Some, None, if◌then◌else◌}
use Rattle.std.specs.Str.{bytes_eq}
use Rattle.rx_params.specs.declared.params.Params.{Params}

-- a set by its fields, in their order
abbrev pub set_of : ℕ → ℕ → ℕ → ℕ → ℕ → ℕ → ℕ → ℕ → ℕ → ℕ → Params
set_of m k n d pb pl kb kl g l = record {
  message_bits = m;
  glwe_dim = k;
  poly_size = n;
  lwe_dim = d;
  pbs_base_log = pb;
  pbs_level = pl;
  ks_base_log = kb;
  ks_level = kl;
  glwe_bound = g;
  lwe_bound = l;
}

abbrev pub rx_2_2 : Params
rx_2_2 = set_of 2 1 512 24 12 2 4 6 17 20

abbrev pub rx_test : Params
rx_test = set_of 2 1 256 8 12 2 4 6 17 20

abbrev pub rx_3_3 : Params
rx_3_3 = set_of 3 1 2048 24 12 3 5 6 17 20

abbrev pub rx_k2 : Params
rx_k2 = set_of 2 2 256 8 12 2 4 6 17 20

-- the set of a name, none where it is not one of the four names
abbrev pub named_of : List ℕ → Option Params
named_of name =
    if bytes_eq name (codes "rx-2-2") then Some rx_2_2
    else if bytes_eq name (codes "rx-test") then Some rx_test
    else if bytes_eq name (codes "rx-3-3") then Some rx_3_3
    else if bytes_eq name (codes "rx-k2") then Some rx_k2
    else None
