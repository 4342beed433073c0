-- Server keys whose masks a seed draws: a key of its bodies, and the bodies of a key.
use Rattle.std.specs.Prelude.{ℕ, ◌+◌, ◌*◌, List, ◌++◌, take, drop}
use Rattle.rx_torus.specs.Streams.{Draws, stream_of}
use Rattle.rx_torus.specs.Kinds.{stream_number}
use Rattle.rx_torus.specs.declared.kind.StreamKind.TheVariants.{BootMask}
use Rattle.rx_params.specs.declared.params.Params.{Params}
use Rattle.rx_params.specs.Derived.{large_dim}
use Rattle.rx_lwe.specs.Seeded.{seeded_rows, row_bodies, seeded_switch, switch_bodies, switch_row_count}
use Rattle.rx_boot.specs.BootKeys.{boot_row_count}
use Rattle.rx_boot.specs.ServerKeys.{ServerWords}

-- how many words the bodies of the bootstrapping rows have, and those of all rows
abbrev pub boot_body_size : Params → ℕ
boot_body_size p = boot_row_count p * p.poly_size

abbrev pub body_size : Params → ℕ
body_size p = boot_body_size p + switch_row_count p

-- the streams of the masks of the bootstrapping rows
abbrev pub boot_masks : List ℕ → ℕ → Draws
boot_masks mask_seed row = stream_of mask_seed (stream_number BootMask row)

-- the words of the bootstrapping key of a set whose masks a seed draws, with these bodies, a polynomial for each row
unfoldable pub seeded_boot : Params → List ℕ → List ℕ → List ℕ
seeded_boot p mask_seed bodies = seeded_rows (boot_masks mask_seed) (large_dim p) p.poly_size (boot_row_count p) bodies

-- the bodies in the words of a bootstrapping key
unfoldable pub boot_bodies : Params → List ℕ → List ℕ
boot_bodies p words = row_bodies (large_dim p) p.poly_size (boot_row_count p) words

-- the server key of a set whose masks a seed draws, with these bodies: those of the bootstrapping rows, then those of the
-- switch rows
abbrev pub key_of_bodies : Params → List ℕ → List ℕ → ServerWords
key_of_bodies p mask_seed bodies = record {
  params = p;
  boot = seeded_boot p mask_seed (take (boot_body_size p) bodies);
  switch = seeded_switch p mask_seed (drop (boot_body_size p) bodies);
}

-- the bodies of a server key
abbrev pub key_bodies : ServerWords → List ℕ
key_bodies key = boot_bodies key.params key.boot ++ switch_bodies key.params key.switch

-- a server key with the masks that a seed draws in place of its own
abbrev pub redrawn_key : List ℕ → ServerWords → ServerWords
redrawn_key mask_seed key = key_of_bodies key.params mask_seed (key_bodies key)
