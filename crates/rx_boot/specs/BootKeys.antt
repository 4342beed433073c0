-- The rows that a bootstrap turns by: for each bit that a key encrypts, a row for each polynomial of a ciphertext and each
-- level. The bits are those of the small key, or three products for each pair of them, by the rotation.
use Rattle.std.specs.Prelude.{ℕ, ℤ, pos, ◌+◌, ◌*◌, ◌/◌, ◌%◌, List, get_or}
use Rattle.std.specs.List.{flat_map, range_with_len}
use Rattle.rx_laws.specs.Words.{of_words}
use Rattle.rx_ring.specs.Parts.{of_parts}
use Rattle.rx_ring.specs.Keys.{level_weight, ggsw_hidden}
use Rattle.rx_torus.specs.Streams.{stream_of}
use Rattle.rx_torus.specs.Kinds.{stream_number}
use Rattle.rx_torus.specs.declared.kind.StreamKind.TheVariants.{BootMask, BootNoise, PairMask, PairNoise}
use Rattle.rx_torus.specs.declared.kind.StreamKind.{StreamKind}
use Rattle.rx_params.specs.declared.params.Params.{Params}
use Rattle.rx_params.specs.declared.rotation.Rotation.{Rotation}
use Rattle.rx_params.specs.declared.rotation.Rotation.TheVariants.{Bits, Pairs}
use Rattle.rx_params.specs.Derived.{encrypted_count}
use Rattle.rx_glwe.specs.Sizes.{glwe_size, ggsw_size}
use Rattle.rx_glwe.specs.Rows.{glwe_row}

-- the rows of an encrypted bit, and of all of them
abbrev pub ggsw_row_count : Params → ℕ
ggsw_row_count p = (p.glwe_dim + 1) * p.pbs_level

abbrev pub key_row_count : Rotation → Params → ℕ
key_row_count rotation p = encrypted_count rotation p * ggsw_row_count p

-- the words of all rows
abbrev pub rows_size : Rotation → Params → ℕ
rows_size rotation p = encrypted_count rotation p * ggsw_size p

-- the rows and the words of the bootstrapping key
abbrev pub boot_row_count : Params → ℕ
boot_row_count p = key_row_count Bits p

abbrev pub boot_size : Params → ℕ
boot_size p = rows_size Bits p

-- coefficient x of polynomial q of row (j, t) of encrypted bit i
abbrev pub boot_rows : Params → List ℕ → ℕ → ℕ → ℕ → ℕ → ℕ → ℤ
boot_rows p words i j t q x =
    pos (get_or words (i * ggsw_size p + ((j * p.pbs_level + t) * glwe_size p + (q * p.poly_size + x))) 0)

-- what row (j, t) of the encryption of bit i hides
abbrev pub row_hidden : Params → List ℕ → List ℕ → ℕ → ℕ → ℕ → ℕ → ℤ
row_hidden p bits large i j t =
    ggsw_hidden p.glwe_dim (level_weight p.pbs_base_log) (of_parts p.poly_size large) (of_words bits i) j t

-- the streams of the masks and of the noises
abbrev pub mask_kind : Rotation → StreamKind
mask_kind Bits = BootMask
mask_kind Pairs = PairMask

abbrev pub noise_kind : Rotation → StreamKind
noise_kind Bits = BootNoise
noise_kind Pairs = PairNoise

-- row (j, t) of the encryption of bit i, drawn from the streams of its number
unfoldable pub key_row : Rotation → Params → List ℕ → List ℕ → List ℕ → List ℕ → ℕ → ℕ → ℕ → List ℕ
key_row rotation p bits large mask_seed noise_seed i j t =
    let number : ℕ = (i * (p.glwe_dim + 1) + j) * p.pbs_level + t in
    glwe_row p large (stream_of mask_seed (stream_number (mask_kind rotation) number))
    (stream_of noise_seed (stream_number (noise_kind rotation) number)) (row_hidden p bits large i j t)

-- the row of a number
abbrev pub numbered_row : Rotation → Params → List ℕ → List ℕ → List ℕ → List ℕ → ℕ → List ℕ
numbered_row rotation p bits large mask_seed noise_seed row =
    key_row rotation p bits large mask_seed noise_seed (row / ggsw_row_count p) (row / p.pbs_level % (p.glwe_dim + 1)) (row % p.pbs_level)

-- all rows, in the order of their numbers
unfoldable pub key_rows : Rotation → Params → List ℕ → List ℕ → List ℕ → List ℕ → List ℕ
key_rows rotation p bits large mask_seed noise_seed =
    flat_map (numbered_row rotation p bits large mask_seed noise_seed) (range_with_len 0 (key_row_count rotation p))

-- the words of the bootstrapping key, whose bits are those of the small key
abbrev pub boot_key_words : Params → List ℕ → List ℕ → List ℕ → List ℕ → List ℕ
boot_key_words p small large mask_seed noise_seed = key_rows Bits p small large mask_seed noise_seed
