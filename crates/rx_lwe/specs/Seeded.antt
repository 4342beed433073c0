-- Rows whose masks a seed draws. Each row is mask words, the first ones of a stream of its own, and then its body; the bodies
-- of all rows stand one after another in a list.
use Rattle.std.specs.Prelude.{ℕ, pos, ◌+◌, ◌*◌, List, ◌++◌, take, drop}
use Rattle.std.specs.List.{range_with_len, flat_map}
use Rattle.rx_laws.specs.Words.{words_below}
use Rattle.rx_torus.specs.Streams.{Draws, draw, stream_of}
use Rattle.rx_torus.specs.Kinds.{stream_number}
use Rattle.rx_torus.specs.declared.kind.StreamKind.TheVariants.{SwitchMask}
use Rattle.rx_params.specs.declared.params.Params.{Params}
use Rattle.rx_params.specs.Derived.{large_dim}

-- the next words of a stream, so many
abbrev pub drawn_words : ℕ → Draws → List ℕ
drawn_words count s = words_below count (λ i. pos (draw s i))

-- a row of so many masks, and of a body of so many words
abbrev pub seeded_row : (ℕ → Draws) → (masks wide : ℕ) → List ℕ → ℕ → List ℕ
seeded_row mask masks wide bodies row = drawn_words masks (mask row) ++ take wide (drop (row * wide) bodies)

-- so many rows, in order
abbrev pub seeded_rows : (ℕ → Draws) → (masks wide rows : ℕ) → List ℕ → List ℕ
seeded_rows mask masks wide rows bodies = flat_map (seeded_row mask masks wide bodies) (range_with_len 0 rows)

-- the bodies of so many rows, in order
abbrev pub row_bodies : (masks wide rows : ℕ) → List ℕ → List ℕ
row_bodies masks wide rows words =
    flat_map (λ row. take wide (drop (row * (masks + wide) + masks) words)) (range_with_len 0 rows)

-- the rows of a switch key, and the streams of their masks
abbrev pub switch_row_count : Params → ℕ
switch_row_count p = large_dim p * p.ks_level

abbrev pub switch_masks : List ℕ → ℕ → Draws
switch_masks mask_seed row = stream_of mask_seed (stream_number SwitchMask row)

-- the words of the switch key of a set whose masks a seed draws, with these bodies, one for each row
unfoldable pub seeded_switch : Params → List ℕ → List ℕ → List ℕ
seeded_switch p mask_seed bodies = seeded_rows (switch_masks mask_seed) p.lwe_dim 1 (switch_row_count p) bodies

-- the bodies in the words of a switch key
unfoldable pub switch_bodies : Params → List ℕ → List ℕ
switch_bodies p words = row_bodies p.lwe_dim 1 (switch_row_count p) words
