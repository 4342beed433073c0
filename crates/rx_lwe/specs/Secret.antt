-- The keys of a seed.
use Rattle.std.specs.Prelude.{ℕ, ◌/◌, ◌%◌, List, map}
use Rattle.std.specs.List.{range_with_len}
use Rattle.rx_torus.specs.Streams.{torus_word}
use Rattle.rx_torus.specs.Kinds.{stream_number}
use Rattle.rx_torus.specs.declared.kind.StreamKind.TheVariants.{SmallKey, LargeKey}
use Rattle.rx_params.specs.declared.params.Params.{Params}
use Rattle.rx_params.specs.Derived.{large_dim}

-- bit i of polynomial j of the large key: the lowest bit of word i of that polynomial's stream
abbrev pub key_bit : List ℕ → ℕ → ℕ → ℕ
key_bit seed j i = torus_word seed (stream_number LargeKey j) i % 2

-- the large key, flattened: place j * N + i holds bit i of polynomial j
unfoldable pub large_key : Params → List ℕ → List ℕ
large_key p seed = map (λ u. key_bit seed (u / p.poly_size) (u % p.poly_size)) (range_with_len 0 (large_dim p))

-- bit i of the small key: the lowest bit of word i of its one stream
abbrev pub small_bit : List ℕ → ℕ → ℕ
small_bit seed i = torus_word seed (stream_number SmallKey 0) i % 2

unfoldable pub small_key : Params → List ℕ → List ℕ
small_key p seed = map (small_bit seed) (range_with_len 0 p.lwe_dim)
