-- The client file: the magic `RXC1`, the ten parameter fields, and one field of 32 bytes, the seed.
use Rattle.std.specs.Prelude.{ℕ, ◌≡◌, ◌<◌, List, length, ◌++◌, codes, Result, EachIndex, slice_index, ◌^◌}
use Rattle.rx_params.specs.Acceptance.{Accepts}
use Rattle.rx_codec.specs.declared.client.Client.{Client}
use Rattle.rx_codec.specs.declared.fault.CodecFault.{CodecFault}
use Rattle.rx_codec.specs.ParamsFields.{params_bytes, params_at}
use Rattle.rx_codec.specs.Reading.{◌>>=◌, bytes_at, magic_at, ends_at}

-- the one spelling of a client
abbrev pub client_bytes : Client → List ℕ
client_bytes c = codes "RXC1" ++ params_bytes c.params ++ c.seed

-- what has a spelling
pub record IsClient (c : Client) : Type 0 where
  pub accepted : Accepts c.params
  pub size : length c.seed ≡ 32
  pub bytes : EachIndex c.seed (λ i. slice_index c.seed i < 2 ^ 8)

-- the bytes are the client file of the client
pub record ClientFile (bytes : List ℕ) (c : Client) : Type 0 where
  pub fits : IsClient c
  pub spelled : bytes ≡ client_bytes c

-- the client that a file spells, or its first fault
unfoldable pub client_from : List ℕ → Result Client CodecFault
client_from file = do
  after ← magic_at (codes "RXC1") file
  params ← params_at file after
  seed ← bytes_at file 32 params.1
  ends_at file seed.1 (record { params = params.0; seed = seed.0 })
