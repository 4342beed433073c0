-- The ten parameter fields of a file, each a number of four bytes, in the order of the fields.
use Rattle.std.specs.Prelude.{ℕ, List, Result, Ok, Err}
use Rattle.std.specs.List.{flat_map}
use Rattle.std.specs.Int.{w32, to_le_bytes}
use Rattle.rx_params.specs.declared.params.Params.{Params}
use Rattle.rx_params.specs.declared.bounds.Bounds.{Bounds}
use Rattle.rx_params.specs.declared.bounds.Refused.{Refused}
use Rattle.rx_params.specs.Acceptance.{checked}
use Rattle.rx_params.specs.Sets.{set_of}
use Rattle.rx_params.specs.Text.{fields_of}
use Rattle.rx_codec.specs.declared.fault.CodecFault.{CodecFault}
use Rattle.rx_codec.specs.declared.fault.CodecFault.TheVariants.{Params as NotAccepted}
use Rattle.rx_codec.specs.Reading.{◌>>=◌, number_at}

-- the one spelling of a set
abbrev pub params_bytes : Params → List ℕ
params_bytes p = flat_map (to_le_bytes w32) (fields_of p)

-- a set that was read, where it is accepted
abbrev pub accepted_or : Result Bounds Refused → Params × ℕ → Result (Params × ℕ) CodecFault
accepted_or (Ok bounds) read = Ok read
accepted_or (Err refused) read = Err (NotAccepted refused)

unfoldable pub fields_at : List ℕ → ℕ → Result (Params × ℕ) CodecFault
fields_at file at = do
  m ← number_at w32 file at
  k ← number_at w32 file m.1
  n ← number_at w32 file k.1
  d ← number_at w32 file n.1
  pb ← number_at w32 file d.1
  pl ← number_at w32 file pb.1
  kb ← number_at w32 file pl.1
  kl ← number_at w32 file kb.1
  g ← number_at w32 file kl.1
  l ← number_at w32 file g.1
  Ok (set_of m.0 k.0 n.0 d.0 pb.0 pl.0 kb.0 kl.0 g.0 l.0, l.1)

-- the set at a place; the check comes once all fields were read
unfoldable pub params_at : List ℕ → ℕ → Result (Params × ℕ) CodecFault
params_at file at = do
  read ← fields_at file at
  accepted_or (checked read.0) read
