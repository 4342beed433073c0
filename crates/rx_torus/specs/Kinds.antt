-- The numbers of streams. What is drawn has a kind, and each row of a kind has a stream of its own.
use Rattle.std.specs.Prelude.{ℕ, ◌+◌, ◌*◌, ◌^◌}
use Rattle.rx_torus.specs.declared.kind.StreamKind.{StreamKind}
use Rattle.rx_torus.specs.declared.kind.StreamKind.TheVariants.{SmallKey, LargeKey, BootMask, BootNoise, SwitchMask, SwitchNoise, BlockMask, BlockNoise, PairMask, PairNoise}

-- the number of a kind
abbrev pub kind_number : StreamKind → ℕ
kind_number SmallKey = 1
kind_number LargeKey = 2
kind_number BootMask = 3
kind_number BootNoise = 4
kind_number SwitchMask = 5
kind_number SwitchNoise = 6
kind_number BlockMask = 7
kind_number BlockNoise = 8
kind_number PairMask = 9
kind_number PairNoise = 10

-- the number of the stream of a row
abbrev pub stream_number : StreamKind → ℕ → ℕ
stream_number kind row = kind_number kind * 2 ^ 32 + row
