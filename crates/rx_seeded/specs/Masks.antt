-- Mask seeds, and masks that a seed does not draw.
use Rattle.std.specs.Prelude.{ℕ, ◌+◌, ◌==◌, ◌≡◌, ◌<◌, ◌^◌, List, [], ◌∷◌, length, EachIndex, slice_index, if◌then◌else◌, Option, Some, None, Result, Ok, Err}
use Rattle.rx_torus.specs.Streams.{Draws, stream_of}
use Rattle.rx_torus.specs.Kinds.{stream_number}
use Rattle.rx_torus.specs.declared.kind.StreamKind.{StreamKind}
use Rattle.rx_seeded.specs.declared.fault.SeedFault.{SeedFault}
use Rattle.rx_seeded.specs.declared.fault.SeedFault.TheVariants.{Mask, Memory}

-- the streams of the masks of the rows of a kind
abbrev pub row_masks : StreamKind → List ℕ → ℕ → Draws
row_masks kind mask_seed row = stream_of mask_seed (stream_number kind row)

pub record IsSeed (seed : List ℕ) : Type 0 where
  pub size : length seed ≡ 32
  pub bytes : EachIndex seed (λ i. slice_index seed i < 2 ^ 8)

-- the place of the first word that another list does not have at its place; the words stand on from here, eight bytes each
abbrev pub first_unlike : ℕ → List ℕ → List ℕ → Option ℕ
first_unlike at [] others = None
first_unlike at (word ∷ words) [] = None
first_unlike at (word ∷ words) (other ∷ others) = if word == other then first_unlike (at + 8) words others else Some at

-- It is so where no mask is wrong, and else the first wrong one is told, or that memory was wanted.
abbrev pub Seeds : {S : Type 0} → Option ℕ → (S → Type 0) → Result S SeedFault → Type 0
Seeds wrong IsSo (Ok value) = (wrong ≡ None) × IsSo value
Seeds wrong IsSo (Err (Mask at)) = wrong ≡ Some at
Seeds wrong IsSo (Err Memory) = Unit {0}
