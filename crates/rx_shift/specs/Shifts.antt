-- Shifts by an encrypted amount.
use Rattle.std.specs.Prelude.{ℕ, ◌+◌, ◌-◌, ◌*◌, ◌/◌, ◌%◌, ◌^◌, ◌≤◌, ◌≡◌, ◌⊎◌, List, reverse}
use Rattle.rx_cmp.specs.Selection.{kept_entry}
use Rattle.rx_shift.specs.declared.direction.Direction.{Direction}
use Rattle.rx_shift.specs.declared.direction.Direction.TheVariants.{Up, Down}

-- a number that is moved by so many bits
abbrev pub moved : Direction → ℕ → ℕ → ℕ
moved Up number bits = number * 2 ^ bits
moved Down number bits = number / 2 ^ bits

-- ---- one stage

abbrev pub opposite : Direction → Direction
opposite Up = Down
opposite Down = Up

-- blocks in the order in which a shift passes them
abbrev pub in_order : Direction → List ℕ → List ℕ
in_order Up blocks = blocks
in_order Down blocks = reverse blocks

-- the place of a number at which a block stands that has the place i in order
abbrev pub place : Direction → ℕ → ℕ → ℕ
place Up count i = i
place Down count i = count - 1 - i

-- what stays in a block that is moved by so many bits
abbrev pub part : Direction → ℕ → ℕ → ℕ → ℕ
part Up unit bits block = block * 2 ^ bits % unit
part Down unit bits block = block / 2 ^ bits

-- what a table says of a bit and a block: the part of the block where the bit is 1, else 0
abbrev pub part_entry : Direction → ℕ → ℕ → ℕ → ℕ
part_entry direction unit bits i = part direction unit bits (kept_entry 1 unit i)

-- The parts of the blocks that stand one step further come in a place further, or nowhere where no bits pass a block.
abbrev pub Comes : ℕ → ℕ → ℕ → ℕ → Type 0
Comes count steps bits beyond = (beyond ≡ steps + 1) ⊎ ((bits ≡ 0) × (count ≤ beyond))

-- ---- the jobs of all stages

abbrev pub stage_jobs : ℕ → ℕ
stage_jobs blocks = 4 * blocks - 1

-- those of so many stages, with their bits and a cell that is 0
abbrev pub moving_jobs : ℕ → ℕ → ℕ
moving_jobs count blocks = count + 1 + count * (4 * blocks - 1)
