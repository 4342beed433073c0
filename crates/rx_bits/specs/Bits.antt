-- Operations bit by bit, on numbers and on bits.
use Rattle.std.specs.Prelude.{ℕ, ◌-◌, ◌*◌, ◌^◌, ◌≡◌, ◌≤◌, bit_and, bit_or, bit_xor, List}
use Rattle.rx_params.specs.declared.kind.Kind.{Kind}
use Rattle.rx_params.specs.declared.kind.Kind.TheVariants.{Int, Bit}
use Rattle.rx_net.specs.declared.net.Net.{Net}
use Rattle.rx_plan.specs.Results.{GivesNumber, GivesBit}
use Rattle.rx_bits.specs.declared.operation.Operation.{Operation}
use Rattle.rx_bits.specs.declared.operation.Operation.TheVariants.{And, Or, Xor}

abbrev pub bitwise : Operation → ℕ → ℕ → ℕ
bitwise And x y = bit_and x y
bitwise Or x y = bit_or x y
bitwise Xor x y = bit_xor x y

-- how many blocks a number or a bit may have
abbrev pub IsCount : Kind → ℕ → Type 0
IsCount Int count = 1 ≤ count
IsCount Bit count = count ≡ 1

-- the planner appended a number of so many blocks, or a bit
abbrev pub GivesKind : Kind → Net → Net → List ℕ → List ℕ → ℕ → ℕ → ℕ → ((ℕ → Type 0) → Type 0) → (List ℕ → ℕ) → Type 0
GivesKind Int old new before after count jobs levels Operands whole = GivesNumber old new before after count jobs levels Operands whole
GivesKind Bit old new before after count jobs levels Operands whole = GivesBit old new before after jobs levels Operands whole

-- the number of count blocks, or the bit, of which each bit is 1
abbrev pub all_ones : Kind → ℕ → ℕ → ℕ
all_ones Int space count = 2 ^ (space * count) - 1
all_ones Bit space count = 1
