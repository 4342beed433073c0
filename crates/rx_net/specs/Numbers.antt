-- Numbers of several blocks: the digits of a number, the number of some digits, and the numbers of a net's outputs.
use Rattle.std.specs.Prelude.{ℕ, ◌+◌, ◌*◌, ◌^◌, ◌<◌, List, [], ◌∷◌, map, get_or}
use Rattle.std.specs.List.{AllByRecursion, range_with_len}
use Rattle.rx_params.specs.Kinds.{digit_at}
use Rattle.rx_net.specs.declared.net.NetOutput.{NetOutput}
use Rattle.rx_net.specs.declared.net.Net.{Net}

-- digits to the base 2 ^ message_bits
abbrev pub AreDigits : ℕ → List ℕ → Type 0
AreDigits message_bits digits = AllByRecursion (λ digit. digit < 2 ^ message_bits) digits

-- so many digits of a number to the base 2 ^ message_bits, the least first
abbrev pub digits_of : ℕ → ℕ → ℕ → List ℕ
digits_of message_bits count number = map (digit_at message_bits number) (range_with_len 0 count)

-- the number of some digits, the least first: the sum of each times the power of 2 ^ message_bits of its place
abbrev pub number_of : ℕ → List ℕ → ℕ
number_of message_bits [] = 0
number_of message_bits (digit ∷ digits) = digit + 2 ^ message_bits * number_of message_bits digits

-- the values of an output's cells, for the values of all cells
abbrev pub values_of : List ℕ → NetOutput → List ℕ
values_of values output = map (λ cell. get_or values cell 0) output.cells

-- the numbers of the outputs, in order, for the values of all cells
abbrev pub outs : Net → List ℕ → List ℕ
outs net values = map (λ (o : NetOutput). number_of net.space (values_of values o)) net.outputs
