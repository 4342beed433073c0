-- A line while it is read, beside the definition of the text.
use Rattle.std.specs.Prelude.{◌^◌, nat_lt, ◌&&◌, if◌then◌else◌, Result, Ok, Err}
use Rattle.rx_text.specs.Numerals.{held}
use Rattle.rx_text.specs.declared.fault.LineCause.{LineCause}
use Rattle.rx_text.specs.declared.fault.LineCause.TheVariants.{Number}
use Rattle.rx_circuit.specs.declared.reading.Spelled.{Spelled}
use Rattle.rx_circuit.specs.declared.values.ValueLine.{ValueLine}
use Rattle.rx_circuit.specs.Values.{is_width}

-- a line with its numbers as 64 bits hold them
abbrev pub held_line : ValueLine → Spelled
held_line v = record { kind = v.kind; name = v.name; bits = held v.bits; value = held v.value }

-- a line whose numerals are within their ranges
abbrev pub ranged_line : ValueLine → Result ValueLine LineCause
ranged_line v = if is_width v.kind v.bits && nat_lt v.value (2 ^ v.bits) then Ok v else Err Number
