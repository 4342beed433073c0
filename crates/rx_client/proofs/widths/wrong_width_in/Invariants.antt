use Rattle.std.proofs.Common.{◌≡◌, drop}
use Rattle.rx_client.specs.Encrypt.{first_width}
use Rattle.rx_client.proofs.widths.wrong_width_in.Given as goal

-- no line so far has a wrong width
abbrev pub invariant-loop-line : goal.invariant-loop-line
invariant-loop-line l = first_width l.message_bits (drop l.line-index l.lines) ≡ first_width l.message_bits l.lines
