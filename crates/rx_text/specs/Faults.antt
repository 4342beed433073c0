-- The fault of a line.
use Rattle.std.specs.Prelude.{ℕ}
use Rattle.rx_text.specs.declared.fault.LineCause.{LineCause}
use Rattle.rx_text.specs.declared.fault.LineFault.{LineFault}

-- the line of this number is wrong, for this cause
abbrev pub fault_at : ℕ → LineCause → LineFault
fault_at line cause = record { line = line; cause = cause }
