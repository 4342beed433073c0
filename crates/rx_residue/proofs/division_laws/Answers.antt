use Rattle.rx_residue.proofs.Divisions.{whole_is, remainder_below, quotient_none, remainder_none}
use Rattle.rx_residue.proofs.division_laws.Goals as goal

pub returns : goal.returns
returns c = record { whole = whole_is; below = remainder_below; no_quotient = quotient_none; no_remainder = remainder_none }
