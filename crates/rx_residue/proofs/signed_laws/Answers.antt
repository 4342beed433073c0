use Rattle.rx_residue.proofs.Turns.{residue_signed, signed_low, signed_high, signed_residue}
use Rattle.rx_residue.proofs.signed_laws.Goals as goal

pub returns : goal.returns
returns c = record { residue_is = residue_signed; low = signed_low; high = signed_high; signed_is = signed_residue }
