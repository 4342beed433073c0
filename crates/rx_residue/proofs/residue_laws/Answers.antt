use Rattle.rx_residue.proofs.Turns.{residue_below, residue_same, residue_turned}
use Rattle.rx_residue.proofs.residue_laws.Goals as goal

pub returns : goal.returns
returns c = record { below = residue_below; same = residue_same; turned = residue_turned }
