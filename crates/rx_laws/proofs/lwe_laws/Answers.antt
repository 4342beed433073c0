use Rattle.rx_laws.proofs.Lwe.{lwe_phase-hiding, hiding_near}
use Rattle.rx_laws.proofs.lwe_laws.Goals as goal

pub returns : goal.returns
returns c = record { phase = lwe_phase-hiding; near = hiding_near }
