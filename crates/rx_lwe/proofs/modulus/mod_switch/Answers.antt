use Rattle.rx_lwe.proofs.Marks.{mark_code}
use Rattle.rx_lwe.proofs.modulus.mod_switch.Goals as goal

pub returns-clause-value : goal.returns-clause-value
returns-clause-value c = mark_code c.args.word c.args.log_n c.div_ceil.result c.requires.high c.div_ceil.ensures
