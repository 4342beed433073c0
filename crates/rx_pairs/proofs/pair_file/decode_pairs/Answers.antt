use Rattle.std.proofs.Common.{arith}
use Rattle.rx_pairs.proofs.PairFiles.{pair_found, pair_only}
use Rattle.rx_pairs.proofs.pair_file.decode_pairs.Goals as goal

pub returns-clause-found : goal.returns-clause-found
returns-clause-found c = pair_found c.args.bytes.now c.read_pairs.result (λ i. omega (arith, c.type_inv.bytes i)) c.read_pairs.ensures.exact

pub returns-clause-only : goal.returns-clause-only
returns-clause-only c = λ key file. pair_only c.args.bytes.now c.read_pairs.result key c.read_pairs.ensures.exact file
