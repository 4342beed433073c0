use Rattle.std.proofs.Common.{◌≡◌, ◌*◌, ◌%◌, ◌^◌, ap, arith}
use Rattle.std.proofs.lemmas.Nat.{one_shl}
use Rattle.rx_residue.specs.Residues.{residue}
use Rattle.rx_meaning.proofs.operations.reduced.Goals as goal

pub returns : goal.returns
unfolding residue
returns c = let e : (1 * 2 ^ c.args.width) % 2 ^ 128 ≡ 2 ^ c.args.width = one_shl c.args.width 128 (omega arith) in ap (λ d. c.args.number % d) e
