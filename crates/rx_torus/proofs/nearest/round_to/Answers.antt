use Rattle.std.proofs.Common.{arith, ◌-◌, ◌^◌, ◌*◌, ◌%◌}
use Rattle.std.proofs.lemmas.Nat.{one_shl}
use Rattle.rx_laws.proofs.Digits.{rounded_code}
use Rattle.rx_torus.proofs.nearest.round_to.Goals as goal

pub returns : goal.returns
returns c =
    rounded_code c.args.word c.args.bits (1 * 2 ^ (64 - c.args.bits) % 2 ^ 64) c.requires.high (omega (arith, c.ranges.word))
    (one_shl (64 - c.args.bits) 64 (omega (arith, c.requires.low)))
