use Rattle.std.proofs.Common.{arith, ◌≤◌, ◌^◌}
use Rattle.std.proofs.Math.Pow.{pow_mono}
use Rattle.rx_torus.proofs.stream.two_to.Goals as goal

pub returns-clause-bound : goal.returns-clause-bound
returns-clause-bound c =
    let below : 2 ^ c.args.b ≤ 2 ^ 42 = pow_mono c.requires in
    omega (arith, below)
