use Rattle.std.proofs.Common.{◌≡◌, ℕ, ◌+◌, ◌*◌, ◌≤◌, arith}
use Rattle.std.proofs.Math.Nat.{mul-le-mul}
use Rattle.std.proofs.Math.Pow.{pow_mono}
use Rattle.rx_tests_noise.proofs.extremes.row_size.Goals as goal

pub returns-clause-bound : goal.returns-clause-bound
returns-clause-bound c =
    let size = c.requires.poly_size in
    let low : c.args.p.now.poly_size ≤ 4096 = omega (arith, pow_mono size.1.1, size.2) in
    let dim : c.args.p.now.glwe_dim + 1 ≤ 5 = omega (arith, c.requires.glwe_dim.1) in
    mul-le-mul dim low
