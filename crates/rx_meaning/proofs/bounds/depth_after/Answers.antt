use Rattle.std.proofs.Common.{◌^◌, ◌≤◌, arith}
use Rattle.rx_meaning.specs.Bounds.{greatest_at}
use Rattle.rx_meaning.proofs.Sums.{greatest_below}
use Rattle.rx_meaning.proofs.bounds.depth_after.Goals as goal

pub overflow_add-result : goal.overflow_add-result
overflow_add-result c =
    let below : greatest_at c.args.before.now c.as_slice.result.now ≤ 2 ^ 30 = greatest_below c.args.before.now (2 ^ 30) c.requires.below c.as_slice.result.now in
    omega (arith, c.greatest_at.ensures, c.requires.shallow)
