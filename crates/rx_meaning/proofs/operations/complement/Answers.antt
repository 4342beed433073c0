use Rattle.std.proofs.Common.{◌-◌, ap, arith}
use Rattle.rx_meaning.proofs.operations.complement.Goals as goal

pub overflow_sub-result : goal.overflow_sub-result
overflow_sub-result c = omega (arith, c.all_ones.ensures, c.requires.below)

pub returns : goal.returns
returns c = ap (λ k. k - c.args.a.value) c.all_ones.ensures
