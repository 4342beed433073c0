use Rattle.std.proofs.Common.{◌^◌, sym, ◌∙◌, ap, arith}
use Rattle.rx_boot.proofs.MarkPowers.{power_is}
use Rattle.rx_boot.proofs.marks.log_size.Goals as goal

pub returns-clause-value : goal.returns-clause-value
returns-clause-value c =
    let size = c.requires.poly_size in
    ap (λ k. 2 ^ k) (power_is c.ilog2.result size.0 (omega (arith, c.ilog2.ensures.power_le, size.2)) (omega (arith, c.ilog2.ensures.next_power_gt, size.2)))
    ∙ sym size.2

pub returns-clause-low : goal.returns-clause-low
returns-clause-low c =
    let size = c.requires.poly_size in
    omega (arith, power_is c.ilog2.result size.0 (omega (arith, c.ilog2.ensures.power_le, size.2)) (omega (arith, c.ilog2.ensures.next_power_gt, size.2)), size.1)

pub returns-clause-high : goal.returns-clause-high
returns-clause-high c =
    let size = c.requires.poly_size in
    omega (arith, power_is c.ilog2.result size.0 (omega (arith, c.ilog2.ensures.power_le, size.2)) (omega (arith, c.ilog2.ensures.next_power_gt, size.2)), size.1)
