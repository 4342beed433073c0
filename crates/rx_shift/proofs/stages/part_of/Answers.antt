use Rattle.std.proofs.Common.{◌≤◌, ◌*◌, ◌%◌, ◌^◌, sym, ◌∙◌, ap, arith}
use Rattle.std.proofs.lemmas.Nat.{mul-le}
use Rattle.std.proofs.Math.Nat.{mod-eq_of_lt, pow-le-pow_right}
use Rattle.rx_shift.specs.Shifts.{part}
use Rattle.rx_shift.proofs.stages.part_of.Goals as goal

pub returns-in-Up : goal.returns-in-Up
returns-in-Up c =
    let b : 2 ^ c.args.bits ≤ 2 ^ 3 = pow-le-pow_right {n = 2} (omega arith) c.requires.bits in
    let m : c.args.block * 2 ^ c.args.bits ≤ 8 * 8 = mul-le c.args.block (2 ^ c.args.bits) 8 8 (omega arith) b in
    ap (λ x. x % c.args.unit) (mod-eq_of_lt (omega arith)) ∙ ap (λ d. part d c.args.unit c.args.bits c.args.block) (sym c.in-Up.is)
