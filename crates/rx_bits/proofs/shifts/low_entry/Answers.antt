use Rattle.std.proofs.Common.{◌<◌, ◌≤◌, ◌*◌, ◌%◌, ◌^◌, ℕ, ap, arith}
use Rattle.std.proofs.lemmas.Nat.{mul-le, mod_below}
use Rattle.std.proofs.Math.Nat.{mod-eq_of_lt, pow-le-pow_right}
use Rattle.rx_bits.proofs.shifts.low_entry.Goals as goal

pub returns : goal.returns
returns c =
    let x : ℕ = c.args.i % c.args.unit in
    let l : c.args.bits ≤ 2 = omega arith in
    let p : 2 ^ c.args.bits ≤ 2 ^ 2 = pow-le-pow_right {n = 2} (omega arith) l in
    let b : x < c.args.unit = mod_below c.args.i c.args.unit c.requires.some in
    let m : x * 2 ^ c.args.bits ≤ 8 * 4 = mul-le x (2 ^ c.args.bits) 8 4 (omega arith) p in
    let s : x * 2 ^ c.args.bits < 256 = omega arith in
    ap (λ y. y % c.args.unit) (mod-eq_of_lt s)
