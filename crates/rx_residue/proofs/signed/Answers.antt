use Rattle.std.proofs.Common.{◌≡◌, ℕ, ◌-◌, ◌*◌, ◌%◌, ◌^◌, ◌<◌, ◌≤◌, pos, ◌-ℤ◌, arith}
use Rattle.std.proofs.lemmas.Int.{ints}
use Rattle.std.proofs.lemmas.Nat.{one_shl}
use Rattle.std.proofs.Math.Nat.{pow-le-pow_right}
use Rattle.rx_residue.specs.Residues.{signed}
use Rattle.rx_residue.proofs.Turns.{signed_small, signed_big}
use Rattle.rx_residue.proofs.signed.Goals as goal

pub returns-then-number-width-clause-value : goal.returns-then-number-width-clause-value
returns-then-number-width-clause-value c =
    let w : ℕ = c.args.width in
    let one : (1 * 2 ^ (w - 1)) % 2 ^ 64 ≡ 2 ^ (w - 1) = one_shl (w - 1) 64 (omega arith) in
    let low : c.args.number < 2 ^ (w - 1) = omega arith in
    let e : signed w c.args.number ≡ pos c.args.number = signed_small w c.args.number low in
    omega (arith, ints)

pub returns-else-number-width-clause-value : goal.returns-else-number-width-clause-value
returns-else-number-width-clause-value c =
    let w : ℕ = c.args.width in
    let one : (1 * 2 ^ (w - 1)) % 2 ^ 64 ≡ 2 ^ (w - 1) = one_shl (w - 1) 64 (omega arith) in
    let turn : (1 * 2 ^ w) % 2 ^ 128 ≡ 2 ^ w = one_shl w 128 (omega arith) in
    let p : 2 ^ w ≤ 2 ^ 64 = pow-le-pow_right {n = 2} (omega arith) c.requires.few in
    let high : 2 ^ (w - 1) ≤ c.args.number = omega arith in
    let e : signed w c.args.number ≡ pos c.args.number -ℤ pos (2 ^ w) = signed_big w c.args.number high in
    omega (arith, ints)
