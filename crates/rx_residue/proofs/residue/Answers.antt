use Rattle.std.proofs.Common.{◌≡◌, ℕ, ◌*◌, ◌%◌, ◌^◌, ◌<◌, ◌≤◌, ℤ, pos, sym, ◌∙◌, ap, arith}
use Rattle.std.specs.Int.{w128, int_rem_euclid}
use Rattle.std.specs.Int.RustNames.{unsigned_abs}
use Rattle.std.proofs.lemmas.Int.{to_z-of_z, to_z_pos}
use Rattle.std.proofs.lemmas.Nat.{one_shl}
use Rattle.std.proofs.Math.Nat.{pow-le-pow_right}
use mir.Val.{to_z, of_z, SFits}
use Rattle.rx_residue.proofs.Turns.{residue_rem}
use Rattle.rx_residue.proofs.residue.Goals as goal

pub returns-clause-value : goal.returns-clause-value
returns-clause-value c =
    let w : ℕ = c.args.width in
    let p : 2 ^ w ≤ 2 ^ 64 = pow-le-pow_right {n = 2} (omega arith) c.requires in
    let b : 2 ^ w < 2 ^ 127 = omega arith in
    let one : (1 * 2 ^ w) % 2 ^ 128 ≡ 2 ^ w = one_shl w 128 (omega arith) in
    let turn : to_z w128 ((1 * 2 ^ w) % 2 ^ 128) ≡ pos (2 ^ w) = ap (to_z w128) one ∙ to_z_pos w128 (2 ^ w) b in
    let z : to_z w128 (of_z w128 c.args.number) ≡ c.args.number = to_z-of_z w128 c.args.number c.ranges.number in
    let fits : SFits w128 c.rem_euclid.result = record { sfits = c.rem_euclid.type_inv } in
    let r : to_z w128 (of_z w128 c.rem_euclid.result) ≡ c.rem_euclid.result = to_z-of_z w128 c.rem_euclid.result fits in
    let e : to_z w128 (of_z w128 c.rem_euclid.result) ≡ int_rem_euclid c.args.number (pos (2 ^ w)) =
    r ∙ c.rem_euclid.ensures.value ∙ ap (λ (x : ℤ). int_rem_euclid x (to_z w128 ((1 * 2 ^ w) % 2 ^ 128))) z ∙ ap (int_rem_euclid c.args.number) turn
    in
    ap unsigned_abs (e ∙ sym (residue_rem w c.args.number))
