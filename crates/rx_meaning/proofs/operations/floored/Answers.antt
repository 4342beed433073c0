use Rattle.std.proofs.Common.{◌≡◌, ℕ, ◌^◌, ◌≤◌, min, ℤ, ◌∙◌, ap, arith}
use Rattle.std.specs.Int.{w128}
use Rattle.std.proofs.lemmas.Int.{to_z-of_z}
use lib.Signed.{shr_z, mag, mag_shr}
use mir.Val.{to_z, of_z, SFits}
use Rattle.rx_meaning.proofs.Shifts.{floor_far}
use Rattle.rx_meaning.proofs.operations.floored.Goals as goal

pub returns : goal.returns
returns c =
    let n : ℤ = c.args.number in
    let d : ℕ = 2 ^ min c.args.amount 64 in
    let z : to_z w128 (of_z w128 n) ≡ n = to_z-of_z w128 n c.ranges.number in
    let e : shr_z (to_z w128 (of_z w128 n)) (2 ^ c.min.result) ≡ shr_z n d = ap (λ (x : ℤ). shr_z x (2 ^ c.min.result)) z ∙ ap (λ k. shr_z n (2 ^ k)) c.min.ensures in
    let less : mag (shr_z n d) ≤ mag n = mag_shr n d in
    let fits : SFits w128 (shr_z n d) = record { sfits = omega (arith, less, c.ranges.number.sfits) } in
    ap (λ (x : ℤ). to_z w128 (of_z w128 x)) e ∙ to_z-of_z w128 (shr_z n d) fits ∙ floor_far n c.args.amount c.requires.low c.requires.high
