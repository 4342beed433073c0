use Rattle.std.proofs.Common.{◌≡◌, rules, ℕ, ℤ, List, pos, ◌-ℤ◌, ◌*ℤ◌, ◌+◌, length, get_or, ap, subst, arith}
use Rattle.rx_laws.specs.Words.{of_words, of_numbers, AreWords}
use Rattle.rx_lwe.specs.SwitchKeys.{switch_rows}
use Rattle.rx_lwe.proofs.Switched.{less, less-start, less-step, AreWords-self, digit-subtracted, opposite-is}
use mir.Syntax.{w64}
use mir.Val.{SFits, of_z, to_z}
use Rattle.rx_lwe.proofs.switch.SwitchKey.subtract_rows.Goals as goal

pub loop-t-init : goal.loop-t-init
loop-t-init c =
    let key = c.args.self.now in
    let n : ℕ = key.small + 1 in
    less-start n (of_words c.args.out.now) (λ t i. of_numbers c.args.digits.now t *ℤ switch_rows key c.args.u t i) c.args.out.now
    (AreWords-self n c.args.out.now c.requires.size (λ i. (c.type_inv.out i).fits))

pub loop-t-preserved : goal.loop-t-preserved
loop-t-preserved c =
    let key = c.args.self.now in
    let t : ℕ = c.loop-t.t in
    let d : ℤ = get_or c.args.digits.now t (pos 0) in
    let fits : SFits w64 d = search rules in
    let z : ℤ = to_z w64 (of_z w64 (pos 0 -ℤ to_z w64 (of_z w64 d))) in
    let row : List ℕ = c.row.result.now in
    let count : length c.loop-t.out ≡ key.small + 1 = c.loop-t.invariant.count in
    less-step (key.small + 1) t (of_words c.args.out.now) (λ i. d *ℤ of_words row i)
    (λ t i. of_numbers c.args.digits.now t *ℤ switch_rows key c.args.u t i) c.loop-t.out c.add_scaled.new.acc c.loop-t.invariant
    (λ i p. ap (λ x. d *ℤ x) (c.row.ensures.numbers i p))
    (digit-subtracted (key.small + 1) d z c.loop-t.out c.add_scaled.new.acc row
    (opposite-is d fits (c.requires.low t c.loop-t-test.true)) count c.add_scaled.ensures)

pub returns : goal.returns
returns c =
    let key = c.args.self.now in
    let e : c.loop-t.t ≡ key.levels = omega (arith, c.requires.levels) in
    subst (λ (m : ℕ). AreWords (key.small + 1) (less m (of_words c.args.out.now) (λ t i. of_numbers c.args.digits.now t *ℤ switch_rows key c.args.u t i)) c.loop-t.out) e
    c.loop-t.invariant
