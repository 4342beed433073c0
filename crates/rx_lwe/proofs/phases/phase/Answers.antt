use Rattle.std.proofs.Common.{◌≡◌, ℕ, pos, ◌≤◌, length, get_or, sym, ap, ◌∙◌, arith, refl}
use Rattle.std.proofs.Math.Nat.{mul-le-mul_right}
use Rattle.rx_laws.specs.Torus.{word}
use Rattle.rx_laws.specs.Words.{of_words}
use Rattle.rx_laws.proofs.Lwe.{lwe_phase_is}
use Rattle.rx_lwe.proofs.Bodies.{phase_to, phase_to-start, phase_to-more}
use Rattle.rx_lwe.proofs.phases.phase.Goals as goal

pub loop-i-init : goal.loop-i-init
loop-i-init c =
    let n : ℕ = length c.args.key.now in
    ap (λ d. get_or c.args.words.now d 0) (ap length c.bits-bits.ensures.value)
    ∙ phase_to-start (of_words c.args.key.now) (of_words c.args.words.now) (get_or c.args.words.now n 0) (c.type_inv.words n).fits

pub loop-i-preserved : goal.loop-i-preserved
loop-i-preserved c =
    let i : ℕ = c.loop-i.i in
    let key = c.args.key.now in
    let words = c.args.words.now in
    let bit : get_or c.bits-bits.result.now i 0 ≤ 1 = omega (arith, c.bits-bits.ensures.binary i c.loop-i-test.true) in
    phase_to-more i (of_words key) (of_words words) (of_words words (length key)) c.loop-i.phase
    (get_or c.bits-bits.result.now i 0) (get_or words i 0) c.loop-i.invariant
    (ap (λ xs. pos (get_or xs i 0)) (sym c.bits-bits.ensures.value)) refl
    (omega (arith, mul-le-mul_right (get_or words i 0) bit, (c.type_inv.words i).fits))

pub returns : goal.returns
returns c =
    let key = c.args.key.now in
    let words = c.args.words.now in
    let e : c.loop-i.i ≡ length key = omega (arith, ap length c.bits-bits.ensures.value) in
    c.loop-i.invariant
    ∙ ap (λ n. word (phase_to n (of_words key) (of_words words) (of_words words (length key)))) e
    ∙ ap word (sym (lwe_phase_is (length key) (of_words key) (of_words words)))
