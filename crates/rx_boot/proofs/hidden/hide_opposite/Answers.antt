use Rattle.std.proofs.Common.{◌≡◌, ℕ, ℤ, pos, ◌*ℤ◌, ◌-◌, ◌*◌, ◌<◌, ◌%◌, ◌^◌, get_or, ap, ◌∙◌, arith, refl}
use Rattle.rx_laws.specs.Torus.{word}
use Rattle.rx_laws.specs.Words.{of_words}
use Rattle.rx_laws.proofs.Torus.{word-word, word-lt, word-wrapping_mul, word-wrapping_neg}
use Rattle.rx_ring.proofs.Writes.{written_more}
use Rattle.rx_boot.proofs.hidden.hide_opposite.Goals as goal
use lib.IntN.{neg_ℤ}

pub loop-i-preserved : goal.loop-i-preserved
loop-i-preserved c =
    let i : ℕ = c.loop-i.i in
    let bit : ℕ = get_or c.args.polynomial.now i 0 in
    let weighted : ℕ = c.args.weight * bit % 2 ^ 64 in
    let z : ℤ = pos c.args.weight *ℤ pos bit in
    let e : weighted ≡ word z = word-wrapping_mul c.args.weight bit (pos c.args.weight) (pos bit) refl refl in
    let fits : weighted < 2 ^ 64 = omega (arith, e, word-lt z) in
    let turned : c.wrapping_neg.result ≡ (2 ^ 64 - weighted) % 2 ^ 64 = omega (arith, c.wrapping_neg.ensures, c.wrapping_neg.type_inv, fits) in
    written_more c.loop-i.hidden i c.wrapping_neg.result (λ k. word (neg_ℤ (pos c.args.weight *ℤ of_words c.args.polynomial.now k)))
    (omega arith) c.loop-i.invariant
    (turned ∙ word-wrapping_neg weighted z fits (ap (λ k. word (pos k)) e ∙ word-word z))
