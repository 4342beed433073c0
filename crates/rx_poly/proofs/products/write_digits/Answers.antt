use Rattle.std.proofs.Common.{rules, ℕ, sym, ◌∙◌, arith}
use Rattle.rx_laws.specs.Torus.{word}
use Rattle.rx_laws.specs.Words.{of_numbers}
use Rattle.rx_laws.proofs.Torus.{word_of_word}
use Rattle.rx_ring.proofs.Writes.{written_more}
use Rattle.rx_poly.proofs.Convolutions.{word-cast_unsigned}
use Rattle.rx_poly.proofs.products.write_digits.Goals as goal

pub loop-i-preserved : goal.loop-i-preserved
loop-i-preserved c =
    let i : ℕ = c.loop-i.i in
    let w : ℕ = c.cast_unsigned.result in
    written_more c.loop-i.out i w (λ k. word (of_numbers c.args.small.now k)) (omega arith) c.loop-i.invariant
    (sym (word_of_word w (omega (arith, c.cast_unsigned.type_inv)))
    ∙ word-cast_unsigned w (of_numbers c.args.small.now i) (search rules) c.cast_unsigned.ensures)
