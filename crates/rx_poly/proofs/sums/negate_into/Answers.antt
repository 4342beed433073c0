use Rattle.std.proofs.Common.{◌≡◌, ℕ, neg_ℤ, ◌-◌, ◌%◌, ◌^◌, List, length, get_or, refl, ◌∙◌, arith}
use Rattle.rx_laws.specs.Words.{of_words}
use Rattle.rx_laws.proofs.Torus.{word-wrapping_neg}
use Rattle.rx_poly.proofs.Vectors.{word_written, all_written}
use Rattle.rx_poly.proofs.sums.negate_into.Goals as goal

pub loop-i-preserved : goal.loop-i-preserved
loop-i-preserved c =
    let i : ℕ = c.loop-i.i in
    let old : List ℕ = c.args.out.now in
    let ys : List ℕ = c.args.words.now in
    word_written i (c.wrapping_neg.result) (λ k. neg_ℤ (of_words ys k)) old c.loop-i.out (omega arith) c.loop-i.invariant
    (let r : c.wrapping_neg.result ≡ (2 ^ 64 - get_or ys i 0) % 2 ^ 64 = omega (arith, c.wrapping_neg.ensures, c.wrapping_neg.type_inv) in
    r ∙ word-wrapping_neg (get_or ys i 0) (of_words ys i) (omega (arith, c.type_inv.words i)) refl)

pub returns : goal.returns
returns c =
    let n : ℕ = length c.args.out.now in
    all_written n c.loop-i.i n (λ k. neg_ℤ (of_words c.args.words.now k)) c.args.out.now c.loop-i.out
    (omega arith) (omega arith) refl c.loop-i.invariant
