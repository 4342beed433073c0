use Rattle.std.proofs.Common.{ℕ, ◌-ℤ◌, ◌+◌, ◌-◌, ◌%◌, ◌^◌, List, length, get_or, ap, refl, ◌∙◌, arith}
use Rattle.rx_laws.specs.Words.{of_words}
use Rattle.rx_poly.proofs.Words.{word-wrapping_sub}
use Rattle.rx_poly.proofs.Vectors.{word_written, all_written}
use Rattle.rx_poly.proofs.sums.subtract_assign.Goals as goal

pub loop-i-preserved : goal.loop-i-preserved
loop-i-preserved c =
    let i : ℕ = c.loop-i.i in
    let old : List ℕ = c.args.acc.now in
    let ys : List ℕ = c.args.other.now in
    word_written i ((get_or c.loop-i.acc i 0 + (2 ^ 64 - get_or ys i 0)) % 2 ^ 64) (λ k. of_words old k -ℤ of_words ys k) old c.loop-i.acc (omega arith) c.loop-i.invariant
    (ap (λ x. (x + (2 ^ 64 - get_or ys i 0)) % 2 ^ 64) (c.loop-i.invariant.left i (omega arith))
    ∙ word-wrapping_sub (get_or old i 0) (get_or ys i 0) (of_words old i) (omega (arith, c.type_inv.other i)) refl)

pub returns : goal.returns
returns c =
    let n : ℕ = length c.args.acc.now in
    all_written n c.loop-i.i n (λ k. of_words c.args.acc.now k -ℤ of_words c.args.other.now k) c.args.acc.now c.loop-i.acc
    (omega arith) (omega arith) refl c.loop-i.invariant
