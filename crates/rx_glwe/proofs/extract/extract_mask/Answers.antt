use Rattle.std.proofs.Common.{◌≡◌, ℕ, ◌+◌, ◌-◌, ◌<◌, ◌^◌, ◌%◌, length, get_or, sym, ap, ◌∙◌, arith, refl}
use Rattle.std.proofs.Math.ListN.{length-set}
use Rattle.rx_laws.specs.Torus.{word}
use Rattle.rx_laws.specs.Words.{of_words}
use Rattle.rx_laws.proofs.Torus.{word_of_word, word-wrapping_neg}
use Rattle.rx_ring.specs.Polynomial.{turned}
use Rattle.rx_ring.proofs.Polynomial.{turned_none, turned_high}
use Rattle.rx_ring.proofs.Writes.{written_more}
use Rattle.rx_glwe.proofs.extract.extract_mask.Goals as goal
use lib.IntN.{neg_ℤ}

pub loop-i-init : goal.loop-i-init
loop-i-init c =
    let b = c.args.mask.now in
    let n : ℕ = length b in
    let f : ℕ → ℕ = λ k. word (turned n (of_words b) k 0) in
    let e : get_or b 0 0 ≡ f 0 =
    sym (word_of_word (get_or b 0 0) (c.type_inv.mask 0).fits) ∙ ap word (sym (turned_none n (of_words b) 0)) in
    written_more c.args.out.now 0 (get_or b 0 0) f (omega (arith, c.requires.some, c.requires.same)) (λ k p. absurd (omega arith)) e

pub loop-i-preserved : goal.loop-i-preserved
loop-i-preserved c =
    let b = c.args.mask.now in
    let n : ℕ = length b in
    let i : ℕ = c.loop-i.i in
    let k : ℕ = n - i in
    let f : ℕ → ℕ = λ k. word (turned n (of_words b) k 0) in
    let fits : get_or b k 0 < 2 ^ 64 = (c.type_inv.mask k).fits in
    let r : c.wrapping_neg.result ≡ (2 ^ 64 - get_or b k 0) % 2 ^ 64 = omega (arith, c.wrapping_neg.ensures, c.wrapping_neg.type_inv) in
    let place : k ≡ 0 + n - i = omega arith in
    let e : c.wrapping_neg.result ≡ f i =
    r ∙ word-wrapping_neg (get_or b k 0) (of_words b k) fits refl
    ∙ ap (λ m. word (neg_ℤ (of_words b m))) place
    ∙ ap word (sym (turned_high n (of_words b) i 0 (omega arith))) in
    written_more c.loop-i.out i c.wrapping_neg.result f (omega (arith, length-set {A = ℕ})) c.loop-i.invariant e
