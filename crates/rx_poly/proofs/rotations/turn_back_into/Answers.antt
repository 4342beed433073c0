use Rattle.std.proofs.Common.{◌≡◌, ℕ, ℤ, pos, neg_ℤ, ◌+◌, ◌-◌, List, length, get_or, ap, sym, ◌∙◌, arith}
use Rattle.std.proofs.lemmas.List.{get_or-take}
use Rattle.rx_laws.specs.Torus.{word}
use Rattle.rx_laws.specs.Words.{of_words}
use Rattle.rx_laws.proofs.Torus.{word_of_word}
use Rattle.rx_ring.specs.Polynomial.{turned}
use Rattle.rx_ring.proofs.Parts.{part_read}
use Rattle.rx_ring.proofs.Polynomial.{turned_low, turned_high}
use Rattle.rx_poly.proofs.Halves.{two_parts}
use Rattle.std.proofs.lemmas.Int.{ints}
use Rattle.rx_poly.proofs.rotations.turn_back_into.Goals as goal

twice_turned : (x : ℤ) → x ≡ neg_ℤ (neg_ℤ x)
twice_turned x = omega (arith, ints)

pub returns : goal.returns
returns c =
    let n : ℕ = length c.args.out.now in
    let t : ℕ = c.args.turn in
    let bs : List ℕ = c.args.poly.now in
    let b : ℕ → ℤ = of_words bs in
    let kept : ℕ = length bs - t in
    two_parts n t (λ i. neg_ℤ (turned n b t i)) c.copy_from_slice.new.self c.negate_into.new.out c.requires.turn_in (omega arith) (omega arith)
    (λ j r.
    let place : kept + j ≡ j + n - t = omega arith in
    ap (λ xs. get_or xs j 0) c.copy_from_slice.ensures.after
    ∙ part_read kept (length bs - kept) j bs (omega arith)
    ∙ sym (word_of_word (get_or bs (kept + j) 0) (omega (arith, c.type_inv.poly (kept + j))))
    ∙ ap (λ x. word (b x)) place
    ∙ ap word (twice_turned (b (j + n - t)) ∙ ap neg_ℤ (sym (turned_high n b t j r))))
    (λ j r.
    let place : j ≡ t + j - t = omega arith in
    c.negate_into.ensures.each j (omega arith)
    ∙ ap (λ x. word (neg_ℤ (pos x))) (get_or-take kept bs j 0 (omega arith))
    ∙ ap (λ x. word (neg_ℤ (b x))) place ∙ ap (λ x. word (neg_ℤ x)) (sym (turned_low n b t (t + j) (omega arith))))
