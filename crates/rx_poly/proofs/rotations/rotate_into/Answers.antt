use Rattle.std.proofs.Common.{ℕ, ℤ, length, ap, sym, ◌∙◌, arith}
use Rattle.rx_laws.specs.Torus.{word}
use Rattle.rx_laws.specs.Words.{of_words}
use Rattle.rx_ring.proofs.Rotation.{rotated_low, rotated_high}
use Rattle.rx_poly.proofs.rotations.rotate_into.Goals as goal

pub returns-then-amount-n : goal.returns-then-amount-n
returns-then-amount-n c =
    let n : ℕ = length c.args.out.now in
    let b : ℕ → ℤ = of_words c.args.poly.now in
    record {
      count = c.turn_into.ensures.count;
      each = λ i p. c.turn_into.ensures.each i p ∙ ap word (sym (rotated_low n b c.args.amount i c.if-amount-n.true));
    }

pub returns-else-amount-n : goal.returns-else-amount-n
returns-else-amount-n c =
    let n : ℕ = length c.args.out.now in
    let b : ℕ → ℤ = of_words c.args.poly.now in
    record {
      count = c.turn_back_into.ensures.count;
      each = λ i p. c.turn_back_into.ensures.each i p ∙ ap word (sym (rotated_high n b c.args.amount i (omega (arith, c.if-amount-n.false))));
    }
