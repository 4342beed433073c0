use Rattle.std.proofs.Common.{ℕ, pos, ◌+ℤ◌, ◌-◌, List, length, take, drop, ap, ◌∙◌, arith}
use Rattle.std.proofs.lemmas.List.{get_or-take}
use Rattle.rx_laws.specs.Torus.{word}
use Rattle.rx_laws.specs.Words.{of_words}
use Rattle.rx_ring.proofs.Parts.{part_read}
use Rattle.rx_poly.proofs.plain.sum_halves.Goals as goal

pub returns : goal.returns
returns c =
    let h : ℕ = length c.args.out.now in
    let a : List ℕ = c.args.a.now in
    record {
      count = omega arith;
      each = λ i p.
          c.sum_vectors.ensures.written i (omega arith)
          ∙ ap (λ x. word (pos x +ℤ of_words (take (length a - h) (drop h a)) i)) (get_or-take h a i 0 p)
          ∙ ap (λ x. word (of_words a i +ℤ pos x)) (part_read h (length a - h) i a (omega arith));
    }
