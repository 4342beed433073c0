use Rattle.std.proofs.Common.{◌≡◌, ℕ, zero, suc, pos, ◌*ℤ◌, ◌<◌, ◌^◌, List, length, get_or, set, sym, ◌∙◌, ap, arith}
use Rattle.std.proofs.lemmas.Grind.{common_steps}
use Rattle.std.proofs.lemmas.Int.{ints}
use Rattle.std.proofs.Math.ListN.{length-set}
use Rattle.rx_laws.specs.Torus.{word}
use Rattle.rx_laws.proofs.Torus.{word_of_word}
use Rattle.rx_ring.specs.Polynomial.{unit_polynomial}
use Rattle.rx_boot.proofs.hidden.hide_number.Goals as goal

each : (weight : ℕ) (xs : List ℕ) → weight < 2 ^ 64 → 0 < length xs → ((k : ℕ) → k < length xs → get_or xs k 0 ≡ 0) →
    (i : ℕ) → i < length xs → get_or (set xs 0 weight) i 0 ≡ word (pos weight *ℤ unit_polynomial i)
each weight xs fits some none zero p =
    let first : get_or (set xs 0 weight) 0 0 ≡ weight = grind (arith, common_steps) in
    first ∙ sym (word_of_word weight fits) ∙ ap word (omega (arith, ints))
each weight xs fits some none (suc i) p =
    let other : get_or (set xs 0 weight) (suc i) 0 ≡ get_or xs (suc i) 0 = grind (arith, common_steps) in
    other ∙ none (suc i) p ∙ sym (word_of_word 0 (omega arith)) ∙ ap word (omega (arith, ints))

pub returns : goal.returns
returns c =
    let same : length c.clear.new.words ≡ length c.args.hidden.now = c.clear.auto.words in
    record {
      count = simp (length-set {A = ℕ}) same;
      each = λ i p. each c.args.weight c.clear.new.words c.ranges.weight.fits (omega arith) c.clear.ensures i (omega arith);
    }
