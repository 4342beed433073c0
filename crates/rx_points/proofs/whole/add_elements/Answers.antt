use Rattle.std.proofs.Common.{◌≡◌, ℕ, pos, ◌+ℤ◌, get_or, refl, ◌∙◌, ap, arith}
use Rattle.rx_laws.specs.Torus.{word}
use Rattle.rx_laws.specs.Words.{of_words}
use Rattle.rx_laws.proofs.Torus.{word-wrapping_add, word-word}
use Rattle.rx_points.proofs.LimbProducts.{each_written, set_above}
use Rattle.rx_points.proofs.whole.add_elements.Goals as goal

pub loop-i-init : goal.loop-i-init
loop-i-init c = record { written = λ f e k p. absurd (omega arith); left = λ k p. refl }

pub loop-i-preserved : goal.loop-i-preserved
loop-i-preserved c =
    let i : ℕ = c.loop-i.i in
    record {
      written = λ f e. each_written (λ k v. v ≡ word (of_words c.args.acc.now k +ℤ f k)) c.loop-i.acc i _ (omega arith) (c.loop-i.invariant.written f e)
          (word-wrapping_add (get_or c.loop-i.acc i 0) c.word_of.result (of_words c.args.acc.now i) (f i)
          (ap (λ x. word (pos x)) (c.loop-i.invariant.left i (omega arith)))
          (ap (λ x. word (pos x)) (c.word_of.ensures (f i) (c.closed_at-total.ensures ∙ e i (omega (arith, c.requires.words, c.loop-i.auto.acc)))) ∙ word-word (f i)));
      left = λ k p. set_above c.loop-i.acc i _ k (omega arith) ∙ c.loop-i.invariant.left k (omega arith);
    }

pub returns : goal.returns
returns c = λ f e i p. c.loop-i.invariant.written f e i (omega (arith, c.requires.words))
