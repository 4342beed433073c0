use Rattle.std.proofs.Common.{◌≡◌, ℕ, pos, ◌<◌, ◌^◌, length, get_or, sym, ap, ◌∙◌, arith}
use Rattle.std.proofs.Math.ListN.{set}
use Rattle.std.proofs.lemmas.List.Edits.{fill_by_more}
use Rattle.rx_laws.specs.Torus.{word}
use Rattle.rx_laws.proofs.Torus.{word_of_word}
use Rattle.rx_laws.proofs.Words.{are-words_below}
use Rattle.rx_torus.specs.Streams.{draw, drawn_by}
use Rattle.rx_lwe.proofs.Draws.{after, after-none, after-some, after-more, draw-after}
use Rattle.rx_lwe.proofs.seeded.draw_words.Goals as goal

pub loop-word-init : goal.loop-word-init
loop-word-init c = record {
  stream = sym (after-none c.args.stream.now);
  drawn = λ k p. absurd (omega arith);
}

pub loop-word-preserved : goal.loop-word-preserved
loop-word-preserved c =
    let i : ℕ = c.loop-word.word-index in
    let s = c.args.stream.now in
    let w : c.next_torus.result ≡ draw s i =
    c.next_torus.ensures.word ∙ ap (λ t. draw t 0) c.loop-word.invariant.stream ∙ draw-after i s in
    let fits : draw s i < 2 ^ 64 = omega (arith, w, c.next_torus.type_inv) in
    let kept : c.next_torus.result ≡ word (pos (draw s i)) = w ∙ sym (word_of_word (draw s i) fits) in
    record {
      stream = c.next_torus.ensures.after ∙ ap (drawn_by 1) c.loop-word.invariant.stream ∙ after-more i s;
      drawn = λ k p.
          ap (λ x. get_or (set c.loop-word.out i x) k 0) kept
          ∙ fill_by_more (λ k'. word (pos (draw s k'))) c.loop-word.out i 0 (omega arith) c.loop-word.invariant.drawn k p;
    }

pub returns-clause-drawn : goal.returns-clause-drawn
returns-clause-drawn c =
    let s = c.args.stream.now in
    are-words_below (length c.args.out.now) (λ i. pos (draw s i)) c.loop-word.out record {
      count = omega arith;
      each = λ k p. c.loop-word.invariant.drawn k (omega arith);
    }

pub returns-clause-after : goal.returns-clause-after
returns-clause-after c =
    let s = c.args.stream.now in
    let e : c.loop-word.word-index ≡ length c.args.out.now = omega arith in
    c.loop-word.invariant.stream ∙ ap (λ n. after n s) e ∙ after-some (length c.args.out.now) s c.requires.some
