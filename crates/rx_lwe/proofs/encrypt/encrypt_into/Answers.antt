use Rattle.std.proofs.Common.{◌≡◌, ℕ, pos, ◌<◌, ◌^◌, length, get_or, sym, ap, ◌∙◌, arith}
use Rattle.std.proofs.Math.ListN.{set}
use Rattle.std.proofs.lemmas.List.Edits.{fill_by_more}
use Rattle.rx_laws.specs.Torus.{word}
use Rattle.rx_laws.specs.Words.{of_words}
use Rattle.rx_laws.proofs.Torus.{word_of_word}
use Rattle.rx_torus.specs.Streams.{draw, drawn_by, uniform}
use Rattle.rx_lwe.proofs.Draws.{after, after-none, after-some, after-more, draw-after}
use Rattle.rx_lwe.proofs.Bodies.{body_to, body_to-signed, body_to-more}
use Rattle.rx_lwe.proofs.Encrypted.{encrypted-set}
use Rattle.rx_lwe.proofs.encrypt.encrypt_into.Goals as goal

pub loop-i-init : goal.loop-i-init
loop-i-init c = record {
  mask = sym (after-none c.args.mask.now);
  written = λ k p. absurd (omega arith);
  body = c.wrapping_add_signed-body.ensures
      ∙ body_to-signed (of_words c.args.key.now) (λ j. pos (draw c.args.mask.now j)) c.args.message c.tuniform.result
      (uniform c.args.bound (draw c.args.noise.now 0)) (record { sfits = c.tuniform.type_inv }) c.tuniform.ensures.number;
}

pub loop-i-preserved : goal.loop-i-preserved
loop-i-preserved c =
    let i : ℕ = c.loop-i.i in
    let s = c.args.mask.now in
    let w : c.next_torus-word.result ≡ draw s i =
    c.next_torus-word.ensures.word ∙ ap (λ t. draw t 0) c.loop-i.invariant.mask ∙ draw-after i s in
    let fits : draw s i < 2 ^ 64 = omega (arith, w, c.next_torus-word.type_inv) in
    let kept : c.next_torus-word.result ≡ word (pos (draw s i)) = w ∙ sym (word_of_word (draw s i) fits) in
    record {
      mask = c.next_torus-word.ensures.after ∙ ap (drawn_by 1) c.loop-i.invariant.mask ∙ after-more i s;
      written = λ k p.
          ap (λ x. get_or (set c.loop-i.out i x) k 0) kept
          ∙ fill_by_more (λ k'. word (pos (draw s k'))) c.loop-i.out i 0
          (omega (arith, c.loop-i-test.true, c.loop-i.auto.out, c.requires.room, ap length c.bits-bits.ensures.value)) c.loop-i.invariant.written k p;
      body = body_to-more i (of_words c.args.key.now) (λ j. pos (draw s j)) (pos c.args.message)
          (uniform c.args.bound (draw c.args.noise.now 0)) c.loop-i.body (get_or c.bits-bits.result.now i 0)
          c.next_torus-word.result c.loop-i.invariant.body
          (ap (λ xs. pos (get_or xs i 0)) (sym c.bits-bits.ensures.value)) (ap pos (sym w));
    }

pub returns-clause-words : goal.returns-clause-words
returns-clause-words c =
    let n : ℕ = length c.bits-bits.result.now in
    let d : n ≡ length c.args.key.now = ap length c.bits-bits.ensures.value in
    let e : c.loop-i.i ≡ n = omega arith in
    encrypted-set c.args.key.now c.args.mask.now c.args.noise.now c.args.bound c.args.message c.loop-i.body n c.loop-i.out d
    (omega (arith, c.loop-i.auto.out, c.requires.room)) (λ k p. c.loop-i.invariant.written k (omega arith))
    (c.loop-i.invariant.body
    ∙ ap (λ m. word (body_to m (of_words c.args.key.now) (λ j. pos (draw c.args.mask.now j)) (pos c.args.message) (uniform c.args.bound (draw c.args.noise.now 0)))) e)

pub returns-clause-mask_after : goal.returns-clause-mask_after
returns-clause-mask_after c =
    let e : c.loop-i.i ≡ length c.args.key.now = omega (arith, ap length c.bits-bits.ensures.value) in
    c.loop-i.invariant.mask
    ∙ ap (λ n. after n c.args.mask.now) e
    ∙ after-some (length c.args.key.now) c.args.mask.now (omega (arith, c.bits-bits.ensures.some, ap length c.bits-bits.ensures.value))
