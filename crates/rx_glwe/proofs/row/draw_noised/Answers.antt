use Rattle.std.proofs.Common.{◌≡◌, ℕ, ℤ, pos, ◌+ℤ◌, ◌+◌, ◌%◌, ◌^◌, length, get_or, sym, ap, ◌∙◌, arith, refl}
use Rattle.std.proofs.Math.ListN.{set}
use Rattle.std.proofs.lemmas.Int.{to_z-of_z}
use Rattle.std.proofs.lemmas.List.Edits.{fill_by_more}
use Rattle.rx_laws.specs.Torus.{word}
use Rattle.rx_laws.specs.Words.{of_words}
use Rattle.rx_laws.proofs.Torus.{word-wrapping_add, word-cast}
use Rattle.rx_torus.specs.Streams.{draw, drawn_by, uniform}
use Rattle.rx_lwe.proofs.Draws.{after, after-none, after-some, after-more, draw-after}
use Rattle.rx_glwe.proofs.row.draw_noised.Goals as goal
use mir.Syntax.{w64}
use mir.Val.{SFits, to_z, of_z}

noised_word : (w : ℕ) (z noise : ℤ) → SFits w64 z → z ≡ noise →
    (w + of_z w64 (to_z w64 (of_z w64 z))) % 2 ^ 64 ≡ word (pos w +ℤ noise)
noised_word w z noise fits e =
    word-wrapping_add w (of_z w64 (to_z w64 (of_z w64 z))) (pos w) noise refl
    (ap (λ x. word (pos (of_z w64 x))) (to_z-of_z w64 z fits) ∙ word-cast z fits ∙ ap word e)

pub loop-i-init : goal.loop-i-init
loop-i-init c = record {
  noise = sym (after-none c.args.noise.now);
  noised = λ k p. absurd (omega arith);
}

pub loop-i-preserved : goal.loop-i-preserved
loop-i-preserved c =
    let i : ℕ = c.loop-i.i in
    let s = c.args.noise.now in
    let b : ℕ = c.args.bound in
    let f : ℕ → ℤ = λ k. of_words c.args.hidden.now k +ℤ uniform b (draw s k) in
    let z : c.tuniform.result ≡ uniform b (draw s i) =
    c.tuniform.ensures.number ∙ ap (λ t. uniform b (draw t 0)) c.loop-i.invariant.noise ∙ ap (uniform b) (draw-after i s) in
    let w : c.wrapping_add_signed.result ≡ word (f i) =
    c.wrapping_add_signed.ensures
    ∙ noised_word (get_or c.args.hidden.now i 0) c.tuniform.result (uniform b (draw s i)) (record { sfits = c.tuniform.type_inv }) z in
    record {
      noise = c.tuniform.ensures.after ∙ ap (drawn_by 1) c.loop-i.invariant.noise ∙ after-more i s;
      noised = λ k p.
          ap (λ x. get_or (set c.loop-i.body i x) k 0) w
          ∙ fill_by_more (λ k'. word (f k')) c.loop-i.body i 0 (omega arith) c.loop-i.invariant.noised k p;
    }

pub returns-clause-after : goal.returns-clause-after
returns-clause-after c =
    let s = c.args.noise.now in
    let e : c.loop-i.i ≡ length c.args.body.now = omega arith in
    c.loop-i.invariant.noise ∙ ap (λ n. after n s) e ∙ after-some (length c.args.body.now) s c.requires.some
