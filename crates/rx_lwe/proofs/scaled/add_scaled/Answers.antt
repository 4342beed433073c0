use Rattle.std.proofs.Common.{rules, ◌≡◌, ℕ, ℤ, pos, ◌+ℤ◌, ◌*ℤ◌, ◌*◌, ◌%◌, ◌^◌, get_or, ap, sym, ◌∙◌, arith, refl}
use Rattle.std.proofs.lemmas.Int.{to_z-of_z}
use Rattle.rx_laws.specs.Torus.{word}
use Rattle.rx_laws.specs.Words.{of_words}
use Rattle.rx_laws.proofs.Torus.{word-word, word-cast, word-wrapping_add, word-wrapping_mul}
use Rattle.rx_ring.proofs.Writes.{written_more, unwritten_less}
use mir.Syntax.{w64}
use mir.Val.{SFits, of_z, to_z}
use Rattle.rx_lwe.proofs.scaled.add_scaled.Goals as goal

pub loop-i-preserved : goal.loop-i-preserved
loop-i-preserved c =
    let i : ℕ = c.loop-i.i in
    let z : ℤ = to_z w64 (of_z w64 c.args.weight) in
    let old : ℕ = get_or c.loop-i.acc i 0 in
    let other : ℕ = get_or c.args.words.now i 0 in
    let fits : SFits w64 c.args.weight = search rules in
    let factor : word (pos c.cast_unsigned-factor.result) ≡ word z =
    ap (λ k. word (pos k)) (c.cast_unsigned-factor.ensures ∙ ap (of_z w64) (to_z-of_z w64 c.args.weight fits))
    ∙ word-cast c.args.weight fits ∙ ap word (sym (to_z-of_z w64 c.args.weight fits)) in
    let product : word (pos (c.cast_unsigned-factor.result * other % 2 ^ 64)) ≡ word (z *ℤ pos other) =
    ap (λ k. word (pos k)) (word-wrapping_mul c.cast_unsigned-factor.result other z (pos other) factor refl) ∙ word-word (z *ℤ pos other) in
    let same : old ≡ get_or c.args.acc.now i 0 = c.loop-i.invariant.unwritten i (omega arith) in
    record {
      written = written_more c.loop-i.acc i _ (λ k. word (of_words c.args.acc.now k +ℤ z *ℤ of_words c.args.words.now k)) (omega arith) c.loop-i.invariant.written
          (word-wrapping_add old (c.cast_unsigned-factor.result * other % 2 ^ 64) (of_words c.args.acc.now i) (z *ℤ pos other)
          (ap (λ k. word (pos k)) same) product);
      unwritten = unwritten_less c.loop-i.acc c.args.acc.now i _ c.loop-i.invariant.unwritten;
    }
