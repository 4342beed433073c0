use Rattle.std.proofs.Common.{rules, ◌≡◌, ℤ, ◌+◌, ◌<◌, ℕ, List, length, get_or, sym, ◌∙◌, ap, refl, to_z, of_z, arith}
use Rattle.std.proofs.lemmas.Int.{to_z-of_z}
use Rattle.rx_net.specs.declared.term.Term.{Term}
use Rattle.rx_block.specs.declared.block.Block.{Block}
use Rattle.rx_block.specs.Combine.{no_block, no_term, degree_in, noise_in}
use Rattle.rx_block.proofs.Tagged.{block-read, low-more, high-more, noise-more}
use mir.Syntax.{w8}
use mir.Val.{SFits}
use Rattle.rx_block.proofs.sums.tag_sums.Goals as goal

pub loop-term-preserved : goal.loop-term-preserved
loop-term-preserved c =
    let blocks : List Block = c.args.blocks.now in
    let terms : List Term = c.args.terms.now in
    let i : ℕ = c.loop-term.term-index in
    let t : Term = get_or terms i no_term in
    let b : Block = c.index-blocks-term.result in
    let p : i < length terms = c.loop-term-test.true in
    let fits : SFits w8 t.weight = search rules in
    let w : ℤ = to_z w8 (of_z w8 t.weight) in
    let same : w ≡ t.weight = to_z-of_z w8 t.weight fits in
    let read : get_or blocks t.cell no_block ≡ b = block-read blocks t.cell b c.index-blocks-term.is (c.requires.cells i p) in
    let degree : b.degree ≡ degree_in blocks t.cell = sym (ap (λ (x : Block). x.degree) read) in
    let noise : b.noise ≡ noise_in blocks t.cell = sym (ap (λ (x : Block). x.noise) read) in
    let noises : c.with-sums.result.noise + _ ≡ c.loop-term.sums.noise + _ =
    noise-more (noise_in blocks) terms i b.noise c.loop-term.sums.noise c.with-sums.result.noise w t p refl same noise c.with-sums.ensures.noise in
    record {
      low = low-more (degree_in blocks) terms i b.degree c.loop-term.sums.low c.with-sums.result.low w t p refl same degree c.with-sums.ensures.low
          ∙ c.loop-term.invariant.low;
      high = high-more (degree_in blocks) terms i b.degree c.loop-term.sums.high c.with-sums.result.high w t p refl same degree c.with-sums.ensures.high
          ∙ c.loop-term.invariant.high;
      noise = noises ∙ c.loop-term.invariant.noise;
      low_size = omega arith;
      high_size = omega arith;
      noise_size = omega arith;
    }
