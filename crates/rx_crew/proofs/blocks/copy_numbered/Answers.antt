use Rattle.std.proofs.Common.{◌≡◌, ℕ, ◌<◌, List, length, get_or, sym, ◌∙◌, ap, arith}
use Rattle.rx_block.specs.declared.block.Block.{Block}
use Rattle.rx_block.specs.Combine.{no_block}
use Rattle.rx_block.proofs.Tagged.{block-read}
use Rattle.rx_crew.proofs.Placed.{are-set, numbered-more, words-more, words-all}
use Rattle.std.proofs.lemmas.List.Elements.{All-from_recursion}
use Rattle.rx_crew.proofs.blocks.copy_numbered.Goals as goal

pub loop-place-preserved : goal.loop-place-preserved
loop-place-preserved c =
    let from : List Block = c.args.from.now in
    let i : ℕ = c.loop-place.place in
    let number : ℕ = get_or c.args.numbers.now i 0 in
    let here : i < length c.args.numbers.now = omega (arith, c.loop-place-test.true) in
    let there : number < length from = All-from_recursion (λ k. k < length from) c.args.numbers.now c.requires.there i 0 here in
    let room : i < length c.loop-place.to = omega (arith, c.loop-place.auto.to, c.requires.count) in
    let read : c.copy_block.new.to ≡ get_or from number no_block =
    c.copy_block.ensures.copied ∙ sym (block-read from number c.index-from-number.result c.index-from-number.is there) in
    record {
      copied = numbered-more from c.loop-place.to c.args.numbers.now i c.copy_block.new.to here room read c.loop-place.invariant.copied;
      sizes = are-set c.args.p.now c.loop-place.to i c.copy_block.new.to c.loop-place.invariant.sizes
          (ap (λ (b : Block). length b.words) read ∙ c.requires.sizes number there);
      words = words-more c.loop-place.to i c.copy_block.new.to room c.loop-place.invariant.words c.copy_block.ensures.words;
    }

pub returns-clause-words : goal.returns-clause-words
returns-clause-words c =
    words-all c.loop-place.to c.loop-place.place (omega (arith, c.loop-place-test.false, c.loop-place.auto.to, c.requires.count)) c.loop-place.invariant.words
