use Rattle.std.proofs.Common.{[], refl, ◌∙◌}
use Rattle.std.proofs.lemmas.Result.{err_from_is_err_and}
use Rattle.rx_codec.specs.CipherFile.{block_at, blocks_at}
use Rattle.rx_codec.proofs.Loops.{goes_on, stops}
use Rattle.rx_codec.proofs.cipher.read_blocks.Goals as goal

pub returns-in_err-block-clause-value : goal.returns-in_err-block-clause-value
returns-in_err-block-clause-value c =
    let p = err_from_is_err_and c.from_residual.result c.from_residual.ensures.1 in
    let params = c.args.params.now in
    let file = c.loop.reader.file in
    rw (p.1, p.2) (stops (λ n before at. blocks_at c.args.size params c.args.kind n before file at) (λ before at. block_at c.args.size params c.args.kind file at) (λ n before at. refl)
    c.in_err-block.field-0.0 c.args.count c.loop.counter c.loop.blocks.items c.loop.reader.at
    (blocks_at c.args.size params c.args.kind c.args.count [] c.args.reader.now.file c.args.reader.now.at)
    c.loop-test.true c.in_err-block.ensures.value c.loop.invariant.rest)

pub loop-preserved : goal.loop-preserved
loop-preserved c =
    let params = c.args.params.now in
    let file = c.loop.reader.file in
    record {
      file = c.in_ok-block.ensures.file ∙ c.loop.invariant.file;
      rest = rw (c.in_ok-push.ensures.items, c.in_ok-block.ensures.file)
          (goes_on (λ n before at. blocks_at c.args.size params c.args.kind n before file at) (λ before at. block_at c.args.size params c.args.kind file at) (λ n before at. refl)
          c.args.count c.loop.counter c.loop.blocks.items c.loop.reader.at c.in_ok-block.block c.read_block.new.reader.at
          (blocks_at c.args.size params c.args.kind c.args.count [] c.args.reader.now.file c.args.reader.now.at)
          c.loop-test.true c.in_ok-block.ensures.value c.loop.invariant.rest);
    }
