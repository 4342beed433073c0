use Rattle.std.proofs.Common.{sym}
use Rattle.rx_block.proofs.FreshBlocks.{fresh-is}
use Rattle.rx_block.proofs.fresh.fresh_words_into.Goals as goal

pub returns : goal.returns
returns c =
    sym (fresh-is c.args.p.now c.args.key.now c.args.mask_seed.now c.args.noise_seed.now c.args.number c.args.kind c.args.value
    c.encrypt_into.new.out c.new-mask.result c.new-noise.result c.stream_number.result c.stream_number-2.result
    c.unit.result c.from.result c.greatest.result c.encrypt_into.ensures.words c.new-mask.ensures c.stream_number.ensures
    c.new-noise.ensures c.stream_number-2.ensures c.unit.ensures c.from.ensures c.greatest.ensures)
