use Rattle.std.proofs.Common.{◌≡◌, ◌*◌, ◌/◌, length, ◌∙◌, arith}
use Rattle.rx_ring.proofs.Writes.{written_more}
use Rattle.rx_multi.proofs.PairProducts.{product_at, pair_bits-all}
use Rattle.rx_multi.proofs.bits.write_products.Goals as goal

pub loop-place-preserved : goal.loop-place-preserved
loop-place-preserved c =
    written_more c.loop-place.out c.loop-place.place c.pair_bit.result (product_at c.args.bits.now) (omega arith) c.loop-place.invariant c.pair_bit.ensures

pub returns : goal.returns
returns c =
    let size : length c.loop-place.out ≡ 3 * (length c.args.bits.now / 2) = c.loop-place.auto.out ∙ c.requires.size in
    pair_bits-all c.args.bits.now c.loop-place.out size (λ k q. c.loop-place.invariant k (omega arith))
