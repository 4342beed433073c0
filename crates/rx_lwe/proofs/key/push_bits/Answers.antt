use Rattle.std.proofs.Common.{◌≡◌, ℕ, ◌<◌, ◌%◌, ◌^◌, ap, ◌∙◌, arith}
use Rattle.rx_torus.specs.Streams.{draw, drawn_by, stream_of}
use Rattle.rx_torus.specs.Kinds.{stream_number}
use Rattle.rx_lwe.proofs.Draws.{drawn_by-more, draw-new}
use Rattle.rx_lwe.proofs.Keys.{stream_bit, row-more}
use Rattle.rx_lwe.proofs.key.push_bits.Goals as goal

pub loop-preserved : goal.loop-preserved
loop-preserved c =
    let n : ℕ = c.loop.counter in
    let seed = c.args.seed.now in
    let number : ℕ = stream_number c.args.kind c.args.row in
    let fits : n < 2 ^ 67 = omega (arith, c.loop-test.true, c.ranges.count.fits) in
    let bit : c.next_bit.result ≡ stream_bit seed number n =
    c.next_bit.ensures.bit ∙ ap (λ s. draw s 0 % 2) c.loop.invariant.stream ∙ ap (λ w. w % 2) (draw-new seed number n fits) in
    record {
      stream = c.next_bit.ensures.after ∙ ap (drawn_by 1) c.loop.invariant.stream ∙ drawn_by-more n (stream_of seed number);
      bits = c.in_ok-push.ensures.items ∙ row-more (stream_bit seed number) c.args.bits.now.items c.loop.bits.items n c.next_bit.result c.loop.invariant.bits bit;
    }
