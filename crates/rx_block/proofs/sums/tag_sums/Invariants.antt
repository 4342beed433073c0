use Rattle.std.proofs.Common.{◌≡◌, ◌+◌, ◌*◌, ◌^◌, ◌≤◌, drop}
use Rattle.std.specs.Int.RustNames.{unsigned_abs}
use Rattle.rx_net.specs.Tags.{low_of, high_of, noise_of}
use Rattle.rx_block.specs.Combine.{degree_in, noise_in}
use Rattle.rx_block.proofs.sums.tag_sums.Given as goal

abbrev pub invariant-loop-term : goal.invariant-loop-term
invariant-loop-term l = record {
  low : low_of (degree_in l.blocks) l.sums.low (drop l.term-index l.terms) ≡ low_of (degree_in l.blocks) l.constant l.terms;
  high : high_of (degree_in l.blocks) l.sums.high (drop l.term-index l.terms) ≡ high_of (degree_in l.blocks) l.constant l.terms;
  noise : l.sums.noise + noise_of (noise_in l.blocks) (drop l.term-index l.terms) ≡ noise_of (noise_in l.blocks) l.terms;
  low_size : unsigned_abs l.sums.low ≤ 2 ^ 15 + l.term-index * 2 ^ 15;
  high_size : unsigned_abs l.sums.high ≤ 2 ^ 15 + l.term-index * 2 ^ 15;
  noise_size : l.sums.noise ≤ l.term-index * 2 ^ 15;
}
