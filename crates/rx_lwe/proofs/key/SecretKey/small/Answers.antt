use Rattle.std.proofs.Common.{rules, ◌≡◌, ap, ◌∙◌, length, arith}
use Rattle.rx_lwe.specs.Secret.{small_key}
use Rattle.rx_lwe.proofs.Keys.{small_key-is, small_key-length, small_key-bits}
use Rattle.rx_lwe.proofs.key.SecretKey.small.Goals as goal

bits-key : (c : goal.In_ok-push_bits) → c.push_bits.new.bits.items ≡ small_key c.args.p.now c.args.seed.now
bits-key c = small_key-is c.args.p.now c.args.seed.now c.new-bits.result.items c.push_bits.new.bits.items (search rules) c.in_ok-push_bits.ensures

pub returns-clause-key : goal.returns-clause-key
returns-clause-key c = bits-key c

pub returns-clause-size : goal.returns-clause-size
returns-clause-size c = ap length (bits-key c) ∙ small_key-length c.args.p.now c.args.seed.now

pub invariant_of-result : goal.invariant_of-result
invariant_of-result c =
    let count : length c.push_bits.new.bits.items ≡ c.args.p.now.lwe_dim =
    ap length (bits-key c) ∙ small_key-length c.args.p.now c.args.seed.now in (
      omega (arith, count, c.requires.lwe_dim.0),
      small_key-bits c.args.p.now c.args.seed.now c.push_bits.new.bits.items (bits-key c),
    )
