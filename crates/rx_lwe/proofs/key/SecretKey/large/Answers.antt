use Rattle.std.proofs.Common.{◌≡◌, ℕ, ◌+◌, List, length, sym, ap, ◌∙◌, arith, subst}
use Rattle.rx_params.specs.Derived.{large_dim}
use Rattle.rx_lwe.specs.Secret.{large_key, key_bit}
use Rattle.rx_lwe.proofs.Keys.{HasRows, HasRows-more, HasRows-bits, large_dim-some, large_key-is, large_key-length}
use Rattle.rx_lwe.proofs.key.SecretKey.large.Goals as goal

pub loop-row-preserved : goal.loop-row-preserved
loop-row-preserved c =
    let n : ℕ = c.args.p.now.poly_size in
    let seed : List ℕ = c.args.seed.now in
    let P : List ℕ → Type 0 = λ xs. HasRows n (c.loop-row.row + 1) (key_bit seed) xs in
    subst P (sym c.in_ok-push_bits.ensures)
    (HasRows-more n c.loop-row.row (key_bit seed) c.loop-row.bits.items c.loop-row.invariant)

pub returns-clause-key : goal.returns-clause-key
returns-clause-key c =
    large_key-is c.args.p.now c.args.seed.now c.loop-row.bits.items c.loop-row.row (omega arith) c.loop-row.invariant

pub returns-clause-size : goal.returns-clause-size
returns-clause-size c =
    let key : c.loop-row.bits.items ≡ large_key c.args.p.now c.args.seed.now =
    large_key-is c.args.p.now c.args.seed.now c.loop-row.bits.items c.loop-row.row (omega arith) c.loop-row.invariant in
    ap length key ∙ large_key-length c.args.p.now c.args.seed.now

pub invariant_of-result : goal.invariant_of-result
invariant_of-result c =
    let key : c.loop-row.bits.items ≡ large_key c.args.p.now c.args.seed.now =
    large_key-is c.args.p.now c.args.seed.now c.loop-row.bits.items c.loop-row.row (omega arith) c.loop-row.invariant in
    let count : length c.loop-row.bits.items ≡ large_dim c.args.p.now = ap length key ∙ large_key-length c.args.p.now c.args.seed.now in (
      omega (arith, count, large_dim-some c.args.p.now c.requires),
      HasRows-bits c.args.p.now.poly_size c.loop-row.row c.args.seed.now c.loop-row.bits.items c.loop-row.invariant,
    )
