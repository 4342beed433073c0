use Rattle.std.proofs.Common.{◌≡◌, ◌≤◌, ◌-◌, ◌*◌, ◌^◌, ◌∙◌, arith}
use Rattle.std.proofs.lemmas.Nat.{pow-add}
use Rattle.std.proofs.Math.Nat.{mul-le-mul}
use Rattle.rx_params.specs.Derived.{switch_of, large_dim}
use Rattle.rx_params.proofs.Sizes.{large_dim-high}
use Rattle.rx_params.proofs.bounds.switch.Goals as goal

pub returns-clause-value : goal.returns-clause-value
unfolding switch_of large_dim
returns-clause-value c =
    let e : c.two_to-product.result ≡ 2 ^ (c.args.p.now.ks_base_log - 1) * 2 ^ c.args.p.now.lwe_bound =
    c.two_to-product.ensures.value ∙ pow-add 2 (c.args.p.now.ks_base_log - 1) c.args.p.now.lwe_bound in
    rw (c.two_to-rest.ensures.value, c.from-words.ensures, c.large_dim.ensures.value, c.from-products.ensures, e) (omega arith)

pub returns-clause-bound : goal.returns-clause-bound
returns-clause-bound c =
    let products : c.args.p.now.glwe_dim * c.args.p.now.poly_size * c.args.p.now.ks_level ≤ 2 ^ 14 * 30 =
    mul-le-mul (large_dim-high c.args.p.now c.requires) c.requires.ks_level.0.1 in
    let products_is : c.from-products.result ≤ 2 ^ 14 * 30 = omega (arith, c.from-products.ensures) in
    let words : c.from-words.result ≤ 2 ^ 14 = omega (arith, c.from-words.ensures, c.large_dim.ensures.high) in
    let rests : c.from-words.result * c.two_to-rest.result ≤ 2 ^ 14 * 2 ^ 63 = mul-le-mul words c.two_to-rest.ensures.bound in
    let sums : c.from-products.result * c.two_to-product.result ≤ 2 ^ 14 * 30 * 2 ^ 63 = mul-le-mul products_is c.two_to-product.ensures.bound in
    omega arith
