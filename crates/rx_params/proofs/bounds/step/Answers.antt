use Rattle.std.proofs.Common.{◌≡◌, ◌≤◌, ◌+◌, ◌-◌, ◌*◌, ◌^◌, ◌∙◌, arith}
use Rattle.std.proofs.lemmas.Nat.{pow-add}
use Rattle.std.proofs.Math.Nat.{mul-le-mul}
use Rattle.rx_params.specs.Derived.{rest_of, large_dim}
use Rattle.rx_params.proofs.Rotations.{step_by-with}
use Rattle.rx_params.proofs.Sizes.{poly_size-high}
use Rattle.rx_params.proofs.bounds.step.Goals as goal

pub returns-clause-value : goal.returns-clause-value
unfolding rest_of large_dim
returns-clause-value c =
    let e : c.two_to-product.result ≡ 2 ^ (c.args.p.now.pbs_base_log - 1) * 2 ^ c.args.p.now.glwe_bound =
    c.two_to-product.ensures.value ∙ pow-add 2 (c.args.p.now.pbs_base_log - 1) c.args.p.now.glwe_bound in
    rw (c.two_to-rest.ensures.value, c.from-words.ensures, c.large_dim.ensures.value, c.from-products.ensures, c.from.ensures, c.noise_count.ensures.value, step_by-with c.args.rotation c.args.p.now, e) (omega arith)

pub returns-clause-bound : goal.returns-clause-bound
returns-clause-bound c =
    let dim : c.args.p.now.glwe_dim + 1 ≤ 5 = omega (arith, c.requires.glwe_dim) in
    let products : (c.args.p.now.glwe_dim + 1) * c.args.p.now.pbs_level * c.args.p.now.poly_size ≤ 5 * 30 * 4096 =
    mul-le-mul (mul-le-mul dim c.requires.pbs_level.0.1) (poly_size-high c.args.p.now c.requires) in
    let products_is : c.from-products.result ≤ 5 * 30 * 4096 = omega (arith, c.from-products.ensures) in
    let words : c.from-words.result ≤ 1 + 2 ^ 14 = omega (arith, c.from-words.ensures, c.large_dim.ensures.high) in
    let rests : c.two_to-rest.result * c.from-words.result ≤ 2 ^ 63 * (1 + 2 ^ 14) = mul-le-mul c.two_to-rest.ensures.bound words in
    let six : c.from.result ≤ 6 = omega (arith, c.from.ensures, c.noise_count.ensures.few) in
    let noise : c.from.result * c.two_to-product.result ≤ 6 * 2 ^ 63 =
    mul-le-mul six c.two_to-product.ensures.bound in
    let sums : c.from-products.result * (c.from.result * c.two_to-product.result) ≤ 5 * 30 * 4096 * (6 * 2 ^ 63) = mul-le-mul products_is noise in
    omega arith
