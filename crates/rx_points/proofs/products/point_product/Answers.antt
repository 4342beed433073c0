use Rattle.std.proofs.Common.{ℕ, ℤ, ◌-◌, ◌*◌, List, length, arith}
use Rattle.rx_laws.specs.Words.{of_numbers}
use Rattle.rx_points.proofs.LimbProducts.{adds_point, limb_small, limb_wide}
use Rattle.rx_points.proofs.products.point_product.Goals as goal

pub returns-clause-product : goal.returns-clause-product
returns-clause-product c = λ v are.
    let n : ℕ = length c.args.digits.now in
    let xs : List ℤ = c.args.limbs.now in
    adds_point n c.args.rows (of_numbers c.args.digits.now) v xs n (2 * n - n) (3 * n - 2 * n) (4 * n - 3 * n) (5 * n - 4 * n) (6 * n - 5 * n)
    c.args.sums.now c.limb_product.new.sums c.limb_product-2.new.sums c.limb_product-3.new.sums c.limb_product-4.new.sums
    c.limb_product-5.new.sums c.limb_product-6.new.sums are c.requires.some c.requires.places
    (omega arith) (omega arith) (omega arith) (omega arith) (omega arith)
    (omega arith) (omega arith) (omega arith) (omega arith) (omega arith) (omega arith)
    (c.limb_product.ensures.small (limb_small n 0 0 n v xs are (omega arith) (omega arith) (omega arith)))
    (c.limb_product-2.ensures.small (limb_small n 1 n (2 * n - n) v xs are (omega arith) (omega arith) (omega arith)))
    (c.limb_product-3.ensures.small (limb_small n 2 (2 * n) (3 * n - 2 * n) v xs are (omega arith) (omega arith) (omega arith)))
    (c.limb_product-4.ensures.small (limb_small n 3 (3 * n) (4 * n - 3 * n) v xs are (omega arith) (omega arith) (omega arith)))
    (c.limb_product-5.ensures.wide (omega arith) (limb_wide n (4 * n) (5 * n - 4 * n) v xs are (omega arith) (omega arith)))
    (c.limb_product-6.ensures.high (omega arith))
