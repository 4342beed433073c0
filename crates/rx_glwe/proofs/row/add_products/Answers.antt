use Rattle.std.proofs.Common.{◌≡◌, ℕ, ◌+ℤ◌, ◌+◌, ◌-◌, ◌*◌, length, List, arith, take, drop, subst, refl}
use Rattle.rx_laws.specs.Words.{of_words, AreWords}
use Rattle.rx_ring.specs.Polynomial.{product}
use Rattle.rx_ring.proofs.Parts.{part_read}
use Rattle.rx_glwe.proofs.MaskProducts.{products_none, products_more}
use Rattle.rx_glwe.proofs.row.add_products.Goals as goal

pub loop-j-init : goal.loop-j-init
loop-j-init c =
    products_none (length c.args.body.now) c.args.bits.now c.args.masks.now c.args.body.now refl (λ i. (c.type_inv.body i).fits)

pub loop-j-preserved : goal.loop-j-preserved
loop-j-preserved c =
    let n : ℕ = length c.args.body.now in
    let j : ℕ = c.loop-j.j in
    let k : ℕ = (j + 1) * n - j * n in
    let w : k ≡ n = omega arith in
    let old : List ℕ = c.loop-j.body in
    let new : List ℕ = c.binary_product_add.new.acc in
    let part : List ℕ = take k (drop (j * n) c.args.bits.now) in
    let mask : List ℕ = take k (drop (j * n) c.args.masks.now) in
    let l : length old ≡ n = c.loop-j.auto.body in
    let added : AreWords n (λ i. of_words old i +ℤ product n (of_words part) (of_words mask) i) new =
    subst (λ (m : ℕ). AreWords m (λ i. of_words old i +ℤ product m (of_words part) (of_words mask) i) new) l
    c.binary_product_add.ensures.added in
    products_more n j c.args.bits.now c.args.masks.now part mask c.args.body.now old new
    (λ x q. part_read (j * n) k x c.args.bits.now (omega arith))
    (λ x q. part_read (j * n) k x c.args.masks.now (omega arith))
    c.loop-j.invariant added
