use Rattle.std.proofs.Common.{◌≡◌, ℕ, ◌*◌, ◌<◌, ◌+ℤ◌, pos, length, List, subst, arith}
use Rattle.std.proofs.lemmas.Nat.{pow_pos}
use Rattle.rx_laws.specs.Words.{of_words, AreWords}
use Rattle.rx_torus.specs.Streams.{draw, uniform}
use Rattle.rx_glwe.proofs.MaskProducts.{products_added}
use Rattle.rx_glwe.proofs.Rows.{glwe_row-append}
use Rattle.rx_glwe.proofs.row.encrypt_row_into.Goals as goal

pub returns-clause-row : goal.returns-clause-row
returns-clause-row c =
    let p = c.args.p.now in
    let n : ℕ = p.poly_size in
    let k : ℕ = p.glwe_dim in
    let masks : List ℕ = c.draw_masks.new.masks in
    let first : List ℕ = c.draw_noised.new.body in
    let body : List ℕ = c.add_products.new.body in
    let some : 0 < n = omega (arith, pow_pos c.requires.fields.poly_size.0, c.requires.fields.poly_size.2) in
    let front : length c.split_at_mut-masks.result.0.now ≡ k * n = omega (arith, c.split_at_mut-masks.ensures.front_len) in
    let back : length c.split_at_mut-masks.result.1.now ≡ n = omega (arith, c.split_at_mut-masks.ensures.back_len, c.requires.room) in
    let drawn : AreWords (k * n) (λ u. pos (draw c.args.mask.now u)) masks =
    subst (λ (m : ℕ). AreWords m (λ u. pos (draw c.args.mask.now u)) masks) front c.draw_masks.ensures.drawn in
    let noised : AreWords n (λ i. of_words c.args.hidden.now i +ℤ uniform p.glwe_bound (draw c.args.noise.now i)) first =
    subst (λ (m : ℕ). AreWords m (λ i. of_words c.args.hidden.now i +ℤ uniform p.glwe_bound (draw c.args.noise.now i)) first) back
    c.draw_noised.ensures.noised in
    let added : AreWords n (products_added n c.args.key.now masks first k) body =
    subst (λ (m : ℕ). AreWords m (products_added m c.args.key.now masks first k) body) noised.count
    (subst (λ (key : List ℕ). AreWords (length first) (products_added (length first) key masks first k) body) c.bits.ensures.value
    c.add_products.ensures) in
    glwe_row-append p c.args.key.now masks first body c.args.mask.now c.args.noise.now (of_words c.args.hidden.now) some drawn noised added
