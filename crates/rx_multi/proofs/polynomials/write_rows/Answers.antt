use Rattle.std.proofs.Common.{◌≡◌, ℕ, ◌+◌, ◌-◌, ◌*◌, ◌≤◌, List, length, take, drop, refl, ◌∙◌, arith}
use Rattle.std.proofs.Math.Nat.{mul-le-mul_right}
use Rattle.std.proofs.lemmas.List.{length-take, length-drop}
use Rattle.rx_laws.specs.Torus.{word}
use Rattle.rx_ring.proofs.Parts.{parts_more}
use Rattle.rx_params.proofs.Sizes.{poly_size-high}
use Rattle.rx_multi.specs.Turns.{row_parts, chosen_part}
use Rattle.rx_multi.proofs.ChosenParts.{part_made}
use Rattle.rx_multi.proofs.polynomials.write_rows.Goals as goal

pub loop-place-preserved : goal.loop-place-preserved
loop-place-preserved c =
    let p = c.args.p.now in
    let n : ℕ = p.poly_size in
    let u : ℕ = c.loop-place.place in
    let k : ℕ = (u + 1) * n - u * n in
    let xs : List ℕ = c.loop-place.rows in
    let ys : List ℕ = c.add_products.new.out in
    let old : List ℕ = take k (drop (u * n) xs) in
    let w : k ≡ n = omega arith in
    let room : (u + 1) * n ≤ row_parts p * n = mul-le-mul_right n (omega (arith, c.loop-place-test.true)) in
    let size : length xs ≡ row_parts p * n = omega (arith, c.loop-place.auto.rows, c.requires.size) in
    let part : length old ≡ n = omega (arith, length-take k (drop (u * n) xs), length-drop (u * n) xs) in
    let laid : length c.hide_number.new.hidden ≡ n = c.hide_number.auto.hidden ∙ part in
    parts_more n k u xs ys (λ u x. word (chosen_part p c.args.products.now c.args.amounts.now.first c.args.amounts.now.second u x)) (omega arith)
    (c.add_products.ensures.count ∙ laid) c.loop-place.invariant
    (part_made p c.args.products.now c.hide_number.new.hidden ys c.args.amounts.now.first c.args.amounts.now.second u (length c.hide_number.new.hidden)
    (length old) (row_parts p) c.one_at.result laid part refl c.one_at.ensures c.hide_number.ensures c.add_products.ensures)

pub returns : goal.returns
returns c = record {
  count_is = c.loop-place.auto.rows ∙ c.requires.size ∙ omega arith;
  each = λ u x q r. c.loop-place.invariant u x (omega (arith, c.loop-place-test.false)) r;
}

pub slice_bounds-polynomial-end : goal.slice_bounds-polynomial-end
slice_bounds-polynomial-end c =
    let p = c.args.p.now in
    let n : ℕ = p.poly_size in
    let u : ℕ = c.loop-place.place in
    let room : (u + 1) * n ≤ row_parts p * n = mul-le-mul_right n (omega (arith, c.loop-place-test.true)) in
    let size : length c.loop-place.rows ≡ row_parts p * n = omega (arith, c.loop-place.auto.rows, c.requires.size) in
    omega (arith, room, size)

pub add_products-requires-clause-few : goal.add_products-requires-clause-few
add_products-requires-clause-few c =
    let p = c.args.p.now in
    let n : ℕ = p.poly_size in
    let u : ℕ = c.loop-place.place in
    let k : ℕ = (u + 1) * n - u * n in
    let w : k ≡ n = omega arith in
    omega (arith, c.hide_number.auto.hidden, length-take k (drop (u * n) c.loop-place.rows), poly_size-high p c.requires.fields)
