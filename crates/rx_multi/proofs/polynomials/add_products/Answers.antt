use Rattle.std.proofs.Common.{◌≡◌, ℕ, ℤ, ◌+◌, ◌-◌, ◌*◌, List, length, refl, ◌∙◌, ap, arith}
use Rattle.rx_laws.specs.Torus.{word}
use Rattle.rx_laws.specs.Words.{of_words}
use Rattle.rx_ring.specs.Parts.{of_parts}
use Rattle.rx_ring.specs.Pairs.{pair_amount}
use Rattle.rx_ring.specs.Rotation.{turned_away}
use Rattle.rx_boot.proofs.Turning.{part_away}
use Rattle.rx_multi.proofs.ChosenParts.{sum_none, sum_more, part_ends}
use Rattle.rx_multi.proofs.polynomials.add_products.Goals as goal

pub loop-e-init : goal.loop-e-init
loop-e-init c =
    let n : ℕ = length c.args.out.now in
    sum_none n (λ e x. turned_away n (pair_amount n e c.args.amounts.now.first c.args.amounts.now.second) (of_parts n c.args.products.now) (e * c.args.parts + c.args.place) x)
    c.args.out.now refl (λ i. (c.type_inv.out i).fits)

pub slice_bounds-turn_away_into-end : goal.slice_bounds-turn_away_into-end
slice_bounds-turn_away_into-end c =
    let room = part_ends c.loop-e.e c.args.parts c.args.place (length c.args.out.now) (omega arith) c.requires.place_in in
    omega (arith, room, c.requires.products_size)

pub loop-e-preserved : goal.loop-e-preserved
loop-e-preserved c =
    let n : ℕ = length c.args.out.now in
    let e : ℕ = c.loop-e.e in
    let part : ℕ = e * c.args.parts + c.args.place in
    let a1 : ℕ = c.args.amounts.now.first in
    let a2 : ℕ = c.args.amounts.now.second in
    let products : List ℕ = c.args.products.now in
    let g : ℕ → ℕ → ℤ = λ e x. turned_away n (pair_amount n e a1 a2) (of_parts n products) (e * c.args.parts + c.args.place) x in
    let size : length c.loop-e.out ≡ n = c.loop-e.auto.out in
    let also : length c.loop-e.room ≡ n = c.loop-e.auto.room ∙ c.requires.room_size in
    sum_more n (length c.loop-e.out) e (of_words c.args.out.now) g c.loop-e.out c.turn_away_into.new.out c.add_assign.new.acc size c.loop-e.invariant
    (λ x q.
    part_away n part ((part + 1) * n - part * n) (length c.loop-e.room) c.of_product-amount.result products c.turn_away_into.new.out
    (omega arith) also (omega (arith, c.of_product-amount.ensures.bound)) c.turn_away_into.ensures x q
    ∙ ap (λ a. word (turned_away n a (of_parts n products) part x)) c.of_product-amount.ensures.value)
    c.add_assign.ensures
