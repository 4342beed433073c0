use Rattle.std.proofs.Common.{◌≡◌, ◌≤◌, ◌<◌, ◌+◌, ◌-◌, ◌*◌, ◌^◌, ℕ, get_or, arith, ap}
use Rattle.std.proofs.lemmas.Nat.{pow_pos}
use Rattle.std.proofs.lemmas.Result.{IfOk-weaker}
use Rattle.rx_net.specs.Cells.{cell_count, degree, noise}
use Rattle.rx_plan.specs.Tables.{entries}
use Rattle.rx_plan.specs.Planned.{IsCell}
use Rattle.rx_plan.proofs.PerBlock.{entries_big, table_is, one_block}
use Rattle.rx_div.proofs.QuotientDigits.{digit_three, three_each, seven}
use Rattle.rx_div.proofs.digits.three_bits.Goals as goal

pub sum-requires-clause-there : goal.sum-requires-clause-there
sum-requires-clause-there c =
    let p = c.args.pen.now in
    three_each c.args.borrows.now c.args.low (λ x. x < cell_count p) c.requires.inside c.requires.enough (λ i q. (c.requires.bits i q).there)

pub sum-requires-clause-range : goal.sum-requires-clause-range
sum-requires-clause-range c =
    let p = c.args.pen.now in
    let low : ℕ = c.args.low in
    let x : ℕ = get_or c.args.borrows.now low 0 in
    let y : ℕ = get_or c.args.borrows.now (low - 1) 0 in
    let z : ℕ = get_or c.args.borrows.now (low - 2) 0 in
    let kx : IsCell p 1 x = c.requires.bits low c.requires.inside in
    let ky : IsCell p 1 y = c.requires.bits (low - 1) (omega (arith, c.requires.inside)) in
    let kz : IsCell p 1 z = c.requires.bits (low - 2) (omega (arith, c.requires.inside)) in
    let big : 16 ≤ entries p.space = entries_big p.space (omega (arith, c.requires.space)) in
    omega (arith, seven (degree p) x y z, kx.degree_in, ky.degree_in, kz.degree_in)

pub sum-requires-clause-noises : goal.sum-requires-clause-noises
sum-requires-clause-noises c =
    let p = c.args.pen.now in
    let low : ℕ = c.args.low in
    let x : ℕ = get_or c.args.borrows.now low 0 in
    let y : ℕ = get_or c.args.borrows.now (low - 1) 0 in
    let z : ℕ = get_or c.args.borrows.now (low - 2) 0 in
    let kx : IsCell p 1 x = c.requires.bits low c.requires.inside in
    let ky : IsCell p 1 y = c.requires.bits (low - 1) (omega (arith, c.requires.inside)) in
    let kz : IsCell p 1 z = c.requires.bits (low - 2) (omega (arith, c.requires.inside)) in
    let u : 2 ^ p.space ≡ 8 = ap (λ s. 2 ^ s) c.requires.space in
    omega (arith, seven (noise p) x y z, kx.noise_is, ky.noise_is, kz.noise_is)

pub sum-requires-clause-table : goal.sum-requires-clause-table
sum-requires-clause-table c =
    let p = c.args.pen.now in
    let u : ℕ = 2 ^ p.space in
    table_is p.space (λ i. u - 1 - i) c.args.table.now c.requires.table (λ i q. one_block u (u - 1 - i) (pow_pos p.space) (omega arith))

pub returns-clause-planned : goal.returns-clause-planned
returns-clause-planned c =
    IfOk-weaker c.sum.result _ _ (λ k m.
    digit_three c.args.pen.now c.sum.new.pen c.args.borrows.now c.args.table.now c.args.low k c.space-space.ensures.bounded c.requires.space c.requires.inside c.requires.enough c.requires.bits c.requires.table m)
    c.sum.ensures.makes
