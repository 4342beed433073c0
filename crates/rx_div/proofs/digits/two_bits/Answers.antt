use Rattle.std.proofs.Common.{◌≡◌, ◌≤◌, ◌<◌, ◌+◌, ◌-◌, ◌*◌, ◌^◌, ℕ, get_or, arith, ap}
use Rattle.std.proofs.lemmas.Nat.{pow_pos}
use Rattle.std.proofs.lemmas.Result.{IfOk-weaker}
use Rattle.rx_plan.specs.Tables.{entries}
use Rattle.rx_plan.specs.Planned.{IsCell}
use Rattle.rx_plan.proofs.PerBlock.{entries_big, table_is, one_block}
use Rattle.rx_div.proofs.QuotientDigits.{digit_two}
use Rattle.rx_div.proofs.digits.two_bits.Goals as goal

pub pair-requires-clause-range : goal.pair-requires-clause-range
pair-requires-clause-range c =
    let p = c.args.pen.now in
    let a : IsCell p 1 (get_or c.args.borrows.now c.args.low 0) = c.requires.bits c.args.low c.requires.inside in
    let b : IsCell p 1 (get_or c.args.borrows.now (c.args.low - 1) 0) = c.requires.bits (c.args.low - 1) (omega (arith, c.requires.inside)) in
    let big : 16 ≤ entries p.space = entries_big p.space (omega (arith, c.requires.space)) in
    omega (arith, a.degree_in, b.degree_in)

pub pair-requires-clause-noises : goal.pair-requires-clause-noises
pair-requires-clause-noises c =
    let p = c.args.pen.now in
    let a : IsCell p 1 (get_or c.args.borrows.now c.args.low 0) = c.requires.bits c.args.low c.requires.inside in
    let b : IsCell p 1 (get_or c.args.borrows.now (c.args.low - 1) 0) = c.requires.bits (c.args.low - 1) (omega (arith, c.requires.inside)) in
    let u : 2 ^ p.space ≡ 4 = ap (λ s. 2 ^ s) c.requires.space in
    omega (arith, a.noise_is, b.noise_is)

pub pair-requires-clause-table : goal.pair-requires-clause-table
pair-requires-clause-table c =
    let p = c.args.pen.now in
    let u : ℕ = 2 ^ p.space in
    table_is p.space (λ i. u - 1 - i) c.args.table.now c.requires.table (λ i q. one_block u (u - 1 - i) (pow_pos p.space) (omega arith))

pub returns-clause-planned : goal.returns-clause-planned
returns-clause-planned c =
    IfOk-weaker c.pair.result _ _ (λ k m.
    digit_two c.args.pen.now c.pair.new.pen c.args.borrows.now c.args.table.now c.args.low k c.space-space.ensures.bounded c.requires.space c.requires.inside c.requires.enough c.requires.bits c.requires.table m)
    c.pair.ensures.makes
