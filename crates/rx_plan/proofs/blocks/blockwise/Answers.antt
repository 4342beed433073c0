use Rattle.std.proofs.Common.{◌≡◌, ◌^◌, ◌≤◌, get_or, ℕ, sym, arith, subst}
use Rattle.rx_net.specs.Tags.{greatest_of}
use Rattle.rx_plan.specs.Planned.{EachOf}
use Rattle.rx_plan.proofs.Kept.{block_now}
use Rattle.rx_plan.proofs.Planned.{planned_none}
use Rattle.rx_plan.proofs.PerBlock.{pair_values, blockwise_push, pair_range, pair_noises, unit_le, space_high}
use Rattle.rx_plan.proofs.blocks.blockwise.Goals as goal

pub loop-i-init : goal.loop-i-init
loop-i-init c =
    rw c.new-cells.ensures.items (planned_none c.args.pen.now (λ _. greatest_of c.args.table.now) 1 (EachOf c.args.a.now c.args.b.now)
    (pair_values c.args.pen.now c.args.factor c.args.table.now c.args.a.now c.args.b.now) c.space-space.ensures.bounded)

pub loop-i-preserved : goal.loop-i-preserved
loop-i-preserved c =
    rw c.in_ok-push.ensures.items (blockwise_push c.args.pen.now c.loop-i.pen c.pair.new.pen c.loop-i.cells.items c.args.factor c.args.a.now c.args.b.now c.args.table.now c.loop-i.i c.in_ok-cell.cell
    c.requires.factor c.requires.first c.requires.second c.requires.table c.loop-i-test.true (omega arith) c.loop-i.invariant c.in_ok-cell.ensures.makes)

pub pair-requires-clause-factor : goal.pair-requires-clause-factor
pair-requires-clause-factor c =
    let s : c.space-space.result ≡ c.args.pen.now.space = c.space-space.ensures.value in
    omega (arith, c.requires.factor, unit_le c.args.pen.now.space (omega (arith, space_high c.space-space.result c.space-space.ensures.known)))

pub pair-requires-clause-range : goal.pair-requires-clause-range
pair-requires-clause-range c =
    let e = c.loop-i.invariant.extends in
    pair_range c.loop-i.pen c.args.factor (get_or c.args.a.now c.loop-i.i 0) (get_or c.args.b.now c.loop-i.i 0) (subst (λ (s : ℕ). c.args.factor ≤ 2 ^ s) (sym e.space) c.requires.factor)
    (block_now c.args.pen.now c.loop-i.pen (get_or c.args.a.now c.loop-i.i 0) e (c.requires.first c.loop-i.i c.loop-i-test.true))
    (block_now c.args.pen.now c.loop-i.pen (get_or c.args.b.now c.loop-i.i 0) e (c.requires.second c.loop-i.i (omega arith)))

pub pair-requires-clause-noises : goal.pair-requires-clause-noises
pair-requires-clause-noises c =
    let e = c.loop-i.invariant.extends in
    pair_noises c.loop-i.pen c.args.factor (get_or c.args.a.now c.loop-i.i 0) (get_or c.args.b.now c.loop-i.i 0) (subst (λ (s : ℕ). c.args.factor ≤ 2 ^ s) (sym e.space) c.requires.factor)
    (block_now c.args.pen.now c.loop-i.pen (get_or c.args.a.now c.loop-i.i 0) e (c.requires.first c.loop-i.i c.loop-i-test.true))
    (block_now c.args.pen.now c.loop-i.pen (get_or c.args.b.now c.loop-i.i 0) e (c.requires.second c.loop-i.i (omega arith)))
