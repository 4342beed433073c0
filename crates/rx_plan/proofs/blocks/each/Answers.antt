use Rattle.std.proofs.Common.{◌^◌, get_or}
use Rattle.rx_net.specs.Tags.{greatest_of}
use Rattle.rx_net.specs.Cells.{degree}
use Rattle.rx_plan.specs.Planned.{Each}
use Rattle.rx_plan.proofs.Kept.{block_now}
use Rattle.rx_plan.proofs.Planned.{planned_none}
use Rattle.std.proofs.lemmas.Nat.{pow_pos}
use Rattle.rx_plan.proofs.PerBlock.{each_values, each_push, one_block}
use Rattle.rx_plan.proofs.blocks.each.Goals as goal

pub loop-i-init : goal.loop-i-init
loop-i-init c =
    rw c.new-cells.ensures.items (planned_none c.args.pen.now (λ _. greatest_of c.args.table.now) 1 (Each c.args.a.now) (each_values c.args.pen.now c.args.table.now c.args.a.now) c.space-space.ensures.bounded)

pub loop-i-preserved : goal.loop-i-preserved
loop-i-preserved c =
    rw c.in_ok-push.ensures.items (each_push c.args.pen.now c.loop-i.pen c.single.new.pen c.loop-i.cells.items c.args.a.now c.args.table.now c.loop-i.i c.in_ok-cell.cell
    c.requires.blocks c.requires.table c.loop-i-test.true c.loop-i.invariant c.in_ok-cell.ensures.makes)

pub single-requires-clause-range : goal.single-requires-clause-range
single-requires-clause-range c =
    let k = block_now c.args.pen.now c.loop-i.pen (get_or c.args.a.now c.loop-i.i 0) c.loop-i.invariant.extends (c.requires.blocks c.loop-i.i c.loop-i-test.true) in
    one_block (2 ^ c.loop-i.pen.space) (degree c.loop-i.pen (get_or c.args.a.now c.loop-i.i 0)) (pow_pos c.loop-i.pen.space) k.degree_in
