use Rattle.rx_mul.proofs.LastSum.{single_planned, single_number}
use Rattle.rx_mul.proofs.planner.settle.Goals as goal

pub returns-then-shared-lt2-clause-planned : goal.returns-then-shared-lt2-clause-planned
returns-then-shared-lt2-clause-planned c = single_planned c.args.pen.now c.args.rows.items c.args.shared.now.width _ _ c.space-space.ensures.bounded c.requires.shared.wide c.if-shared-lt2.true c.requires.size c.requires.rows

pub returns-then-shared-lt2-clause-value : goal.returns-then-shared-lt2-clause-value
returns-then-shared-lt2-clause-value c = single_number c.args.pen.now c.args.rows.items c.args.shared.now.width c.space-space.ensures.bounded c.requires.shared.wide c.if-shared-lt2.true c.requires.size c.requires.rows
