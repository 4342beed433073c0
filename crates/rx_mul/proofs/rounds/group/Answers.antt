use Rattle.rx_mul.proofs.Grouped.{group_planned, group_number}
use Rattle.rx_mul.proofs.rounds.group.Goals as goal

pub returns-clause-planned : goal.returns-clause-planned
returns-clause-planned c =
    rw (c.in_ok-extend_from_slice.ensures.items, c.deref-3.ensures.value)
    (group_planned c.args.pen.now c.digit_row.new.pen c.carry_row.new.pen c.in_ok-cells.cells.items c.in_ok-high.high.items c.args.rows.now c.args.shared.now.width c.args.count
    c.requires.shared.wide c.requires.rows c.in_ok-cells.ensures.planned c.in_ok-high.ensures.planned)

pub returns-clause-value : goal.returns-clause-value
returns-clause-value c =
    rw (c.in_ok-extend_from_slice.ensures.items, c.deref-3.ensures.value)
    (group_number c.args.pen.now c.digit_row.new.pen c.carry_row.new.pen c.in_ok-cells.cells.items c.in_ok-high.high.items c.args.rows.now c.args.shared.now.width c.args.count
    c.requires.shared.wide c.requires.rows c.requires.size c.in_ok-cells.ensures.planned c.in_ok-high.ensures.planned)
