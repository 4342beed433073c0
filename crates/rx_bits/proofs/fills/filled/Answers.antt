use Rattle.std.proofs.lemmas.Result.{IfOk-weaker}
use Rattle.std.proofs.Common.{◌≤◌, ◌^◌, ◌-◌, arith}
use Rattle.rx_net.specs.Cells.{value}
use Rattle.rx_bits.specs.Signs.{fill_digit}
use Rattle.rx_bits.proofs.OneCell.{repeated}
use Rattle.rx_bits.proofs.fills.filled.Goals as goal

pub returns-in_ok-cell-clause-planned : goal.returns-in_ok-cell-clause-planned
returns-in_ok-cell-clause-planned c =
    let old = c.args.pen.now in
    let some : 1 ≤ c.args.count = omega (arith, c.if-count-eq0.false) in
    IfOk-weaker c.vec.result _ _ (λ cells same.
    repeated old c.fill.new.pen c.in_ok-cell.cell (2 ^ old.space - 1) c.args.count cells.items (λ P. P c.args.top)
    (λ inputs. fill_digit c.args.signed old.space (value old inputs c.args.top))
    (same (λ y e. e)) some c.in_ok-cell.ensures.gives c.in_ok-cell.ensures.deep c.in_ok-cell.ensures.value) c.vec.ensures.items_if_clones_equal
