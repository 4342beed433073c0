use Rattle.std.proofs.Common.{◌≤◌, ℕ, sym, subst}
use Rattle.rx_uses.proofs.Legality.{lawful}
use Rattle.rx_board.proofs.board.opening.first_cell.Goals as goal

pub returns-clause-few : goal.returns-clause-few
returns-clause-few c = let low = (lawful c.args.net.now c.requires).inputs in subst (λ (n : ℕ). n ≤ 2048) (sym c.input_cells.ensures.count) low
