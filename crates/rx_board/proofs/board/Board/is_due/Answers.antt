use Rattle.std.proofs.Common.{rules}
use Rattle.rx_board.proofs.Views.{grows_on, waits_earlier}
use Rattle.rx_board.proofs.board.Board.is_due.Goals as goal

pub returns-then-not-is_ready-clause-grows : goal.returns-then-not-is_ready-clause-grows
returns-then-not-is_ready-clause-grows g c = grows_on _ _ _ c.look_count.ensures.grows c.is_ready.ensures.grows

pub returns-then-not-is_ready-clause-waits : goal.returns-then-not-is_ready-clause-waits
returns-then-not-is_ready-clause-waits g c = λ _. let t = c.is_ready.ensures.waits (search rules) in (t.0, waits_earlier _ _ _ _ _ _ c.look_count.ensures.grows t.1)

pub returns-clause-grows : goal.returns-clause-grows
returns-clause-grows g c = grows_on _ _ _ c.look_count.ensures.grows (grows_on _ _ _ c.is_ready.ensures.grows c.look_count-2.ensures.grows)
