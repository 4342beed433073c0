use Rattle.std.proofs.Common.{◌<◌, rules}
use Rattle.rx_board.specs.Rule.{job_count}
use Rattle.rx_board.proofs.Views.{grows_on}
use Rattle.rx_board.proofs.Seeks.{won_later}
use Rattle.rx_board.proofs.board.Board.hunt.Goals as goal

pub returns-then-try_due-clause-grows : goal.returns-then-try_due-clause-grows
returns-then-try_due-clause-grows g c = grows_on _ _ _ c.loop-job.invariant.grows c.try_due.ensures.grows

pub returns-then-try_due-clause-hunted : goal.returns-then-try_due-clause-hunted
returns-then-try_due-clause-hunted g c = let p = c.args.self.now.plan in let l : c.loop-job.job < job_count p = search rules in
    won_later p c.args.seat.now.me.0 c.loop-job.seat.me.0 c.try_due.new.seat.me.0 c.loop-job.job c.loop-job.invariant.grows (c.try_due.ensures.tried c.if-try_due.true) l
