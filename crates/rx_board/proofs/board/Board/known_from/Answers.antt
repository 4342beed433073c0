use Rattle.std.proofs.Common.{rules, refl, ◌∙◌, below_more}
use Rattle.std.specs.Prelude.{Contains}
use Rattle.rx_board.proofs.Views.{grows_on}
use Rattle.rx_board.proofs.board.Board.known_from.Goals as goal

pub returns-then-look-ne2-clause-grows : goal.returns-then-look-ne2-clause-grows
returns-then-look-ne2-clause-grows g c = grows_on _ _ _ c.loop-job.invariant.grows c.look.ensures.grows

pub loop-job-preserved : goal.loop-job-preserved
loop-job-preserved g c = record {
  idle = c.look.ensures.seat.0;
  id = c.look.ensures.seat.1 ∙ c.loop-job.invariant.id;
  grows = grows_on _ _ _ c.loop-job.invariant.grows c.look.ensures.grows;
  here = refl;
  known = below_more (Contains c.look.new.seat.me.0.known) c.loop-job.job (λ k l. c.look.ensures.grows.known k (c.loop-job.invariant.known k l)) (c.look.ensures.present (search rules));
}
