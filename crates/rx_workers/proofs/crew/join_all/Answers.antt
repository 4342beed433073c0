use Rattle.std.proofs.Common.{◌∙◌, refl, arith, ap}
use Rattle.std.proofs.lemmas.Grind.{common_steps}
use Rattle.rx_board.specs.declared.view.View.{View}
use Rattle.rx_workers.proofs.Turns.{knows_itself, knows_on, knows_own}
use Rattle.rx_workers.proofs.Joins.{joined_more}
use Rattle.rx_workers.proofs.crew.join_all.Goals as goal

pub loop-worker-init : goal.loop-worker-init
loop-worker-init g c = record {
  idle = c.requires.seat;
  fit = c.requires.fit;
  knows = knows_itself _;
  joined = λ v h rest. rest;
  met = refl;
}

pub loop-worker-preserved : goal.loop-worker-preserved
loop-worker-preserved g c = let inv = c.loop-worker.invariant in record {
  idle = c.join.ensures.seat.0;
  fit = grind (arith, common_steps);
  knows = knows_on _ c.loop-worker.seat.view c.join.new.seat.view inv.knows
      (knows_own c.loop-worker.seat.view c.in-Some.worker.seat.view c.join.new.seat.view c.join.ensures.view);
  joined = joined_more _ _ _ c.in-Some.worker c.loop-worker.seat.view c.join.new.seat.view c.in-Some.ensures.items c.join.ensures.view inv.joined;
  met = ap (λ (v : View). v.met) c.join.ensures.view ∙ inv.met;
}
