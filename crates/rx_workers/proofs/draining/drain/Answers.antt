use Rattle.std.proofs.Common.{◌≡◌, [], ◌∷◌, ◌++◌, ap, ◌∙◌, arith}
use Rattle.rx_board.specs.Rule.{job_count}
use Rattle.rx_workers.proofs.Turns.{missing, keeps_on, taken_more, taken_keeps, missing_less, knows_on, knows_more, knows_same}
use Rattle.rx_workers.proofs.draining.drain.Goals as goal

pub loop-misses-smaller-in-Ran : goal.loop-misses-smaller-in-Ran
loop-misses-smaller-in-Ran g c = let t = c.in-Ran.ensures.told in let less = missing_less (job_count c.args.board.now.plan) c.loop-misses.worker.seat.view.ran c.in-Ran.field-0 t.0 t.2 in
    let same : missing (job_count c.args.board.now.plan) c.step.new.seat.view.ran ≡ missing (job_count c.args.board.now.plan) (c.loop-misses.worker.seat.view.ran ++ c.in-Ran.field-0 ∷ []) = ap (missing (job_count c.args.board.now.plan)) t.1 in
    omega arith

pub loop-misses-preserved-in-Ran : goal.loop-misses-preserved-in-Ran
loop-misses-preserved-in-Ran g c = let inv = c.loop-misses.invariant in let k = taken_keeps _ _ c.step.ensures.keeps in record {
  fit = record {
    seat = c.step.ensures.seat.0;
    desk = c.step.ensures.desk ∙ inv.fit.desk;
    kernel = record {
      basis_is = c.step.ensures.kernel.0 ∙ inv.fit.kernel.basis_is;
      width_is = c.step.ensures.kernel.1 ∙ inv.fit.kernel.width_is;
      space_is = c.step.ensures.kernel.2 ∙ inv.fit.kernel.space_is;
      idle = c.step.ensures.idle;
    };
  };
  keeps = keeps_on _ _ _ inv.keeps c.step.ensures.keeps;
  knows = knows_on _ _ _ inv.knows (knows_more _ _ _ c.step.ensures.keeps c.in-Ran.ensures.told.1);
  enough = let e = inv.enough in omega arith;
}

pub loop-misses-preserved : goal.loop-misses-preserved
loop-misses-preserved g c = let inv = c.loop-misses.invariant in let t = c.in-NotReady.ensures.told in let k = taken_more _ _ _ t.2 in record {
  fit = record {
    seat = c.step.ensures.seat.0;
    desk = c.step.ensures.desk ∙ inv.fit.desk;
    kernel = record {
      basis_is = c.step.ensures.kernel.0 ∙ inv.fit.kernel.basis_is;
      width_is = c.step.ensures.kernel.1 ∙ inv.fit.kernel.width_is;
      space_is = c.step.ensures.kernel.2 ∙ inv.fit.kernel.space_is;
      idle = c.step.ensures.idle;
    };
  };
  keeps = keeps_on _ _ _ inv.keeps c.step.ensures.keeps;
  knows = knows_on _ _ _ inv.knows (knows_same _ _ c.step.ensures.keeps t.1);
  enough = let e = inv.enough in omega arith;
}

pub returns-in-Done-clause-knows : goal.returns-in-Done-clause-knows
returns-in-Done-clause-knows g c = knows_on _ _ _ c.loop-misses.invariant.knows (knows_same _ _ c.step.ensures.keeps c.in-Done.ensures.told.0)
