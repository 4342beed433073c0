use Rattle.std.proofs.Common.{◌≡◌, rules, sym, ap, ◌∙◌, subst}
use Rattle.atomic_table.specs.Table.{Me}
use Rattle.rx_board.specs.declared.view.View.{View}
use Rattle.rx_board.specs.Tells.{Told, after_run}
use Rattle.rx_board.proofs.Seeks.{published_keeps, published_told, back_keeps, back_told, lost_told}
use Rattle.rx_board.proofs.board.Board.step_from.Goals as goal
use Rattle.rx_board.proofs.board.Board.step_from.Goals.{then-all_present, else-all_present, then-run_job, else-run_job}

pub returns-after-run_job-clause-keeps : goal.returns-after-run_job-clause-keeps
returns-after-run_job-clause-keeps g c = let u : View = c.args.seat.now.me.0 in let v : View = c.search.new.seat.me.0 in let m : View = c.run_job.new.seat.me.0 in
    let view : m ≡ after_run v c.in-Won.job c.run_job.result = ap (λ (z : Me (Unit {0}) View). z.0) c.run_job.ensures.view in elim c.if-run_job.branch [
      | then-run_job w ↦ published_keeps u v m c.in-Won.job c.search.ensures.grows (view ∙ ap (after_run v c.in-Won.job) w.if-run_job.true)
      | else-run_job w ↦ back_keeps u v m c.search.ensures.grows (view ∙ ap (after_run v c.in-Won.job) w.if-run_job.false)
    ]

pub returns-after-run_job-clause-told : goal.returns-after-run_job-clause-told
returns-after-run_job-clause-told g c = let p = c.args.self.now.plan in let u : View = c.args.seat.now.me.0 in let v : View = c.search.new.seat.me.0 in let m : View = c.run_job.new.seat.me.0 in
    let view : m ≡ after_run v c.in-Won.job c.run_job.result = ap (λ (z : Me (Unit {0}) View). z.0) c.run_job.ensures.view in let won = c.in-Won.ensures.sought in elim c.if-run_job.branch [
      | then-run_job w ↦ subst (Told p u m) (sym w.result-is) (published_told p u v m c.in-Won.job c.search.ensures.grows (view ∙ ap (after_run v c.in-Won.job) w.if-run_job.true) won.0 won.3 won.2)
      | else-run_job w ↦ subst (Told p u m) (sym w.result-is) (back_told p u v m c.in-Won.job c.search.ensures.grows won (view ∙ ap (after_run v c.in-Won.job) w.if-run_job.false))
    ]

pub returns-after-all_present-clause-told : goal.returns-after-all_present-clause-told
returns-after-all_present-clause-told g c = elim c.if-all_present.branch [
  | then-all_present w ↦ subst (Told c.args.self.now.plan c.args.seat.now.me.0 c.all_present.new.seat.me.0) (sym w.result-is) (c.all_present.ensures.grows.ran ∙ c.search.ensures.grows.ran, c.all_present.ensures.all (search rules))
  | else-all_present w ↦ subst (Told c.args.self.now.plan c.args.seat.now.me.0 c.all_present.new.seat.me.0) (sym w.result-is)
      (lost_told c.args.self.now.plan c.args.seat.now.me.0 c.search.new.seat.me.0 c.all_present.new.seat.me.0 c.in-Lost.job c.in-Lost.ensures.sought.0 c.search.ensures.grows c.in-Lost.ensures.sought.2 c.in-Lost.ensures.sought.3 c.all_present.ensures.grows (c.all_present.ensures.one (search rules)))
]
