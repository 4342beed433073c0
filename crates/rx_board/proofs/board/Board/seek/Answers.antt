use Rattle.std.proofs.Common.{◌≡◌, ◌≢◌, ◌+◌, ◌<◌, ◌≤◌, ℕ, rules, sym, ◌∙◌, subst, arith}
use Rattle.std.specs.Prelude.{Option}
use Rattle.rx_board.specs.declared.view.Trial.TheVariants.{Claimed}
use Rattle.rx_board.specs.Rule.{job_count}
use Rattle.rx_board.specs.Tells.{first_taken}
use Rattle.rx_board.proofs.Views.{grows_on}
use Rattle.rx_board.proofs.Seeks.{Searched, searched_more, tried_idle, won_later, lost_found}
use Rattle.rx_board.proofs.board.Board.seek.Goals as goal

pub returns-in-Claimed-clause-grows : goal.returns-in-Claimed-clause-grows
returns-in-Claimed-clause-grows g c = grows_on _ _ _ c.loop-job.invariant.searched.grows c.try_job.ensures.grows

pub loop-job-preserved : goal.loop-job-preserved
loop-job-preserved g c =
    let not : c.try_job.result ≢ Claimed = c.in_default.not-Claimed in
    let seat = c.try_job.ensures.seat in
    let due : c.loop-job.job < job_count c.args.self.now.plan = search rules in
    let taken : first_taken c.loop-job.taken c.loop-job.job c.try_job.result ≡ c.first-taken.result = sym c.first-taken.ensures in
    record {
      idle = (seat.0.0, seat.0.1, seat.0.2, tried_idle _ _ _ _ _ not c.try_job.ensures.tried);
      id = seat.1 ∙ c.loop-job.invariant.id;
      searched = subst (λ (o : Option ℕ). Searched c.args.self.now.plan c.args.seat.now.me.0 c.try_job.new.seat.me.0 (c.loop-job.job + 1) o) taken
          (searched_more c.args.self.now.plan c.args.seat.now.me.0 c.loop-job.seat.me.0 c.try_job.new.seat.me.0 c.loop-job.job due c.try_job.ensures.grows c.loop-job.taken c.loop-job.invariant.searched c.try_job.result not c.try_job.ensures.tried);
    }

pub returns-in-Claimed-clause-sought : goal.returns-in-Claimed-clause-sought
returns-in-Claimed-clause-sought g c = let p = c.args.self.now.plan in let l : c.loop-job.job < job_count p = search rules in
    won_later p c.args.seat.now.me.0 c.loop-job.seat.me.0 c.try_job.new.seat.me.0 c.loop-job.job c.loop-job.invariant.searched.grows c.in-Claimed.ensures.tried l

pub returns-in-Some-clause-sought : goal.returns-in-Some-clause-sought
returns-in-Some-clause-sought g c =
    let p = c.args.self.now.plan in let i = c.loop-job.invariant in
    let all : job_count p ≤ c.loop-job.job = omega (arith, c.loop-job-test.false, c.job_count-job-end.ensures) in
    lost_found p c.args.seat.now.me.0 c.loop-job.seat.me.0 c.loop-job.job c.in-Some.job c.loop-job.taken i.searched c.in-Some.is i.idle.3 all
