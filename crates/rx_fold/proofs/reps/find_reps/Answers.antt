use Rattle.std.proofs.Common.{◌≡◌, ◌+◌, ℕ, List, length, ap, subst, arith, rules}
use Rattle.rx_net.specs.declared.net.Job.{Job}
use Rattle.rx_fold.specs.Jobs.{moved, AreEqual}
use Rattle.rx_fold.specs.Passes.{job_of, cell_in}
use Rattle.rx_fold.proofs.Marks.{job_within}
use Rattle.rx_fold.proofs.Found.{found_none, found_more}
use Rattle.rx_fold.proofs.reps.find_reps.Goals as goal

pub loop-job-init : goal.loop-job-init
loop-job-init c = found_none c.args.inputs c.args.jobs.now c.in_ok-reps.reps.items c.new-firsts.result c.in_ok-reps.ensures c.new-firsts.ensures.empty

pub of-requires : goal.of-requires
of-requires c =
    let long : length c.deref.result.now ≡ length c.loop-job.reps.items = ap (λ (xs : List ℕ). length xs) c.deref.ensures.value in
    let many : length c.loop-job.reps.items ≡ c.args.inputs + c.loop-job.job-index = c.loop-job.invariant.reps.count in
    job_within c.args.inputs c.args.jobs.now c.loop-job.job-index c.job-item.result (length c.deref.result.now) c.requires.forward c.loop-job-test.true c.job-item.is (omega arith)

pub loop-job-preserved : goal.loop-job-preserved
loop-job-preserved c =
    let job : Job = c.job-item.result in
    let reps : List ℕ = c.loop-job.reps.items in
    let cell : c.len-cell.result ≡ length reps = search rules in
    let equal : AreEqual (job_of c.in_ok-key.key) (moved (cell_in reps) job) = subst (λ (xs : List ℕ). AreEqual (job_of c.in_ok-key.key) (moved (cell_in xs) job)) c.deref.ensures.value c.in_ok-key.ensures in
    found_more c.args.inputs c.args.jobs.now c.loop-job.job-index reps c.loop-job.firsts job c.in_ok-key.key c.len-cell.result c.in_ok-rep.rep c.push.new.self.items c.first_of.new.firsts
    c.loop-job.invariant c.loop-job-test.true c.job-item.is
    (job_within c.args.inputs c.args.jobs.now c.loop-job.job-index job (c.args.inputs + c.loop-job.job-index) c.requires.forward c.loop-job-test.true c.job-item.is (omega arith))
    equal cell c.in_ok-rep.ensures.first c.in_ok-rep.ensures.known c.in_ok-push.ensures.items
