use Rattle.std.proofs.Common.{◌≡◌, ℕ, ◌+◌, ◌-◌, ◌<◌, ◌≤◌, ◌||◌, ◌&&◌, List, false, length, get_or, map, drop, sym, ◌∙◌, subst, arith}
use Rattle.std.specs.Prelude.{◌==◌}
use Rattle.std.specs.List.{AllByRecursion, list_any}
use Rattle.std.proofs.lemmas.List.{get_or_default}
use Rattle.rx_net.specs.declared.term.Term.{Term}
use Rattle.rx_net.specs.declared.net.Job.{Job}
use Rattle.rx_fold.specs.Jobs.{moved}
use Rattle.rx_fold.specs.Folded.{is_needed}
use Rattle.rx_fold.specs.Passes.{Tells, cell_in, is_marked}
use Rattle.rx_fold.proofs.Marks.{needed_none, needed_more, job_within}
use Rattle.rx_fold.proofs.live.mark_jobs.Goals as goal

pub loop-done-init : goal.loop-done-init
loop-done-init c = λ cells t.
    let jobs : List Job = c.args.jobs.now in
    let n : ℕ = length c.args.live.now in
    let z : length jobs ≡ length jobs - 0 = omega arith in
    subst (λ (k : ℕ). Tells false (is_needed cells (c.args.inputs + k) (drop k (map (moved (cell_in c.args.reps.now)) jobs))) n c.args.live.now) z
    (needed_none cells (c.args.inputs + length jobs) (cell_in c.args.reps.now) jobs n c.args.live.now t)

pub mark_job-requires-clause-cells : goal.mark_job-requires-clause-cells
mark_job-requires-clause-cells c =
    let jobs : List Job = c.args.jobs.now in
    let place : ℕ = length jobs - 1 - c.loop-done.done in
    let test : c.loop-done.done < length jobs = c.loop-done-test.true in
    let many : length c.args.reps.now ≡ c.args.inputs + length jobs = c.requires.count in
    subst (λ (ts : List Term). AllByRecursion (λ (t : Term). t.cell < length c.args.reps.now) ts) (sym c.as_slice.ensures)
    (job_within c.args.inputs jobs place (get_or jobs place c.index-jobs-place.result) (length c.args.reps.now) c.requires.forward (omega arith)
    (get_or_default jobs place c.index-jobs-place.result (get_or jobs place c.index-jobs-place.result) (omega arith)) (omega arith))

pub loop-done-preserved : goal.loop-done-preserved
loop-done-preserved c = λ cells t.
    let jobs : List Job = c.args.jobs.now in
    let f : ℕ → ℕ = cell_in c.args.reps.now in
    let n : ℕ = length c.args.live.now in
    let place : ℕ = length jobs - 1 - c.loop-done.done in
    let test : c.loop-done.done < length jobs = c.loop-done-test.true in
    let many : length c.args.reps.now ≡ c.args.inputs + length jobs = c.requires.count in
    let marks : length c.args.live.now ≡ length c.args.reps.now = c.requires.marks in
    let long : length c.loop-done.live ≡ length c.args.live.now = c.loop-done.auto.live in
    let same : length c.mark_job.new.live ≡ length c.loop-done.live = c.mark_job.auto.live in
    let up : length jobs - c.loop-done.done ≡ place + 1 = omega arith in
    let down : place ≡ length jobs - (c.loop-done.done + 1) = omega arith in
    subst (λ (k : ℕ). Tells false (is_needed cells (c.args.inputs + k) (drop k (map (moved f) jobs))) n c.mark_job.new.live) down
    (needed_more cells c.args.inputs f jobs place (get_or jobs place c.index-jobs-place.result) n c.loop-done.live c.mark_job.new.live (omega arith)
    (get_or_default jobs place c.index-jobs-place.result (get_or jobs place c.index-jobs-place.result) (omega arith)) (omega arith) (same ∙ long)
    (subst (λ (k : ℕ). Tells false (is_needed cells (c.args.inputs + k) (drop k (map (moved f) jobs))) n c.loop-done.live) up (c.loop-done.invariant cells t))
    (λ x b. c.mark_job.ensures x (omega arith)
    ∙ (λ i. is_marked c.loop-done.live x || (is_marked c.loop-done.live (c.args.inputs + place) && list_any (λ (t : Term). f t.cell == x) (c.as_slice.ensures i)))))

pub returns : goal.returns
returns c = λ cells t.
    let jobs : List Job = c.args.jobs.now in
    let js : List Job = map (moved (cell_in c.args.reps.now)) jobs in
    let n : ℕ = length c.args.live.now in
    let test : length jobs ≤ c.loop-done.done = c.loop-done-test.false in
    let all : length jobs - c.loop-done.done ≡ 0 = omega arith in
    let first : c.args.inputs + 0 ≡ c.args.inputs = omega arith in
    subst (λ (k : ℕ). Tells false (is_needed cells k js) n c.loop-done.live) first
    (subst (λ (k : ℕ). Tells false (is_needed cells (c.args.inputs + k) (drop k js)) n c.loop-done.live) all (c.loop-done.invariant cells t))
