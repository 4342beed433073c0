use Rattle.std.proofs.Common.{◌≡◌, ◌≤◌, ◌<◌, ◌+◌, ℕ, List, length, ap, sym, ◌∙◌, subst, arith, map, get_or, rules}
use Rattle.std.specs.List.{AllByRecursion}
use Rattle.rx_net.specs.declared.term.Term.{Term}
use Rattle.rx_net.specs.declared.net.Job.{Job}
use Rattle.rx_net.specs.Tags.{greatest_of}
use Rattle.rx_net.specs.Cells.{input_cells}
use Rattle.rx_net.proofs.Limits.{few_input_cells}
use Rattle.rx_net.proofs.Evaluates.{depths_begin, depths_more, depths_done, length-depths, job_forward}
use Rattle.rx_net.proofs.evaluate.depth.Goals as goal
use Rattle.rx_net.proofs.evaluate.depth.Goals.{then-deeper-most, else-deeper-most}

pub input_cells-count-requires-clause-few : goal.input_cells-count-requires-clause-few
input_cells-count-requires-clause-few c = let e = ap (input_cells c.args.net.now.space) c.as_slice.ensures in omega (arith, few_input_cells c.args.net.now c.requires.limits)

pub loop-job-init : goal.loop-job-init
loop-job-init c = depths_begin c.args.net.now.space c.args.net.now.inputs c.args.net.now.jobs c.in_ok-depths.depths.items c.input_cells-count.result (search rules) (c.input_cells-count.ensures ∙ ap (input_cells c.args.net.now.space) c.as_slice.ensures)

item : (js items : List Job) (i : ℕ) (j : Job) → items ≡ js → j ≡ get_or items i j → j ≡ get_or js i j
item js items i j e h = h ∙ ap (λ js. get_or js i j) e

pub deepest-deeper-requires : goal.deepest-deeper-requires
deepest-deeper-requires c =
    let j : Job = c.job-item.result in
    let l : length c.as_slice-job-items.result.now ≡ length c.args.net.now.jobs = ap (λ (js : List Job). length js) c.as_slice-job-items.ensures in
    let p : c.loop-job.job-index < length c.args.net.now.jobs = omega (arith, c.loop-job-test.true) in
    let e : j ≡ get_or c.args.net.now.jobs c.loop-job.job-index j = item c.args.net.now.jobs c.as_slice-job-items.result.now c.loop-job.job-index j c.as_slice-job-items.ensures c.job-item.is in
    let n : input_cells c.args.net.now.space c.args.net.now.inputs + c.loop-job.job-index ≡ length c.deref.result.now =
    sym (ap (λ (l : List ℕ). length l) c.deref.ensures.value ∙ length-depths c.args.net.now.space c.args.net.now.inputs c.args.net.now.jobs c.loop-job.job-index c.loop-job.depths.items c.loop-job.most c.loop-job.invariant (omega arith)) in
    subst (λ (ts : List Term). AllByRecursion (λ (t : Term). t.cell < length c.deref.result.now) ts) (sym c.as_slice-in-loop-job.ensures)
    (subst (λ (n : ℕ). AllByRecursion (λ (t : Term). t.cell < n) j.terms) n (job_forward c.args.net.now c.requires c.loop-job.job-index j p e))

pub loop-job-preserved : goal.loop-job-preserved
loop-job-preserved c =
    let j : Job = c.job-item.result in
    let l : length c.as_slice-job-items.result.now ≡ length c.args.net.now.jobs = ap (λ (js : List Job). length js) c.as_slice-job-items.ensures in
    let p : c.loop-job.job-index < length c.args.net.now.jobs = omega (arith, c.loop-job-test.true) in
    let e : j ≡ get_or c.args.net.now.jobs c.loop-job.job-index j = item c.args.net.now.jobs c.as_slice-job-items.result.now c.loop-job.job-index j c.as_slice-job-items.ensures c.job-item.is in
    let d : c.deepest-deeper.result ≡ greatest_of (map (λ (t : Term). get_or c.loop-job.depths.items t.cell 0) j.terms) =
    c.deepest-deeper.ensures.value ∙ ap (λ ds. greatest_of (map (λ (t : Term). get_or ds t.cell 0) c.as_slice-in-loop-job.result.now)) c.deref.ensures.value
    ∙ ap (λ (ts : List Term). greatest_of (map (λ (t : Term). get_or c.loop-job.depths.items t.cell 0) ts)) c.as_slice-in-loop-job.ensures in
    let m : c.deepest-deeper.result ≤ greatest_of c.loop-job.depths.items = omega (arith, c.deepest-deeper.ensures.most, ap greatest_of c.deref.ensures.value) in
    depths_more c.args.net.now.space c.args.net.now.inputs c.args.net.now.jobs c.loop-job.job-index c.loop-job.depths.items c.loop-job.most c.loop-job.invariant j p e c.deepest-deeper.result d m c.push.new.self.items c.in_ok-push.ensures.items c.if-deeper-most.most
    (elim c.if-deeper-most.branch [ then-deeper-most w ↦ omega arith | else-deeper-most w ↦ omega arith ])

pub returns : goal.returns
returns c =
    let l : length c.as_slice-job-items.result.now ≡ length c.args.net.now.jobs = ap (λ (js : List Job). length js) c.as_slice-job-items.ensures in
    depths_done c.args.net.now c.loop-job.job-index c.loop-job.depths.items c.loop-job.most c.loop-job.invariant (omega (arith, c.loop-job-test.false))
