use Rattle.std.proofs.Common.{◌≡◌, ◌≤◌, ◌<◌, ◌+◌, ◌∷◌, ◌++◌, [], ℕ, ℤ, pos, List, length, take, ◌≤ℤ◌, ap, sym, ◌∙◌, subst, arith, get_or, rules, length-take-le}
use Rattle.std.specs.List.{AllByRecursion}
use Rattle.std.proofs.lemmas.Int.{to_z-of_z}
use mir.Syntax.{w16, w32}
use mir.Val.{SFits, to_z, of_z}
use Rattle.rx_net.specs.declared.term.Term.{Term}
use Rattle.rx_net.specs.declared.net.Job.{Job}
use Rattle.rx_net.specs.declared.net.Net.{Net}
use Rattle.rx_net.specs.Tags.{value_of, natural}
use Rattle.rx_net.specs.Cells.{input_cells, values_after, job_value}
use Rattle.rx_net.proofs.Evaluates.{values_begin, values_more, length-values, looked_up_is, job_forward, job_few, job_looks_up}
use Rattle.rx_net.proofs.evaluate.plain.Goals as goal

pub loop-job-init : goal.loop-job-init
loop-job-init c = c.in_ok-values.ensures.items ∙ sym (values_begin c.args.inputs.now)

item : (js items : List Job) (i : ℕ) (j : Job) → items ≡ js → j ≡ get_or items i j → j ≡ get_or js i j
item js items i j e h = h ∙ ap (λ js. get_or js i j) e

inside : (js items : List Job) (i : ℕ) → items ≡ js → i < length items → i < length js
inside js items i e p = let l : length items ≡ length js = ap (λ (js : List Job). length js) e in omega arith

pub weighted_sum-index-requires-clause-few : goal.weighted_sum-index-requires-clause-few
weighted_sum-index-requires-clause-few c =
    let j : Job = c.job-item.result in
    let p = inside c.args.net.now.jobs c.as_slice-job-items.result.now c.loop-job.job-index c.as_slice-job-items.ensures c.loop-job-test.true in
    let e = item c.args.net.now.jobs c.as_slice-job-items.result.now c.loop-job.job-index j c.as_slice-job-items.ensures c.job-item.is in
    subst (λ (ts : List Term). length ts ≤ 16) (sym c.as_slice.ensures) (job_few c.args.net.now c.requires.legal c.loop-job.job-index j p e)

count : (net : Net) (xs values items : List ℕ) (i : ℕ) → length xs ≡ input_cells net.space net.inputs → items ≡ values → values ≡ values_after xs (take i net.jobs) → i < length net.jobs
    → input_cells net.space net.inputs + i ≡ length items
count net xs values items i n e f p =
    let l : length items ≡ length (values_after xs (take i net.jobs)) = ap (λ (l : List ℕ). length l) (e ∙ f) in
    omega (arith, length-values xs (take i net.jobs), length-take-le i net.jobs (omega arith))

pub weighted_sum-index-requires-clause-forward : goal.weighted_sum-index-requires-clause-forward
weighted_sum-index-requires-clause-forward c =
    let j : Job = c.job-item.result in
    let p = inside c.args.net.now.jobs c.as_slice-job-items.result.now c.loop-job.job-index c.as_slice-job-items.ensures c.loop-job-test.true in
    let e = item c.args.net.now.jobs c.as_slice-job-items.result.now c.loop-job.job-index j c.as_slice-job-items.ensures c.job-item.is in
    let n = count c.args.net.now c.args.inputs.now c.loop-job.values.items c.deref.result.now c.loop-job.job-index c.requires.within.count c.deref.ensures.value c.loop-job.invariant p in
    subst (λ (ts : List Term). AllByRecursion (λ (t : Term). t.cell < length c.deref.result.now) ts) (sym c.as_slice.ensures)
    (subst (λ (n : ℕ). AllByRecursion (λ (t : Term). t.cell < n) j.terms) n (job_forward c.args.net.now c.requires.legal c.loop-job.job-index j p e))

-- the sum, at the job's own terms and constant
own : (vs ws : List ℕ) (k z : ℤ) (ts us : List Term) (r : ℤ) → r ≡ value_of (λ c. get_or ws c 0) z us → ws ≡ vs → z ≡ k → us ≡ ts → r ≡ value_of (λ c. get_or vs c 0) k ts
own vs ws k z ts us r h a b d = h ∙ ap (λ ws. value_of (λ c. get_or ws c 0) z us) a ∙ ap (λ z. value_of (λ c. get_or vs c 0) z us) b ∙ ap (λ us. value_of (λ c. get_or vs c 0) k us) d

pub entry_at-requires-clause-low : goal.entry_at-requires-clause-low
entry_at-requires-clause-low c =
    let j : Job = c.job-item.result in
    let p = inside c.args.net.now.jobs c.as_slice-job-items.result.now c.loop-job.job-index c.as_slice-job-items.ensures c.loop-job-test.true in
    let e = item c.args.net.now.jobs c.as_slice-job-items.result.now c.loop-job.job-index j c.as_slice-job-items.ensures c.job-item.is in
    let fits : SFits w16 j.constant = search rules in
    let vs : List ℕ = values_after c.args.inputs.now (take c.loop-job.job-index c.args.net.now.jobs) in
    let wide : SFits w32 c.weighted_sum-index.result = search rules in
    let r : to_z w32 (of_z w32 c.weighted_sum-index.result) ≡ value_of (λ c. get_or vs c 0) j.constant j.terms =
    to_z-of_z w32 c.weighted_sum-index.result wide ∙ own vs c.deref.result.now j.constant _ j.terms c.as_slice.result.now c.weighted_sum-index.result c.weighted_sum-index.ensures (c.deref.ensures.value ∙ c.loop-job.invariant) (to_z-of_z w16 j.constant fits) c.as_slice.ensures in
    let u = job_looks_up c.args.net.now c.args.inputs.now c.requires.legal c.requires.within c.loop-job.job-index j p e in
    subst (λ (z : ℤ). pos 0 ≤ℤ z) (sym r) u.low

pub entry_at-requires-clause-high : goal.entry_at-requires-clause-high
entry_at-requires-clause-high c =
    let j : Job = c.job-item.result in
    let p = inside c.args.net.now.jobs c.as_slice-job-items.result.now c.loop-job.job-index c.as_slice-job-items.ensures c.loop-job-test.true in
    let e = item c.args.net.now.jobs c.as_slice-job-items.result.now c.loop-job.job-index j c.as_slice-job-items.ensures c.job-item.is in
    let fits : SFits w16 j.constant = search rules in
    let vs : List ℕ = values_after c.args.inputs.now (take c.loop-job.job-index c.args.net.now.jobs) in
    let wide : SFits w32 c.weighted_sum-index.result = search rules in
    let r : to_z w32 (of_z w32 c.weighted_sum-index.result) ≡ value_of (λ c. get_or vs c 0) j.constant j.terms =
    to_z-of_z w32 c.weighted_sum-index.result wide ∙ own vs c.deref.result.now j.constant _ j.terms c.as_slice.result.now c.weighted_sum-index.result c.weighted_sum-index.ensures (c.deref.ensures.value ∙ c.loop-job.invariant) (to_z-of_z w16 j.constant fits) c.as_slice.ensures in
    let u = job_looks_up c.args.net.now c.args.inputs.now c.requires.legal c.requires.within c.loop-job.job-index j p e in
    subst (λ (table : List ℕ). natural (to_z w32 (of_z w32 c.weighted_sum-index.result)) < length table) (sym c.as_slice-in-loop-job.ensures)
    (subst (λ (z : ℤ). natural z < length j.table) (sym r) u.high)

pub loop-job-preserved : goal.loop-job-preserved
loop-job-preserved c =
    let j : Job = c.job-item.result in
    let p = inside c.args.net.now.jobs c.as_slice-job-items.result.now c.loop-job.job-index c.as_slice-job-items.ensures c.loop-job-test.true in
    let e = item c.args.net.now.jobs c.as_slice-job-items.result.now c.loop-job.job-index j c.as_slice-job-items.ensures c.job-item.is in
    let fits : SFits w16 j.constant = search rules in
    let vs : List ℕ = values_after c.args.inputs.now (take c.loop-job.job-index c.args.net.now.jobs) in
    let wide : SFits w32 c.weighted_sum-index.result = search rules in
    let r : to_z w32 (of_z w32 c.weighted_sum-index.result) ≡ value_of (λ c. get_or vs c 0) j.constant j.terms =
    to_z-of_z w32 c.weighted_sum-index.result wide ∙ own vs c.deref.result.now j.constant _ j.terms c.as_slice.result.now c.weighted_sum-index.result c.weighted_sum-index.ensures (c.deref.ensures.value ∙ c.loop-job.invariant) (to_z-of_z w16 j.constant fits) c.as_slice.ensures in
    let u = job_looks_up c.args.net.now c.args.inputs.now c.requires.legal c.requires.within c.loop-job.job-index j p e in
    let x : c.entry_at.result ≡ job_value j vs =
    c.entry_at.ensures ∙ ap (λ (table : List ℕ). get_or table (natural (to_z w32 (of_z w32 c.weighted_sum-index.result))) 0) c.as_slice-in-loop-job.ensures
    ∙ ap (λ z. get_or j.table (natural z) 0) r ∙ looked_up_is j vs in
    c.in_ok-push.ensures.items ∙ ap (λ vs. vs ++ c.entry_at.result ∷ []) c.loop-job.invariant ∙ ap (λ x. vs ++ x ∷ []) x
    ∙ sym (values_more c.args.inputs.now c.args.net.now.jobs c.loop-job.job-index j p e)
