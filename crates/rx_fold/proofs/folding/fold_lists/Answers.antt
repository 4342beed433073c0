use Rattle.std.proofs.Common.{◌≡◌, ℕ, Bool, List, length, sym, ◌∙◌, ap, subst, arith}
use Rattle.rx_fold.specs.Passes.{AreWithin}
use Rattle.rx_fold.proofs.Lists.{within, given_to, few_in, forward_in, reps_in, live_in, kept_in, cells_in, jobs_in, outputs_in, jobs_are, outputs_are}
use Rattle.rx_fold.proofs.folding.fold_lists.Goals as goal

pub find_reps-requires-clause-few : goal.find_reps-requires-clause-few
find_reps-requires-clause-few c = few_in c.args.net.now c.requires c.input_cells-inputs.result c.as_slice-jobs.result.now c.as_slice-outputs.result.now c.input_cells-inputs.ensures.count c.as_slice-jobs.ensures c.as_slice-outputs.ensures

pub find_reps-requires-clause-forward : goal.find_reps-requires-clause-forward
find_reps-requires-clause-forward c = forward_in c.args.net.now c.requires c.input_cells-inputs.result c.as_slice-jobs.result.now c.as_slice-outputs.result.now c.input_cells-inputs.ensures.count c.as_slice-jobs.ensures c.as_slice-outputs.ensures

pub find_live-requires-clause-within : goal.find_live-requires-clause-within
find_live-requires-clause-within c =
    let r = reps_in c.args.net.now c.requires c.input_cells-inputs.result c.as_slice-jobs.result.now c.as_slice-outputs.result.now c.input_cells-inputs.ensures.count c.as_slice-jobs.ensures c.as_slice-outputs.ensures c.in_ok-reps.reps.items c.in_ok-reps.ensures in
    subst AreWithin (sym c.deref.ensures.value) (within c.args.net.now c.requires c.in_ok-reps.reps.items r)

pub find_live-requires-clause-forward : goal.find_live-requires-clause-forward
find_live-requires-clause-forward c = forward_in c.args.net.now c.requires c.input_cells-inputs.result c.as_slice-jobs.result.now c.as_slice-outputs.result.now c.input_cells-inputs.ensures.count c.as_slice-jobs.ensures c.as_slice-outputs.ensures

pub find_live-requires-clause-given : goal.find_live-requires-clause-given
find_live-requires-clause-given c =
    let r = reps_in c.args.net.now c.requires c.input_cells-inputs.result c.as_slice-jobs.result.now c.as_slice-outputs.result.now c.input_cells-inputs.ensures.count c.as_slice-jobs.ensures c.as_slice-outputs.ensures c.in_ok-reps.reps.items c.in_ok-reps.ensures in
    given_to c.args.net.now c.requires c.in_ok-reps.reps.items r c.deref.result.now c.as_slice-outputs.result.now (ap (λ (xs : List ℕ). length xs) c.deref.ensures.value) c.as_slice-outputs.ensures

pub renumber-requires-clause-few : goal.renumber-requires-clause-few
renumber-requires-clause-few c =
    let few = few_in c.args.net.now c.requires c.input_cells-inputs.result c.as_slice-jobs.result.now c.as_slice-outputs.result.now c.input_cells-inputs.ensures.count c.as_slice-jobs.ensures c.as_slice-outputs.ensures in
    let a : length c.deref-4.result.now ≡ length c.in_ok-kept.kept.items = ap (λ (xs : List Bool). length xs) c.deref-4.ensures.value in
    let b : length c.in_ok-kept.kept.items ≡ length c.deref-2.result.now = c.in_ok-kept.ensures.count in
    let d : length c.deref-2.result.now ≡ length c.in_ok-reps.reps.items = ap (λ (xs : List ℕ). length xs) c.deref-2.ensures.value in
    let e = c.in_ok-reps.ensures.count in omega (arith, few, a, b, d, e)

pub renumber-requires-clause-within : goal.renumber-requires-clause-within
renumber-requires-clause-within c =
    let r = reps_in c.args.net.now c.requires c.input_cells-inputs.result c.as_slice-jobs.result.now c.as_slice-outputs.result.now c.input_cells-inputs.ensures.count c.as_slice-jobs.ensures c.as_slice-outputs.ensures c.in_ok-reps.reps.items c.in_ok-reps.ensures in
    subst AreWithin (sym c.deref-5.ensures.value) (within c.args.net.now c.requires c.in_ok-reps.reps.items r)

pub move_jobs-requires-clause-forward : goal.move_jobs-requires-clause-forward
move_jobs-requires-clause-forward c = forward_in c.args.net.now c.requires c.input_cells-inputs.result c.as_slice-jobs.result.now c.as_slice-outputs.result.now c.input_cells-inputs.ensures.count c.as_slice-jobs.ensures c.as_slice-outputs.ensures

pub move_outputs-requires : goal.move_outputs-requires
move_outputs-requires c =
    let r = reps_in c.args.net.now c.requires c.input_cells-inputs.result c.as_slice-jobs.result.now c.as_slice-outputs.result.now c.input_cells-inputs.ensures.count c.as_slice-jobs.ensures c.as_slice-outputs.ensures c.in_ok-reps.reps.items c.in_ok-reps.ensures in
    let a : length c.deref-8.result.now ≡ length c.in_ok-cells.cells.items = ap (λ (xs : List ℕ). length xs) c.deref-8.ensures.value in
    let b : length c.in_ok-cells.cells.items ≡ length c.deref-5.result.now = c.in_ok-cells.ensures.count in
    let d : length c.deref-5.result.now ≡ length c.in_ok-reps.reps.items = ap (λ (xs : List ℕ). length xs) c.deref-5.ensures.value in
    given_to c.args.net.now c.requires c.in_ok-reps.reps.items r c.deref-8.result.now c.as_slice-outputs.result.now (a ∙ b ∙ d) c.as_slice-outputs.ensures

pub returns-clause-jobs : goal.returns-clause-jobs
returns-clause-jobs c =
    let r = reps_in c.args.net.now c.requires c.input_cells-inputs.result c.as_slice-jobs.result.now c.as_slice-outputs.result.now c.input_cells-inputs.ensures.count c.as_slice-jobs.ensures c.as_slice-outputs.ensures c.in_ok-reps.reps.items c.in_ok-reps.ensures in
    let v = live_in c.args.net.now c.requires c.input_cells-inputs.result c.as_slice-jobs.result.now c.as_slice-outputs.result.now c.input_cells-inputs.ensures.count c.as_slice-jobs.ensures c.as_slice-outputs.ensures c.in_ok-reps.reps.items c.deref.result.now c.in_ok-live.live.items c.deref.ensures.value c.in_ok-live.ensures in
    let k = kept_in c.args.net.now c.requires c.input_cells-inputs.result c.as_slice-jobs.result.now c.as_slice-outputs.result.now c.input_cells-inputs.ensures.count c.as_slice-jobs.ensures c.as_slice-outputs.ensures c.in_ok-reps.reps.items c.deref-2.result.now c.in_ok-live.live.items c.deref-3.result.now c.in_ok-kept.kept.items c.deref-2.ensures.value c.deref-3.ensures.value c.in_ok-kept.ensures in
    let w = cells_in c.args.net.now c.requires c.input_cells-inputs.result c.as_slice-jobs.result.now c.as_slice-outputs.result.now c.input_cells-inputs.ensures.count c.as_slice-jobs.ensures c.as_slice-outputs.ensures c.in_ok-reps.reps.items c.deref-5.result.now c.in_ok-kept.kept.items c.deref-4.result.now c.in_ok-cells.cells.items c.deref-5.ensures.value c.deref-4.ensures.value c.in_ok-cells.ensures in
    jobs_in c.args.net.now c.requires c.input_cells-inputs.result c.as_slice-jobs.result.now c.as_slice-outputs.result.now c.input_cells-inputs.ensures.count c.as_slice-jobs.ensures c.as_slice-outputs.ensures c.in_ok-kept.kept.items c.deref-6.result.now c.in_ok-cells.cells.items c.deref-7.result.now c.in_ok-move_jobs.field-0.items c.deref-6.ensures.value c.deref-7.ensures.value c.in_ok-move_jobs.ensures
    ∙ jobs_are c.args.net.now c.requires c.in_ok-reps.reps.items r c.in_ok-live.live.items v c.in_ok-kept.kept.items k c.in_ok-cells.cells.items w

pub returns-clause-outputs : goal.returns-clause-outputs
returns-clause-outputs c =
    let r = reps_in c.args.net.now c.requires c.input_cells-inputs.result c.as_slice-jobs.result.now c.as_slice-outputs.result.now c.input_cells-inputs.ensures.count c.as_slice-jobs.ensures c.as_slice-outputs.ensures c.in_ok-reps.reps.items c.in_ok-reps.ensures in
    let v = live_in c.args.net.now c.requires c.input_cells-inputs.result c.as_slice-jobs.result.now c.as_slice-outputs.result.now c.input_cells-inputs.ensures.count c.as_slice-jobs.ensures c.as_slice-outputs.ensures c.in_ok-reps.reps.items c.deref.result.now c.in_ok-live.live.items c.deref.ensures.value c.in_ok-live.ensures in
    let k = kept_in c.args.net.now c.requires c.input_cells-inputs.result c.as_slice-jobs.result.now c.as_slice-outputs.result.now c.input_cells-inputs.ensures.count c.as_slice-jobs.ensures c.as_slice-outputs.ensures c.in_ok-reps.reps.items c.deref-2.result.now c.in_ok-live.live.items c.deref-3.result.now c.in_ok-kept.kept.items c.deref-2.ensures.value c.deref-3.ensures.value c.in_ok-kept.ensures in
    let w = cells_in c.args.net.now c.requires c.input_cells-inputs.result c.as_slice-jobs.result.now c.as_slice-outputs.result.now c.input_cells-inputs.ensures.count c.as_slice-jobs.ensures c.as_slice-outputs.ensures c.in_ok-reps.reps.items c.deref-5.result.now c.in_ok-kept.kept.items c.deref-4.result.now c.in_ok-cells.cells.items c.deref-5.ensures.value c.deref-4.ensures.value c.in_ok-cells.ensures in
    outputs_in c.args.net.now c.requires c.input_cells-inputs.result c.as_slice-jobs.result.now c.as_slice-outputs.result.now c.input_cells-inputs.ensures.count c.as_slice-jobs.ensures c.as_slice-outputs.ensures c.in_ok-cells.cells.items c.deref-8.result.now c.in_ok-move_outputs.field-0.items c.deref-8.ensures.value c.in_ok-move_outputs.ensures
    ∙ outputs_are c.args.net.now c.requires c.in_ok-reps.reps.items r c.in_ok-live.live.items v c.in_ok-kept.kept.items k c.in_ok-cells.cells.items w
