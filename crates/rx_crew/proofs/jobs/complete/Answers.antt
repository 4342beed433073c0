use Rattle.std.proofs.Common.{◌≡◌, ℕ, suc, ◌+◌, ◌<◌, List, length, get_or, set, take, length-take-le, ◌==◌, refl, subst, sym, ◌∙◌, ap, arith}
use Rattle.std.proofs.lemmas.List.{length-take}
use Rattle.rx_laws.specs.Decode.{plaintexts}
use Rattle.rx_net.specs.declared.net.Job.{Job}
use Rattle.rx_net.specs.Cells.{input_cells, laid}
use Rattle.rx_net.specs.Legal.{IsJob}
use Rattle.rx_boot.specs.ServerKeys.{ServerWords}
use Rattle.rx_block.specs.declared.block.Block.{Block}
use Rattle.rx_block.specs.Combine.{AreBlocksOf}
use Rattle.rx_board.specs.Rule.{one_if}
use Rattle.rx_board.specs.Closing.{state_of, present_below}
use Rattle.rx_crew.specs.Evaluation.{job_block, evaluated}
use Rattle.rx_crew.specs.Work.{HoldsCells}
use Rattle.rx_crew.proofs.Operands.{cells-of}
use Rattle.rx_crew.proofs.Laying.{job-lawful, laid-more, laid-all}
use Rattle.rx_crew.proofs.Boards.{cell-at}
use Rattle.rx_crew.proofs.jobs.complete.Goals as goal

pub loop-number-init : goal.loop-number-init
unfolding laid
loop-number-init g c =
    let none : c.input_cells-inputs.result + 0 ≡ c.input_cells-inputs.result = omega arith in
    record {
      laid = ap (λ n. take n c.args.cells.now) none;
      sizes = c.requires.sizes;
      key = refl;
      runs = refl;
    }

pub complete_job-runs-requires-clause-table : goal.complete_job-runs-requires-clause-table
complete_job-runs-requires-clause-table g c =
    (job-lawful c.args.net.now _ c.loop-number.number c.job-item.result c.requires.legal c.as_slice-job-items.ensures (omega (arith, c.loop-number-test.true)) c.job-item.is).fits.table_count
    ∙ ap plaintexts (c.requires.space ∙ ap (λ (k : ServerWords). k.params.message_bits) (sym c.loop-number.invariant.key))

pub complete_job-runs-requires-clause-forward : goal.complete_job-runs-requires-clause-forward
complete_job-runs-requires-clause-forward g c =
    let jobs : List Job = c.args.net.now.jobs in
    let i : ℕ = c.loop-number.number in
    let same : length c.as_slice-job-items.result.now ≡ length jobs = ap length c.as_slice-job-items.ensures in
    let here : i < length jobs = omega (arith, c.loop-number-test.true) in
    let is : IsJob c.args.net.now.space c.args.net.now.inputs (take i jobs) c.job-item.result =
    job-lawful c.args.net.now _ i c.job-item.result c.requires.legal c.as_slice-job-items.ensures (omega (arith, c.loop-number-test.true)) c.job-item.is in
    λ t q.
    omega (
      arith,
      cells-of (input_cells c.args.net.now.space c.args.net.now.inputs + length (take i jobs)) c.job-item.result.terms is.fits.forward t q,
      length-take-le i jobs (omega arith),
      length-take (c.input_cells-inputs.result + i) c.loop-number.cells,
      c.loop-number.auto.cells,
      c.requires.count,
      c.input_cells-inputs.ensures.count,
    )

pub complete_job-runs-requires-clause-present : goal.complete_job-runs-requires-clause-present
complete_job-runs-requires-clause-present g c =
    let jobs : List Job = c.args.net.now.jobs in
    let i : ℕ = c.loop-number.number in
    let job : Job = c.job-item.result in
    let first : ServerWords = c.args.kernel.now.kernel.key in
    let key : ServerWords = c.loop-number.kernel.kernel.key in
    let inputs : List Block = take c.input_cells-inputs.result c.args.cells.now in
    let same : length c.as_slice-job-items.result.now ≡ length jobs = ap length c.as_slice-job-items.ensures in
    let here : i < length jobs = omega (arith, c.loop-number-test.true) in
    let long : length inputs ≡ input_cells c.args.net.now.space c.args.net.now.inputs =
    omega (arith, length-take-le c.input_cells-inputs.result c.args.cells.now (omega (arith, c.requires.count, c.input_cells-inputs.ensures.count)), c.input_cells-inputs.ensures.count) in
    let holds : HoldsCells first c.args.net.now inputs c.args.closed.now =
    subst (λ (n : ℕ). HoldsCells first c.args.net.now (take n c.args.cells.now) c.args.closed.now) (sym c.input_cells-inputs.ensures.count) c.requires.closed in
    let words : ServerWords → List Block → List ℕ = λ k bs. let b : Block = job_block k job bs in b.words in
    λ two.
    holds.cells i here two
    ∙ cell-at first c.args.net.now inputs i job here (c.job-item.is ∙ ap (λ xs. get_or xs i job) c.as_slice-job-items.ensures)
    ∙ ap (words first) (sym c.loop-number.invariant.laid)
    ∙ ap (λ k. words k (take (c.input_cells-inputs.result + i) c.loop-number.cells)) (sym c.loop-number.invariant.key)

pub loop-number-preserved : goal.loop-number-preserved
loop-number-preserved g c =
    let i : ℕ = c.loop-number.number in
    let inputs : ℕ = c.input_cells-inputs.result in
    let place : ℕ = inputs + i in
    let key : ServerWords = c.args.kernel.now.kernel.key in
    let cells : List Block = c.loop-number.cells in
    let same : length c.as_slice-job-items.result.now ≡ length c.args.net.now.jobs = ap length c.as_slice-job-items.ensures in
    let here : place < length cells = omega (arith, c.loop-number-test.true, c.loop-number.auto.cells, c.requires.count, c.input_cells-inputs.ensures.count) in
    let next : inputs + (i + 1) ≡ place + 1 = omega arith in
    let more : present_below c.args.closed.now (i + 1) ≡ present_below c.args.closed.now i + one_if (state_of c.args.closed.now i == 2) =
    (let s : i + 1 ≡ suc i = omega arith in ap (present_below c.args.closed.now) s) in
    record {
      laid = ap (take (inputs + (i + 1))) (c.complete_job-runs.ensures.cells ∙ ap (λ k. set cells place (job_block k c.job-item.result (take place cells))) c.loop-number.invariant.key)
          ∙ laid-more key c.args.net.now.jobs _ (take inputs c.args.cells.now) cells place (inputs + (i + 1)) i c.job-item.result
          c.as_slice-job-items.ensures (omega (arith, c.loop-number-test.true)) c.job-item.is here next c.loop-number.invariant.laid;
      sizes = subst (λ (k : ServerWords). AreBlocksOf k.params c.complete_job-runs.new.cells) c.loop-number.invariant.key c.complete_job-runs.ensures.sizes;
      key = c.complete_job-runs.ensures.key ∙ c.loop-number.invariant.key;
      runs = omega (arith, more, c.loop-number.invariant.runs, c.complete_job-runs.ensures.runs);
    }

pub returns-clause-cells : goal.returns-clause-cells
returns-clause-cells g c =
    let key : ServerWords = c.args.kernel.now.kernel.key in
    let same : length c.as_slice-job-items.result.now ≡ length c.args.net.now.jobs = ap length c.as_slice-job-items.ensures in
    laid-all key c.args.net.now (take c.input_cells-inputs.result c.args.cells.now) c.loop-number.cells (c.input_cells-inputs.result + c.loop-number.number) c.loop-number.number
    (omega (arith, c.loop-number-test.false, c.loop-number.auto.cells, c.requires.count, c.input_cells-inputs.ensures.count)) (omega (arith, c.loop-number-test.false)) c.loop-number.invariant.laid
    ∙ ap (λ n. evaluated key c.args.net.now (take n c.args.cells.now)) c.input_cells-inputs.ensures.count
