use Rattle.std.proofs.Common.{rules, ◌≡◌, ℕ, List, set, take, sym, subst, ◌∙◌, ap}
use Rattle.rx_boot.specs.ServerKeys.{ServerWords}
use Rattle.rx_block.specs.declared.block.Block.{Block}
use Rattle.rx_block.specs.Combine.{AreBlocksOf}
use Rattle.rx_board.specs.Closing.{state_of}
use Rattle.rx_crew.specs.Evaluation.{job_block}
use Rattle.rx_crew.proofs.Placed.{are-set, set-after}
use Rattle.rx_crew.proofs.jobs.complete_job.Goals as goal

pub returns-then-copy_cell-clause-cells : goal.returns-then-copy_cell-clause-cells
returns-then-copy_cell-clause-cells g c =
    let cells : List Block = c.args.cells.now in
    let place : ℕ = c.args.place in
    let key : ServerWords = c.args.kernel.now.kernel.key in
    let two : state_of c.args.closed.now c.args.number ≡ 2 = search rules in
    let of : List ℕ → Block = λ ws. record { words = ws; degree = c.args.job.now.degree; noise = 1 } in
    let made : c.copy_cell.new.cell ≡ job_block key c.args.job.now (take place cells) =
    c.copy_cell.ensures.written c.if-copy_cell.true ∙ ap of (c.requires.present two) in
    set-after cells c.split_at_mut-earlier.result.0.now c.split_at_mut-earlier.result.1.now place c.copy_cell.new.cell
    c.split_at_mut-earlier.ensures.value c.split_at_mut-earlier.ensures.front_len
    ∙ ap (set cells place) made

pub returns-then-copy_cell-clause-sizes : goal.returns-then-copy_cell-clause-sizes
returns-then-copy_cell-clause-sizes g c =
    let cells : List Block = c.args.cells.now in
    let place : ℕ = c.args.place in
    let key : ServerWords = c.args.kernel.now.kernel.key in
    subst (AreBlocksOf key.params)
    (sym (set-after cells c.split_at_mut-earlier.result.0.now c.split_at_mut-earlier.result.1.now place c.copy_cell.new.cell
    c.split_at_mut-earlier.ensures.value c.split_at_mut-earlier.ensures.front_len))
    (are-set key.params cells place c.copy_cell.new.cell c.requires.sizes (c.copy_cell.ensures.size ∙ c.requires.width))

pub evaluate-requires-clause-room : goal.evaluate-requires-clause-room
evaluate-requires-clause-room g c = c.copy_cell.ensures.size ∙ c.requires.width

pub returns-clause-cells : goal.returns-clause-cells
returns-clause-cells g c =
    let cells : List Block = c.args.cells.now in
    let place : ℕ = c.args.place in
    let key : ServerWords = c.args.kernel.now.kernel.key in
    set-after cells c.split_at_mut-earlier.result.0.now c.split_at_mut-earlier.result.1.now place c.evaluate.new.out
    c.split_at_mut-earlier.ensures.value c.split_at_mut-earlier.ensures.front_len
    ∙ ap (set cells place) (c.evaluate.ensures.block ∙ ap (job_block key c.args.job.now) c.split_at_mut-earlier.ensures.front)

pub returns-clause-sizes : goal.returns-clause-sizes
returns-clause-sizes g c =
    let cells : List Block = c.args.cells.now in
    let place : ℕ = c.args.place in
    let key : ServerWords = c.args.kernel.now.kernel.key in
    subst (AreBlocksOf key.params)
    (sym (set-after cells c.split_at_mut-earlier.result.0.now c.split_at_mut-earlier.result.1.now place c.evaluate.new.out
    c.split_at_mut-earlier.ensures.value c.split_at_mut-earlier.ensures.front_len))
    (are-set key.params cells place c.evaluate.new.out c.requires.sizes c.evaluate.ensures.size)
