use Rattle.std.proofs.Common.{◌≡◌, ◌+◌, ◌-◌, ◌<◌, ℕ, get_or, sym, ◌∙◌, arith, subst}
use Rattle.rx_params.specs.Kinds.{block_count}
use Rattle.rx_net.specs.declared.net.NetInput.{NetInput}
use Rattle.rx_net.specs.Cells.{input_cells, given}
use Rattle.rx_net.proofs.Inputs.{IsLeft, left_goes_on, left_within, left_ends, given_degree, given_noise, job_degree_at, job_noise_at}
use Rattle.rx_net.proofs.tags.tags_at.Goals as goal

pub loop-input-preserved : goal.loop-input-preserved
loop-input-preserved c =
    let i : NetInput = c.input-item.result in
    let n : block_count i.kind c.args.space i.bits ≡ c.block_count-count.result = sym c.block_count-count.ensures in
    let l : IsLeft c.args.space c.args.inputs.now c.args.cell (c.loop-input.input-index + 1) (c.loop-input.left - block_count i.kind c.args.space i.bits) =
    left_goes_on c.args.space c.args.inputs.now c.args.cell c.loop-input.input-index c.loop-input.left i c.loop-input.invariant c.loop-input-test.true c.input-item.is (omega arith) in
    subst (λ (k : ℕ). IsLeft c.args.space c.args.inputs.now c.args.cell (c.loop-input.input-index + 1) (c.loop-input.left - k)) n l

within : (c : goal.Then-left-count) → (c.args.cell < input_cells c.args.space c.args.inputs.now)
    × ((number : NetInput → ℕ) → get_or (given c.args.space number c.args.inputs.now) c.args.cell 0 ≡ number c.input-item.result)
within c = left_within c.args.space c.args.inputs.now c.args.cell c.loop-input.input-index c.loop-input.left c.input-item.result c.loop-input.invariant
    c.loop-input-test.true c.input-item.is (omega (arith, c.block_count-count.ensures, c.if-left-count.true))

pub returns-then-left-count-clause-degree : goal.returns-then-left-count-clause-degree
returns-then-left-count-clause-degree c = let w = within c in sym (given_degree c.args.space c.args.inputs.now c.args.jobs.now c.args.cell w.0 ∙ w.1 (λ i. i.degree))

pub returns-then-left-count-clause-noise : goal.returns-then-left-count-clause-noise
returns-then-left-count-clause-noise c = let w = within c in sym (given_noise c.args.space c.args.inputs.now c.args.jobs.now c.args.cell w.0 ∙ w.1 (λ i. i.noise))

pub bounds-jobs-left : goal.bounds-jobs-left
bounds-jobs-left c = omega (arith, left_ends c.args.space c.args.inputs.now c.args.cell c.loop-input.input-index c.loop-input.left c.loop-input.invariant c.loop-input-test.false)

pub bounds-jobs-left-after-loop-input : goal.bounds-jobs-left-after-loop-input
bounds-jobs-left-after-loop-input c = omega (arith, left_ends c.args.space c.args.inputs.now c.args.cell c.loop-input.input-index c.loop-input.left c.loop-input.invariant c.loop-input-test.false)

pub returns-clause-degree : goal.returns-clause-degree
returns-clause-degree c =
    let e = left_ends c.args.space c.args.inputs.now c.args.cell c.loop-input.input-index c.loop-input.left c.loop-input.invariant c.loop-input-test.false in
    sym (job_degree_at c.args.space c.args.inputs.now c.args.jobs.now c.args.cell c.loop-input.left c.index-jobs-left.result e (omega (arith, e)))

pub returns-clause-noise : goal.returns-clause-noise
returns-clause-noise c =
    let e = left_ends c.args.space c.args.inputs.now c.args.cell c.loop-input.input-index c.loop-input.left c.loop-input.invariant c.loop-input-test.false in
    sym (job_noise_at c.args.space c.args.inputs.now c.args.jobs.now c.args.cell c.loop-input.left c.index-jobs-left.result e (omega (arith, e)))
