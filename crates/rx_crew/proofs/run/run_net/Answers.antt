use Rattle.std.proofs.Common.{◌≡◌, List, length, take, sym, subst, ◌∙◌, ap}
use Rattle.rx_net.specs.declared.net.Net.{Net}
use Rattle.rx_net.specs.Cells.{input_cells}
use Rattle.rx_boot.specs.ServerKeys.{ServerWords}
use Rattle.rx_block.specs.declared.block.Block.{Block}
use Rattle.rx_block.specs.Combine.{AreBlocksOf}
use Rattle.rx_block.specs.Outputs.{output_blocks}
use Rattle.rx_crew.specs.Kernel.{KernelValue}
use Rattle.rx_crew.specs.Evaluation.{AreWordsOf, evaluated}
use Rattle.rx_crew.proofs.Boards.{has-worked}
use Rattle.rx_crew.proofs.Keeping.{outputs-keep}
use Rattle.rx_crew.proofs.Placed.{all-written}
use Rattle.rx_crew.proofs.run.run_net.Goals as goal

pub returns-clause-sizes : goal.returns-clause-sizes
returns-clause-sizes g c =
    let same : c.in_ok-own.own.kernel.key ≡ c.args.key.now = ap (λ (v : KernelValue). v.key) c.in_ok-own.ensures in
    subst (AreBlocksOf c.args.key.now.params)
    (sym (all-written c.in_ok-outputs.outputs.items c.settle-finished.new.outputs _ (c.settle-finished.auto.outputs ∙ c.deref_mut-2.ensures.len)))
    (subst (λ (k : ServerWords). AreBlocksOf k.params c.settle-finished.new.outputs) same c.settle-finished.ensures.sizes)

pub returns-clause-words : goal.returns-clause-words
returns-clause-words g c =
    subst AreWordsOf
    (sym (all-written c.in_ok-outputs.outputs.items c.settle-finished.new.outputs _ (c.settle-finished.auto.outputs ∙ c.deref_mut-2.ensures.len)))
    c.settle-finished.ensures.words

pub returns-clause-worked : goal.returns-clause-worked
returns-clause-worked g c =
    has-worked c.args.key.now c.args.net.now c.args.inputs.now c.in_ok-seat.seat.view c.in_ok-seat.closed c.settle-finished.result
    c.in_ok-seat.ensures.plan c.in_ok-seat.ensures.drained c.settle-finished.ensures.runs

pub returns-clause-outputs_keep : goal.returns-clause-outputs_keep
returns-clause-outputs_keep g c =
    let key : ServerWords = c.args.key.now in
    let net : Net = c.args.net.now in
    let inputs : List Block = c.args.inputs.now in
    let same : c.in_ok-own.own.kernel.key ≡ key = ap (λ (v : KernelValue). v.key) c.in_ok-own.ensures in
    let first : take (input_cells net.space net.inputs) c.deref_mut.result.now ≡ inputs =
    ap (λ n. take n c.deref_mut.result.now) (sym c.requires.inputs.count) ∙ ap (take (length inputs)) c.deref_mut.ensures.value ∙ c.in_ok-cells.ensures.inputs in
    outputs-keep key net inputs _ c.requires.legal c.requires.inputs c.cells_keep.ensures
    (all-written c.in_ok-outputs.outputs.items c.settle-finished.new.outputs _ (c.settle-finished.auto.outputs ∙ c.deref_mut-2.ensures.len)
    ∙ c.settle-finished.ensures.outputs
    ∙ ap (λ k. output_blocks (evaluated k net (take (input_cells net.space net.inputs) c.deref_mut.result.now)) net.outputs) same
    ∙ ap (λ ins. output_blocks (evaluated key net ins) net.outputs) first)
