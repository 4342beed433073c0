use Rattle.std.proofs.Common.{rules, ◌≡◌, List, ℕ, length, subst, ◌∙◌, ap}
use Rattle.std.proofs.lemmas.Int.{to_z-of_z}
use mir.Syntax.{w16}
use Rattle.rx_list.proofs.Overwritten.{overwritten-all}
use Rattle.rx_boot.specs.BootKeys.{boot_size}
use Rattle.rx_boot.specs.ServerKeys.{ServerWords}
use Rattle.rx_boot.specs.Bootstrap.{bootstrapped}
use Rattle.rx_block.specs.declared.block.Block.{Block}
use Rattle.rx_crew.specs.Kernel.{KernelValue}
use Rattle.rx_crew.proofs.Basis.{job_block-made}
use Rattle.rx_crew.proofs.kernel.FheKernel.evaluate.Goals as goal

pub returns-clause-block : goal.returns-clause-block
returns-clause-block c =
    let key : ServerWords = c.args.self.now.key in
    let same : c.self.inside.key.now ≡ key = ap (λ (v : KernelValue). v.key) c.self.view_is in
    let is : record { params = c.key.inside.params; boot = c.key.inside.boot; switch = c.key.inside.switch.words } ≡ key = c.key.view_is ∙ same in
    let of : List ℕ → Block = λ ws. record { words = ws; degree = c.args.job.now.degree; noise = 1 } in
    job_block-made key c.args.job.now c.args.cells.now c.args.cells.now c.key.inside.params c.as_slice.result.now _ c.mix_into.new.out _
    (subst (λ (k : ServerWords). length k.boot ≡ boot_size k.params) is c.key.invariant.1) c.requires.forward c.requires.sizes
    (λ i. c.args.cells.now) (ap (λ (k : ServerWords). k.params) is) c.as_slice.ensures (to_z-of_z w16 c.args.job.now.constant (search rules)) c.mix_into.ensures
    (ap of (overwritten-all c.args.out.now.words c.bootstrap_into.new.out (c.bootstrap_into.auto.out ∙ ap length c.as_mut_slice.ensures.value)
    ∙ c.bootstrap_into.ensures.output ∙ ap (λ k. bootstrapped k c.as_slice-table.result.now c.mix_into.new.out) same
    ∙ ap (λ ts. bootstrapped key ts c.mix_into.new.out) c.as_slice-table.ensures))
