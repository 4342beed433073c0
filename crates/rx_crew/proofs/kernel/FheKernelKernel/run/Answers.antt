use Rattle.std.proofs.Common.{rules, ◌≡◌, length, subst, ◌∙◌, ap}
use Rattle.std.proofs.lemmas.Int.{to_z-of_z}
use mir.Syntax.{w16}
use Rattle.rx_boot.specs.BootKeys.{boot_size}
use Rattle.rx_boot.specs.ServerKeys.{ServerWords}
use Rattle.rx_boot.specs.Bootstrap.{bootstrapped}
use Rattle.rx_crew.specs.Kernel.{KernelValue}
use Rattle.rx_crew.proofs.Basis.{job_words-made}
use Rattle.rx_crew.proofs.kernel.FheKernelKernel.run.Goals as goal

pub returns-clause-words : goal.returns-clause-words
returns-clause-words c =
    let key : ServerWords = c.args.self.now.key in
    let same : c.self.inside.key.now ≡ key = ap (λ (v : KernelValue). v.key) c.self.view_is in
    let is : record { params = c.key.inside.params; boot = c.key.inside.boot; switch = c.key.inside.switch.words } ≡ key = c.key.view_is ∙ same in
    job_words-made key c.args.job.now c.args.operands.now c.key.inside.params c.as_slice.result.now _ c.as_slice-2.result.now c.mix_operands.new.out
    c.bootstrap_into.new.out
    (subst (λ (k : ServerWords). length k.boot ≡ boot_size k.params) is c.key.invariant.1)
    (ap (λ (k : ServerWords). k.params) is) c.as_slice.ensures (to_z-of_z w16 c.args.job.now.constant (search rules)) c.as_slice-2.ensures c.mix_operands.ensures
    (c.bootstrap_into.ensures.output ∙ ap (λ k. bootstrapped k c.as_slice-2.result.now c.mix_operands.new.out) same)
