use Rattle.std.proofs.Common.{◌≡◌, subst, length}
use Rattle.rx_params.specs.Acceptance.{Accepts}
use Rattle.rx_boot.specs.BootKeys.{boot_size}
use Rattle.rx_boot.specs.ServerKeys.{ServerWords}
use Rattle.rx_crew.proofs.laws.cells_keep.Goals as goal

pub returns : goal.returns
returns c =
    c.keeping_laws.ensures.cells c.args.key.now c.args.net.now c.args.inputs.now
    (subst (λ (k : ServerWords). Accepts k.params) c.key.view_is c.key.invariant.0)
    (subst (λ (k : ServerWords). length k.boot ≡ boot_size k.params) c.key.view_is c.key.invariant.1)
    c.requires.legal c.requires.space c.requires.inputs
