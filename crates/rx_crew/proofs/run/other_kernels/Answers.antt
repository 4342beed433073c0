use Rattle.std.proofs.Common.{◌≡◌, sym, subst}
use Rattle.std.specs.Prelude.{All}
use Rattle.std.proofs.lemmas.List.Elements.{All-push}
use Rattle.rx_crew.specs.declared.kernel.GatedKernel.{GatedKernel}
use Rattle.rx_crew.proofs.run.other_kernels.Goals as goal

pub loop-worker-preserved : goal.loop-worker-preserved
loop-worker-preserved g c =
    let P : GatedKernel g.row.G.Denot → Type 0 = λ made. made.kernel ≡ record { key = c.args.key.now; runs = 0 } in
    subst (All P) (sym c.in_ok-push.ensures.items) (All-push P c.loop-worker.kernels.items c.in_ok-new.field-0 c.loop-worker.invariant c.in_ok-new.ensures)
