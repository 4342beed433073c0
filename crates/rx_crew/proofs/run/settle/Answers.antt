use Rattle.std.proofs.Common.{ℕ, ◌<◌, length, sym, subst, ◌∙◌}
use Rattle.std.specs.List.{AllByRecursion}
use Rattle.rx_crew.proofs.OutputCells.{numbers-below}
use Rattle.rx_crew.proofs.run.settle.Goals as goal

pub copy_numbered-requires-clause-there : goal.copy_numbered-requires-clause-there
copy_numbered-requires-clause-there g c =
    let count : ℕ = length c.complete-runs.new.cells in
    subst (AllByRecursion (λ k. k < count)) (sym c.requires.numbers)
    (numbers-below c.args.net.now count c.requires.legal (c.complete-runs.auto.cells ∙ c.requires.cell_count))
