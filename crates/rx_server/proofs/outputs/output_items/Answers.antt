use Rattle.std.proofs.Common.{◌≡◌, ◌∙◌, ap, arith}
use Rattle.std.proofs.lemmas.Grind.{common_steps}
use Rattle.rx_server.specs.Outputs.{items_over}
use Rattle.rx_server.proofs.OutputItems.{shared_out}
use Rattle.rx_server.proofs.outputs.output_items.Goals as goal

pub returns-clause-of_cells : goal.returns-clause-of_cells
returns-clause-of_cells c = λ cells of.
    let whole : c.from_vec-2.result ≡ items_over c.args.outputs.now c.args.blocks = grind (arith, common_steps) in
    whole ∙ ap (items_over c.args.outputs.now) of ∙ shared_out cells c.args.outputs.now
