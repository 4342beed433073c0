use Rattle.std.proofs.Common.{◌≡◌, ◌++◌, drop}
use Rattle.std.specs.Vec.Iter.{into_iter_items}
use Rattle.rx_server.specs.Outputs.{items_over}
use Rattle.rx_server.proofs.outputs.output_items.Given as goal

-- the items so far, and those of the outputs that are left over the blocks that are left
abbrev pub invariant-loop-output : goal.invariant-loop-output
invariant-loop-output l = l.items.items ++ items_over (drop l.output-index l.outputs) (into_iter_items l.rest) ≡ items_over l.outputs l.fn.blocks
