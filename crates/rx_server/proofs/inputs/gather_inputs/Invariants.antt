use Rattle.std.proofs.Common.{◌≡◌, ◌++◌, drop}
use Rattle.rx_server.specs.Inputs.{first_fault, items_of, blocks_found}
use Rattle.rx_server.proofs.inputs.gather_inputs.Given as goal

-- no input so far has a fault, and those that are left give the blocks that are left
abbrev pub invariant-loop-input : goal.invariant-loop-input
invariant-loop-input l = record {
  right : first_fault (drop l.input-index l.inputs) (items_of l.ciphers) ≡ first_fault l.inputs (items_of l.ciphers);
  gathered : l.blocks.items ++ blocks_found (drop l.input-index l.inputs) (items_of l.ciphers) ≡ blocks_found l.inputs (items_of l.ciphers);
}
