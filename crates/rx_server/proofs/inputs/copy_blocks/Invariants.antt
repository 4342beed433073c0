use Rattle.std.proofs.Common.{◌≡◌, ◌++◌, take}
use Rattle.rx_server.proofs.inputs.copy_blocks.Given as goal

abbrev pub invariant-loop-block : goal.invariant-loop-block
invariant-loop-block l = l.out.items ≡ l.fn.out.items ++ take l.block-index l.blocks
