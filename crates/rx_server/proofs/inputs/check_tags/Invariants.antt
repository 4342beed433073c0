use Rattle.std.proofs.Common.{◌≡◌, drop}
use Rattle.rx_server.specs.Inputs.{tags_fault}
use Rattle.rx_server.proofs.inputs.check_tags.Given as goal

-- no block so far passes the tags
abbrev pub invariant-loop-block : goal.invariant-loop-block
invariant-loop-block l = tags_fault l.input (drop l.block-index l.blocks) ≡ tags_fault l.input l.blocks
