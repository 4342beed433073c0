use Rattle.std.proofs.Common.{◌≡◌, take}
use Rattle.rx_crew.specs.Evaluation.{block_words}
use Rattle.rx_crew.proofs.blocks.input_words.Given as goal

abbrev pub invariant-loop-block : goal.invariant-loop-block
invariant-loop-block l = l.words.items ≡ block_words (take l.block-index l.inputs)
