use Rattle.rx_board.specs.Rule.{Opening}
use Rattle.rx_board.proofs.board.opening.opening_words.Given as goal

abbrev pub invariant-loop-job : goal.invariant-loop-job
invariant-loop-job l = record {
  counted : Opening l.net l.width l.job 0 l.words.items;
}
