use Rattle.std.proofs.Common.{◌≡◌, ℕ, ◌<◌, length, get_or}
use Rattle.rx_board.specs.Rule.{word_place}
use Rattle.rx_board.proofs.closed.Closed.read.Given as goal

abbrev pub invariant-loop-q : goal.invariant-loop-q
invariant-loop-q l = record {
  room : length l.out ≡ l.self.width;
  copied : (k : ℕ) → k < l.q → get_or l.self.words (word_place l.self.width l.job k) 0 ≡ get_or l.out k 0;
}
