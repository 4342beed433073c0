use Rattle.std.proofs.Common.{◌≡◌, max, drop}
use Rattle.rx_meaning.specs.Bounds.{greatest}
use Rattle.rx_meaning.proofs.bounds.greatest.Given as goal

abbrev pub invariant-loop-number : goal.invariant-loop-number
invariant-loop-number l = max l.most (greatest (drop l.number-index l.numbers)) ≡ greatest l.numbers
