use Rattle.std.proofs.Common.{◌≡◌, max, drop}
use Rattle.rx_meaning.specs.Bounds.{greatest_at}
use Rattle.rx_meaning.proofs.bounds.greatest_at.Given as goal

abbrev pub invariant-loop-place : goal.invariant-loop-place
invariant-loop-place l = max l.most (greatest_at l.numbers (drop l.place-index l.places)) ≡ greatest_at l.numbers l.places
