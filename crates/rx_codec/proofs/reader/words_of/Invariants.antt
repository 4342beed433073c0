use Rattle.std.proofs.Common.{◌≡◌}
use Rattle.rx_codec.specs.WordFields.{words_in}
use Rattle.rx_codec.proofs.reader.words_of.Given as goal

abbrev pub invariant-loop-i : goal.invariant-loop-i
invariant-loop-i l = l.words.items ≡ words_in l.i l.bytes
