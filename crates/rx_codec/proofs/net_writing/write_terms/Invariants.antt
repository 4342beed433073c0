use Rattle.std.proofs.Common.{◌≡◌, ◌∷◌, ◌++◌, length, take}
use Rattle.std.specs.List.{flat_map}
use Rattle.rx_codec.specs.NetFile.{term_bytes}
use Rattle.rx_codec.proofs.net_writing.write_terms.Given as goal

abbrev pub invariant-loop-term : goal.invariant-loop-term
invariant-loop-term l = l.out.items ≡ l.fn.out.items ++ (length l.terms ∷ flat_map term_bytes (take l.term-index l.terms))
