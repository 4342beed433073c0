use Rattle.rx_text.proofs.NameLemmas.{name_is_text}
use Rattle.rx_text.proofs.name.Name.as_str.Goals as goal

pub unreachable-requires : goal.unreachable-requires
unreachable-requires c = c.in-Err.ensures.cases.0 (name_is_text _ c.self.invariant.name)
