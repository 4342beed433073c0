use Rattle.std.proofs.Common.{rules}
use Rattle.rx_text.proofs.Splits.{has_part}
use Rattle.rx_text.proofs.lines.Lines.next_line.Goals as goal

pub returns-clause-left : goal.returns-clause-left
returns-clause-left c = search (rules, has_part)
