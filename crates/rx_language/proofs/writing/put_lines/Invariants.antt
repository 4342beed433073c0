use Rattle.std.proofs.Common.{◌≡◌, ◌++◌, drop, string_bytes}
use Rattle.rx_language.specs.Texts.{lines_text}
use Rattle.rx_language.proofs.writing.put_lines.Given as goal

-- what is written and the lines that are left are all of it
abbrev pub invariant-loop-line : goal.invariant-loop-line
invariant-loop-line l = string_bytes l.text ++ lines_text (drop l.line-index l.lines) ≡ string_bytes l.fn.text ++ lines_text l.lines
