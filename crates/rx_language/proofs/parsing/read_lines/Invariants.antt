use Rattle.std.proofs.Common.{◌≡◌, ◌<◌, length}
use Rattle.rx_language.specs.Reading.{lines_from, program_by}
use Rattle.rx_language.proofs.parsing.read_lines.Given as goal

-- the lines so far and those that are left are read as all lines are
abbrev pub invariant-loop-line : goal.invariant-loop-line
invariant-loop-line l = record {
  same : program_by l.draft.space l.draft.width (lines_from l.draft.space l.draft.width l.draft.lines l.lines)
      ≡ program_by l.fn.draft.space l.fn.draft.width (lines_from l.fn.draft.space l.fn.draft.width l.fn.draft.lines l.fn.lines);
  some : 0 < length l.lines;
}

abbrev pub decreases-loop-line : goal.decreases-loop-line
decreases-loop-line l = length l.lines
