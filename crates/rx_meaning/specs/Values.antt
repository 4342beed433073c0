-- The values of a circuit: each line in turn, from the values of the lines before it.
use Rattle.std.specs.Prelude.{ℕ, ◌+◌, ◌^◌, ◌<◌, List, [], ◌∷◌, ◌++◌, get_or, length, if◌then◌else◌}
use Rattle.rx_residue.specs.Residues.{residue}
use Rattle.rx_language.specs.declared.kind.NameKind.TheVariants.{Bit}
use Rattle.rx_language.specs.declared.line.Line.{Line}
use Rattle.rx_language.specs.declared.line.Step.{Step}
use Rattle.rx_language.specs.Words.{is_input, is_output}
use Rattle.rx_language.specs.Kinds.{bits_of}
use Rattle.rx_language.specs.Programs.{Program, Port, steps_of}
use Rattle.rx_meaning.specs.declared.operand.Operand.{Operand}
use Rattle.rx_meaning.specs.Operations.{IsHeld, given_by}

-- what stands for an argument that a line has not
abbrev pub absent : Operand
absent = record { kind = Bit; value = 0 }

-- values that are each within the range of its kind
abbrev pub AreHeld : List Operand → Type 0
AreHeld values = (i : ℕ) → IsHeld (get_or values i absent)

-- argument i of a line whose arguments have these places, by the values of the lines before it
abbrev pub argument : List Operand → List ℕ → ℕ → Operand
argument before sources i = get_or before (get_or sources i (length before)) absent

-- the value of a line, by the values of the lines before it
abbrev pub value_after : List Operand → ℕ → Line → Step → Operand
value_after before given line step = record {
  kind = step.kind;
  value = residue (bits_of step.kind)
      (given_by line.word given (argument before step.sources 0) (argument before step.sources 1) (argument before step.sources 2));
}

-- what is given to a line: input number `next` for an input, else its numeral
abbrev pub given_to : List ℕ → ℕ → Line → ℕ
given_to inputs next line = if is_input line.word then get_or inputs next 0 else line.number

-- the number of the next input after a line
abbrev pub next_after : ℕ → Line → ℕ
next_after next line = if is_input line.word then next + 1 else next

-- the values of these lines, by those of the lines before and the number of the next input
unfoldable pub values_from : List ℕ → List Operand → ℕ → List Line → List Step → List Operand
values_from inputs before next (line ∷ lines) (step ∷ steps) =
    let value = value_after before (given_to inputs next line) line step in
    value ∷ values_from inputs (before ++ value ∷ []) (next_after next line) lines steps
values_from inputs before next _ _ = []

-- the values of all lines
abbrev pub line_values : Program → List ℕ → List Operand
line_values p inputs = values_from inputs [] 0 p.lines (steps_of p)

-- what a line of this value gives out
abbrev pub output_of : Line → ℕ → List ℕ
output_of line value = if is_output line.word then value ∷ [] else []

-- the values of the outputs among the lines
unfoldable pub given_out : List Line → List Operand → List ℕ
given_out (line ∷ lines) (x ∷ values) = output_of line x.value ++ given_out lines values
given_out _ _ = []

-- the outputs of a circuit for these inputs, in order
unfoldable pub outputs_for : Program → List ℕ → List ℕ
outputs_for p inputs = given_out p.lines (line_values p inputs)

-- one number for each port, below two to the bits of its kind
abbrev pub AreWithin : List Port → List ℕ → Type 0
AreWithin [] [] = Unit {0}
AreWithin (port ∷ ports) (x ∷ xs) = (x < 2 ^ bits_of port.kind) × AreWithin ports xs
AreWithin _ _ = ⊥
