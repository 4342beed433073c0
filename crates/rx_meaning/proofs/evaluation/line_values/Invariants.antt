use Rattle.std.proofs.Common.{◌≡◌, ℕ, ◌≤◌, List, [], ◌++◌, drop}
use Rattle.rx_language.specs.declared.line.Line.{Line}
use Rattle.rx_language.specs.declared.line.Step.{Step}
use Rattle.rx_meaning.specs.declared.operand.Operand.{Operand}
use Rattle.rx_meaning.specs.Values.{AreHeld, values_from}
use Rattle.rx_meaning.proofs.evaluation.line_values.Given as goal

-- the values so far, and those of the lines that are left
pub record AreSoFar (inputs : List ℕ) (lines : List Line) (steps : List Step) (values : List Operand) (next place : ℕ) : Type 0 where
  pub whole : values ++ values_from inputs values next (drop place lines) (drop place steps) ≡ values_from inputs [] 0 lines steps
  pub held : AreHeld values
  pub few : next ≤ place

abbrev pub invariant-loop-place : goal.invariant-loop-place
invariant-loop-place l = AreSoFar l.inputs l.lines l.steps l.values.items l.next l.place
