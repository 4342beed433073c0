-- The outputs of a circuit are within their kinds.
use Rattle.std.proofs.Common.{◌≡◌, ℕ, suc, ◌<◌, ◌^◌, Bool, true, false, List, [], ◌∷◌, ◌++◌, length, refl, ap, arith, if◌then◌else◌}
use Rattle.rx_residue.proofs.Turns.{residue_below}
use Rattle.rx_language.specs.declared.line.Line.{Line}
use Rattle.rx_language.specs.declared.line.Step.{Step}
use Rattle.rx_language.specs.Words.{is_output}
use Rattle.rx_language.specs.Kinds.{bits_of}
use Rattle.rx_language.specs.Programs.{Program, Port, ports_in, steps_of, outputs_of}
use Rattle.rx_language.proofs.Steps.{length-by}
use Rattle.rx_meaning.specs.declared.operand.Operand.{Operand}
use Rattle.rx_meaning.specs.Operations.{given_by}
use Rattle.rx_meaning.specs.Values.{argument, value_after, given_to, next_after, values_from, line_values, given_out, outputs_for, AreWithin}

-- there is a value for each line
pub values_count : (inputs : List ℕ) (before : List Operand) (next : ℕ) (lines : List Line) (steps : List Step) → length steps ≡ length lines → length (values_from inputs before next lines steps) ≡ length lines
unfolding values_from
values_count inputs before next [] steps h = refl
values_count inputs before next (line ∷ lines) [] h = absurd (omega arith)
values_count inputs before next (line ∷ lines) (step ∷ steps) h =
    let v : Operand = value_after before (given_to inputs next line) line step in
    ap suc (values_count inputs (before ++ v ∷ []) (next_after next line) lines steps (omega arith))

-- each value is within the kind of its line
abbrev AreOf : List Step → List Operand → Type 0
AreOf (step ∷ steps) (x ∷ values) = (x.value < 2 ^ bits_of step.kind) × AreOf steps values
AreOf _ _ = Unit {0}

values_within : (inputs : List ℕ) (before : List Operand) (next : ℕ) (lines : List Line) (steps : List Step) → AreOf steps (values_from inputs before next lines steps)
unfolding values_from
values_within inputs before next [] [] = tt
values_within inputs before next [] (step ∷ steps) = tt
values_within inputs before next (line ∷ lines) [] = tt
values_within inputs before next (line ∷ lines) (step ∷ steps) =
    let given : ℕ = given_to inputs next line in
    let v : Operand = value_after before given line step in (
      residue_below (bits_of step.kind)
          (given_by line.word given (argument before step.sources 0) (argument before step.sources 1) (argument before step.sources 2)),
      values_within inputs (before ++ v ∷ []) (next_after next line) lines steps,
    )

given_if : (given : Bool) (port : Port) (ports : List Port) (x : ℕ) (xs : List ℕ) → x < 2 ^ bits_of port.kind → AreWithin ports xs
    → AreWithin (if given then port ∷ ports else ports) ((if given then x ∷ [] else []) ++ xs)
given_if true port ports x xs h k = (h, k)
given_if false port ports x xs h k = k

given_within : (lines : List Line) (steps : List Step) (values : List Operand) → length values ≡ length lines → length steps ≡ length lines → AreOf steps values
    → AreWithin (ports_in is_output lines steps) (given_out lines values)
unfolding given_out
given_within [] steps values p q h = tt
given_within (line ∷ lines) [] values p q h = absurd (omega arith)
given_within (line ∷ lines) (step ∷ steps) [] p q h = absurd (omega arith)
given_within (line ∷ lines) (step ∷ steps) (x ∷ values) p q h =
    given_if (is_output line.word) (record { name = line.name; kind = step.kind }) (ports_in is_output lines steps) x.value (given_out lines values) h.0
    (given_within lines steps values (omega arith) (omega arith) h.1)

pub outputs_within : (p : Program) (inputs : List ℕ) → AreWithin (outputs_of p) (outputs_for p inputs)
unfolding outputs_for
outputs_within p inputs =
    let n : length (steps_of p) ≡ length p.lines = length-by p.width p.lines in
    given_within p.lines (steps_of p) (line_values p inputs) (values_count inputs [] 0 p.lines (steps_of p) n) n (values_within inputs [] 0 p.lines (steps_of p))
