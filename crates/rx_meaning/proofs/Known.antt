-- A circuit's lines are known: so many, of kinds of its space.
use Rattle.std.proofs.Common.{◌≡◌, ℕ, ◌+◌, ◌<◌, ◌≤◌, ◌^◌, List, [], ◌∷◌, ◌++◌, length, get_or, sym, subst, ◌∙◌, arith, length-append}
use Rattle.std.specs.Prelude.{◌&&◌, not, ◌||◌, nat_lt, IsTrue}
use Rattle.std.proofs.lemmas.Bool.{and_parts, ltb-true}
use Rattle.std.proofs.lemmas.List.{get_or_default}
use Rattle.rx_language.specs.declared.line.Line.{Line}
use Rattle.rx_language.specs.declared.line.Step.{Step}
use Rattle.rx_language.specs.Words.{is_input, is_output}
use Rattle.rx_language.specs.Programs.{Program, IsProgram, AreLawful, inputs_in, outputs_in, most_lines, most_inputs, most_outputs, no_step, steps_of}
use Rattle.rx_language.proofs.Steps.{length-by}
use Rattle.rx_meaning.specs.Kinds.{is_kind, AreKinds, AreKnown}
use Rattle.rx_meaning.proofs.LineKinds.{kinds_are, space_is}

lines_few : (space width : ℕ) (before lines : List Line) → length before ≤ 2 ^ 12 → AreLawful space width before lines → length before + length lines ≤ 2 ^ 12
lines_few space width before [] h a = omega arith
lines_few space width before (line ∷ lines) h a =
    let room = and_parts (nat_lt (length before + 1) most_lines)
    ((not (is_input line.word) || nat_lt (inputs_in before) most_inputs) && (not (is_output line.word) || nat_lt (outputs_in before) most_outputs)) a.0.room
    in
    let one : length before + 1 < 4096 = ltb-true (length before + 1) most_lines room.0 in
    let n : length (before ++ line ∷ []) ≡ length before + 1 = length-append before (line ∷ []) in
    let rest : length (before ++ line ∷ []) + length lines ≤ 2 ^ 12 = lines_few space width (before ++ line ∷ []) lines (omega arith) a.1 in
    omega arith

program_known : (p : Program) → IsProgram p → AreKnown p.space p.lines (steps_of p)
program_known p h = record {
  space_is = space_is p h;
  kinds = kinds_are p h;
  same = length-by p.width p.lines;
  few = (let all : 0 + length p.lines ≤ 2 ^ 12 = lines_few p.space p.width [] p.lines (omega arith) h.lines in omega arith);
}

-- the same of what the calls of a circuit answer
pub known : (p : Program) (space : ℕ) (lines : List Line) (steps : List Step) → IsProgram p → space ≡ p.space → lines ≡ p.lines → steps ≡ steps_of p → AreKnown space lines steps
known p space lines steps h e f g =
    subst (λ (m : ℕ). AreKnown m lines steps) (sym e)
    (subst (λ (ls : List Line). AreKnown p.space ls steps) (sym f) (subst (AreKnown p.space p.lines) (sym g) (program_known p h)))

-- the kind of the line at a place
pub kind_here : (space : ℕ) (steps : List Step) (place : ℕ) (step : Step) → AreKinds space steps → place < length steps → step ≡ get_or steps place step → IsTrue (is_kind space step.kind)
kind_here space steps place step h k e =
    subst (λ (s : Step). IsTrue (is_kind space s.kind)) (sym (e ∙ get_or_default steps place step no_step k)) (h place)
