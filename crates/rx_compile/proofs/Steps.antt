-- A line and its step, as the calls of a circuit answer them.
use Rattle.std.proofs.Common.{◌≡◌, ℕ, zero, suc, ◌<◌, ◌≤◌, ◌^◌, List, [], ◌∷◌, length, get_or, refl, ap, ◌∙◌, arith}
use Rattle.std.specs.List.{AllByRecursion}
use Rattle.std.proofs.lemmas.List.{get_or_default}
use Rattle.rx_language.specs.declared.line.Line.{Line}
use Rattle.rx_language.specs.declared.line.Step.{Step}
use Rattle.rx_language.specs.Programs.{Program, no_step, steps_of, IsProgram}
use Rattle.rx_language.proofs.Steps.{length-by}
use Rattle.rx_meaning.proofs.Known.{known}
use Rattle.rx_compile.specs.States.{no_line, line_at, step_at, source_at}
use Rattle.rx_compile.proofs.Places.{known_at}

pub steps_there : (p : Program) (steps : List Step) (k : ℕ) → steps ≡ steps_of p → k < length p.lines → k < length steps
steps_there p steps k e h = omega (arith, ap length e, length-by p.width p.lines)

pub step_here : (p : Program) (steps : List Step) (k : ℕ) (step : Step) → steps ≡ steps_of p → k < length p.lines → step ≡ get_or steps k step → step ≡ step_at p k
step_here p steps k step e h i = i ∙ get_or_default steps k step no_step (steps_there p steps k e h) ∙ ap (λ ss. get_or ss k no_step) e

pub line_here : (p : Program) (lines : List Line) (k : ℕ) (line : Line) → lines ≡ p.lines → k < length p.lines → line ≡ get_or lines k line → line ≡ line_at p k
line_here p lines k line e h i =
    let l : k < length lines = omega (arith, ap length e) in
    i ∙ get_or_default lines k line no_line l ∙ ap (λ ls. get_or ls k no_line) e

pub kind_read : (p : Program) (steps : List Step) (k : ℕ) (d : Step) → steps ≡ steps_of p → k < length p.lines → (get_or steps k d).kind ≡ (step_at p k).kind
kind_read p steps k d e h = ap (λ (s : Step). s.kind) (get_or_default steps k d no_step (steps_there p steps k e h) ∙ ap (λ ss. get_or ss k no_step) e)

pub all_at : (top : ℕ) (xs : List ℕ) → AllByRecursion (λ x. x < top) xs → (i : ℕ) → i < length xs → get_or xs i 0 < top
all_at top [] h i l = absurd (omega arith)
all_at top (x ∷ xs) h zero l = h.0
all_at top (x ∷ xs) h (suc i) l = all_at top xs h.1 i (omega arith)

-- an argument is of an earlier line
pub source_early : (p : Program) (k i : ℕ) → IsProgram p → k < length p.lines → i < length (step_at p k).sources → source_at p k i < k
source_early p k i h l s = all_at k (step_at p k).sources (known_at p k h l).earlier i s

pub lines_few : (p : Program) → IsProgram p → length p.lines ≤ 2 ^ 12
lines_few p h = (known p p.space p.lines (steps_of p) h refl refl refl).few
