use Rattle.std.proofs.Common.{◌≡◌, ℕ, ◌*◌, ◌≤◌, List, ◌++◌, get_or, drop}
use Rattle.rx_language.specs.declared.line.Line.{Line}
use Rattle.rx_language.specs.declared.line.Step.{Step}
use Rattle.rx_meaning.specs.Bounds.{costs_of, depths_from, depths_by}
use Rattle.rx_meaning.proofs.bounds.line_depths.Given as goal

-- the depths so far, and those of the lines that are left
pub record AreSoFar (space : ℕ) (lines : List Line) (steps : List Step) (depths : List ℕ) (place : ℕ) : Type 0 where
  pub whole : depths ++ depths_from depths (costs_of space steps (drop place lines) (drop place steps)) (drop place steps) ≡ depths_by space lines steps
  pub below : (k : ℕ) → get_or depths k 0 ≤ 8192 * place

abbrev pub invariant-loop-place : goal.invariant-loop-place
invariant-loop-place l = AreSoFar l.space l.lines l.steps l.depths.items l.place
