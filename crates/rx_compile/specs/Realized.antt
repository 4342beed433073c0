-- What the plan of one line is: cells that hold the value of the line, within the jobs and the depth of its cost.
use Rattle.std.specs.Prelude.{ℕ, ◌+◌, ◌<◌, ◌≤◌, ◌≡◌, ℤ, List, length}
use Rattle.rx_params.specs.Kinds.{greatest, block_count}
use Rattle.rx_residue.specs.Residues.{residue}
use Rattle.rx_costs.specs.declared.table.Cost.{Cost}
use Rattle.rx_net.specs.declared.net.Net.{Net}
use Rattle.rx_net.specs.Cells.{cell_count, depth}
use Rattle.rx_net.specs.Legal.{IsBounded}
use Rattle.rx_net.specs.Growth.{Extends}
use Rattle.rx_plan.specs.Values.{AreInputs, number_held}
use Rattle.rx_plan.specs.Planned.{Each, EachOf, AreCells}
use Rattle.rx_language.specs.declared.word.Word.{Word}
use Rattle.rx_language.specs.declared.kind.NameKind.{NameKind}
use Rattle.rx_language.specs.Kinds.{bits_of}
use Rattle.rx_meaning.specs.declared.operand.Operand.{Operand}
use Rattle.rx_meaning.specs.Operations.{given_by}
use Rattle.rx_meaning.specs.Values.{absent}
use Rattle.rx_meaning.specs.Costs.{cost_by}
use Rattle.rx_compile.specs.Compiled.{file_kind}

-- cells that may hold a value of the kind: a block for each place, or one for a bit
pub record HasForm (net : Net) (kind : NameKind) (cells : List ℕ) : Type 0 where
  pub count : length cells ≡ block_count (file_kind kind) net.space (bits_of kind)
  pub cells_are : AreCells net (greatest (file_kind kind) net.space) cells

-- the value of a kind that cells hold
abbrev pub operand : Net → NameKind → List ℕ → List ℕ → Operand
operand net kind cells inputs = record { kind = kind; value = number_held net cells inputs }

-- The cells hold a value of the kind: the residue of a number that is made of the inputs. They were made within a cost.
pub record Realizes (old new : Net) (kind : NameKind) (cells : List ℕ) (cost : Cost) (Operands : (ℕ → Type 0) → Type 0)
    (whole : List ℕ → ℤ) : Type 0 where
  pub extends : Extends old new
  pub bounded : IsBounded new
  pub form : HasForm new kind cells
  pub jobs_in : cell_count new ≤ cell_count old + cost.jobs
  pub deep : (d : ℕ) → Operands (λ o. depth old o ≤ d) → (c : ℕ) → cell_count old ≤ c → c < cell_count new → depth new c ≤ d + cost.depth
  pub deep_cells : (d : ℕ) → Operands (λ o. depth old o ≤ d) → Each cells (λ c. depth new c ≤ d + cost.depth)
  pub value_is : (inputs : List ℕ) → AreInputs old inputs → number_held new cells inputs ≡ residue (bits_of kind) (whole inputs)

-- the same for a line of a word, with its numeral and its arguments
abbrev pub RealizesNone : Word → ℕ → Net → Net → NameKind → List ℕ → Type 0
RealizesNone word number old new kind cells =
    Realizes old new kind cells (cost_by word old.space kind kind) (λ _. Unit {0}) (λ inputs. given_by word number absent absent absent)

abbrev pub RealizesOne : Word → ℕ → Net → Net → NameKind → List ℕ → NameKind → List ℕ → Type 0
RealizesOne word number old new kind cells a_kind a =
    Realizes old new kind cells (cost_by word old.space kind a_kind) (Each a)
    (λ inputs. given_by word number (operand old a_kind a inputs) absent absent)

abbrev pub RealizesTwo : Word → Net → Net → NameKind → List ℕ → NameKind → List ℕ → NameKind → List ℕ → Type 0
RealizesTwo word old new kind cells a_kind a b_kind b =
    Realizes old new kind cells (cost_by word old.space kind a_kind) (EachOf a b)
    (λ inputs. given_by word 0 (operand old a_kind a inputs) (operand old b_kind b inputs) absent)

abbrev pub RealizesThree : Word → Net → Net → NameKind → List ℕ → NameKind → List ℕ → NameKind → List ℕ → NameKind → List ℕ → Type 0
RealizesThree word old new kind cells a_kind a b_kind b c_kind c =
    Realizes old new kind cells (cost_by word old.space kind a_kind) (λ P. Each a P × Each b P × Each c P)
    (λ inputs. given_by word 0 (operand old a_kind a inputs) (operand old b_kind b inputs) (operand old c_kind c inputs))
