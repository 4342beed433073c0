-- The kinds of a message space, and lines that give such kinds.
use Rattle.std.specs.Prelude.{ℕ, ◌^◌, ◌≤◌, ◌≡◌, ◌⊎◌, Bool, true, IsTrue, List, length}
use Rattle.rx_params.specs.Kinds.{is_form}
use Rattle.rx_params.specs.declared.kind.Kind.TheVariants.{Int as WholeNumber}
use Rattle.rx_language.specs.declared.kind.NameKind.{NameKind}
use Rattle.rx_language.specs.declared.kind.NameKind.TheVariants.{Int, Sint, Bit}
use Rattle.rx_language.specs.declared.line.Line.{Line}
use Rattle.rx_language.specs.declared.line.Step.{Step}
use Rattle.rx_language.specs.Programs.{kind_at}

-- a number's width is a multiple of the message bits, from one block to 64 bits
abbrev pub is_kind : ℕ → NameKind → Bool
is_kind space (Int width) = is_form space WholeNumber width
is_kind space (Sint width) = is_form space WholeNumber width
is_kind space Bit = true

-- the lines give kinds of the space
abbrev pub AreKinds : ℕ → List Step → Type 0
AreKinds space steps = (i : ℕ) → IsTrue (is_kind space (kind_at steps i))

-- the lines of a circuit of this space, and what is known of them
pub record AreKnown (space : ℕ) (lines : List Line) (steps : List Step) : Type 0 where
  pub space_is : (space ≡ 2) ⊎ (space ≡ 3)
  pub kinds : AreKinds space steps
  pub same : length steps ≡ length lines
  pub few : length lines ≤ 2 ^ 12
