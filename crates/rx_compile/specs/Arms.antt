-- What the planner of a line may rest on.
use Rattle.std.specs.Prelude.{ℕ, ◌*◌, ◌<◌, ◌≤◌, ◌≡◌, Bool, true, false, IsTrue, List, length, Some}
use Rattle.rx_net.specs.declared.net.Net.{Net}
use Rattle.rx_plan.specs.Planned.{AreBlocks}
use Rattle.rx_language.specs.declared.word.Word.{Word}
use Rattle.rx_language.specs.declared.kind.NameKind.{NameKind}
use Rattle.rx_language.specs.declared.kind.NameKind.TheVariants.{Int, Sint, Bit}
use Rattle.rx_language.specs.Words.{form, is_input}
use Rattle.rx_language.specs.Kinds.{bits_of, is_number, kind_by}
use Rattle.rx_language.specs.Programs.{tail_end}
use Rattle.rx_meaning.specs.Kinds.{is_kind}
use Rattle.rx_meaning.specs.Costs.{blocks_of}
use Rattle.rx_compile.specs.Realized.{HasForm}

-- A line of this word, which is no input, has this numeral and arguments of these kinds, and gives this kind.
pub record Takes (word : Word) (number : ℕ) (kinds : List NameKind) (kind : NameKind) : Type 0 where
  pub width : ℕ
  pub plain : is_input word ≡ false
  pub count : length kinds ≡ (form word).args
  pub numeral : number < tail_end (form word).tail width
  pub gives : kind_by (form word).rule width kinds ≡ Some kind

-- an argument of a kind of the space, in cells that may hold it
pub record IsArgument (net : Net) (kind : NameKind) (cells : List ℕ) : Type 0 where
  pub kind_is : IsTrue (is_kind net.space kind)
  pub form : HasForm net kind cells

-- whether a value of the kind may stand for a negative number
abbrev pub is_signed : NameKind → Bool
is_signed (Int width) = false
is_signed (Sint width) = true
is_signed Bit = false

-- the blocks of a number of the kind
pub record IsNumber (net : Net) (kind : NameKind) (cells : List ℕ) : Type 0 where
  pub number : is_number kind ≡ true
  pub some : 1 ≤ length cells
  pub count : length cells ≡ blocks_of net.space kind
  pub bits : net.space * length cells ≡ bits_of kind
  pub blocks : AreBlocks net cells
