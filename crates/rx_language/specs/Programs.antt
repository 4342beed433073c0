-- Programs of the language: a message space, a width, and lines, each of which names earlier lines.
use Rattle.std.specs.Prelude.{ℕ, ◌+◌, ◌^◌, ◌≡◌, ◌==◌, nat_lt, ◌&&◌, ◌||◌, not, Bool, true, false, IsTrue, List, [], ◌∷◌, ◌++◌, length, map, count_by, get_or, Option, Some, unwrap_or, if◌then◌else◌}
use Rattle.std.specs.List.{list_all, list_any, position_or_len}
use Rattle.std.specs.Str.{bytes_eq}
use Rattle.rx_text.specs.Names.{is_name}
use Rattle.rx_params.specs.Kinds.{is_form}
use Rattle.rx_params.specs.declared.kind.Kind.TheVariants.{Int as WholeNumber}
use Rattle.rx_language.specs.declared.word.Word.{Word}
use Rattle.rx_language.specs.declared.form.Tail.{Tail}
use Rattle.rx_language.specs.declared.form.Tail.TheVariants.{Nothing, Constant, Amount}
use Rattle.rx_language.specs.declared.kind.NameKind.{NameKind}
use Rattle.rx_language.specs.declared.kind.NameKind.TheVariants.{Bit}
use Rattle.rx_language.specs.declared.line.Line.{Line}
use Rattle.rx_language.specs.declared.line.Step.{Step}
use Rattle.rx_language.specs.Words.{form, is_input, is_output}
use Rattle.rx_language.specs.Kinds.{kind_by}

-- a circuit, as contracts see it
pub record Program : Type 0 where
  -- the message bits
  pub space : ℕ
  -- the width of `in` and `const`
  pub width : ℕ
  -- the lines after line 1
  pub lines : List Line

abbrev pub program_of_fields : ℕ → ℕ → List Line → Program
program_of_fields space width lines = record { space = space; width = width; lines = lines }

-- ---- names among the lines before

-- whether the line defines this name
abbrev pub defines : List ℕ → Line → Bool
defines name line = not (is_output line.word) && bytes_eq line.name name

-- the place of the first of these lines that defines the name; how many lines there are, where none does
abbrev pub place_of : List ℕ → List Line → ℕ
place_of name lines = position_or_len (defines name) lines

-- whether one of these lines defines the name
abbrev pub is_defined : List Line → List ℕ → Bool
is_defined lines name = nat_lt (place_of name lines) (length lines)

-- whether one of these lines gives the name out
abbrev pub is_given_out : List Line → List ℕ → Bool
is_given_out lines name = list_any (λ line. is_output line.word && bytes_eq line.name name) lines

-- the names that a line asks for: its arguments, of `out` its name
abbrev pub asked : Line → List (List ℕ)
asked line = if is_output line.word then line.name ∷ [] else line.args

-- the width of a line: the stated one, else that of the circuit
abbrev pub width_or : Bool → ℕ → ℕ → ℕ
width_or true stated width = stated
width_or false stated width = width

abbrev pub line_width : ℕ → Line → ℕ
line_width width line = width_or (form line.word).stated line.width width

-- ---- kinds and places of the lines, one after the other

abbrev pub no_step : Step
no_step = record { kind = Bit; sources = [] }

-- the kind of the name that is defined at this place
abbrev pub kind_at : List Step → ℕ → NameKind
kind_at steps place = (get_or steps place no_step).kind

-- the kind of a line, after these lines and what is known of them; none where it takes no arguments of their kinds
abbrev pub kind_after : ℕ → List Line → List Step → Line → Option NameKind
kind_after width before steps line =
    kind_by (form line.word).rule (line_width width line) (map (λ name. kind_at steps (place_of name before)) (asked line))

-- what is known of a line, after these lines
abbrev pub step_after : ℕ → List Line → List Step → Line → Step
step_after width before steps line = record {
  kind = unwrap_or (kind_after width before steps line) Bit;
  sources = map (λ name. place_of name before) (asked line);
}

-- what is known of the lines before, and then of these
abbrev pub steps_from : ℕ → List Line → List Step → List Line → List Step
steps_from width before steps [] = steps
steps_from width before steps (line ∷ lines) = steps_from width (before ++ line ∷ []) (steps ++ step_after width before steps line ∷ []) lines

-- what is known of each of these lines, the first of a circuit of this width
unfoldable pub steps_by : ℕ → List Line → List Step
steps_by width lines = steps_from width [] [] lines

abbrev pub steps_of : Program → List Step
steps_of p = steps_by p.width p.lines

-- ---- lawful lines

abbrev pub most_lines : ℕ
most_lines = 4096

abbrev pub most_inputs : ℕ
most_inputs = 64

abbrev pub most_outputs : ℕ
most_outputs = 64

abbrev pub inputs_in : List Line → ℕ
inputs_in lines = count_by (λ line. is_input line.word) lines

abbrev pub outputs_in : List Line → ℕ
outputs_in lines = count_by (λ line. is_output line.word) lines

-- the numeral at the end of a line of this width is below this number
abbrev pub tail_end : Tail → ℕ → ℕ
tail_end Nothing width = 1
tail_end Constant width = 2 ^ width
tail_end Amount width = 256

-- a stated width is a multiple of the message bits from one block to 64 bits
abbrev pub is_stated : Bool → ℕ → ℕ → Bool
is_stated true space width = is_form space WholeNumber width
is_stated false space width = width == 0

-- the numerals of a line are within their ranges
abbrev pub is_ranged : ℕ → ℕ → Line → Bool
is_ranged space width line =
    is_stated (form line.word).stated space line.width && nat_lt line.number (tail_end (form line.word).tail (line_width width line))

-- an earlier line has the name; of `out`, an earlier output has it
abbrev pub is_taken : List Line → Line → Bool
is_taken before line = if is_output line.word then is_given_out before line.name else is_defined before line.name

-- one more line of the word is not one too many: of lines, of inputs, of outputs
abbrev pub has_room : List Line → Word → Bool
has_room before word =
    nat_lt (length before + 1) most_lines
    && ((not (is_input word) || nat_lt (inputs_in before) most_inputs) && (not (is_output word) || nat_lt (outputs_in before) most_outputs))

-- a line is lawful after these lines
pub record IsLawful (space width : ℕ) (before : List Line) (line : Line) : Type 0 where
  -- it has a spelling
  pub name : IsTrue (is_name line.name)
  pub args : IsTrue (list_all is_name line.args)
  pub count : length line.args ≡ (form line.word).args
  -- its numerals are in range
  pub numbers : IsTrue (is_ranged space width line)
  -- what it asks for is defined, and of the right kinds
  pub known : IsTrue (list_all (is_defined before) (asked line))
  pub kind : (kind : NameKind) × (kind_after width before (steps_by width before) line ≡ Some kind)
  -- its name is new, and there is room
  pub new : is_taken before line ≡ false
  pub room : IsTrue (has_room before line.word)

-- these lines are lawful, each after the lines before it
abbrev pub AreLawful : ℕ → ℕ → List Line → List Line → Type 0
AreLawful space width before [] = Unit {0}
AreLawful space width before (line ∷ lines) = IsLawful space width before line × AreLawful space width (before ++ line ∷ []) lines

-- the message bits of a circuit
abbrev pub is_space : ℕ → Bool
is_space space = (space == 2) || (space == 3)

-- a program of the language
pub record IsProgram (p : Program) : Type 0 where
  pub space : IsTrue (is_space p.space)
  pub width : IsTrue (is_form p.space WholeNumber p.width)
  pub lines : AreLawful p.space p.width [] p.lines

-- a program, with what is known of its lines
pub record IsHeldProgram (p : Program) (steps : List Step) : Type 0 where
  pub program : IsProgram p
  pub steps_are : steps ≡ steps_of p

-- ---- inputs and outputs

-- a named input or output
pub record Port : Type 0 where
  pub name : List ℕ
  pub kind : NameKind

-- the lines of such words, by their names and kinds, in their order
abbrev pub ports_in : (Word → Bool) → List Line → List Step → List Port
ports_in is_wanted (line ∷ lines) (step ∷ steps) =
    if is_wanted line.word then record { name = line.name; kind = step.kind } ∷ ports_in is_wanted lines steps else ports_in is_wanted lines steps
ports_in is_wanted _ _ = []

abbrev pub inputs_of : Program → List Port
inputs_of p = ports_in is_input p.lines (steps_of p)

abbrev pub outputs_of : Program → List Port
outputs_of p = ports_in is_output p.lines (steps_of p)
