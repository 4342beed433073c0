-- The one text of a circuit: line 1 is `bits m W`, and then a line for each line.
use Rattle.std.specs.Prelude.{ℕ, ◌≡◌, Bool, true, false, List, [], ◌∷◌, ◌++◌, codes, decimal}
use Rattle.std.specs.List.{flat_map}
use Rattle.rx_text.specs.Lines.{line_of}
use Rattle.rx_language.specs.declared.form.Tail.{Tail}
use Rattle.rx_language.specs.declared.form.Tail.TheVariants.{Nothing, Constant, Amount}
use Rattle.rx_language.specs.declared.line.Line.{Line}
use Rattle.rx_language.specs.Words.{spelling, form}
use Rattle.rx_language.specs.Programs.{Program, IsProgram}

abbrev pub header_words : ℕ → ℕ → List (List ℕ)
header_words space width = codes "bits" ∷ decimal space ∷ decimal width ∷ []

abbrev pub stated_words : Bool → ℕ → List (List ℕ)
stated_words true width = decimal width ∷ []
stated_words false width = []

abbrev pub tail_words : Tail → ℕ → List (List ℕ)
tail_words Nothing number = []
tail_words Constant number = decimal number ∷ []
tail_words Amount number = decimal number ∷ []

-- the word, the name, the width where one is stated, the arguments, the numeral where there is one
abbrev pub line_words : Line → List (List ℕ)
line_words line =
    spelling line.word ∷ line.name ∷ (stated_words (form line.word).stated line.width ++ (line.args ++ tail_words (form line.word).tail line.number))

abbrev pub lines_text : List Line → List ℕ
lines_text lines = flat_map (λ line. line_of (line_words line)) lines

abbrev pub program_text : Program → List ℕ
program_text p = line_of (header_words p.space p.width) ++ lines_text p.lines

-- the bytes are the text of the circuit
pub record IsCircuit (bytes : List ℕ) (p : Program) : Type 0 where
  pub fits : IsProgram p
  pub spelled : bytes ≡ program_text p
