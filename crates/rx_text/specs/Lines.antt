-- Text files. A text is a sequence of lines, each of which ends with one line feed. The words of a line are separated by
-- exactly one space, with none before the first or after the last.
use Rattle.std.specs.Prelude.{ℕ, List, [], ◌∷◌, ◌++◌, ◌==◌, ◌≢◌, Option, Some, None}
use Rattle.std.specs.List.{slice_split, join_with_byte, AllByRecursion}

-- what stands between line feeds: each line, and at the end what follows the last line feed, which is empty in a text
abbrev pub parts_of : List ℕ → List (List ℕ)
parts_of bytes = slice_split (λ b. b == 10) bytes

-- what stands between spaces
abbrev pub words_of : List ℕ → List (List ℕ)
words_of line = slice_split (λ b. b == 32) line

-- the line of these words
abbrev pub line_of : List (List ℕ) → List ℕ
line_of words = join_with_byte 32 words ++ 10 ∷ []

-- two words, none where there are fewer or more
abbrev pub two_of : List (List ℕ) → Option (List ℕ × List ℕ)
two_of (first ∷ second ∷ []) = Some (first, second)
two_of _ = None

-- four words, none where there are fewer or more
abbrev pub four_of : List (List ℕ) → Option (List ℕ × List ℕ × List ℕ × List ℕ)
four_of (first ∷ second ∷ third ∷ fourth ∷ []) = Some (first, second, third, fourth)
four_of _ = None

-- no byte of the text is this one
abbrev pub Lacks : ℕ → List ℕ → Type 0
Lacks byte text = AllByRecursion (λ b. b ≢ byte) text

-- a text that can stand as a word: no space, no line feed
abbrev pub IsWord : List ℕ → Type 0
IsWord text = Lacks 32 text × Lacks 10 text
