-- Laws of lines, words and numerals, as a contract can name them.
use Rattle.std.specs.Prelude.{ℕ, ◌^◌, ◌<◌, ◌≡◌, List, [], ◌∷◌, ◌++◌, length, decimal, IsTrue, Some}
use Rattle.std.specs.List.{flat_map, join_with_byte, AllByRecursion}
use Rattle.rx_text.specs.Lines.{parts_of, words_of, line_of, Lacks, IsWord}
use Rattle.rx_text.specs.Names.{is_name}
use Rattle.rx_text.specs.Numerals.{numeral_of}

-- a number has exactly one numeral, its decimal digits
pub record NumeralLaws : Type 0 where
  pub read_back : (n : ℕ) → n < 2 ^ 64 → numeral_of (decimal n) ≡ Some n
  pub one_spelling : (text : List ℕ) (n : ℕ) → n < 2 ^ 64 → numeral_of text ≡ Some n → text ≡ decimal n

-- names and numerals can be words
pub record WordLaws : Type 0 where
  pub name : (text : List ℕ) → IsTrue (is_name text) → IsWord text
  pub number : (n : ℕ) → n < 2 ^ 64 → IsWord (decimal n)

-- words make one line and lines one text, and what was made falls into the same words and lines
pub record LineLaws : Type 0 where
  pub first_line : (words : List (List ℕ)) (rest : List ℕ) → AllByRecursion IsWord words →
      parts_of (line_of words ++ rest) ≡ join_with_byte 32 words ∷ parts_of rest
  pub words : (words : List (List ℕ)) → 0 < length words → AllByRecursion IsWord words → words_of (join_with_byte 32 words) ≡ words
  pub lines : (lines : List (List ℕ)) → AllByRecursion (Lacks 10) lines →
      parts_of (flat_map (λ line. line ++ 10 ∷ []) lines) ≡ lines ++ [] ∷ []
  pub whole_line : (line : List ℕ) → join_with_byte 32 (words_of line) ≡ line
  pub whole_text : (text : List ℕ) → join_with_byte 10 (parts_of text) ≡ text
