-- The two texts of a sample. The circuit is `bits 2 16`, eight inputs i0 to i7, sixteen lines that define v0 to v15, and the
-- outputs v8 to v15. Draws 0 to 7 are the inputs, below 65536. After them the line of v t takes three draws: its word, and each of its
-- two arguments among the names before it.
use Rattle.std.specs.Prelude.{ℕ, zero, suc, ◌+◌, ◌-◌, ◌*◌, nat_lt, List, [], ◌∷◌, ◌++◌, codes, decimal, get_or, if◌then◌else◌}
use Rattle.rx_sample.specs.Draws.{state_after, drawn}

abbrev pub input_name : ℕ → List ℕ
input_name i = 105 ∷ decimal i

abbrev pub value_name : ℕ → List ℕ
value_name i = 118 ∷ decimal i

-- entry i of the list i0 to i7, v0, v1, ..
abbrev pub name_at : ℕ → List ℕ
name_at i = if nat_lt i 8 then input_name i else value_name (i - 8)

abbrev pub operations : List (List ℕ)
operations = codes "add" ∷ codes "sub" ∷ codes "mul" ∷ codes "and" ∷ codes "or" ∷ codes "xor" ∷ codes "min" ∷ codes "max" ∷ []

-- the texts of the first so many, one after the other
unfoldable pub texts_below : (ℕ → List ℕ) → ℕ → List ℕ
texts_below text zero = []
texts_below text (suc count) = texts_below text count ++ text count

abbrev pub input_line : ℕ → List ℕ
input_line i = codes "in " ++ (input_name i ++ 10 ∷ [])

-- word, name and arguments
abbrev pub operation_line : List ℕ → ℕ → ℕ → ℕ → List ℕ
operation_line word t first second = word ++ (32 ∷ value_name t ++ (32 ∷ name_at first ++ (32 ∷ name_at second ++ 10 ∷ [])))

-- the line of v t, where this was the state before v 0: draws 3t, 3t + 1 and 3t + 2 from there
abbrev pub drawn_line : ℕ → ℕ → List ℕ
drawn_line state t =
    operation_line (get_or operations (drawn state (3 * t) 8) []) t (drawn state (3 * t + 1) (8 + t)) (drawn state (3 * t + 2) (8 + t))

abbrev pub output_line : ℕ → List ℕ
output_line i = codes "out " ++ (value_name (8 + i) ++ 10 ∷ [])

unfoldable pub circuit_text : ℕ → List ℕ
circuit_text number =
    (codes "bits 2 16" ++ 10 ∷ []) ++ (texts_below input_line 8 ++ (texts_below (drawn_line (state_after number 8)) 16 ++ texts_below output_line 8))

abbrev pub value_line : ℕ → ℕ → List ℕ
value_line number i = codes "int " ++ (input_name i ++ (codes " 16 " ++ (decimal (drawn number i 65536) ++ 10 ∷ [])))

unfoldable pub values_text : ℕ → List ℕ
values_text number = texts_below (value_line number) 8
