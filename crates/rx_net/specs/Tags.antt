-- Weighted sums of cells: their values, their bounds, and the noise that they gather.
use Rattle.std.specs.Prelude.{ℕ, suc, ℤ, pos, negsuc, ◌+ℤ◌, ◌*ℤ◌, ◌+◌, ◌*◌, max, List, [], ◌∷◌, slice_range}
use Rattle.std.specs.Int.RustNames.{unsigned_abs}
use Rattle.rx_net.specs.declared.term.Term.{Term}

-- a weight where it is negative, and a weight where it is not
abbrev pub negative_part : ℤ → ℤ
negative_part (pos n) = pos 0
negative_part (negsuc n) = negsuc n

abbrev pub positive_part : ℤ → ℤ
positive_part (pos n) = pos n
positive_part (negsuc n) = pos 0

-- a constant and the sum of a number for each term
abbrev pub sum_of : (Term → ℤ) → ℤ → List Term → ℤ
sum_of part constant [] = constant
sum_of part constant (t ∷ ts) = part t +ℤ sum_of part constant ts

-- the constant and the sum of weight times value over the terms
abbrev pub value_of : (ℕ → ℕ) → ℤ → List Term → ℤ
value_of value constant terms = sum_of (λ t. t.weight *ℤ pos (value t.cell)) constant terms

-- the constant and the sum of weight times degree over the negative weights
abbrev pub low_of : (ℕ → ℕ) → ℤ → List Term → ℤ
low_of degree constant terms = sum_of (λ t. negative_part t.weight *ℤ pos (degree t.cell)) constant terms

-- the constant and the sum of weight times degree over the positive weights
abbrev pub high_of : (ℕ → ℕ) → ℤ → List Term → ℤ
high_of degree constant terms = sum_of (λ t. positive_part t.weight *ℤ pos (degree t.cell)) constant terms

-- the sum of the magnitude of weight times noise over the terms
abbrev pub noise_of : (ℕ → ℕ) → List Term → ℕ
noise_of noise [] = 0
noise_of noise (t ∷ ts) = unsigned_abs t.weight * noise t.cell + noise_of noise ts

-- the greatest of a list, 0 where it is empty
unfoldable pub greatest_of : List ℕ → ℕ
greatest_of [] = 0
greatest_of (x ∷ xs) = max x (greatest_of xs)

-- the greatest entry of a table at an index from low to high
unfoldable pub greatest_between : List ℕ → ℕ → ℕ → ℕ
greatest_between table low high = greatest_of (slice_range table low (suc high))

-- a whole number that is not negative, as such
abbrev pub natural : ℤ → ℕ
natural (pos n) = n
natural (negsuc n) = 0
