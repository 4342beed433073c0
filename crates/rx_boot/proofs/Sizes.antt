-- How many rows and words a bootstrapping key has, and where a row stands.
use Rattle.std.proofs.Common.{◌≡◌, ℕ, ◌+◌, ◌*◌, ◌/◌, ◌%◌, ◌<◌, sym, ◌∙◌, ap, arith}
use Rattle.std.proofs.lemmas.Nat.{pow_pos, mul-add-lt, div-mul-add, mod-mul-add, div-add-mod'}
use Rattle.std.proofs.Math.Nat.{div-div-eq-div-mul}
use Rattle.rx_params.specs.declared.params.Params.{Params}
use Rattle.rx_params.specs.Acceptance.{FieldsInRange}

-- a polynomial has coefficients
pub some_coefficients : (p : Params) → FieldsInRange p → 0 < p.poly_size
some_coefficients p fields = omega (arith, pow_pos fields.poly_size.0, fields.poly_size.2)

-- the number of row (j, t) of encrypted bit i, for k polynomials and l levels
abbrev pub row_number : ℕ → ℕ → ℕ → ℕ → ℕ → ℕ
row_number k l i j t = (i * k + j) * l + t

pub row_number-level : (k l i j t : ℕ) → t < l → row_number k l i j t % l ≡ t
row_number-level k l i j t q = mod-mul-add (i * k + j) l t q

pub row_number-polynomial : (k l i j t : ℕ) → j < k → t < l → row_number k l i j t / l % k ≡ j
row_number-polynomial k l i j t p q = ap (λ x. x % k) (div-mul-add (i * k + j) l t q) ∙ mod-mul-add i k j p

row_number-split : (k l i j t : ℕ) → row_number k l i j t ≡ i * (k * l) + (j * l + t)
row_number-split k l i j t = omega arith

pub row_number-bit : (k l i j t : ℕ) → j < k → t < l → row_number k l i j t / (k * l) ≡ i
row_number-bit k l i j t p q =
    ap (λ x. x / (k * l)) (row_number-split k l i j t)
    ∙ div-mul-add i (k * l) (j * l + t) (omega (arith, mul-add-lt j l t k p q))

pub row_number-lt : (k l d i j t : ℕ) → i < d → j < k → t < l → row_number k l i j t < d * (k * l)
row_number-lt k l d i j t s p q =
    omega (arith, row_number-split k l i j t, mul-add-lt i (k * l) (j * l + t) d s (omega (arith, mul-add-lt j l t k p q)))

-- each number is that of the row that it names
pub row_number-of : (k l row : ℕ) → row ≡ row_number k l (row / (k * l)) (row / l % k) (row % l)
row_number-of k l row =
    let outer : row / l ≡ row / (k * l) * k + row / l % k =
    sym (div-add-mod' (row / l) k) ∙ ap (λ x. x * k + row / l % k) (div-div-eq-div-mul row l k ∙ ap (λ x. row / x) (omega arith)) in
    sym (div-add-mod' row l) ∙ ap (λ x. x * l + row % l) outer
