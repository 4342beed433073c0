-- What follows from the limits of the fields on the sizes of numbers.
use Rattle.std.proofs.Common.{ℕ, ◌≡◌, ◌≤◌, ◌*◌, ◌-◌, ◌/◌, ◌^◌, ◌⊎◌, inl, inr, ap, sym, ◌∙◌, subst, arith, refl}
use Rattle.std.proofs.Math.Nat.{mul-le-mul, pow-suc, pow-zero}
use Rattle.std.proofs.Math.Pow.{pow_mono}
use Rattle.rx_laws.specs.Decode.{unit}
use Rattle.rx_params.specs.declared.params.Params.{Params}
use Rattle.rx_params.specs.Acceptance.{FieldsInRange}

pub poly_size-high : (p : Params) → FieldsInRange p → p.poly_size ≤ 4096
poly_size-high p f =
    let log : ℕ = f.poly_size.0 in
    let below : log ≤ 12 = f.poly_size.1.1 in
    let h : 2 ^ log ≤ 2 ^ 12 = pow_mono below in
    let e : p.poly_size ≡ 2 ^ log = f.poly_size.2 in
    omega arith

pub large_dim-high : (p : Params) → FieldsInRange p → p.glwe_dim * p.poly_size ≤ 2 ^ 14
large_dim-high p f = mul-le-mul f.glwe_dim.1 (poly_size-high p f)

-- half of the unit is a power of two
pub half_unit : (m : ℕ) → (m ≡ 2) ⊎ (m ≡ 3) → 2 ^ (62 - 2 * m) ≡ unit m / 2
half_unit m (inl e) = let P : ℕ → Type 0 = λ n. 2 ^ (62 - 2 * n) ≡ unit n / 2 in subst P (sym e) refl
half_unit m (inr e) = let P : ℕ → Type 0 = λ n. 2 ^ (62 - 2 * n) ≡ unit n / 2 in subst P (sym e) refl

pub square : (n : ℕ) → n ^ 2 ≡ n * n
square n =
    let one : n ^ 1 ≡ n = pow-suc n 0 ∙ ap (λ k. k * n) (pow-zero n) ∙ omega arith in
    pow-suc n 1 ∙ ap (λ k. k * n) one
