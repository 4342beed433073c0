-- The digits of a number: that they are those that it is made of, and where a shift leaves them.
use Rattle.std.proofs.Common.{◌≡◌, ℕ, suc, ◌+◌, ◌-◌, ◌*◌, ◌/◌, ◌%◌, ◌^◌, ◌≤◌, sym, ◌∙◌, ap, arith, pow-add}
use Rattle.std.proofs.lemmas.Nat.{pow_pos, mod-pow-add, field_of, shr-shr}
use Rattle.std.proofs.Math.Nat.{mul-div-mul_right, mul-div_cancel, mul-mod_left}
use Rattle.std.proofs.Math.Pow.{mod-mod-pow}
use Rattle.std.proofs.lemmas.Nat.{mul-mod_first}
use Rattle.rx_params.specs.Kinds.{digit_at}

-- ---- the digits of a number that is made of digits

-- ---- a shift looks at two digits that stand beside one another

-- two digits from place i on, as one number
pub two_digits : (m z i : ℕ) → 2 ^ m * digit_at m z (suc i) + digit_at m z i ≡ z / 2 ^ (m * i) % 2 ^ (m + m)
two_digits m z i =
    let b : ℕ = z / 2 ^ (m * i) in
    let e : m * suc i ≡ m * i + m = omega arith in
    let n : z / 2 ^ (m * suc i) ≡ b / 2 ^ m = ap (λ k. z / 2 ^ k) e ∙ sym (shr-shr z (m * i) m) in
    let h : digit_at m z (suc i) ≡ b / 2 ^ m % 2 ^ m = ap (λ y. y % 2 ^ m) n in
    let s : b % 2 ^ (m + m) ≡ b / 2 ^ m % 2 ^ m * 2 ^ m + b % 2 ^ m = mod-pow-add b m m in
    ap (λ y. 2 ^ m * y + b % 2 ^ m) h ∙ (let c : 2 ^ m * (b / 2 ^ m % 2 ^ m) + b % 2 ^ m ≡ b / 2 ^ m % 2 ^ m * 2 ^ m + b % 2 ^ m = omega arith in c) ∙ sym s

-- m bits from the bit t of a number on, t at most m, by its low 2 m bits
pub bits_within : (m t b : ℕ) → t ≤ m → b % 2 ^ (m + m) / 2 ^ t % 2 ^ m ≡ b / 2 ^ t % 2 ^ m
bits_within m t b h =
    let e : m - t + (m + t) ≡ m + m = omega arith in
    let s : b % 2 ^ (m + m) % 2 ^ (m + t) ≡ b % 2 ^ (m + t) = ap (λ k. b % 2 ^ k % 2 ^ (m + t)) (sym e) ∙ mod-mod-pow b (m - t) (m + t) in
    sym (field_of (b % 2 ^ (m + m)) m t) ∙ ap (λ y. y / 2 ^ t) s ∙ field_of b m t

-- the digit that stands t bits above digit i
pub digit_between : (m t z i : ℕ) → t ≤ m → z / 2 ^ (m * i + t) % 2 ^ m ≡ (2 ^ m * digit_at m z (suc i) + digit_at m z i) / 2 ^ t % 2 ^ m
digit_between m t z i h =
    ap (λ y. y % 2 ^ m) (sym (shr-shr z (m * i) t))
    ∙ sym (bits_within m t (z / 2 ^ (m * i)) h)
    ∙ ap (λ y. y / 2 ^ t % 2 ^ m) (sym (two_digits m z i))

-- ---- digits of a number that is shifted up

-- digits below the amount are 0
pub raised_below : (m k z i : ℕ) → m * i + m ≤ k → digit_at m (z * 2 ^ k) i ≡ 0
raised_below m k z i h =
    let r : ℕ = k - (m * i + m) in
    let s : k ≡ r + m + m * i = omega arith in
    let p : 2 ^ k ≡ 2 ^ r * 2 ^ m * 2 ^ (m * i) = ap (λ k. 2 ^ k) s ∙ pow-add 2 (r + m) (m * i) ∙ ap (λ x. x * 2 ^ (m * i)) (pow-add 2 r m) in
    let e : z * 2 ^ k ≡ z * 2 ^ r * 2 ^ m * 2 ^ (m * i) = ap (λ p. z * p) p ∙ (omega arith) in
    ap (λ y. y / 2 ^ (m * i) % 2 ^ m) e
    ∙ ap (λ y. y % 2 ^ m) (mul-div_cancel (z * 2 ^ r * 2 ^ m) (pow_pos (m * i)))
    ∙ mul-mod_left (z * 2 ^ r) (2 ^ m)

-- the digit where the amount ends
pub raised_at : (m r z i : ℕ) → r ≤ m → digit_at m (z * 2 ^ (m * i + r)) i ≡ digit_at m z 0 * 2 ^ r % 2 ^ m
raised_at m r z i h =
    let p : 2 ^ (m * i + r) ≡ 2 ^ (m * i) * 2 ^ r = pow-add 2 (m * i) r in
    let e : z * 2 ^ (m * i + r) ≡ z * 2 ^ r * 2 ^ (m * i) = ap (λ p. z * p) p ∙ (omega arith) in
    let n : m * 0 ≡ 0 = omega arith in
    let one : z / 1 ≡ z = omega arith in
    let d : z / 2 ^ (m * 0) ≡ z = ap (λ k. z / 2 ^ k) n ∙ one in
    ap (λ y. y / 2 ^ (m * i) % 2 ^ m) e
    ∙ ap (λ y. y % 2 ^ m) (mul-div_cancel (z * 2 ^ r) (pow_pos (m * i)))
    ∙ sym (mul-mod_first z (2 ^ r) (2 ^ m))
    ∙ ap (λ y. y % 2 ^ m * 2 ^ r % 2 ^ m) (sym d)

-- digits above it
pub raised_above : (m k z i : ℕ) → k ≤ m * i → digit_at m (z * 2 ^ k) i ≡ z / 2 ^ (m * i - k) % 2 ^ m
raised_above m k z i h =
    let s : m * i ≡ m * i - k + k = omega arith in
    let p : 2 ^ (m * i) ≡ 2 ^ (m * i - k) * 2 ^ k = ap (λ k. 2 ^ k) s ∙ pow-add 2 (m * i - k) k in
    ap (λ w. z * 2 ^ k / w % 2 ^ m) p ∙ ap (λ y. y % 2 ^ m) (mul-div-mul_right z (2 ^ (m * i - k)) (pow_pos k))

-- ---- digits of a number that is shifted down

pub lowered_at : (m k z i : ℕ) → digit_at m (z / 2 ^ k) i ≡ z / 2 ^ (k + m * i) % 2 ^ m
lowered_at m k z i = ap (λ y. y % 2 ^ m) (shr-shr z k (m * i))
