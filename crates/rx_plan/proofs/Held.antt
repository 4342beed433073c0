-- Digits that stand by themselves, and numbers that cells hold.
use Rattle.std.proofs.Common.{◌≡◌, ◌^◌, ℕ, zero, suc, ◌+◌, ◌-◌, ◌*◌, ◌/◌, ◌%◌, ◌<◌, ◌≤◌, inl, inr, List, length, get_or, sym, ◌∙◌, ap, arith, subst, pow-add}
use Rattle.std.proofs.lemmas.Bool.{cases_lt}
use Rattle.std.proofs.lemmas.Nat.{pow_pos, mul-le, mod_below, div-mul-add, mod-pow-add}
use Rattle.std.proofs.Math.Nat.{add-mul-div_right, add-mul-mod_self_right, mod-eq_of_lt, div-eq_of_lt, mod-one, pow-le-pow_right}
use Rattle.rx_params.specs.Kinds.{digit_at}
use Rattle.rx_net.specs.declared.net.Net.{Net}
use Rattle.rx_net.specs.Legal.{IsBounded}
use Rattle.rx_net.specs.Growth.{Extends}
use Rattle.rx_plan.specs.Tables.{HasEntries}
use Rattle.rx_plan.specs.Values.{AreInputs, number, number_held, cell_value}
use Rattle.rx_plan.specs.Planned.{IsCell, AreCells, AreBlocks, Planned}
use Rattle.rx_plan.proofs.Kept.{value_below}
use Rattle.rx_plan.proofs.Numbers.{number_same, number_below, number_held-is, pow_pow}
use Rattle.rx_plan.proofs.Planned.{planned_same}

pub digit_below : (m z i : ℕ) → digit_at m z i < 2 ^ m
digit_below m z i = mod_below (z / 2 ^ (m * i)) (2 ^ m) (pow_pos m)

-- a power that ends above digit i
power_above : (m n i : ℕ) → i < n → 2 ^ (m * n) ≡ 2 ^ (m * (n - suc i)) * 2 ^ m * 2 ^ (m * i)
power_above m n i h =
    let r : ℕ = n - suc i in
    let s : n ≡ r + 1 + i = omega arith in
    let e : m * n ≡ m * r + m + m * i = ap (λ k. m * k) s ∙ (omega arith) in
    ap (λ k. 2 ^ k) e ∙ pow-add 2 (m * r + m) (m * i) ∙ ap (λ x. x * 2 ^ (m * i)) (pow-add 2 (m * r) m)

-- what is added above a digit does not touch it
pub digit_under : (m n z k i : ℕ) → i < n → digit_at m (z + 2 ^ (m * n) * k) i ≡ digit_at m z i
digit_under m n z k i h =
    let w : ℕ = 2 ^ (m * i) in
    let x : ℕ = k * 2 ^ (m * (n - suc i)) in
    let e : z + 2 ^ (m * n) * k ≡ z + x * 2 ^ m * w = ap (λ p. z + p * k) (power_above m n i h) ∙ (omega arith) in
    ap (λ y. y / w % 2 ^ m) e ∙ ap (λ y. y % 2 ^ m) (add-mul-div_right z (x * 2 ^ m) (pow_pos (m * i)))
    ∙ add-mul-mod_self_right (z / w) x (2 ^ m)

-- the digit that is added above a number of n digits
pub digit_next : (m n z k : ℕ) → z < 2 ^ (m * n) → k < 2 ^ m → digit_at m (z + 2 ^ (m * n) * k) n ≡ k
digit_next m n z k h l =
    let w : ℕ = 2 ^ (m * n) in
    let e : z + w * k ≡ k * w + z = omega arith in
    ap (λ y. y / w % 2 ^ m) e ∙ ap (λ y. y % 2 ^ m) (div-mul-add k w z h) ∙ mod-eq_of_lt l

pub number_small : (m n : ℕ) (f : ℕ → ℕ) → ((i : ℕ) → i < n → f i < 2 ^ m) → number (2 ^ m) n f < 2 ^ (m * n)
number_small m n f h = subst (λ (p : ℕ). number (2 ^ m) n f < p) (pow_pow m n) (number_below (2 ^ m) n f h)

pub digit_number : (m n : ℕ) (f : ℕ → ℕ) → ((i : ℕ) → i < n → f i < 2 ^ m) → (i : ℕ) → i < n → digit_at m (number (2 ^ m) n f) i ≡ f i
unfolding number
digit_number m zero f h i l = absurd (omega arith)
digit_number m (suc n) f h i l =
    let z : ℕ = number (2 ^ m) n f in
    let e : z + (2 ^ m) ^ n * f n ≡ z + 2 ^ (m * n) * f n = ap (λ p. z + p * f n) (pow_pow m n) in
    ap (λ y. digit_at m y i) e ∙ elim (cases_lt i n) as (λ _. digit_at m (z + 2 ^ (m * n) * f n) i ≡ f i) [
      | inl q ↦ digit_under m n z (f n) i q ∙ digit_number m n f (λ j r. h j (omega arith)) i q
      | inr q ↦
          let s : n ≡ i = omega arith in
          subst (λ (i : ℕ). digit_at m (z + 2 ^ (m * n) * f n) i ≡ f i) s
          (digit_next m n z (f n) (number_small m n f (λ j r. h j (omega arith))) (h n (omega arith)))
    ]

-- n digits of a number are the number modulo their power
pub low_digits : (m n z : ℕ) → number (2 ^ m) n (digit_at m z) ≡ z % 2 ^ (m * n)
unfolding number
low_digits m zero z = let e : m * 0 ≡ 0 = omega arith in let r : z % 2 ^ (m * 0) ≡ z % 2 ^ 0 = ap (λ k. z % 2 ^ k) e in sym (r ∙ mod-one z)
low_digits m (suc n) z =
    let e : m + m * n ≡ m * suc n = omega arith in
    let a : number (2 ^ m) n (digit_at m z) ≡ z % 2 ^ (m * n) = low_digits m n z in
    let b : (2 ^ m) ^ n * digit_at m z n ≡ digit_at m z n * 2 ^ (m * n) = ap (λ p. p * digit_at m z n) (pow_pow m n) ∙ (omega arith) in
    let c : z % 2 ^ (m + m * n) ≡ digit_at m z n * 2 ^ (m * n) + z % 2 ^ (m * n) = mod-pow-add z m (m * n) in
    let d : z % 2 ^ (m + m * n) ≡ z % 2 ^ (m * suc n) = ap (λ k. z % 2 ^ k) e in
    omega arith

-- a number of n digits has no more
pub digit_past : (m n z i : ℕ) → z < 2 ^ (m * n) → n ≤ i → digit_at m z i ≡ 0
digit_past m n z i h l =
    let p : 2 ^ (m * n) ≤ 2 ^ (m * i) = pow-le-pow_right {n = 2} (omega arith) (mul-le m n m i (omega arith) l) in
    let e : z / 2 ^ (m * i) ≡ 0 = div-eq_of_lt (omega arith) in
    let q : 0 % 2 ^ m ≡ 0 = mod-eq_of_lt (pow_pos m) in
    ap (λ y. y % 2 ^ m) e ∙ q

pub digit_alone : (m z : ℕ) → z < 2 ^ (m * 1) → digit_at m z 0 ≡ z
digit_alone m z h =
    let n : m * 0 ≡ 0 = omega arith in
    let o : m * 1 ≡ m = omega arith in
    let one : z / 1 ≡ z = omega arith in
    let l : z < 2 ^ m = subst (λ (k : ℕ). z < 2 ^ k) o h in
    ap (λ k. z / 2 ^ k % 2 ^ m) n ∙ ap (λ y. y % 2 ^ m) one ∙ mod-eq_of_lt l

-- cells of a lower degree
pub cells_under : (p : Net) (low high : ℕ) (cs : List ℕ) → low ≤ high → AreCells p low cs → AreCells p high cs
cells_under p low high cs h k i q = let c : IsCell p low (get_or cs i 0) = k i q in record { there = c.there; degree_in = omega (arith, c.degree_in); noise_is = c.noise_is }

-- so many blocks hold so great a number
pub held_small : (p : Net) (cs : List ℕ) → IsBounded p → AreCells p (2 ^ p.space - 1) cs → (xs : List ℕ) → AreInputs p xs → number_held p cs xs < 2 ^ (p.space * length cs)
held_small p cs bounded k xs w =
    subst (λ (z : ℕ). z < 2 ^ (p.space * length cs)) (sym (number_held-is p cs xs))
    (number_small p.space (length cs) (cell_value p cs xs) (λ i q. value_below p (2 ^ p.space) cs bounded (pow_pos p.space) k xs w i q))

pub cell_same : (old now : Net) (cs xs : List ℕ) (i : ℕ) → Extends old now → AreBlocks old cs → AreInputs old xs → i < length cs → cell_value now cs xs i ≡ cell_value old cs xs i
cell_same old now cs xs i e k w q = e.values xs w (get_or cs i 0) (k i q).there

-- the digits of the number that cells hold are what they hold
pub held_digit : (p : Net) (cs xs : List ℕ) (i : ℕ) → IsBounded p → AreBlocks p cs → AreInputs p xs → i < length cs → digit_at p.space (number_held p cs xs) i ≡ cell_value p cs xs i
held_digit p cs xs i bounded k w q =
    ap (λ z. digit_at p.space z i) (number_held-is p cs xs)
    ∙ digit_number p.space (length cs) (cell_value p cs xs) (λ j r. value_below p (2 ^ p.space) cs bounded (pow_pos p.space) k xs w j r) i q

-- a table that was made for a space, where the pen stands
pub table_at : (f : ℕ → ℕ → ℕ) (s t : ℕ) (xs ys : List ℕ) → s ≡ t → ys ≡ xs → HasEntries s (f s) xs → HasEntries t (f t) ys
table_at f s t xs ys e l h = subst (λ (ys : List ℕ). HasEntries t (f t) ys) (sym l) (subst (λ (s : ℕ). HasEntries s (f s) xs) e h)

-- the digits of a number that is said otherwise
pub digits_said : (old new : Net) (cells : List ℕ) (count jobs levels : ℕ) (O : (ℕ → Type 0) → Type 0) (f g : List ℕ → ℕ) → ((xs : List ℕ) → AreInputs old xs → f xs ≡ g xs)
    → Planned old new cells (λ _. 2 ^ old.space - 1) count jobs levels O (λ xs i. digit_at old.space (f xs) i)
    → Planned old new cells (λ _. 2 ^ old.space - 1) count jobs levels O (λ xs i. digit_at old.space (g xs) i)
digits_said old new cells count jobs levels O f g e p =
    planned_same old new cells (λ _. 2 ^ old.space - 1) (λ _. 2 ^ old.space - 1) count jobs levels O (λ xs i. digit_at old.space (f xs) i) (λ xs i. digit_at old.space (g xs) i)
    (λ i q. omega arith) (λ xs w i q. ap (λ z. digit_at old.space z i) (e xs w)) p

-- the number that cells hold stays the same
pub held_same : (old now : Net) (cs xs : List ℕ) → Extends old now → AreBlocks old cs → AreInputs old xs → number_held now cs xs ≡ number_held old cs xs
held_same old now cs xs e k w =
    number_held-is now cs xs ∙ ap (λ s. number (2 ^ s) (length cs) (cell_value now cs xs)) e.space
    ∙ number_same (2 ^ old.space) (length cs) (cell_value now cs xs) (cell_value old cs xs) (λ i q. cell_same old now cs xs i e k w q)
    ∙ sym (number_held-is old cs xs)
