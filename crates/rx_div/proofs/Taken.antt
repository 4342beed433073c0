-- Blocks that take in a bit from below.
use Rattle.std.proofs.Common.{◌≡◌, ◌^◌, ℕ, zero, suc, ◌+◌, ◌-◌, ◌*◌, ◌/◌, ◌%◌, ◌<◌, ◌≤◌, List, [], ◌∷◌, ◌++◌, length, get_or, refl, sym, ◌∙◌, ap, arith, subst}
use Rattle.std.proofs.lemmas.Nat.{pow_pos, mod_below, div_below, div-add-mod', div-mul-add, mod-mul-add}
use Rattle.std.proofs.Math.Nat.{pow-suc, pow-zero, mul-add-div_right}
use Rattle.rx_params.specs.Kinds.{digit_at}
use Rattle.rx_net.specs.declared.net.Net.{Net}
use Rattle.rx_net.specs.Cells.{value, degree, depth}
use Rattle.rx_net.specs.Legal.{IsBounded}
use Rattle.rx_net.specs.Growth.{Extends}
use Rattle.rx_plan.specs.Tables.{entries, HasEntries}
use Rattle.rx_plan.specs.Values.{number, number_held, cell_value}
use Rattle.rx_plan.specs.Planned.{Each, IsCell, AreBlocks, Makes, Planned}
use Rattle.rx_plan.proofs.Kept.{value_in, value_below, depths_kept, cell_within}
use Rattle.rx_plan.proofs.Numbers.{number_same, number_below, number_held-is}
use Rattle.rx_plan.proofs.Planned.{makes_gives, planned_one, planned_weaken, planned_beside}
use Rattle.rx_plan.proofs.PerBlock.{two_blocks, unit_big}
use Rattle.rx_plan.proofs.Held.{cell_same}
use Rattle.rx_plan.proofs.Given.{planned_digits}
use Rattle.rx_bits.specs.Signs.{between}

-- the digits of twice a number and a bit, from digits to the base of 2 ^ m
abbrev pub row_at : ℕ → (ℕ → ℕ) → ℕ → ℕ → ℕ
row_at m x bit zero = (2 * x 0 + bit) % 2 ^ m
row_at m x bit (suc i) = between m (m - 1) (x (suc i)) (x i)

-- what comes into a digit, where h is half of the base
abbrev pub comes_in : ℕ → (ℕ → ℕ) → ℕ → ℕ → ℕ
comes_in h x bit zero = bit
comes_in h x bit (suc i) = x i / h

halves : (m : ℕ) → 1 ≤ m → 2 ^ m ≡ 2 * 2 ^ (m - 1)
halves m h = let e : m ≡ suc (m - 1) = omega arith in let p : 2 ^ suc (m - 1) ≡ 2 ^ (m - 1) * 2 = pow-suc 2 (m - 1) in ap (λ k. 2 ^ k) e ∙ (omega arith)

comes_le : (h : ℕ) (x : ℕ → ℕ) (bit n : ℕ) → 0 < h → bit ≤ 1 → ((i : ℕ) → i < n → x i < 2 * h) → comes_in h x bit n ≤ 1
comes_le h x bit zero p b l = b
comes_le h x bit (suc n) p b l = let q : x n / h < 2 = div_below (x n) h 2 p (l n (omega arith)) in omega arith

-- what goes out of a digit
goes_out : (h x c : ℕ) → 0 < h → c ≤ 1 → (2 * x + c) / (2 * h) ≡ x / h
goes_out h x c p l =
    let d : x / h * h + x % h ≡ x = div-add-mod' x h in
    let r : x % h < h = mod_below x h p in
    let t : x / h * (2 * h) ≡ 2 * (x / h * h) = omega arith in
    let e : 2 * x + c ≡ x / h * (2 * h) + (2 * (x % h) + c) = omega arith in
    ap (λ y. y / (2 * h)) e ∙ div-mul-add (x / h) (2 * h) (2 * (x % h) + c) (omega arith)

-- the digits and what goes out at the end are the whole
row_sum : (h n : ℕ) (x : ℕ → ℕ) (bit : ℕ) → 0 < h → bit ≤ 1 → ((i : ℕ) → i < n → x i < 2 * h)
    → 2 * number (2 * h) n x + bit ≡ number (2 * h) n (λ i. (2 * x i + comes_in h x bit i) % (2 * h)) + (2 * h) ^ n * comes_in h x bit n
unfolding number
row_sum h zero x bit p b l = let e : (2 * h) ^ zero * bit ≡ 1 * bit = ap (λ k. k * bit) (pow-zero (2 * h)) in omega arith
row_sum h (suc n) x bit p b l =
    let u : ℕ = 2 * h in
    let c : ℕ = comes_in h x bit n in
    let s : ℕ = 2 * x n + c in
    let i : 2 * number u n x + bit ≡ number u n (λ i. (2 * x i + comes_in h x bit i) % u) + u ^ n * c = row_sum h n x bit p b (λ i q. l i (omega arith)) in
    let d : s / u * u + s % u ≡ s = div-add-mod' s u in
    let k : s / u ≡ x n / h = goes_out h (x n) c p (comes_le h x bit n p b (λ i q. l i (omega arith))) in
    let m : u ^ n * (s / u * u + s % u) ≡ u ^ n * s = ap (λ y. u ^ n * y) d in
    let q : u ^ suc n ≡ u ^ n * u = pow-suc u n in
    let w : u ^ suc n * (x n / h) ≡ (u ^ n * u) * (s / u) = ap (λ y. y * (x n / h)) q ∙ ap (λ y. (u ^ n * u) * y) (sym k) in
    let z : u ^ n * s ≡ 2 * (u ^ n * x n) + u ^ n * c = omega arith in
    omega arith

row_number : (h n : ℕ) (x : ℕ → ℕ) (bit : ℕ) → 0 < h → bit ≤ 1 → ((i : ℕ) → i < n → x i < 2 * h)
    → number (2 * h) n (λ i. (2 * x i + comes_in h x bit i) % (2 * h)) ≡ (2 * number (2 * h) n x + bit) % (2 * h) ^ n
row_number h n x bit p b l =
    let u : ℕ = 2 * h in
    let row : ℕ → ℕ = λ i. (2 * x i + comes_in h x bit i) % u in
    let below : number u n row < u ^ n = number_below u n row (λ i q. mod_below (2 * x i + comes_in h x bit i) u (omega arith)) in
    let e : 2 * number u n x + bit ≡ comes_in h x bit n * u ^ n + number u n row = omega (arith, row_sum h n x bit p b l) in
    sym (ap (λ y. y % u ^ n) e ∙ mod-mul-add (comes_in h x bit n) (u ^ n) (number u n row) below)

-- a digit between two
between_is : (h a b : ℕ) → 0 < h → (2 * h * a + b) / h % (2 * h) ≡ (2 * a + b / h) % (2 * h)
between_is h a b p =
    let e : 2 * h * a + b ≡ 2 * a * h + b = omega arith in
    ap (λ y. y / h % (2 * h)) e ∙ ap (λ y. y % (2 * h)) (mul-add-div_right p (2 * a) b)

row_is : (m : ℕ) (x : ℕ → ℕ) (bit i : ℕ) → 1 ≤ m → row_at m x bit i ≡ (2 * x i + comes_in (2 ^ (m - 1)) x bit i) % 2 ^ m
row_is m x bit zero l = refl
row_is m x bit (suc i) l =
    let h : ℕ = 2 ^ (m - 1) in
    let e : 2 ^ m ≡ 2 * h = halves m l in
    ap (λ u. (u * x (suc i) + x i) / h % u) e ∙ between_is h (x (suc i)) (x i) (pow_pos (m - 1)) ∙ ap (λ u. (2 * x (suc i) + x i / h) % u) (sym e)

-- its number is the whole, but for what goes out
pub row_taken : (m n : ℕ) (x : ℕ → ℕ) (bit : ℕ) → 1 ≤ m → bit ≤ 1 → ((i : ℕ) → i < n → x i < 2 ^ m)
    → number (2 ^ m) n (row_at m x bit) ≡ (2 * number (2 ^ m) n x + bit) % (2 ^ m) ^ n
row_taken m n x bit l b k =
    let h : ℕ = 2 ^ (m - 1) in
    let e : 2 ^ m ≡ 2 * h = halves m l in
    number_same (2 ^ m) n (row_at m x bit) (λ i. (2 * x i + comes_in h x bit i) % 2 ^ m) (λ i q. row_is m x bit i l)
    ∙ ap (λ u. number u n (λ i. (2 * x i + comes_in h x bit i) % u)) e
    ∙ row_number h n x bit (pow_pos (m - 1)) b (λ i q. let z : x i < 2 ^ m = k i q in omega arith)
    ∙ ap (λ u. (2 * number u n x + bit) % u ^ n) (sym e)

-- ---- the lowest block and the others
low_planned : (old one : Net) (x bit c : ℕ) (table : List ℕ) → IsBounded old → 4 ≤ 2 ^ old.space → IsCell old (2 ^ old.space - 1) x → IsCell old 1 bit
    → HasEntries old.space (λ i. i % 2 ^ old.space) table
    → Makes old one c (λ P. P x × P bit) (2 * degree old x + degree old bit) (λ v. 2 * v x + v bit) table
    → Planned old one (c ∷ []) (λ _. 2 ^ old.space - 1) 1 1 1 (λ P. P x × P bit) (λ xs _. (2 * value old xs x + value old xs bit) % 2 ^ old.space)
low_planned old one x bit c table bounded big kx kb h m =
    let u : ℕ = 2 ^ old.space in
    let z : 0 < u = omega arith in
    let nb : IsCell old (u - 1) bit = cell_within old 1 (u - 1) bit (omega arith) kb in
    let top : 2 * degree old x + degree old bit < u * u = two_blocks 2 u (degree old x) (degree old bit) z (omega arith) kx.degree_in nb.degree_in in
    planned_one old one c (u - 1) 1 1 (λ P. P x × P bit) (λ xs. (2 * value old xs x + value old xs bit) % u)
    (makes_gives old one c (u - 1) (λ P. P x × P bit) (2 * degree old x + degree old bit) (λ v. 2 * v x + v bit) table m
    (m.degree_in (u - 1) (λ i q. let e : get_or table i 0 ≡ i % u = h.each i (omega arith) in omega (arith, mod_below i u z))))
    (λ d o. m.depth_in d o)
    (λ xs w.
    m.value_is xs w
    ∙ h.each (2 * value old xs x + value old xs bit) (two_blocks 2 u (value old xs x) (value old xs bit) z (omega arith) (value_in old (u - 1) x bounded kx xs w) (value_in old (u - 1) bit bounded nb xs w)))

pub taken_planned : (old one new : Net) (rest others table : List ℕ) (bit low back : ℕ) → IsBounded old → 2 ≤ old.space → 1 ≤ length rest → AreBlocks old rest → IsCell old 1 bit
    → back ≡ old.space - 1
    → HasEntries old.space (λ i. i % 2 ^ old.space) table
    → Makes old one low (λ P. P (get_or rest 0 0) × P bit) (2 * degree old (get_or rest 0 0) + degree old bit) (λ v. 2 * v (get_or rest 0 0) + v bit) table
    → Planned one new others (λ _. 2 ^ one.space - 1) (length rest - 1) (length rest - 1) 1 (Each rest) (λ xs i. between one.space back (cell_value one rest xs (i + 1)) (cell_value one rest xs i))
    → Planned old new (low ∷ [] ++ others) (λ _. 2 ^ old.space - 1) (length rest) (length rest) 1 (λ P. P bit × Each rest P)
    (λ xs i. digit_at old.space (2 * number_held old rest xs + value old xs bit) i)
taken_planned old one new rest others table bit low back bounded two some k kb e h m q =
    let s : ℕ = old.space in
    let u : ℕ = 2 ^ s in
    let n : ℕ = length rest in
    let O : (ℕ → Type 0) → Type 0 = λ (P : ℕ → Type 0). P bit × Each rest P in
    let x : ℕ = get_or rest 0 0 in
    let says : List ℕ → ℕ → ℕ = λ xs i. row_at s (cell_value old rest xs) (value old xs bit) i in
    let whole : List ℕ → ℕ = λ xs. 2 * number_held old rest xs + value old xs bit in
    let p = planned_weaken old one (low ∷ []) (λ _. u - 1) 1 1 1 1 1 (λ P. P x × P bit) O (λ xs _. (2 * value old xs x + value old xs bit) % u) (omega arith) (omega arith) (λ d o. (o.1 0 (omega arith), o.0))
    (low_planned old one x bit low table bounded (unit_big s two) (k 0 (omega arith)) kb h m) in
    let ext : Extends old one = p.extends in
    let count : 1 + (n - 1) ≡ n = omega arith in
    let row : Planned old new (low ∷ [] ++ others) (λ _. u - 1) n n 1 O says =
    subst (λ (n : ℕ). Planned old new (low ∷ [] ++ others) (λ _. u - 1) n n 1 O says) count
    (planned_beside old one new (low ∷ []) others (λ _. u - 1) (λ _. 2 ^ one.space - 1) (λ _. u - 1) 1 (n - 1) 1 (n - 1) 1 O (Each rest)
    (λ xs _. (2 * value old xs x + value old xs bit) % u) (λ xs i. between one.space back (cell_value one rest xs (i + 1)) (cell_value one rest xs i)) says p q
    (λ d o. depths_kept old one rest d (u - 1) ext k o.1)
    (λ i l. omega arith)
    (λ i l. let z : 2 ^ one.space ≡ u = ap (λ s. 2 ^ s) ext.space in omega arith)
    (λ xs w i l. let z : 0 ≡ i = omega arith in ap (says xs) z)
    (λ xs w i l.
    let o : i + 1 ≡ suc i = omega arith in
    let o2 : suc i ≡ 1 + i = omega arith in
    ap (λ s. between s back (cell_value one rest xs (i + 1)) (cell_value one rest xs i)) ext.space
    ∙ ap (λ b. between s b (cell_value one rest xs (i + 1)) (cell_value one rest xs i)) e
    ∙ ap (λ y. between s (s - 1) y (cell_value one rest xs i)) (cell_same old one rest xs (i + 1) ext k w (omega arith))
    ∙ ap (λ y. between s (s - 1) (cell_value old rest xs (i + 1)) y) (cell_same old one rest xs i ext k w (omega arith))
    ∙ ap (λ j. between s (s - 1) (cell_value old rest xs j) (cell_value old rest xs i)) o
    ∙ ap (says xs) o2)) in
    planned_digits old new (low ∷ [] ++ others) n n 1 O says whole
    (λ xs w.
    row_taken s n (cell_value old rest xs) (value old xs bit) (omega arith) (value_in old 1 bit bounded kb xs w) (λ i l. value_below old u rest bounded (pow_pos s) k xs w i l)
    ∙ ap (λ z. (2 * z + value old xs bit) % u ^ n) (sym (number_held-is old rest xs)))
    row
