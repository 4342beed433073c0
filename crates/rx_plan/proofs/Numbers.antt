-- Laws of numbers as digits.
use Rattle.std.proofs.Common.{◌≡◌, ◌^◌, ℕ, zero, suc, ◌+◌, ◌*◌, ◌/◌, ◌%◌, ◌<◌, List, [], ◌∷◌, length, map, get_or, inl, inr, refl, sym, ◌∙◌, ap, arith, subst}
use Rattle.std.proofs.lemmas.Bool.{cases_lt}
use Rattle.std.proofs.lemmas.Nat.{pow_pos, div-add-mod', mod_below, div-mul-add, mod-mul-add, mul-add-lt, pow-add}
use Rattle.std.proofs.Math.Nat.{pow-suc, pow-zero, div-div-eq-div-mul}
use Rattle.rx_params.specs.Kinds.{digit_at}
use Rattle.rx_net.specs.declared.net.Net.{Net}
use Rattle.rx_net.specs.Cells.{value}
use Rattle.rx_net.specs.Numbers.{number_of}
use Rattle.rx_plan.specs.Values.{number, number_held, cell_value}

pub number_same : (u n : ℕ) (f g : ℕ → ℕ) → ((i : ℕ) → i < n → f i ≡ g i) → number u n f ≡ number u n g
unfolding number
number_same u zero f g h = refl
number_same u (suc n) f g h =
    ap (λ x. x + u ^ n * f n) (number_same u n f g (λ i p. h i (omega arith))) ∙ ap (λ x. number u n g + u ^ n * x) (h n (omega arith))

pub number_below : (u n : ℕ) (f : ℕ → ℕ) → ((i : ℕ) → i < n → f i < u) → number u n f < u ^ n
unfolding number
number_below u zero f h = omega (arith, pow-zero u)
number_below u (suc n) f h =
    let a : number u n f < u ^ n = number_below u n f (λ i p. h i (omega arith)) in
    let b : f n < u = h n (omega arith) in
    let c : f n * u ^ n + number u n f < u ^ n * u = mul-add-lt (f n) (u ^ n) (number u n f) u b a in
    omega (arith, pow-suc u n)

pub pow_pow : (m n : ℕ) → (2 ^ m) ^ n ≡ 2 ^ (m * n)
pow_pow m zero = let e : m * 0 ≡ 0 = omega arith in pow-zero (2 ^ m) ∙ sym (pow-zero 2) ∙ ap (λ k. 2 ^ k) (sym e)
pow_pow m (suc n) =
    let e : m * n + m ≡ m * suc n = omega arith in
    pow-suc (2 ^ m) n ∙ ap (λ x. x * 2 ^ m) (pow_pow m n) ∙ sym (pow-add 2 (m * n) m) ∙ ap (λ k. 2 ^ k) e

-- ---- the digits of a number
parts : (a u n : ℕ) → a * u ^ suc n ≡ a * u * u ^ n
parts a u n = let p : u ^ suc n ≡ u ^ n * u = pow-suc u n in let q : a * u ^ suc n ≡ a * (u ^ n * u) = ap (λ x. a * x) p in omega arith

-- the number of the lowest digits is what is left
pub number_of_digits : (u n z : ℕ) → 0 < u → number u n (λ i. z / u ^ i % u) + z / u ^ n * u ^ n ≡ z
unfolding number
number_of_digits u zero z h =
    let o : u ^ zero ≡ 1 = pow-zero u in
    let d : z / u ^ zero * u ^ zero + z % u ^ zero ≡ z = div-add-mod' z (u ^ zero) in
    let m : z % u ^ zero < u ^ zero = mod_below z (u ^ zero) (omega arith) in
    omega arith
number_of_digits u (suc n) z h =
    let q : ℕ = z / u ^ n in
    let i : number u n (λ i. z / u ^ i % u) + q * u ^ n ≡ z = number_of_digits u n z h in
    let p : u ^ suc n ≡ u ^ n * u = pow-suc u n in
    let e : z / u ^ suc n ≡ q / u = ap (λ x. z / x) p ∙ sym (div-div-eq-div-mul z (u ^ n) u) in
    let d : q / u * u + q % u ≡ q = div-add-mod' q u in
    let k : z / u ^ suc n * u ^ suc n ≡ q / u * (u ^ n * u) = ap (λ x. x * u ^ suc n) e ∙ ap (λ x. q / u * x) p in
    let l : u ^ n * (q / u * u + q % u) ≡ u ^ n * q = ap (λ x. u ^ n * x) d in
    omega arith

pub number_digits : (u n z : ℕ) → 0 < u → number u n (λ i. z / u ^ i % u) ≡ z % u ^ n
number_digits u n z h =
    let low : ℕ = number u n (λ i. z / u ^ i % u) in
    let b : low < u ^ n = number_below u n (λ i. z / u ^ i % u) (λ i q. mod_below (z / u ^ i) u h) in
    let e : z ≡ z / u ^ n * u ^ n + low = omega (arith, number_of_digits u n z h) in
    sym (ap (λ x. x % u ^ n) e ∙ mod-mul-add (z / u ^ n) (u ^ n) low b)

-- a number has one list of digits
pub same_digits : (u n : ℕ) (f g : ℕ → ℕ) → ((i : ℕ) → i < n → f i < u) → ((i : ℕ) → i < n → g i < u) → number u n f ≡ number u n g → (i : ℕ) → i < n → f i ≡ g i
unfolding number
same_digits u zero f g p q e i l = absurd (omega arith)
same_digits u (suc n) f g p q e i l =
    let a : number u n f < u ^ n = number_below u n f (λ i l. p i (omega arith)) in
    let b : number u n g < u ^ n = number_below u n g (λ i l. q i (omega arith)) in
    let x : f n * u ^ n + number u n f ≡ g n * u ^ n + number u n g = omega arith in
    let high : f n ≡ g n = sym (div-mul-add (f n) (u ^ n) (number u n f) a) ∙ ap (λ x. x / u ^ n) x ∙ div-mul-add (g n) (u ^ n) (number u n g) b in
    let low : number u n f ≡ number u n g = sym (mod-mul-add (f n) (u ^ n) (number u n f) a) ∙ ap (λ x. x % u ^ n) x ∙ mod-mul-add (g n) (u ^ n) (number u n g) b in
    elim (cases_lt i n) [
      | inl r ↦ same_digits u n f g (λ i l. p i (omega arith)) (λ i l. q i (omega arith)) low i r
      | inr r ↦ let e : n ≡ i = omega arith in subst (λ (i : ℕ). f i ≡ g i) e high
    ]

pub digit-is : (m z i : ℕ) → z / (2 ^ m) ^ i % 2 ^ m ≡ digit_at m z i
digit-is m z i = ap (λ x. z / x % 2 ^ m) (pow_pow m i)

-- digits whose number is what a whole number leaves are its digits
pub digits_are : (m n z : ℕ) (f : ℕ → ℕ) → ((i : ℕ) → i < n → f i < 2 ^ m) → number (2 ^ m) n f ≡ z % (2 ^ m) ^ n → (i : ℕ) → i < n → f i ≡ digit_at m z i
digits_are m n z f p e i l =
    let u : ℕ = 2 ^ m in
    same_digits u n f (λ i. z / u ^ i % u) p (λ i q. mod_below (z / u ^ i) u (pow_pos m)) (e ∙ sym (number_digits u n z (pow_pos m))) i l ∙ digit-is m z i

-- and the other way round
pub digits_number : (m n z : ℕ) → number (2 ^ m) n (digit_at m z) ≡ z % (2 ^ m) ^ n
digits_number m n z = number_same (2 ^ m) n (digit_at m z) (λ i. z / (2 ^ m) ^ i % 2 ^ m) (λ i q. sym (digit-is m z i)) ∙ number_digits (2 ^ m) n z (pow_pos m)

-- ---- what cells hold
pub number_none : (u : ℕ) (f : ℕ → ℕ) → 0 ≡ number u 0 f
unfolding number
number_none u f = refl

pub number_front : (u n : ℕ) (f : ℕ → ℕ) → number u (suc n) f ≡ f 0 + u * number u n (λ i. f (suc i))
unfolding number
number_front u zero f = let o : u ^ zero ≡ 1 = pow-zero u in let e : u ^ zero * f 0 ≡ 1 * f 0 = ap (λ x. x * f 0) o in omega arith
number_front u (suc n) f =
    let i : number u (suc n) f ≡ f 0 + u * number u n (λ i. f (suc i)) = number_front u n f in
    let p : u ^ suc n * f (suc n) ≡ u ^ n * u * f (suc n) = ap (λ x. x * f (suc n)) (pow-suc u n) in
    omega arith

held_list : (m : ℕ) (v : ℕ → ℕ) (cs : List ℕ) → number_of m (map v cs) ≡ number (2 ^ m) (length cs) (λ i. v (get_or cs i 0))
held_list m v [] = number_none (2 ^ m) (λ i. v (get_or [] i 0))
held_list m v (c ∷ cs) = ap (λ x. v c + 2 ^ m * x) (held_list m v cs) ∙ sym (number_front (2 ^ m) (length cs) (λ i. v (get_or (c ∷ cs) i 0)))

pub number_held-is : (net : Net) (cs xs : List ℕ) → number_held net cs xs ≡ number (2 ^ net.space) (length cs) (cell_value net cs xs)
unfolding number_held
number_held-is net cs xs = held_list net.space (value net xs) cs

-- ---- carries of a sum
pub carried : (u n : ℕ) (f g c : ℕ → ℕ) → c 0 ≡ 0 → ((i : ℕ) → i < n → c (suc i) ≡ (f i + g i + c i) / u)
    → number u n f + number u n g ≡ number u n (λ i. (f i + g i + c i) % u) + u ^ n * c n
unfolding number
carried u zero f g c z h = let e : u ^ zero * c 0 ≡ u ^ zero * 0 = ap (λ x. u ^ zero * x) z in omega arith
carried u (suc n) f g c z h =
    let s : ℕ = f n + g n + c n in
    let i : number u n f + number u n g ≡ number u n (λ i. (f i + g i + c i) % u) + u ^ n * c n = carried u n f g c z (λ i p. h i (omega arith)) in
    let d : s / u * u + s % u ≡ s = div-add-mod' s u in
    let k : c (suc n) ≡ s / u = h n (omega arith) in
    let m : u ^ n * (s / u * u + s % u) ≡ u ^ n * s = ap (λ x. u ^ n * x) d in
    let p : u ^ suc n ≡ u ^ n * u = pow-suc u n in
    let w : u ^ suc n * c (suc n) ≡ (u ^ n * u) * (s / u) = ap (λ x. x * c (suc n)) p ∙ ap (λ x. (u ^ n * u) * x) k in
    omega arith

pub added : (u n : ℕ) (f g c : ℕ → ℕ) → 0 < u → c 0 ≡ 0 → ((i : ℕ) → i < n → c (suc i) ≡ (f i + g i + c i) / u)
    → number u n (λ i. (f i + g i + c i) % u) ≡ (number u n f + number u n g) % u ^ n
added u n f g c p z h =
    let b : number u n (λ i. (f i + g i + c i) % u) < u ^ n = number_below u n (λ i. (f i + g i + c i) % u) (λ i q. mod_below (f i + g i + c i) u p) in
    let e : number u n f + number u n g ≡ c n * u ^ n + number u n (λ i. (f i + g i + c i) % u) = omega (arith, carried u n f g c z h) in
    sym (ap (λ x. x % u ^ n) e ∙ mod-mul-add (c n) (u ^ n) (number u n (λ i. (f i + g i + c i) % u)) b)
