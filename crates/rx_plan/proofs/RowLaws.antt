-- Laws of numbers that are added, scaled and moved up.
use Rattle.std.proofs.Common.{◌≡◌, ◌^◌, ℕ, zero, suc, ◌+◌, ◌-◌, ◌*◌, ◌/◌, ◌%◌, ◌<◌, ◌≤◌, refl, sym, ◌∙◌, ap, arith, cond}
use Rattle.std.proofs.lemmas.Bool.{lt-ltb, le-ltb}
use Rattle.std.proofs.lemmas.Nat.{div-add-mod', pow-add}
use Rattle.std.proofs.Math.Nat.{pow-suc, add-mul-mod_self_left, mod-add-mod, add-mod-mod}
use Rattle.rx_plan.specs.Values.{number, total}
use Rattle.rx_plan.proofs.Numbers.{number_same}
use Rattle.rx_plan.proofs.Totals.{total_add}
use Rattle.rx_plan.specs.Rows.{shifted, jobs_at_place}

pub shifted_low : (s : ℕ) (h : ℕ → ℕ) (k : ℕ) → k < s → shifted s h k ≡ 0
unfolding shifted
shifted_low s h k q = ap (λ b. cond b 0 (h (k - s))) (lt-ltb k s q)

pub shifted_high : (s : ℕ) (h : ℕ → ℕ) (k : ℕ) → s ≤ k → shifted s h k ≡ h (k - s)
unfolding shifted
shifted_high s h k q = ap (λ b. cond b 0 (h (k - s))) (le-ltb k s q)

pub step_low : (s k : ℕ) → k < s → jobs_at_place s k ≡ 0
unfolding jobs_at_place
step_low s k q = ap (λ b. cond b 0 1) (lt-ltb k s q)

pub step_high : (s k : ℕ) → s ≤ k → jobs_at_place s k ≡ 1
unfolding jobs_at_place
step_high s k q = ap (λ b. cond b 0 1) (le-ltb k s q)

-- sums modulo n
pub sum_mod : (n a b c d : ℕ) → a % n ≡ b % n → c % n ≡ d % n → (a + c) % n ≡ (b + d) % n
sum_mod n a b c d p q =
    sym (mod-add-mod a n c) ∙ ap (λ x. (x + c) % n) p ∙ mod-add-mod b n c ∙ sym (add-mod-mod b c n) ∙ ap (λ x. (b + x) % n) q ∙ add-mod-mod b d n

pub total_mod : (n k : ℕ) (f g : ℕ → ℕ) → ((i : ℕ) → i < k → f i % n ≡ g i % n) → total k f % n ≡ total k g % n
unfolding total
total_mod n zero f g h = refl
total_mod n (suc k) f g h = sum_mod n (total k f) (total k g) (f k) (g k) (total_mod n k f g (λ i p. h i (omega arith))) (h k (omega arith))

pub number_zero : (u n : ℕ) (f : ℕ → ℕ) → ((i : ℕ) → i < n → f i ≡ 0) → number u n f ≡ 0
unfolding number
number_zero u zero f h = refl
number_zero u (suc n) f h =
    let a : number u n f ≡ 0 = number_zero u n f (λ i p. h i (omega arith)) in
    let b : u ^ n * f n ≡ u ^ n * 0 = ap (λ x. u ^ n * x) (h n (omega arith)) in
    omega arith

pub number_add : (u n : ℕ) (f g : ℕ → ℕ) → number u n (λ i. f i + g i) ≡ number u n f + number u n g
unfolding number
number_add u zero f g = refl
number_add u (suc n) f g = omega (arith, number_add u n f g)

pub number_scale : (u n x : ℕ) (f : ℕ → ℕ) → number u n (λ i. x * f i) ≡ x * number u n f
unfolding number
number_scale u zero x f = omega arith
number_scale u (suc n) x f =
    let a : number u n (λ i. x * f i) ≡ x * number u n f = number_scale u n x f in
    omega arith

pub number_total : (u n h : ℕ) (f : ℕ → ℕ → ℕ) → total h (λ j. number u n (f j)) ≡ number u n (λ k. total h (λ j. f j k))
unfolding total
number_total u n zero f = sym (number_zero u n (λ k. 0) (λ i p. refl))
number_total u n (suc h) f = ap (λ x. x + number u n (f h)) (number_total u n h f) ∙ sym (number_add u n (λ k. total h (λ j. f j k)) (f h))

pub number_split : (u n s : ℕ) (f : ℕ → ℕ) → number u (n + s) f ≡ number u n f + u ^ n * number u s (λ i. f (n + i))
unfolding number
number_split u n zero f = let e : n + 0 ≡ n = omega arith in let z : number u n f ≡ number u n f + u ^ n * 0 = omega arith in ap (λ k. number u k f) e ∙ z
number_split u n (suc s) f =
    let e : n + suc s ≡ suc (n + s) = omega arith in
    let i : number u (n + s) f ≡ number u n f + u ^ n * number u s (λ i. f (n + i)) = number_split u n s f in
    let p : u ^ (n + s) * f (n + s) ≡ u ^ n * u ^ s * f (n + s) = ap (λ x. x * f (n + s)) (pow-add u n s) in
    let g : number u (n + s) f + u ^ (n + s) * f (n + s) ≡ number u n f + u ^ n * (number u s (λ i. f (n + i)) + u ^ s * f (n + s)) = omega arith in
    ap (λ k. number u k f) e ∙ g

pub number_shifted : (u n s : ℕ) (f : ℕ → ℕ) → number u (n + s) (shifted s f) ≡ u ^ s * number u n f
unfolding number
number_shifted u zero s f =
    let e : zero + s ≡ s = omega arith in
    let z : 0 ≡ u ^ s * 0 = omega arith in
    ap (λ k. number u k (shifted s f)) e ∙ number_zero u s (shifted s f) (λ i p. shifted_low s f i p) ∙ z
number_shifted u (suc n) s f =
    let e : suc n + s ≡ suc (n + s) = omega arith in
    let i : number u (n + s) (shifted s f) ≡ u ^ s * number u n f = number_shifted u n s f in
    let k : n + s - s ≡ n = omega arith in
    let h : shifted s f (n + s) ≡ f n = shifted_high s f (n + s) (omega arith) ∙ ap f k in
    let p : u ^ (n + s) * shifted s f (n + s) ≡ u ^ n * u ^ s * f n = ap (λ x. x * shifted s f (n + s)) (pow-add u n s) ∙ ap (λ x. u ^ n * u ^ s * x) h in
    let g : number u (n + s) (shifted s f) + u ^ (n + s) * shifted s f (n + s) ≡ u ^ s * (number u n f + u ^ n * f n) = omega arith in
    ap (λ k. number u k (shifted s f)) e ∙ g

-- what is moved past place n is a multiple of u ^ n
pub shifted_parts : (u n s : ℕ) (f : ℕ → ℕ) → u ^ s * number u n f ≡ number u n (shifted s f) + u ^ n * number u s (λ i. shifted s f (n + i))
shifted_parts u n s f = sym (number_shifted u n s f) ∙ number_split u n s (shifted s f)

pub shifted_mod : (u n s : ℕ) (f : ℕ → ℕ) → number u n (shifted s f) % u ^ n ≡ (u ^ s * number u n f) % u ^ n
shifted_mod u n s f =
    sym (ap (λ x. x % u ^ n) (shifted_parts u n s f) ∙ add-mul-mod_self_left (number u n (shifted s f)) (u ^ n) (number u s (λ i. shifted s f (n + i))))

-- low and high digits
pub number_parts : (u n : ℕ) (s : ℕ → ℕ) → number u n (λ k. s k % u) + u * number u n (λ k. s k / u) ≡ number u n s
number_parts u n s =
    let e : number u n (λ k. u * (s k / u)) ≡ u * number u n (λ k. s k / u) = number_scale u n u (λ k. s k / u) in
    let a : number u n (λ k. s k % u + u * (s k / u)) ≡ number u n (λ k. s k % u) + number u n (λ k. u * (s k / u)) = number_add u n (λ k. s k % u) (λ k. u * (s k / u)) in
    let b : number u n (λ k. s k % u + u * (s k / u)) ≡ number u n s = number_same u n (λ k. s k % u + u * (s k / u)) s (λ i p. let d : s i / u * u + s i % u ≡ s i = div-add-mod' (s i) u in omega arith) in
    omega arith

-- two rows in place of one with larger digits
pub moved_mod : (u n i : ℕ) (s : ℕ → ℕ) → (number u n (shifted i (λ k. s k % u)) + number u n (shifted (i + 1) (λ k. s k / u))) % u ^ n ≡ (u ^ i * number u n s) % u ^ n
moved_mod u n i s =
    let lo : ℕ = number u n (λ k. s k % u) in
    let hi : ℕ = number u n (λ k. s k / u) in
    let p : u ^ (i + 1) ≡ u ^ i * u = (let e : i + 1 ≡ suc i = omega arith in ap (λ k. u ^ k) e ∙ pow-suc u i) in
    let q : u ^ (i + 1) * hi ≡ u ^ i * u * hi = ap (λ x. x * hi) p in
    let t : u ^ i * (lo + u * hi) ≡ u ^ i * number u n s = ap (λ x. u ^ i * x) (number_parts u n s) in
    let g : u ^ i * lo + u ^ (i + 1) * hi ≡ u ^ i * number u n s = omega arith in
    sum_mod (u ^ n) (number u n (shifted i (λ k. s k % u))) (u ^ i * lo) (number u n (shifted (i + 1) (λ k. s k / u))) (u ^ (i + 1) * hi) (shifted_mod u n i (λ k. s k % u)) (shifted_mod u n (i + 1) (λ k. s k / u))
    ∙ ap (λ x. x % u ^ n) g

pub number_times : (u n y : ℕ) (f : ℕ → ℕ) → total n (λ i. u ^ i * (f i * y)) ≡ number u n f * y
unfolding total number
number_times u zero y f = omega arith
number_times u (suc n) y f = omega (arith, number_times u n y f)

-- the rows of a product
pub product_mod : (u n : ℕ) (f g : ℕ → ℕ)
    → (total n (λ i. number u n (shifted i (λ k. f i * g k % u))) + total n (λ i. number u n (shifted (i + 1) (λ k. f i * g k / u)))) % u ^ n ≡ (number u n f * number u n g) % u ^ n
product_mod u n f g =
    let lo : ℕ → ℕ = λ i. number u n (shifted i (λ k. f i * g k % u)) in
    let hi : ℕ → ℕ = λ i. number u n (shifted (i + 1) (λ k. f i * g k / u)) in
    ap (λ x. x % u ^ n) (sym (total_add n lo hi))
    ∙ total_mod (u ^ n) n (λ i. lo i + hi i) (λ i. u ^ i * (f i * number u n g))
    (λ i q. moved_mod u n i (λ k. f i * g k) ∙ ap (λ x. (u ^ i * x) % u ^ n) (number_scale u n (f i) g))
    ∙ ap (λ x. x % u ^ n) (number_times u n (number u n g) f)
