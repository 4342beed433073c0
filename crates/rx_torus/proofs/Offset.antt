-- A digit without the carries of the lower ones: half the base is added at every level, and the digit is cut out.
use Rattle.std.proofs.Common.{◌≡◌, ℕ, zero, suc, ℤ, pos, ◌-ℤ◌, ◌+◌, ◌-◌, ◌<◌, ◌≤◌, refl, sym, ◌∙◌, ap, arith, ◌*◌, ◌/◌, ◌%◌, ◌^◌, subst, List, length, get_or, set}
use Rattle.std.proofs.lemmas.Grind.{common_steps}
use Rattle.std.proofs.Math.Arith.{mod-mul}
use Rattle.std.proofs.lemmas.Nat.{one_shl, pow-add, pow_pos, div-add-mod', div-mul-add, mod_below}
use Rattle.std.proofs.Math.Nat.{pow-zero, pow-succ', div-one, mul-le-mul_left, add-mul-div_right, add-mul-mod_self_right, mod-eq_of_lt, div-div-eq-div-mul}
use Rattle.rx_laws.specs.Digits.{rounded, rests, digit}
use Rattle.rx_torus.specs.Offsets.{halves, offset}

-- the high part of what is left
pub mod-div : (n m c : ℕ) → 0 < m → 0 < c → n % (m * c) / c ≡ n / c % m
mod-div n m c p q = ap (λ k. k / c) (mod-mul n p q) ∙ div-mul-add (n / c % m) c (n % c) (mod_below n c q)

pow_more : (b j : ℕ) → 2 ^ (b * suc j) ≡ 2 ^ (b * j) * 2 ^ b
pow_more b j = let e : b * suc j ≡ b * j + b = omega arith in ap (λ k. 2 ^ k) e ∙ pow-add 2 (b * j) b

pow_none : (b : ℕ) → 2 ^ (b * 0) ≡ 1
pow_none b = let z : b * 0 ≡ 0 = omega arith in ap (λ k. 2 ^ k) z ∙ pow-zero 2

swap_step : (s h q c : ℕ) → (s + h * q) * c + h ≡ (s * c + h) + h * (q * c)
swap_step s h q c = omega arith

-- one place more at the top
halves_more : (b j : ℕ) → halves b (suc j) ≡ halves b j + 2 ^ (b - 1) * 2 ^ (b * j)
unfolding halves
halves_more b zero = let e : 0 * 2 ^ b + 2 ^ (b - 1) ≡ 0 + 2 ^ (b - 1) * 1 = omega arith in e ∙ ap (λ k. 0 + 2 ^ (b - 1) * k) (sym (pow_none b))
halves_more b (suc j) =
    ap (λ s. s * 2 ^ b + 2 ^ (b - 1)) (halves_more b j)
    ∙ swap_step (halves b j) (2 ^ (b - 1)) (2 ^ (b * j)) (2 ^ b)
    ∙ ap (λ k. halves b j * 2 ^ b + 2 ^ (b - 1) + 2 ^ (b - 1) * k) (sym (pow_more b j))

pub halves_none : (b : ℕ) → halves b 0 ≡ 0
unfolding halves
halves_none b = refl

nothing_more : (x y : ℕ) → x ≡ x + y * 0
nothing_more x y = omega arith

two_steps : (s q t h r : ℕ) → (s + q * t) + h * (q * r) ≡ s + q * (t + h * r)
two_steps s q t h r = omega arith

-- several places more
halves_above : (b j k : ℕ) → halves b (j + k) ≡ halves b j + 2 ^ (b * j) * halves b k
halves_above b j zero =
    let e : j + 0 ≡ j = omega arith in
    let z : halves b 0 ≡ 0 = halves_none b in
    ap (halves b) e ∙ nothing_more (halves b j) (2 ^ (b * j)) ∙ ap (λ x. halves b j + 2 ^ (b * j) * x) (sym z)
halves_above b j (suc k) =
    let e : j + suc k ≡ suc (j + k) = omega arith in
    let f : b * (j + k) ≡ b * j + b * k = omega arith in
    ap (halves b) e ∙ halves_more b (j + k)
    ∙ ap (λ x. x + 2 ^ (b - 1) * 2 ^ (b * (j + k))) (halves_above b j k)
    ∙ ap (λ x. halves b j + 2 ^ (b * j) * halves b k + 2 ^ (b - 1) * x) (ap (λ x. 2 ^ x) f ∙ pow-add 2 (b * j) (b * k))
    ∙ two_steps (halves b j) (2 ^ (b * j)) (halves b k) (2 ^ (b - 1)) (2 ^ (b * k))
    ∙ ap (λ x. halves b j + 2 ^ (b * j) * x) (sym (halves_more b k))

half_below : (b : ℕ) → 1 ≤ b → 2 ^ b ≡ 2 * 2 ^ (b - 1)
half_below b p = let e : b ≡ suc (b - 1) = omega arith in ap (λ k. 2 ^ k) e ∙ pow-succ' 2 (b - 1)

below_step : (s q c h : ℕ) → s < q → c ≡ 2 * h → 0 < h → s * c + h < q * c
below_step s q c h p e r = let m : suc s * c ≤ q * c = mul-le-mul_right c p in omega (arith, m)
  where
    mul-le-mul_right : {m n : ℕ} (k : ℕ) → suc m ≤ n → suc m * k ≤ n * k
    mul-le-mul_right {m} {n} k l = omega (arith, mul-le-mul_left k l)

pub halves_fit : (b j : ℕ) → 1 ≤ b → halves b j < 2 ^ (b * j)
unfolding halves
halves_fit b zero p = omega (arith, pow_none b)
halves_fit b (suc j) p =
    subst (λ k. halves b j * 2 ^ b + 2 ^ (b - 1) < k) (sym (pow_more b j))
    (below_step (halves b j) (2 ^ (b * j)) (2 ^ b) (2 ^ (b - 1)) (halves_fit b j p) (half_below b p) (pow_pos (b - 1)))

-- what is left after some digits, at once
rests_at : (b v j : ℕ) → rests b v j ≡ (v + halves b j) / 2 ^ (b * j)
unfolding rests
rests_at b v zero = sym (ap (λ k. (v + halves b 0) / k) (pow_none b) ∙ div-one (v + halves b 0) ∙ omega (arith, halves_none b))
rests_at b v (suc j) =
    let q : ℕ = 2 ^ (b * j) in
    let h : ℕ = 2 ^ (b - 1) in
    let e : (v + halves b j) + h * q ≡ v + halves b (suc j) = omega (arith, halves_more b j) in
    ap (λ x. (x + h) / 2 ^ b) (rests_at b v j)
    ∙ ap (λ x. x / 2 ^ b) (sym (add-mul-div_right (v + halves b j) h (pow_pos (b * j))) ∙ ap (λ x. x / q) e)
    ∙ div-div-eq-div-mul (v + halves b (suc j)) q (2 ^ b)
    ∙ ap (λ k. (v + halves b (suc j)) / k) (sym (pow_more b j))

-- places from the j-th digit on do not see what lies above it
cut_same : (x m q c : ℕ) → 0 < q → (x + q * c * m) / q % c ≡ x / q % c
cut_same x m q c p =
    let e : x + q * c * m ≡ x + m * c * q = omega arith in
    ap (λ y. y / q % c) e ∙ ap (λ y. y % c) (add-mul-div_right x (m * c) p) ∙ add-mul-mod_self_right (x / q) m c

pub digit_cut : (b l t j : ℕ) (w : ℕ) → 1 ≤ b → b * l ≤ 63 → suc t + j ≡ l →
    digit b l w t ≡ pos ((w + offset b l) % 2 ^ 64 / 2 ^ (64 - b * suc t) % 2 ^ b) -ℤ pos (2 ^ (b - 1))
unfolding digit offset
digit_cut b l t j w o p e =
    let c : ℕ = 2 ^ b in
    let h : ℕ = 2 ^ (b - 1) in
    let s : ℕ = 2 ^ (64 - b * l) in
    let q : ℕ = 2 ^ (b * j) in
    let r : ℕ = 2 ^ (b * t) in
    let half : ℕ = 2 ^ (63 - b * l) in
    let z : ℕ = (w + half) / s in
    let whole : ℕ = q * c * r in
    let v : ℕ = rounded w (b * l) / s in
    let s_pos : 0 < s = pow_pos (64 - b * l) in
    let q_pos : 0 < q = pow_pos (b * j) in
    let j_is : l - suc t ≡ j = omega arith in
    let l_is : suc j + t ≡ l = omega arith in
    let parts : b * l ≡ b * suc j + b * t = omega (arith, ap (λ x. b * x) l_is) in
    let is_whole : 2 ^ (b * l) ≡ whole =
    ap (λ k. 2 ^ k) parts ∙ pow-add 2 (b * suc j) (b * t) ∙ ap (λ k. k * r) (pow_more b j) in
    let top : 64 ≡ b * l + (64 - b * l) = omega arith in
    let is_top : 2 ^ 64 ≡ whole * s = ap (λ k. 2 ^ k) top ∙ pow-add 2 (b * l) (64 - b * l) ∙ ap (λ k. k * s) is_whole in
    let whole_pos : 0 < whole = omega (arith, is_whole, pow_pos (b * l)) in
    -- the number of which the digits are
    let is_v : v ≡ z % whole =
    ap (λ k. z * s % k / s) is_top ∙ mod-div (z * s) whole s whole_pos s_pos ∙ ap (λ k. k % whole) (shift z s s_pos) in
    -- half of each digit
    let above : halves b l ≡ halves b (suc j) + q * c * halves b t =
    ap (halves b) (sym l_is) ∙ halves_above b (suc j) t ∙ ap (λ k. halves b (suc j) + k * halves b t) (pow_more b j) in
    let sum : (w + (halves b l * s + half)) / s ≡ z + halves b l =
    let f : w + (halves b l * s + half) ≡ (w + half) + halves b l * s = omega arith in
    ap (λ x. x / s) f ∙ add-mul-div_right (w + half) (halves b l) s_pos in
    let split : 64 - b * suc t ≡ (64 - b * l) + b * j = omega (arith, ap (λ x. b * x) e) in
    let place : 2 ^ (64 - b * suc t) ≡ s * q = ap (λ k. 2 ^ k) split ∙ pow-add 2 (64 - b * l) (b * j) in
    let cut : (w + (halves b l * s + half)) % 2 ^ 64 / 2 ^ (64 - b * suc t) ≡ (z + halves b l) % whole / q =
    ap (λ k. (w + (halves b l * s + half)) % 2 ^ 64 / k) place
    ∙ sym (div-div-eq-div-mul ((w + (halves b l * s + half)) % 2 ^ 64) s q)
    ∙ ap (λ k. (w + (halves b l * s + half)) % k / s / q) is_top
    ∙ ap (λ x. x / q) (mod-div (w + (halves b l * s + half)) whole s whole_pos s_pos ∙ ap (λ x. x % whole) sum) in
    -- both numbers have the same places from q on, up to q * c
    let y : ℕ = (z + halves b l) / whole in
    let low : (z + halves b l) % whole / q % c ≡ (z + halves b l) / q % c =
    sym (cut_same ((z + halves b l) % whole) (r * y) q c q_pos)
    ∙ ap (λ x. x / q % c) (again (z + halves b l) q c r) in
    let mine : (z + halves b l) / q % c ≡ (v + halves b (suc j)) / q % c =
    ap (λ x. x / q % c) (joined z (halves b l) (halves b (suc j)) (halves b t) q c r above)
    ∙ cut_same (z % whole + halves b (suc j)) (r * (z / whole) + halves b t) q c q_pos
    ∙ ap (λ x. (x + halves b (suc j)) / q % c) (sym is_v) in
    let theirs : (rests b v (l - suc t) + h) % c ≡ (v + halves b (suc j)) / q % c =
    ap (λ k. (rests b v k + h) % c) j_is ∙ ap (λ x. (x + h) % c) (rests_at b v j)
    ∙ ap (λ x. x % c) (sym (add-mul-div_right (v + halves b j) h q_pos) ∙ ap (λ x. x / q) (plus v (halves b (suc j)) (halves b j) h q (halves_more b j))) in
    ap (λ x. pos x -ℤ pos h) (theirs ∙ sym (ap (λ x. x % c) cut ∙ low ∙ mine))
  where
    shift : (z s : ℕ) → 0 < s → z * s / s ≡ z
    shift z s p = let e : z * s ≡ z * s + 0 = omega arith in ap (λ x. x / s) e ∙ div-mul-add z s 0 p

    again : (x q c r : ℕ) → x % (q * c * r) + q * c * (r * (x / (q * c * r))) ≡ x
    again x q c r = omega (arith, div-add-mod' x (q * c * r))

    joined : (z s n m q c r : ℕ) → s ≡ n + q * c * m →
        z + s ≡ (z % (q * c * r) + n) + q * c * (r * (z / (q * c * r)) + m)
    joined z s n m q c r e = omega (arith, e, div-add-mod' z (q * c * r))

    plus : (v s n h q : ℕ) → s ≡ n + h * q → v + n + h * q ≡ v + s
    plus v s n h q e = omega (arith, e)

-- ---- the offset, as a loop makes it
small_halves : (b j : ℕ) → 1 ≤ b → b * j ≤ 60 → halves b j < 2 ^ 60
small_halves b j o p =
    let i : 60 ≡ b * j + (60 - b * j) = omega arith in
    let e : 2 ^ 60 ≡ 2 ^ (b * j) * 2 ^ (60 - b * j) = ap (λ k. 2 ^ k) i ∙ pow-add 2 (b * j) (60 - b * j) in
    omega (arith, e, halves_fit b j o, mul-le-mul_left (2 ^ (b * j)) (pow_pos (60 - b * j)))

pub halves_step : (b l j s : ℕ) → 1 ≤ b → b * l ≤ 60 → j < l → s ≡ halves b j →
    s * 2 ^ b % 2 ^ 64 + 1 * 2 ^ (b - 1) % 2 ^ 64 ≡ halves b (j + 1)
unfolding halves
halves_step b l j s o p q e =
    let n : j + 1 ≡ suc j = omega arith in
    let few : b * suc j ≤ 60 = omega (arith, mul-le-mul_left b q) in
    let less : halves b (suc j) < 2 ^ 60 = small_halves b (suc j) o few in
    let b_small : b ≤ 60 = omega (arith, mul-le-mul_left b (one_more j)) in
    let whole : s * 2 ^ b + 2 ^ (b - 1) ≡ halves b (suc j) = ap (λ x. x * 2 ^ b + 2 ^ (b - 1)) e in
    ap (λ x. s * 2 ^ b % 2 ^ 64 + x) (one_shl (b - 1) 64 (omega arith))
    ∙ ap (λ x. x + 2 ^ (b - 1)) (mod-eq_of_lt (omega (arith, whole, less)))
    ∙ whole ∙ ap (halves b) (sym n)
  where
    one_more : (j : ℕ) → 1 ≤ suc j
    one_more j = omega arith

offset_fits : (b l s : ℕ) → 1 ≤ b → 1 ≤ l → b * l ≤ 60 → s ≡ halves b l →
    s * 2 ^ (64 - b * l) + 2 ^ (63 - b * l) < 2 ^ 64
offset_fits b l s o m p e =
    let i : 64 - b * l ≡ suc (63 - b * l) = omega arith in
    let two : 2 ^ (64 - b * l) ≡ 2 * 2 ^ (63 - b * l) = ap (λ k. 2 ^ k) i ∙ pow-succ' 2 (63 - b * l) in
    let top : 64 ≡ b * l + (64 - b * l) = omega arith in
    let whole : 2 ^ 64 ≡ 2 ^ (b * l) * 2 ^ (64 - b * l) = ap (λ k. 2 ^ k) top ∙ pow-add 2 (b * l) (64 - b * l) in
    subst (λ k. s * 2 ^ (64 - b * l) + 2 ^ (63 - b * l) < k) (sym whole)
    (below_step s (2 ^ (b * l)) (2 ^ (64 - b * l)) (2 ^ (63 - b * l))
    (subst (λ x. x < 2 ^ (b * l)) (sym e) (halves_fit b l o)) two (pow_pos (63 - b * l)))

pub offset_is : (b l s : ℕ) → 1 ≤ b → 1 ≤ l → b * l ≤ 60 → s ≡ halves b l →
    s * 2 ^ (64 - b * l) % 2 ^ 64 + 1 * 2 ^ (63 - b * l) % 2 ^ 64 ≡ offset b l
unfolding offset
offset_is b l s o m p e =
    ap (λ x. s * 2 ^ (64 - b * l) % 2 ^ 64 + x) (one_shl (63 - b * l) 64 (omega arith))
    ∙ ap (λ x. x + 2 ^ (63 - b * l)) (mod-eq_of_lt (omega (arith, offset_fits b l s o m p e)))
    ∙ ap (λ x. x * 2 ^ (64 - b * l) + 2 ^ (63 - b * l)) e

pub offset_below : (b l : ℕ) → 1 ≤ b → 1 ≤ l → b * l ≤ 60 → offset b l < 2 ^ 64
unfolding offset
offset_below b l o m p = offset_fits b l (halves b l) o m p refl

pub next_below : (b l j : ℕ) → 1 ≤ b → b * l ≤ 60 → j < l → halves b (j + 1) < 2 ^ 60
next_below b l j o p q =
    let n : j + 1 ≡ suc j = omega arith in
    subst (λ k. halves b k < 2 ^ 60) (sym n) (small_halves b (suc j) o (omega (arith, mul-le-mul_left b q)))

pub some_bits : (b l : ℕ) → 1 ≤ b → 1 ≤ l → 1 ≤ b * l
some_bits b l o m = omega (arith, mul-le-mul_left b m)

-- ---- digits that are written one after another
pub digits_more : (xs : List ℤ) (i : ℕ) (v : ℤ) (f : ℕ → ℤ) → i < length xs → ((k : ℕ) → k < i → get_or xs k (pos 0) ≡ f k) → v ≡ f i →
    (k : ℕ) → k < i + 1 → get_or (set xs i v) k (pos 0) ≡ f k
digits_more xs i v f p h e k q = grind (arith, common_steps)
