-- A word has one list of digits.
use Rattle.std.proofs.Common.{◌≡◌, ℕ, zero, suc, ℤ, pos, negsuc, ◌+ℤ◌, ◌*ℤ◌, ◌-ℤ◌, ◌+◌, ◌-◌, ◌<◌, ◌≤◌, refl, sym, ◌∙◌, ap, arith, ◌*◌, ◌/◌, ◌%◌, ◌^◌, List, get_or, subst, inl, inr}
use Rattle.std.proofs.lemmas.Bool.{cases_lt}
use Rattle.std.proofs.lemmas.Int.{ints}
use Rattle.std.proofs.lemmas.Nat.{pow-add, pow_pos, div-add-mod', mod_below, shl-shr, mod-pow-add}
use Rattle.std.proofs.lemmas.List.{same_lists, get_or_default}
use Rattle.std.proofs.Math.Nat.{pow-suc, pow-succ', pow-zero, mod-mod_of_dvd, mul-le-mul_left, dvd-mul_right, mul-mod_right}
use Rattle.std.specs.Int.{◌∣◌}
use Rattle.std.specs.Int.RustNames.{unsigned_abs}
use Rattle.rx_laws.specs.Torus.{word, distance}
use Rattle.rx_laws.specs.Digits.{IsDigits, rounded, digits_total}
use Rattle.rx_laws.proofs.Sums.{sum_to-suc, sum_to-zero}
use Rattle.rx_laws.proofs.Torus.{word_gap, distance_least}
use Rattle.rx_laws.proofs.Ring.{add_mul, sub_mul, mul_assoc_ℤ}

-- a multiple of b that is smaller than b is nothing
pub small_multiple : (q r : ℤ) (b : ℕ) → r ≡ q *ℤ pos b → unsigned_abs r < b → q ≡ pos 0
small_multiple (pos zero) r b e h = refl
small_multiple (pos (suc n)) r b e h = absurd (omega (arith, ints))
small_multiple (negsuc n) r b e h = absurd (omega (arith, ints))

-- a factor above 0 cancels
pub cancel : (x y : ℤ) (w : ℕ) → 0 < w → x *ℤ pos w ≡ y *ℤ pos w → x ≡ y
cancel x y w p e =
    let z : x -ℤ y ≡ pos 0 = small_multiple (x -ℤ y) (pos 0) w
    (let s : (x -ℤ y) *ℤ pos w ≡ x *ℤ pos w -ℤ y *ℤ pos w = sub_mul x y (pos w) in omega (arith, ints)) (omega arith) in
    omega (arith, ints)

-- the number that l digits stand for in base b, the first digit the highest
pub value : ℕ → ℕ → (ℕ → ℤ) → ℤ
value b zero d = pos 0
value b (suc l) d = value b l d *ℤ pos b +ℤ d l

last_digit : (b p : ℕ) (u v k x y : ℤ) → unsigned_abs (x -ℤ y) < b → u *ℤ pos b +ℤ x ≡ v *ℤ pos b +ℤ y +ℤ k *ℤ pos (p * b) → (x ≡ y) × (u ≡ v +ℤ k *ℤ pos p)
last_digit b p u v k x y h e =
    let g : k *ℤ pos (p * b) ≡ k *ℤ pos p *ℤ pos b = sym (mul_assoc_ℤ k (pos p) (pos b)) in
    let s : (v +ℤ k *ℤ pos p -ℤ u) *ℤ pos b ≡ (v +ℤ k *ℤ pos p) *ℤ pos b -ℤ u *ℤ pos b = sub_mul (v +ℤ k *ℤ pos p) u (pos b) in
    let t : (v +ℤ k *ℤ pos p) *ℤ pos b ≡ v *ℤ pos b +ℤ k *ℤ pos p *ℤ pos b = add_mul v (k *ℤ pos p) (pos b) in
    let q : v +ℤ k *ℤ pos p -ℤ u ≡ pos 0 = small_multiple (v +ℤ k *ℤ pos p -ℤ u) (x -ℤ y) b (omega (arith, ints)) h in
    let z : (v +ℤ k *ℤ pos p -ℤ u) *ℤ pos b ≡ pos 0 *ℤ pos b = ap (λ n. n *ℤ pos b) q in
    (omega (arith, ints), omega (arith, ints))

pub value_once : (b l : ℕ) (d e : ℕ → ℤ) (k : ℤ) → ((t : ℕ) → t < l → unsigned_abs (d t -ℤ e t) < b) →
    value b l d ≡ value b l e +ℤ k *ℤ pos (b ^ l) → (t : ℕ) → t < l → d t ≡ e t
unfolding value
value_once b zero d e k h g t p = absurd (omega arith)
value_once b (suc l) d e k h g t p =
    let r = last_digit b (b ^ l) (value b l d) (value b l e) k (d l) (e l) (h l (omega arith))
    (g ∙ ap (λ x. value b (suc l) e +ℤ k *ℤ pos x) (pow-suc b l)) in
    elim (cases_lt t l) as (λ _. d t ≡ e t) [
      | inl q ↦ value_once b l d e k (λ s w. h s (omega arith)) r.1 t q
      | inr q ↦ let i : t ≡ l = omega arith in ap d i ∙ r.0 ∙ ap e (sym i)
    ]

-- the digits' weighted sum is that number, scaled
pub total_value : (base_log m : ℕ) (d : ℕ → ℤ) → base_log * m ≤ 64 →
    digits_total base_log m d ≡ value (2 ^ base_log) m d *ℤ pos (2 ^ (64 - base_log * m))
unfolding value
total_value b zero d p = sum_to-zero (λ t. d t *ℤ pos (2 ^ (64 - b * suc t))) ∙ omega (arith, ints)
total_value b (suc m) d p =
    let w : ℕ = 2 ^ (64 - b * suc m) in
    let i : 64 - b * m ≡ b + (64 - b * suc m) = omega arith in
    let e : 2 ^ (64 - b * m) ≡ 2 ^ b * w = ap (λ k. 2 ^ k) i ∙ pow-add 2 b (64 - b * suc m) in
    sum_to-suc m (λ t. d t *ℤ pos (2 ^ (64 - b * suc t)))
    ∙ ap (λ x. x +ℤ d m *ℤ pos w)
    (total_value b m d (omega arith)
    ∙ ap (λ k. value (2 ^ b) m d *ℤ pos k) e
    ∙ sym (mul_assoc_ℤ (value (2 ^ b) m d) (pos (2 ^ b)) (pos w)))
    ∙ sym (add_mul (value (2 ^ b) m d *ℤ pos (2 ^ b)) (d m) (pos w))

pow_pow : (b c k : ℕ) → (b ^ c) ^ k ≡ b ^ (c * k)
pow_pow b c zero = let e : c * 0 ≡ 0 = omega arith in pow-zero (b ^ c) ∙ sym (ap (λ x. b ^ x) e ∙ pow-zero b)
pow_pow b c (suc k) =
    let e : c * suc k ≡ c * k + c = omega arith in
    pow-suc (b ^ c) k ∙ ap (λ x. x * b ^ c) (pow_pow b c k) ∙ sym (ap (λ x. b ^ x) e ∙ pow-add b (c * k) c)

-- digits whose totals are the same word are the same
pub total_once : (base_log levels : ℕ) (d e : ℕ → ℤ) → base_log * levels ≤ 64 →
    ((t : ℕ) → t < levels → unsigned_abs (d t -ℤ e t) < 2 ^ base_log) →
    word (digits_total base_log levels d) ≡ word (digits_total base_log levels e) → (t : ℕ) → t < levels → d t ≡ e t
total_once b l d e p h g =
    let x : ℤ = value (2 ^ b) l d in
    let y : ℤ = value (2 ^ b) l e in
    let w : ℕ = 2 ^ (64 - b * l) in
    let k = word_gap (digits_total b l d) (digits_total b l e) g in
    let i : 64 ≡ b * l + (64 - b * l) = omega arith in
    let m : 2 ^ 64 ≡ (2 ^ b) ^ l * w =
    ap (λ n. 2 ^ n) i ∙ pow-add 2 (b * l) (64 - b * l) ∙ ap (λ n. n * w) (sym (pow_pow 2 b l)) in
    let u : x *ℤ pos w ≡ y *ℤ pos w +ℤ k.0 *ℤ pos ((2 ^ b) ^ l) *ℤ pos w =
    sym (total_value b l d p) ∙ k.1
    ∙ ap (λ z. z +ℤ k.0 *ℤ pos (2 ^ 64)) (total_value b l e p)
    ∙ ap (λ z. y *ℤ pos w +ℤ k.0 *ℤ pos z) m
    ∙ ap (λ z. y *ℤ pos w +ℤ z) (sym (mul_assoc_ℤ k.0 (pos ((2 ^ b) ^ l)) (pos w))) in
    value_once (2 ^ b) l d e k.0 h
    (cancel (x) (y +ℤ k.0 *ℤ pos ((2 ^ b) ^ l)) w (pow_pos (64 - b * l)) (u ∙ sym (add_mul y (k.0 *ℤ pos ((2 ^ b) ^ l)) (pos w))))

pub digits_once : (w base_log levels : ℕ) (ds es : List ℤ) → 1 ≤ base_log → base_log * levels ≤ 64 →
    IsDigits w base_log levels ds → IsDigits w base_log levels es → ds ≡ es
digits_once w b l ds es o p f g =
    let d : ℕ → ℤ = λ t. get_or ds t (pos 0) in
    let e : ℕ → ℤ = λ t. get_or es t (pos 0) in
    let two : 2 ^ b ≡ 2 ^ (b - 1) * 2 = ap (λ k. 2 ^ k) (omega arith) ∙ pow-suc 2 (b - 1) in
    let same : (t : ℕ) → t < l → d t ≡ e t =
    total_once b l d e p
    (λ t q. omega (arith, ints, f.low t q, f.high t q, g.low t q, g.high t q))
    (f.total ∙ sym g.total) in
    same_lists ds es (f.count ∙ sym g.count)
    (λ k x q.
    let r : k < l = omega (arith, f.count) in
    get_or_default ds k x (pos 0) q ∙ same k r ∙ get_or_default es k (pos 0) x (omega (arith, g.count)))

-- to round moves a word by at most half a step
pub rounds_by : (w h m : ℕ) → 0 < h → (w + h) / (2 * h) * (2 * h) ≡ m → unsigned_abs (pos w -ℤ pos m) ≤ h
rounds_by w h m p e =
    let d : (w + h) / (2 * h) * (2 * h) + (w + h) % (2 * h) ≡ w + h = div-add-mod' (w + h) (2 * h) in
    let r : (w + h) % (2 * h) < 2 * h = mod_below (w + h) (2 * h) (omega arith) in
    omega (arith, ints)

pub distance-rounded : (w bits : ℕ) → bits ≤ 63 → distance (pos w -ℤ pos (rounded w bits)) ≤ 2 ^ (63 - bits)
distance-rounded w bits p =
    let h : ℕ = 2 ^ (63 - bits) in
    let i : 64 - bits ≡ suc (63 - bits) = omega arith in
    let two : 2 ^ (64 - bits) ≡ 2 * 2 ^ (63 - bits) = ap (λ k. 2 ^ k) i ∙ pow-succ' 2 (63 - bits) in
    let m : ℕ = (w + h) / (2 * h) * (2 * h) in
    let e : rounded w bits ≡ m % 2 ^ 64 = ap (λ k. (w + h) / k * k % 2 ^ 64) two in
    let b : unsigned_abs (pos w -ℤ pos m) ≤ h = rounds_by w h m (pow_pos (63 - bits)) refl in
    let l : distance (pos w -ℤ pos (rounded w bits)) ≤ unsigned_abs (pos w -ℤ pos m) =
    distance_least (pos w -ℤ pos (rounded w bits)) (pos w -ℤ pos m) (pos (m / 2 ^ 64)) (omega (arith, ints)) in
    omega arith

-- rounding, as the code does it: to clear the low part of the wrapped sum
clear_low : (s step k : ℕ) → 0 < step → step * k ≡ 2 ^ 64 → s < 2 * 2 ^ 64 →
    s % 2 ^ 64 - s % 2 ^ 64 % step ≡ s / step * step % 2 ^ 64
clear_low s step k p e q =
    let d : s / step * step + s % step ≡ s = div-add-mod' s step in
    let m : s % 2 ^ 64 % step ≡ s % step = mod-mod_of_dvd step s (subst (λ m. step ∣ m) e (dvd-mul_right step k)) in
    let f : s % 2 ^ 64 / step * step + s % 2 ^ 64 % step ≡ s % 2 ^ 64 = div-add-mod' (s % 2 ^ 64) step in
    let r : s % step < step = mod_below s step p in
    omega arith

pub rounded_code : (w bits step : ℕ) → bits ≤ 63 → w < 2 ^ 64 → step ≡ 2 ^ (64 - bits) →
    (w + step / 2) % 2 ^ 64 - (w + step / 2) % 2 ^ 64 % step ≡ rounded w bits
rounded_code w bits step p q e =
    let i : 64 - bits ≡ suc (63 - bits) = omega arith in
    let j : 64 ≡ 64 - bits + bits = omega arith in
    let two : 2 ^ (64 - bits) ≡ 2 * 2 ^ (63 - bits) = ap (λ k. 2 ^ k) i ∙ pow-succ' 2 (63 - bits) in
    let h : step / 2 ≡ 2 ^ (63 - bits) = omega (arith, e, two) in
    let whole : step * 2 ^ bits ≡ 2 ^ 64 = ap (λ k. k * 2 ^ bits) e ∙ sym (ap (λ k. 2 ^ k) j ∙ pow-add 2 (64 - bits) bits) in
    let small : step ≤ 2 ^ 64 = omega (arith, whole, mul-le-mul_left step (pow_pos bits)) in
    clear_low (w + step / 2) step (2 ^ bits) (omega (arith, e, pow_pos (64 - bits))) whole (omega arith)
    ∙ ap (λ k. (w + k) / step * step % 2 ^ 64) h
    ∙ ap (λ k. (w + 2 ^ (63 - bits)) / k * k % 2 ^ 64) e

-- a rounded word is a multiple of its step
pub rounded_multiple : (w bits : ℕ) → bits ≤ 63 → rounded w bits / 2 ^ (64 - bits) * 2 ^ (64 - bits) ≡ rounded w bits
rounded_multiple w bits p =
    let step : ℕ = 2 ^ (64 - bits) in
    let m : ℕ = (w + 2 ^ (63 - bits)) / step in
    let n : ℕ = m * step in
    let j : 64 ≡ bits + (64 - bits) = omega arith in
    let a : n / step ≡ m = shl-shr m (64 - bits) in
    let z : n % step ≡ 0 = let t : n ≡ step * m = omega arith in ap (λ k. k % step) t ∙ mul-mod_right step m in
    let e : n % 2 ^ 64 ≡ (n / step % 2 ^ bits) * step = ap (λ k. n % 2 ^ k) j ∙ mod-pow-add n bits (64 - bits) ∙ omega (arith, z) in
    ap (λ k. k / step * step) e ∙ ap (λ k. k * step) (shl-shr (n / step % 2 ^ bits) (64 - bits)) ∙ sym e
