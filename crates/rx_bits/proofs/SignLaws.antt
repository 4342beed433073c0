-- Complements go digit by digit, and a number with its sign above it is shifted by digits.
use Rattle.std.proofs.Common.{◌≡◌, ℕ, Bool, true, false, zero, suc, ◌+◌, ◌-◌, ◌*◌, ◌/◌, ◌%◌, ◌^◌, ◌<◌, ◌≤◌, inl, inr, refl, sym, ◌∙◌, ap, arith, pow-add, cond}
use Rattle.std.specs.Prelude.{nat_le, ◌&&◌}
use Rattle.std.proofs.lemmas.Bool.{cases_lt, lt-ltb, le-ltb, le-leb, lt-leb}
use Rattle.std.proofs.lemmas.Nat.{pow_pos, mul-le, mod_below, div_below, le-div, div-mul-add, mod-mul-add, div-add-mod'}
use Rattle.std.proofs.Math.Nat.{mod-eq_of_lt, div-eq_of_lt, div-le_self}
use Rattle.rx_params.specs.Kinds.{digit_at}
use Rattle.rx_plan.specs.Values.{number}
use Rattle.rx_plan.proofs.Numbers.{pow_pow}
use Rattle.rx_plan.proofs.Held.{digit_below, digit_number, digit_past, digit_under, low_digits}
use Rattle.rx_bits.specs.Signs.{is_negative, complement, shifted_down, cast_to, fill_digit, filled_digit, between}
use Rattle.rx_bits.specs.Shifts.{raised_digit}
use Rattle.rx_bits.proofs.Digits.{digit_between, lowered_at, raised_below, raised_at, raised_above}

-- ---- digits that are all turned

-- the numbers of digits and of what they lack to t
pub number_turned_digits : (u n t : ℕ) (f : ℕ → ℕ) → ((i : ℕ) → i < n → f i ≤ t) → number u n (λ i. t - f i) + number u n f ≡ number u n (λ _. t)
unfolding number
number_turned_digits u zero t f h = refl
number_turned_digits u (suc n) t f h =
    let i : number u n (λ i. t - f i) + number u n f ≡ number u n (λ _. t) = number_turned_digits u n t f (λ j p. h j (omega arith)) in
    let s : t - f n + f n ≡ t = omega (arith, h n (omega arith)) in
    let e : u ^ n * (t - f n + f n) ≡ u ^ n * t = ap (λ x. u ^ n * x) s in
    omega arith

pub number_of_ones : (m n : ℕ) → number (2 ^ m) n (λ _. 2 ^ m - 1) + 1 ≡ 2 ^ (m * n)
unfolding number
number_of_ones m zero = let e : m * 0 ≡ 0 = omega arith in sym (ap (λ k. 2 ^ k) e)
number_of_ones m (suc n) =
    let u : ℕ = 2 ^ m in
    let i : number u n (λ _. u - 1) + 1 ≡ 2 ^ (m * n) = number_of_ones m n in
    let o : 1 + (u - 1) ≡ u = omega (arith, pow_pos m) in
    let p : u ^ n * (u - 1) ≡ 2 ^ (m * n) * (u - 1) = ap (λ x. x * (u - 1)) (pow_pow m n) in
    let e : m * suc n ≡ m * n + m = omega arith in
    let q : 2 ^ (m * suc n) ≡ 2 ^ (m * n) * u = ap (λ k. 2 ^ k) e ∙ pow-add 2 (m * n) m in
    let r : 2 ^ (m * n) * (1 + (u - 1)) ≡ 2 ^ (m * n) * u = ap (λ x. 2 ^ (m * n) * x) o in
    omega arith

-- the digits of a complement
pub complement_digit : (m n z i : ℕ) → z < 2 ^ (m * n) → i < n → digit_at m (complement (m * n) z) i ≡ 2 ^ m - 1 - digit_at m z i
complement_digit m n z i h l =
    let t : ℕ = 2 ^ m - 1 in
    let f : ℕ → ℕ = digit_at m z in
    let small : (j : ℕ) → f j < 2 ^ m = λ j. digit_below m z j in
    let a : number (2 ^ m) n f ≡ z = low_digits m n z ∙ mod-eq_of_lt h in
    let b : number (2 ^ m) n (λ j. t - f j) + number (2 ^ m) n f ≡ number (2 ^ m) n (λ _. t) = number_turned_digits (2 ^ m) n t f (λ j p. omega (arith, small j)) in
    let c : number (2 ^ m) n (λ _. t) + 1 ≡ 2 ^ (m * n) = number_of_ones m n in
    let e : complement (m * n) z ≡ number (2 ^ m) n (λ j. t - f j) = omega arith in
    ap (λ y. digit_at m y i) e ∙ digit_number m n (λ j. t - f j) (λ j p. omega (arith, pow_pos m)) i l

-- a digit between two that are turned
pub between_turned : (m r a b : ℕ) → r ≤ m → a < 2 ^ m → b < 2 ^ m → between m r (2 ^ m - 1 - a) (2 ^ m - 1 - b) ≡ 2 ^ m - 1 - between m r a b
between_turned m r a b l p q =
    let u : ℕ = 2 ^ m in
    let s : ℕ = 2 ^ r in
    let k : ℕ = 2 ^ (m - r) in
    let w : ℕ = u * a + b in
    let v : ℕ = w / s in
    let e : u ≡ k * s = (let d : m ≡ m - r + r = omega arith in ap (λ x. 2 ^ x) d ∙ pow-add 2 (m - r) r) in
    let z : 0 < s = pow_pos r in
    let zu : 0 < u = pow_pos m in
    let d1 : v * s + w % s ≡ w = div-add-mod' w s in
    let m1 : w % s < s = mod_below w s z in
    let d2 : v / u * u + v % u ≡ v = div-add-mod' v u in
    let m2 : v % u < u = mod_below v u zu in
    let wide : w < u * u = (let x : u * suc a ≤ u * u = mul-le u (suc a) u u (omega arith) p in omega arith) in
    let high : v / u < k = (
    let big : v / u * u * s ≤ w = (let y : (v / u * u + v % u) * s ≡ v * s = ap (λ x. x * s) d2 in omega arith) in
    elim (cases_lt (v / u) k) [
      | inl c ↦ c
      | inr c ↦
          let x : k * (u * s) ≤ v / u * (u * s) = mul-le k (u * s) (v / u) (u * s) c (omega arith) in
          let y : u * u ≡ k * s * u = ap (λ x. x * u) e in
          absurd (omega arith)
    ]) in
    let x1 : ℕ = k - 1 - v / u in
    let y1 : ℕ = u - 1 - v % u in
    let z1 : ℕ = s - 1 - w % s in
    let sum1 : x1 + 1 + v / u ≡ k = omega arith in
    let sum2 : y1 + 1 + v % u ≡ u = omega arith in
    let sum3 : z1 + 1 + w % s ≡ s = omega arith in
    let whole : u * (u - 1 - a) + (u - 1 - b) + w + 1 ≡ u * u = (
    let f1 : u - 1 - a + (1 + a) ≡ u = omega arith in
    let f2 : u * (u - 1 - a + (1 + a)) ≡ u * u = ap (λ x. u * x) f1 in
    omega arith) in
    let other : (x1 * u + y1) * s + z1 + w + 1 ≡ u * u = (
    let g1 : (v / u * u + v % u) * s ≡ v * s = ap (λ x. x * s) d2 in
    let g2 : (x1 + 1 + v / u) * u * s ≡ k * u * s = ap (λ x. x * u * s) sum1 in
    let g3 : (y1 + 1 + v % u) * s ≡ u * s = ap (λ x. x * s) sum2 in
    let g4 : u * u ≡ k * s * u = ap (λ x. x * u) e in
    omega arith) in
    let same : u * (u - 1 - a) + (u - 1 - b) ≡ (x1 * u + y1) * s + z1 = omega arith in
    ap (λ x. x / s % u) same ∙ ap (λ x. x % u) (div-mul-add (x1 * u + y1) s z1 (omega arith)) ∙ mod-mul-add x1 u y1 (omega arith)

-- ---- what stands above a number

-- the top bit is that of the top digit
pub negative_top : (signed : Bool) (m n z : ℕ) → 1 ≤ m → 1 ≤ n → z < 2 ^ (m * n) → is_negative signed (m * n) z ≡ is_negative signed m (digit_at m z (n - 1))
negative_top signed m n z p q h =
    let d : ℕ = 2 ^ (m * (n - 1)) in
    let k : ℕ = 2 ^ (m - 1) in
    let e : m * n ≡ m + m * (n - 1) = (let s : n ≡ 1 + (n - 1) = omega arith in ap (λ x. m * x) s ∙ (omega arith)) in
    let w : m * n - 1 ≡ m - 1 + m * (n - 1) = omega arith in
    let b : 2 ^ (m * n - 1) ≡ k * d = ap (λ x. 2 ^ x) w ∙ pow-add 2 (m - 1) (m * (n - 1)) in
    let u : 2 ^ (m * n) ≡ 2 ^ m * d = ap (λ x. 2 ^ x) e ∙ pow-add 2 m (m * (n - 1)) in
    let top : z / d < 2 ^ m = div_below z d (2 ^ m) (pow_pos (m * (n - 1))) (omega arith) in
    let digit : digit_at m z (n - 1) ≡ z / d = mod-eq_of_lt top in
    let zd : 0 < d = pow_pos (m * (n - 1)) in
    ap (λ b. signed && b) (elim (cases_lt z (2 ^ (m * n - 1))) as (λ _. nat_le (2 ^ (m * n - 1)) z ≡ nat_le k (digit_at m z (n - 1))) [
      | inl l ↦
          let r : z / d < k = div_below z d k zd (omega arith) in
          lt-leb (2 ^ (m * n - 1)) z l ∙ sym (lt-leb k (digit_at m z (n - 1)) (omega arith))
      | inr l ↦
          let r : k ≤ z / d = le-div k z d zd (omega arith) in
          le-leb (2 ^ (m * n - 1)) z l ∙ sym (le-leb k (digit_at m z (n - 1)) (omega arith))
    ])

pub fill_no : (signed : Bool) (m x : ℕ) → is_negative signed m x ≡ false → fill_digit signed m x ≡ 0
fill_no signed m x h = ap (λ b. cond b (2 ^ m - 1) 0) h

pub fill_yes : (signed : Bool) (m x : ℕ) → is_negative signed m x ≡ true → fill_digit signed m x ≡ 2 ^ m - 1
fill_yes signed m x h = ap (λ b. cond b (2 ^ m - 1) 0) h

pub fill_le : (signed : Bool) (m x : ℕ) → fill_digit signed m x ≤ 2 ^ m - 1
fill_le signed m x = fill_case (is_negative signed m x) (2 ^ m - 1) where
  fill_case : (b : Bool) (t : ℕ) → cond b t 0 ≤ t
  fill_case true t = omega arith
  fill_case false t = omega arith

pub filled_low : (signed : Bool) (m n : ℕ) (f : ℕ → ℕ) (i : ℕ) → i < n → filled_digit signed m n f i ≡ f i
filled_low signed m n f i h = ap (λ b. cond b (f i) (fill_digit signed m (f (n - 1)))) (lt-ltb i n h)

pub filled_high : (signed : Bool) (m n : ℕ) (f : ℕ → ℕ) (i : ℕ) → n ≤ i → filled_digit signed m n f i ≡ fill_digit signed m (f (n - 1))
filled_high signed m n f i h = ap (λ b. cond b (f i) (fill_digit signed m (f (n - 1)))) (le-ltb i n h)

-- a number that is not negative has its digits, and 0 above them
filled_plain : (signed : Bool) (m n z i : ℕ) → z < 2 ^ (m * n) → is_negative signed m (digit_at m z (n - 1)) ≡ false
    → filled_digit signed m n (digit_at m z) i ≡ digit_at m z i
filled_plain signed m n z i h b =
    elim (cases_lt i n) [
      | inl l ↦ filled_low signed m n (digit_at m z) i l
      | inr l ↦ filled_high signed m n (digit_at m z) i l ∙ fill_no signed m (digit_at m z (n - 1)) b ∙ sym (digit_past m n z i h l)
    ]

-- the complement of a negative number has digits that are turned, and 0 above them
filled_turned : (signed : Bool) (m n z i : ℕ) → z < 2 ^ (m * n) → is_negative signed m (digit_at m z (n - 1)) ≡ true
    → filled_digit signed m n (digit_at m z) i ≡ 2 ^ m - 1 - digit_at m (complement (m * n) z) i
filled_turned signed m n z i h b =
    let c : complement (m * n) z < 2 ^ (m * n) = omega (arith, pow_pos (m * n)) in
    elim (cases_lt i n) [
      | inl l ↦
          let e : digit_at m (complement (m * n) z) i ≡ 2 ^ m - 1 - digit_at m z i = complement_digit m n z i h l in
          filled_low signed m n (digit_at m z) i l ∙ (let r : digit_at m z i ≡ 2 ^ m - 1 - digit_at m (complement (m * n) z) i = omega (arith, digit_below m z i) in r)
      | inr l ↦
          let e : digit_at m (complement (m * n) z) i ≡ 0 = digit_past m n (complement (m * n) z) i c l in
          filled_high signed m n (digit_at m z) i l ∙ fill_yes signed m (digit_at m z (n - 1)) b ∙ (let r : 2 ^ m - 1 ≡ 2 ^ m - 1 - digit_at m (complement (m * n) z) i = omega arith in r)
    ]

-- digit i of a number that is shifted down stands between two digits of the number with its sign above it
pub lowered_law : (signed : Bool) (m n q r z i : ℕ) → 1 ≤ m → 1 ≤ n → r ≤ m → z < 2 ^ (m * n) → i < n
    → digit_at m (shifted_down signed (m * n) (m * q + r) z) i
    ≡ between m r (filled_digit signed m n (digit_at m z) (i + q + 1)) (filled_digit signed m n (digit_at m z) (i + q))
lowered_law signed m n q r z i m1 n1 l h s =
    let k : ℕ = m * q + r in
    let y : ℕ = complement (m * n) z in
    let small : y < 2 ^ (m * n) = omega (arith, pow_pos (m * n)) in
    let ext : ℕ → ℕ = filled_digit signed m n (digit_at m z) in
    let t : is_negative signed (m * n) z ≡ is_negative signed m (digit_at m z (n - 1)) = negative_top signed m n z m1 n1 h in
    let o : suc (i + q) ≡ i + q + 1 = omega arith in
    let place : k + m * i ≡ m * (i + q) + r = omega arith in
    let of : (x : ℕ) → digit_at m (x / 2 ^ k) i ≡ between m r (digit_at m x (i + q + 1)) (digit_at m x (i + q)) = λ x.
    lowered_at m k x i ∙ ap (λ p. x / 2 ^ p % 2 ^ m) place ∙ digit_between m r x (i + q) l ∙ ap (λ p. between m r (digit_at m x p) (digit_at m x (i + q))) o in
    lowered_case (is_negative signed m (digit_at m z (n - 1))) t refl of
  where
    lowered_case : (b : Bool) → is_negative signed (m * n) z ≡ b → is_negative signed m (digit_at m z (n - 1)) ≡ b
        → ((x : ℕ) → digit_at m (x / 2 ^ (m * q + r)) i ≡ between m r (digit_at m x (i + q + 1)) (digit_at m x (i + q)))
        → digit_at m (shifted_down signed (m * n) (m * q + r) z) i
        ≡ between m r (filled_digit signed m n (digit_at m z) (i + q + 1)) (filled_digit signed m n (digit_at m z) (i + q))
    lowered_case false b c of =
        ap (λ b. digit_at m (cond b (complement (m * n) (complement (m * n) z / 2 ^ (m * q + r))) (z / 2 ^ (m * q + r))) i) b ∙ of z
        ∙ ap (λ x. between m r x (digit_at m z (i + q))) (sym (filled_plain signed m n z (i + q + 1) h c))
        ∙ ap (λ x. between m r (filled_digit signed m n (digit_at m z) (i + q + 1)) x) (sym (filled_plain signed m n z (i + q) h c))
    lowered_case true b c of =
        let k : ℕ = m * q + r in
        let y : ℕ = complement (m * n) z in
        let small : y < 2 ^ (m * n) = omega (arith, pow_pos (m * n)) in
        let v : y / 2 ^ k < 2 ^ (m * n) = omega (arith, div-le_self y (2 ^ k)) in
        let ys : ℕ → ℕ = digit_at m y in
        ap (λ b. digit_at m (cond b (complement (m * n) (y / 2 ^ k)) (z / 2 ^ k)) i) b
        ∙ complement_digit m n (y / 2 ^ k) i v s ∙ ap (λ x. 2 ^ m - 1 - x) (of y)
        ∙ sym (between_turned m r (ys (i + q + 1)) (ys (i + q)) l (digit_below m y (i + q + 1)) (digit_below m y (i + q)))
        ∙ ap (λ x. between m r x (2 ^ m - 1 - ys (i + q))) (sym (filled_turned signed m n z (i + q + 1) h c))
        ∙ ap (λ x. between m r (filled_digit signed m n (digit_at m z) (i + q + 1)) x) (sym (filled_turned signed m n z (i + q) h c))

-- what fills stays under a shift
pub between_fill : (signed : Bool) (m r x : ℕ) → r ≤ m → between m r (fill_digit signed m x) (fill_digit signed m x) ≡ fill_digit signed m x
between_fill signed m r x l = fill_cases (is_negative signed m x) where
  zero_over : (k : ℕ) → 0 < k → 0 / k ≡ 0
  zero_over k h = div-eq_of_lt h

  none : between m r 0 0 ≡ 0
  none =
      let a : 2 ^ m * 0 + 0 ≡ 0 = omega arith in
      ap (λ y. y / 2 ^ r % 2 ^ m) a ∙ ap (λ y. y % 2 ^ m) (zero_over (2 ^ r) (pow_pos r)) ∙ mod-eq_of_lt (pow_pos m)

  fill_cases : (b : Bool) → between m r (cond b (2 ^ m - 1) 0) (cond b (2 ^ m - 1) 0) ≡ cond b (2 ^ m - 1) 0
  fill_cases false = none
  fill_cases true =
      let z : 2 ^ m - 1 - 0 ≡ 2 ^ m - 1 = omega arith in
      ap (λ y. between m r y y) (sym z) ∙ between_turned m r 0 0 l (pow_pos m) (pow_pos m) ∙ ap (λ y. 2 ^ m - 1 - y) none ∙ z

-- the digits of a cast are those of the number with its sign above it
pub cast_law : (signed : Bool) (m n v z i : ℕ) → 1 ≤ m → 1 ≤ n → z < 2 ^ (m * n) → i < v
    → digit_at m (cast_to signed (m * n) (m * v) z) i ≡ filled_digit signed m n (digit_at m z) i
cast_law signed m n v z i m1 n1 h s = cast_case (is_negative signed m (digit_at m z (n - 1))) (negative_top signed m n z m1 n1 h) refl where
  kept : (y : ℕ) → digit_at m (y % 2 ^ (m * v)) i ≡ digit_at m y i
  kept y =
      let w : ℕ = 2 ^ (m * v) in
      let d : y ≡ y % w + w * (y / w) = omega (arith, div-add-mod' y w) in
      sym (ap (λ x. digit_at m x i) d ∙ digit_under m v (y % w) (y / w) i s)

  cast_case : (b : Bool) → is_negative signed (m * n) z ≡ b → is_negative signed m (digit_at m z (n - 1)) ≡ b
      → digit_at m (cast_to signed (m * n) (m * v) z) i ≡ filled_digit signed m n (digit_at m z) i
  cast_case false b c =
      ap (λ b. digit_at m (cond b (complement (m * v) (complement (m * n) z % 2 ^ (m * v))) (z % 2 ^ (m * v))) i) b ∙ kept z ∙ sym (filled_plain signed m n z i h c)
  cast_case true b c =
      let y : ℕ = complement (m * n) z in
      let l : y % 2 ^ (m * v) < 2 ^ (m * v) = mod_below y (2 ^ (m * v)) (pow_pos (m * v)) in
      ap (λ b. digit_at m (cond b (complement (m * v) (y % 2 ^ (m * v))) (z % 2 ^ (m * v))) i) b
      ∙ complement_digit m v (y % 2 ^ (m * v)) i l s ∙ ap (λ x. 2 ^ m - 1 - x) (kept y) ∙ sym (filled_turned signed m n z i h c)

-- ---- a number that is moved up

pub raised_low : (m q r z i : ℕ) → i < q → digit_at m (z * 2 ^ (m * q + r)) i ≡ 0
raised_low m q r z i h =
    let e : m * suc i ≤ m * q = mul-le m (suc i) m q (omega arith) h in
    raised_below m (m * q + r) z i (omega arith)

pub raised_high : (m q r z j : ℕ) → r ≤ m → digit_at m (z * 2 ^ (m * q + r)) (q + j) ≡ raised_digit m r (digit_at m z) j
raised_high m q r z zero h = let e : q + 0 ≡ q = omega arith in ap (λ i. digit_at m (z * 2 ^ (m * q + r)) i) e ∙ raised_at m r z q h
raised_high m q r z (suc j) h =
    let e : m * (q + suc j) ≡ m * q + m * j + m = omega arith in
    let d : m * (q + suc j) - (m * q + r) ≡ m * j + (m - r) = omega arith in
    raised_above m (m * q + r) z (q + suc j) (omega arith) ∙ ap (λ k. z / 2 ^ k % 2 ^ m) d ∙ digit_between m (m - r) z j (omega arith)

pub raised_same : (m r : ℕ) (f g : ℕ → ℕ) (j : ℕ) → ((i : ℕ) → i ≤ j → f i ≡ g i) → raised_digit m r f j ≡ raised_digit m r g j
raised_same m r f g zero h = ap (λ x. x * 2 ^ r % 2 ^ m) (h 0 (omega arith))
raised_same m r f g (suc j) h = ap (λ x. between m (m - r) x (f j)) (h (suc j) (omega arith)) ∙ ap (λ x. between m (m - r) (g (suc j)) x) (h j (omega arith))
