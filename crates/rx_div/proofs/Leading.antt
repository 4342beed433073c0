-- The numbers of a division that takes one bit after another.
use Rattle.std.proofs.Common.{◌≡◌, ◌^◌, ℕ, zero, suc, ◌+◌, ◌-◌, ◌*◌, ◌/◌, ◌%◌, ◌<◌, ◌≤◌, refl, sym, ◌∙◌, ap, arith, cond, inl, inr, subst}
use Rattle.std.proofs.lemmas.Bool.{cases_lt, lt-ltb, le-ltb}
use Rattle.std.proofs.lemmas.Nat.{pow_pos}
use Rattle.std.proofs.Math.Nat.{pow-suc, pow-zero, mod-eq_of_lt, pow-le-pow_right}
use Rattle.rx_params.specs.Kinds.{digit_at}
use Rattle.rx_residue.specs.Division.{quotient, remainder}
use Rattle.rx_residue.proofs.Divisions.{remainder_keeps, remainder_less, remainder_le, quotient_keeps, quotient_more, quotient_none, quotient_is}
use Rattle.rx_plan.specs.Values.{number}
use Rattle.rx_plan.proofs.Numbers.{number_same, number_front, number_digits, pow_pow}
use Rattle.rx_plan.proofs.RowLaws.{number_split}
use Rattle.rx_plan.proofs.Held.{digit_under}
use Rattle.rx_carry.specs.Carries.{is_less}
use Rattle.rx_cmp.specs.Selection.{chosen}
use Rattle.rx_cmp.proofs.Chosen.{chosen_yes, chosen_no}
use Rattle.rx_shift.specs.Amount.{bit_at}
use Rattle.rx_shift.proofs.AmountBits.{bit_le}
use Rattle.rx_div.specs.Steps.{leading, with_next, borrow_at, taken_in, reduced}

pub less_yes : (a b : ℕ) → a < b → is_less a b ≡ 1
less_yes a b h = ap (λ c. cond c 1 0) (lt-ltb a b h)

pub less_no : (a b : ℕ) → b ≤ a → is_less a b ≡ 0
less_no a b h = ap (λ c. cond c 1 0) (le-ltb a b h)

pub less_le : (a b : ℕ) → is_less a b ≤ 1
less_le a b = elim (cases_lt a b) [
  | inl l ↦ omega (arith, less_yes a b l)
  | inr l ↦ omega (arith, less_no a b l)
]

-- ---- the leading bits

pub leading_none : (f : ℕ → ℕ) (w : ℕ) → leading f w 0 ≡ 0
unfolding leading
leading_none f w = refl

pub leading_more : (f : ℕ → ℕ) (w t : ℕ) → leading f w (suc t) ≡ 2 * leading f w t + f (w - 1 - t)
unfolding leading
leading_more f w t = refl

pub leading_below : (f : ℕ → ℕ) (w t : ℕ) → ((i : ℕ) → i < w → f i ≤ 1) → t ≤ w → leading f w t < 2 ^ t
leading_below f w zero h l = omega (arith, leading_none f w, pow-zero 2)
leading_below f w (suc t) h l =
    let p : 2 ^ suc t ≡ 2 ^ t * 2 = pow-suc 2 t in
    let b : f (w - 1 - t) ≤ 1 = h (w - 1 - t) (omega arith) in
    omega (arith, leading_more f w t, leading_below f w t h (omega arith))

pub leading_same : (f g : ℕ → ℕ) (w t : ℕ) → ((i : ℕ) → i < w → f i ≡ g i) → t ≤ w → leading f w t ≡ leading g w t
leading_same f g w zero h l = leading_none f w ∙ sym (leading_none g w)
leading_same f g w (suc t) h l =
    leading_more f w t ∙ ap (λ x. 2 * x + f (w - 1 - t)) (leading_same f g w t h (omega arith))
    ∙ ap (λ x. 2 * leading g w t + x) (h (w - 1 - t) (omega arith)) ∙ sym (leading_more g w t)

-- they are the number of the top bits
leading_number : (f : ℕ → ℕ) (w t : ℕ) → t ≤ w → leading f w t ≡ number 2 t (λ i. f (w - t + i))
unfolding number
leading_number f w zero l = leading_none f w
leading_number f w (suc t) l =
    let g : ℕ → ℕ = λ i. f (w - suc t + i) in
    let first : w - 1 - t ≡ w - suc t + 0 = omega arith in
    let rest : number 2 t (λ i. f (w - t + i)) ≡ number 2 t (λ i. g (suc i)) =
    number_same 2 t (λ i. f (w - t + i)) (λ i. g (suc i)) (λ i q. let e : w - t + i ≡ w - suc t + suc i = omega arith in ap f e) in
    let a : leading f w t ≡ number 2 t (λ i. g (suc i)) = leading_number f w t (omega arith) ∙ rest in
    let b : f (w - 1 - t) ≡ g 0 = ap f first in
    omega (arith, leading_more f w t, number_front 2 t g)

pub leading_all : (f : ℕ → ℕ) (w : ℕ) → leading f w w ≡ number 2 w f
leading_all f w =
    leading_number f w w (omega arith) ∙ number_same 2 w (λ i. f (w - w + i)) f (λ i q. let e : w - w + i ≡ i = omega arith in ap f e)

-- all bits of a number are the number
pub leading_bits : (w z : ℕ) → z < 2 ^ w → leading (bit_at z) w w ≡ z
leading_bits w z h = leading_all (bit_at z) w ∙ number_digits 2 w z (omega arith) ∙ mod-eq_of_lt h

-- ---- a step
pub rest_next : (a b d : ℕ) → d ≤ 1 → remainder (2 * a + d) b ≡ chosen (is_less (2 * remainder a b + d) b) (2 * remainder a b + d) (2 * remainder a b + d - b)
rest_next a b d h =
    let t : ℕ = 2 * remainder a b + d in
    elim (cases_lt t b) [
      | inl l ↦ remainder_keeps a b d l ∙ sym (chosen_yes (is_less t b) t (t - b) (less_yes t b l))
      | inr l ↦ remainder_less a b d h l ∙ sym (chosen_no (is_less t b) t (t - b) (less_no t b l))
    ]

-- it fits so many bits
pub taken_is : (bits t a b d : ℕ) → a < 2 ^ t → d ≤ 1 → t + 1 ≤ bits → taken_in bits (remainder a b) d ≡ 2 * remainder a b + d
taken_is bits t a b d h l r =
    let p : 2 ^ suc t ≡ 2 ^ t * 2 = pow-suc 2 t in
    let q : 2 ^ suc t ≤ 2 ^ bits = pow-le-pow_right {n = 2} (omega arith) (omega arith) in
    let m : remainder a b ≤ a = remainder_le a b in
    mod-eq_of_lt (omega arith)

-- the digits that are left are those of the next remainder
reduced_digit : (m n t b i : ℕ) → t < 2 ^ (m * n) → i < n → digit_at m (reduced (m * n) b t) i ≡ digit_at m (chosen (is_less t b) t (t - b)) i
reduced_digit m n t b i h l =
    let p : ℕ = 2 ^ (m * n) in
    let y : ℕ = t + p - b % p in
    elim (cases_lt t b) [
      | inl r ↦
          let yes : is_less t b ≡ 1 = less_yes t b r in
          ap (λ z. digit_at m z i) (chosen_yes (is_less t b) t y yes ∙ sym (chosen_yes (is_less t b) t (t - b) yes))
      | inr r ↦
          let no : is_less t b ≡ 0 = less_no t b r in
          let s : b % p ≡ b = mod-eq_of_lt (omega arith) in
          let e : y ≡ t - b + p * 1 = omega arith in
          ap (λ z. digit_at m z i) (chosen_no (is_less t b) t y no ∙ e)
          ∙ digit_under m n (t - b) 1 i l
          ∙ ap (λ z. digit_at m z i) (sym (chosen_no (is_less t b) t (t - b) no))
    ]

pub rest_digit : (m n t a b d i : ℕ) → a < 2 ^ t → d ≤ 1 → t + 1 ≤ m * n → i < n
    → digit_at m (reduced (m * n) b (taken_in (m * n) (remainder a b) d)) i ≡ digit_at m (remainder (2 * a + d) b) i
rest_digit m n t a b d i h l r q =
    let x : ℕ = 2 * remainder a b + d in
    let e : taken_in (m * n) (remainder a b) d ≡ x = taken_is (m * n) t a b d h l r in
    let p : 2 ^ suc t ≡ 2 ^ t * 2 = pow-suc 2 t in
    let w : 2 ^ suc t ≤ 2 ^ (m * n) = pow-le-pow_right {n = 2} (omega arith) (omega arith) in
    let k : remainder a b ≤ a = remainder_le a b in
    ap (λ x. digit_at m (reduced (m * n) b x) i) e
    ∙ reduced_digit m n x b i (omega arith) q
    ∙ ap (λ z. digit_at m z i) (sym (rest_next a b d l))

-- ---- the quotient

quotient_next : (t a b d : ℕ) → d ≤ 1 → quotient (suc t) (2 * a + d) b ≡ 2 * quotient t a b + (1 - is_less (2 * remainder a b + d) b)
quotient_next t a b d h =
    let x : ℕ = 2 * remainder a b + d in
    elim (cases_lt x b) [
      | inl l ↦ omega (arith, quotient_keeps t a b d l, less_yes x b l)
      | inr l ↦ omega (arith, quotient_more t a b d h l, less_no x b l)
    ]

quotient_start : (b : ℕ) → quotient 0 0 b ≡ 0
quotient_start zero = omega (arith, quotient_none 0 0, pow-zero 2)
quotient_start (suc b) = quotient_is 0 0 (suc b) 0 0 (omega arith) (omega arith)

-- its bits, the lowest first
abbrev pub quotient_bit : (ℕ → ℕ) → ℕ → ℕ → ℕ → ℕ
quotient_bit f w b j = 1 - borrow_at f w b (w - 1 - j)

pub quotient_steps : (f : ℕ → ℕ) (w b t : ℕ) → ((i : ℕ) → i < w → f i ≤ 1) → t ≤ w → leading (quotient_bit f w b) w t ≡ quotient t (leading f w t) b
quotient_steps f w b zero h l = leading_none (quotient_bit f w b) w ∙ sym (ap (λ a. quotient 0 a b) (leading_none f w) ∙ quotient_start b)
quotient_steps f w b (suc t) h l =
    let a : ℕ = leading f w t in
    let d : ℕ = f (w - 1 - t) in
    let e : w - 1 - (w - 1 - t) ≡ t = omega arith in
    leading_more (quotient_bit f w b) w t
    ∙ ap (λ x. 2 * x + quotient_bit f w b (w - 1 - t)) (quotient_steps f w b t h (omega arith))
    ∙ ap (λ x. 2 * quotient t a b + (1 - borrow_at f w b x)) e
    ∙ sym (quotient_next t a b d (h (w - 1 - t) (omega arith)))
    ∙ ap (λ a. quotient (suc t) a b) (sym (leading_more f w t))

-- ---- bits in groups

-- bits by groups of m are digits
pub number_groups : (m n : ℕ) (f : ℕ → ℕ) → number 2 (m * n) f ≡ number (2 ^ m) n (λ i. number 2 m (λ k. f (m * i + k)))
unfolding number
number_groups m zero f = let e : m * 0 ≡ 0 = omega arith in ap (λ k. number 2 k f) e
number_groups m (suc n) f =
    let e : m * suc n ≡ m * n + m = omega arith in
    let p : (2 ^ m) ^ n * number 2 m (λ k. f (m * n + k)) ≡ 2 ^ (m * n) * number 2 m (λ k. f (m * n + k)) = ap (λ x. x * number 2 m (λ k. f (m * n + k))) (pow_pow m n) in
    ap (λ k. number 2 k f) e ∙ omega (arith, number_split 2 (m * n) m f, number_groups m n f)

-- each bit turned
opposite_sum : (m : ℕ) (g : ℕ → ℕ) → ((k : ℕ) → k < m → g k ≤ 1) → number 2 m (λ k. 1 - g k) + number 2 m g + 1 ≡ 2 ^ m
unfolding number
opposite_sum zero g h = omega (arith, pow-zero 2)
opposite_sum (suc m) g h =
    let p : 2 ^ suc m ≡ 2 ^ m * 2 = pow-suc 2 m in
    let i : number 2 m (λ k. 1 - g k) + number 2 m g + 1 ≡ 2 ^ m = opposite_sum m g (λ k q. h k (omega arith)) in
    let b : 1 - g m + g m ≡ 1 = (let c : g m ≤ 1 = h m (omega arith) in omega arith) in
    let e : 2 ^ m * (1 - g m + g m) ≡ 2 ^ m * 1 = ap (λ x. 2 ^ m * x) b in
    omega arith

pub number_opposite : (m : ℕ) (g : ℕ → ℕ) → ((k : ℕ) → k < m → g k ≤ 1) → number 2 m (λ k. 1 - g k) ≡ 2 ^ m - 1 - number 2 m g
number_opposite m g h = omega (arith, opposite_sum m g h)

-- digits that are made of borrows are those of the quotient
pub quotient_number : (m n a b : ℕ) → a < 2 ^ (m * n)
    → number (2 ^ m) n (λ i. 2 ^ m - 1 - number 2 m (λ k. borrow_at (bit_at a) (m * n) b (m * n - 1 - (m * i + k)))) ≡ quotient (m * n) a b
quotient_number m n a b h =
    let w : ℕ = m * n in
    let f : ℕ → ℕ = bit_at a in
    let q : ℕ → ℕ = quotient_bit f w b in
    let bits : (i : ℕ) → i < w → f i ≤ 1 = λ i l. bit_le i a in
    number_same (2 ^ m) n (λ i. 2 ^ m - 1 - number 2 m (λ k. borrow_at f w b (w - 1 - (m * i + k)))) (λ i. number 2 m (λ k. q (m * i + k)))
    (λ i l. sym (number_opposite m (λ k. borrow_at f w b (w - 1 - (m * i + k))) (λ k l. less_le (with_next f w b (w - 1 - (m * i + k))) b)))
    ∙ sym (number_groups m n q) ∙ sym (leading_all q w) ∙ quotient_steps f w b w bits (omega arith)
    ∙ ap (λ z. quotient w z b) (leading_bits w a h)
