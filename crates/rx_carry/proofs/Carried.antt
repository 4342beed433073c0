-- What goes out of blocks, from their states, and the digits that are left.
use Rattle.std.proofs.Common.{◌≡◌, ℕ, Bool, true, false, zero, suc, ◌<◌, ◌≤◌, ◌+◌, ◌-◌, ◌*◌, ◌/◌, ◌%◌, ◌^◌, inl, inr, sym, ◌∙◌, ap, refl, arith, subst, cond, nat_eq}
use Rattle.std.proofs.lemmas.Bool.{cases_lt, cases_eq, lt-ltb, le-ltb, eq-eqb, ne_eqb}
use Rattle.std.proofs.lemmas.Nat.{mul-le, div-mul-add, mod-mul-add, mod_below, div-add-mod'}
use Rattle.std.proofs.Math.Nat.{pow-suc}
use Rattle.rx_plan.specs.Values.{number}
use Rattle.rx_plan.proofs.Numbers.{number_below}
use Rattle.rx_carry.specs.declared.operation.Operation.{Operation}
use Rattle.rx_carry.specs.declared.operation.Operation.TheVariants.{Sum, Difference, Negation}
use Rattle.rx_carry.specs.Carries.{joint, passed, digit_left, whole, combine, state_of, state_at, carry_of, carried_in, tops_at, flipped}

-- ---- division by cases
pub div_small : (s u : ℕ) → s < u → s / u ≡ 0
div_small s u h = let e : s ≡ 0 * u + s = omega arith in ap (λ x. x / u) e ∙ div-mul-add 0 u s h

pub div_once : (s u : ℕ) → u ≤ s → s < 2 * u → s / u ≡ 1
div_once s u p q = let e : s ≡ 1 * u + (s - u) = omega arith in ap (λ x. x / u) e ∙ div-mul-add 1 u (s - u) (omega arith)

mod_small : (s u : ℕ) → s < u → s % u ≡ s
mod_small s u h = let e : s ≡ 0 * u + s = omega arith in ap (λ x. x % u) e ∙ mod-mul-add 0 u s h

mod_once : (s u : ℕ) → u ≤ s → s < 2 * u → s % u ≡ s - u
mod_once s u p q = let e : s ≡ 1 * u + (s - u) = omega arith in ap (λ x. x % u) e ∙ mod-mul-add 1 u (s - u) (omega arith)

-- ---- the definitions by cases
sum_two : (u t : ℕ) → t ≡ u - 1 → state_of Sum u t ≡ 2
sum_two u t h = ap (λ b. cond b 2 (t / u)) (eq-eqb t (u - 1) h)

sum_div : (u t : ℕ) → (t ≡ u - 1 → ⊥) → state_of Sum u t ≡ t / u
sum_div u t h = ap (λ b. cond b 2 (t / u)) (ne_eqb t (u - 1) h)

less_one : (u t : ℕ) → t < u → state_of Difference u t ≡ 1
less_one u t h = ap (λ b. cond b 1 (cond (nat_eq t u) 2 0)) (lt-ltb t u h)

less_two : (u t : ℕ) → t ≡ u → state_of Difference u t ≡ 2
less_two u t h = ap (λ b. cond b 1 (cond (nat_eq t u) 2 0)) (le-ltb t u (omega arith)) ∙ ap (λ b. cond b 2 0) (eq-eqb t u h)

less_none : (u t : ℕ) → u < t → state_of Difference u t ≡ 0
less_none u t h = ap (λ b. cond b 1 (cond (nat_eq t u) 2 0)) (le-ltb t u (omega arith)) ∙ ap (λ b. cond b 2 0) (ne_eqb t u (λ e. absurd (omega arith)))

none_two : (u t : ℕ) → t ≡ 0 → state_of Negation u t ≡ 2
none_two u t h = ap (λ b. cond b 2 1) (eq-eqb t 0 h)

none_one : (u t : ℕ) → (t ≡ 0 → ⊥) → state_of Negation u t ≡ 1
none_one u t h = ap (λ b. cond b 2 1) (ne_eqb t 0 h)

borrow_yes : (u t : ℕ) → t < u → passed Difference u t ≡ 1
borrow_yes u t h = ap (λ b. cond b 1 0) (lt-ltb t u h)

borrow_no : (u t : ℕ) → u ≤ t → passed Difference u t ≡ 0
borrow_no u t h = ap (λ b. cond b 1 0) (le-ltb t u h)

turn_no : (u t : ℕ) → t ≡ 0 → passed Negation u t ≡ 0
turn_no u t h = ap (λ b. cond b 0 1) (eq-eqb t 0 h)

turn_yes : (u t : ℕ) → (t ≡ 0 → ⊥) → passed Negation u t ≡ 1
turn_yes u t h = ap (λ b. cond b 0 1) (ne_eqb t 0 h)

-- ---- combining
pub combine_assoc : (h l c : ℕ) → combine (combine h l) c ≡ combine h (combine l c)
combine_assoc zero l c = refl
combine_assoc (suc zero) l c = refl
combine_assoc (suc (suc zero)) l c = refl
combine_assoc (suc (suc (suc n))) l c = refl

pub combine_none : (s : ℕ) → s ≤ 1 → combine s 0 ≡ s
combine_none zero h = refl
combine_none (suc zero) h = refl
combine_none (suc (suc n)) h = absurd (omega arith)

combine_bit : (q c : ℕ) → q ≤ 1 → combine q c ≡ q
combine_bit zero c h = refl
combine_bit (suc zero) c h = refl
combine_bit (suc (suc n)) c h = absurd (omega arith)

pub combine_le : (h l : ℕ) → h ≤ 2 → l ≤ 2 → combine h l ≤ 2
combine_le zero l p q = omega arith
combine_le (suc zero) l p q = omega arith
combine_le (suc (suc zero)) l p q = q
combine_le (suc (suc (suc n))) l p q = absurd (omega arith)

pub combine_bits : (h l : ℕ) → h ≤ 2 → l ≤ 1 → combine h l ≤ 1
combine_bits zero l p q = omega arith
combine_bits (suc zero) l p q = omega arith
combine_bits (suc (suc zero)) l p q = q
combine_bits (suc (suc (suc n))) l p q = absurd (omega arith)

pub combine_below : (h l n : ℕ) → h < n → l < n → combine h l < n
combine_below zero l n p q = p
combine_below (suc zero) l n p q = p
combine_below (suc (suc zero)) l n p q = q
combine_below (suc (suc (suc m))) l n p q = p

-- ---- sizes
pub joint_in : (op : Operation) (u x y c : ℕ) → x ≤ u - 1 → y ≤ u - 1 → c ≤ 1 → 2 ≤ u → joint op u x y c ≤ 2 * u - 1
joint_in Sum u x y c p q r s = omega arith
joint_in Difference u x y c p q r s = omega arith
joint_in Negation u x y c p q r s = omega arith

div_le : (u t : ℕ) → t ≤ 2 * u - 1 → 2 ≤ u → t / u ≤ 1
div_le u t h s = elim (cases_lt t u) [ inl l ↦ omega (arith, div_small t u l) | inr l ↦ omega (arith, div_once t u l (omega arith)) ]

pub state_le : (op : Operation) (u t : ℕ) → t ≤ 2 * u - 1 → 2 ≤ u → state_of op u t ≤ 2
state_le Sum u t h s = elim (cases_eq t (u - 1)) [ inl e ↦ omega (arith, sum_two u t e) | inr n ↦ omega (arith, sum_div u t n, div_le u t h s) ]
state_le Difference u t h s =
    elim (cases_lt t u) [
      | inl l ↦ omega (arith, less_one u t l)
      | inr l ↦ elim (cases_eq t u) [ inl e ↦ omega (arith, less_two u t e) | inr n ↦ omega (arith, less_none u t (omega arith)) ]
    ]
state_le Negation u t h s = elim (cases_eq t 0) [ inl e ↦ omega (arith, none_two u t e) | inr n ↦ omega (arith, none_one u t n) ]

-- a state at any index of a table is an entry
pub state_below : (op : Operation) (u t n : ℕ) → 2 ≤ u → 3 ≤ n → t < n → state_of op u t < n
state_below Sum u t n h k q =
    elim (cases_eq t (u - 1)) [
      | inl e ↦ omega (arith, sum_two u t e)
      | inr z ↦
          let d : t / u * u + t % u ≡ t = div-add-mod' t u in
          let m : t / u * 1 ≤ t / u * u = mul-le (t / u) 1 (t / u) u (omega arith) (omega arith) in
          omega (arith, sum_div u t z)
    ]
state_below Difference u t n h k q =
    elim (cases_lt t u) [
      | inl l ↦ omega (arith, less_one u t l)
      | inr l ↦ elim (cases_eq t u) [ inl e ↦ omega (arith, less_two u t e) | inr z ↦ omega (arith, less_none u t (omega arith)) ]
    ]
state_below Negation u t n h k q = elim (cases_eq t 0) [ inl e ↦ omega (arith, none_two u t e) | inr z ↦ omega (arith, none_one u t z) ]

pub digit_below : (op : Operation) (u t : ℕ) → 0 < u → digit_left op u t < u
digit_below Sum u t h = mod_below t u h
digit_below Difference u t h = mod_below t u h
digit_below Negation u t h = mod_below (u - t) u h

pub passed_le : (op : Operation) (u t : ℕ) → t ≤ 2 * u - 1 → 2 ≤ u → passed op u t ≤ 1
passed_le Sum u t h s = div_le u t h s
passed_le Difference u t h s = elim (cases_lt t u) [ inl l ↦ omega (arith, borrow_yes u t l) | inr l ↦ omega (arith, borrow_no u t l) ]
passed_le Negation u t h s = elim (cases_eq t 0) [ inl e ↦ omega (arith, turn_no u t e) | inr n ↦ omega (arith, turn_yes u t n) ]

-- ---- degrees of states
pub tops_low : (span i : ℕ) → i < span → tops_at span i ≡ 1
unfolding tops_at
tops_low span i h = ap (λ b. cond b 1 2) (lt-ltb i span h)

pub tops_high : (span i : ℕ) → span ≤ i → tops_at span i ≡ 2
unfolding tops_at
tops_high span i h = ap (λ b. cond b 1 2) (le-ltb i span h)

pub tops_le : (span i : ℕ) → tops_at span i ≤ 2
tops_le span i = elim (cases_lt i span) [ inl l ↦ omega (arith, tops_low span i l) | inr l ↦ omega (arith, tops_high span i l) ]

-- ---- states of places
pub state_first : (op : Operation) (u i t : ℕ) → i < 1 → state_at op u i t ≡ combine (state_of op u t) 0
unfolding state_at
state_first op u i t h = ap (λ b. cond b (combine (state_of op u t) 0) (state_of op u t)) (lt-ltb i 1 h)

pub state_later : (op : Operation) (u i t : ℕ) → 1 ≤ i → state_at op u i t ≡ state_of op u t
unfolding state_at
state_later op u i t h = ap (λ b. cond b (combine (state_of op u t) 0) (state_of op u t)) (le-ltb i 1 h)

pub state_at_le : (op : Operation) (u i t : ℕ) → t ≤ 2 * u - 1 → 2 ≤ u → state_at op u i t ≤ tops_at 1 i
state_at_le op u i t h s =
    elim (cases_lt i 1) [
      | inl l ↦ omega (arith, state_first op u i t l, tops_low 1 i l, combine_bits (state_of op u t) 0 (state_le op u t h s) (omega arith))
      | inr l ↦ omega (arith, state_later op u i t l, tops_high 1 i l, state_le op u t h s)
    ]

-- ---- the law of one block
pub state_passes : (op : Operation) (u x y c : ℕ) → 2 ≤ u → x < u → y < u → c ≤ 1 → combine (state_of op u (joint op u x y 0)) c ≡ passed op u (joint op u x y c)
state_passes Sum u x y c w p q k =
    let t : ℕ = x + y + 0 in
    elim (cases_eq t (u - 1)) as (λ _. combine (state_of Sum u (x + y + 0)) c ≡ (x + y + c) / u) [
      | inl e ↦
          ap (λ s. combine s c) (sum_two u t e) ∙ elim (cases_lt c 1) as (λ _. c ≡ (x + y + c) / u) [
            | inl l ↦ let z : c ≡ 0 = omega arith in z ∙ sym (div_small (x + y + c) u (omega arith))
            | inr l ↦ let z : c ≡ 1 = omega arith in z ∙ sym (div_once (x + y + c) u (omega arith) (omega arith))
          ]
      | inr n ↦
          ap (λ s. combine s c) (sum_div u t n) ∙ combine_bit (t / u) c (div_le u t (omega arith) w) ∙ elim (cases_lt t u) as (λ _. t / u ≡ (x + y + c) / u) [
            | inl l ↦ div_small t u l ∙ sym (div_small (x + y + c) u (omega arith))
            | inr l ↦ div_once t u l (omega arith) ∙ sym (div_once (x + y + c) u (omega arith) (omega arith))
          ]
    ]
state_passes Difference u x y c w p q k =
    let t : ℕ = u + x - (y + 0) in
    let s : ℕ = u + x - (y + c) in
    elim (cases_lt t u) as (λ _. combine (state_of Difference u (u + x - (y + 0))) c ≡ passed Difference u (u + x - (y + c))) [
      | inl l ↦ ap (λ s. combine s c) (less_one u t l) ∙ sym (borrow_yes u s (omega arith))
      | inr l ↦
          elim (cases_eq t u) as (λ _. combine (state_of Difference u (u + x - (y + 0))) c ≡ passed Difference u (u + x - (y + c))) [
            | inl e ↦
                ap (λ s. combine s c) (less_two u t e) ∙ elim (cases_lt c 1) as (λ _. c ≡ passed Difference u (u + x - (y + c))) [
                  | inl m ↦ let z : c ≡ 0 = omega arith in z ∙ sym (borrow_no u s (omega arith))
                  | inr m ↦ let z : c ≡ 1 = omega arith in z ∙ sym (borrow_yes u s (omega arith))
                ]
            | inr n ↦ ap (λ s. combine s c) (less_none u t (omega arith)) ∙ sym (borrow_no u s (omega arith))
          ]
    ]
state_passes Negation u x y c w p q k =
    elim (cases_eq (y + 0) 0) as (λ _. combine (state_of Negation u (y + 0)) c ≡ passed Negation u (y + c)) [
      | inl e ↦
          ap (λ s. combine s c) (none_two u (y + 0) e) ∙ elim (cases_lt c 1) as (λ _. c ≡ passed Negation u (y + c)) [
            | inl m ↦ let z : c ≡ 0 = omega arith in z ∙ sym (turn_no u (y + c) (omega arith))
            | inr m ↦ let z : c ≡ 1 = omega arith in z ∙ sym (turn_yes u (y + c) (λ e. absurd (omega arith)))
          ]
      | inr n ↦ ap (λ s. combine s c) (none_one u (y + 0) n) ∙ sym (turn_yes u (y + c) (λ e. n (omega arith)))
    ]

-- what a, b, the digits that are left and what went out have to do with one another
abbrev pub Balances : Operation → ℕ → ℕ → ℕ → ℕ → Type 0
Balances Sum a b left out = a + b ≡ left + out
Balances Difference a b left out = a + out ≡ left + b
Balances Negation a b left out = out ≡ left + b

block_balances : (op : Operation) (u x y c : ℕ) → 2 ≤ u → x < u → y < u → c ≤ 1 → Balances op x (y + c) (digit_left op u (joint op u x y c)) (u * passed op u (joint op u x y c))
block_balances Sum u x y c w p q k = let d : (x + y + c) / u * u + (x + y + c) % u ≡ x + y + c = div-add-mod' (x + y + c) u in omega arith
block_balances Difference u x y c w p q k =
    let t : ℕ = u + x - (y + c) in
    elim (cases_lt t u) as (λ _. x + u * passed Difference u (u + x - (y + c)) ≡ (u + x - (y + c)) % u + (y + c)) [
      | inl l ↦ let o : u * passed Difference u t ≡ u * 1 = ap (λ b. u * b) (borrow_yes u t l) in omega (arith, mod_small t u l)
      | inr l ↦ let o : u * passed Difference u t ≡ u * 0 = ap (λ b. u * b) (borrow_no u t l) in omega (arith, mod_once t u l (omega arith))
    ]
block_balances Negation u x y c w p q k =
    let t : ℕ = y + c in
    elim (cases_eq t 0) as (λ _. u * passed Negation u (y + c) ≡ (u - (y + c)) % u + (y + c)) [
      | inl e ↦ let o : u * passed Negation u t ≡ u * 0 = ap (λ b. u * b) (turn_no u t e) in omega (arith, mod_once (u - t) u (omega arith) (omega arith))
      | inr n ↦ let o : u * passed Negation u t ≡ u * 1 = ap (λ b. u * b) (turn_yes u t n) in omega (arith, mod_small (u - t) u (omega arith))
    ]

-- a block above blocks
above : (op : Operation) (a b l p c x y d u o : ℕ) → Balances op a b l (p * c) → Balances op x (y + c) d (u * o) → Balances op (a + p * x) (b + p * y) (l + p * d) (p * u * o)
above Sum a b l p c x y d u o h k = let m : p * (x + (y + c)) ≡ p * (d + u * o) = ap (λ z. p * z) k in omega arith
above Difference a b l p c x y d u o h k = let m : p * (x + u * o) ≡ p * (d + (y + c)) = ap (λ z. p * z) k in omega arith
above Negation a b l p c x y d u o h k = let m : p * (u * o) ≡ p * (d + (y + c)) = ap (λ z. p * z) k in omega arith

-- ---- the law of all blocks
abbrev pub states_of : Operation → ℕ → (ℕ → ℕ) → (ℕ → ℕ) → ℕ → ℕ
states_of op u f g i = state_at op u i (joint op u (f i) (g i) 0)

pub carry_same : (v w : ℕ → ℕ) (i : ℕ) → ((k : ℕ) → k < i → v k ≡ w k) → carry_of v i ≡ carry_of w i
unfolding carry_of
carry_same v w zero h = refl
carry_same v w (suc i) h = ap (λ x. combine x (carry_of v i)) (h i (omega arith)) ∙ ap (combine (w i)) (carry_same v w i (λ k q. h k (omega arith)))

module _ (op : Operation) (u n : ℕ) (f g : ℕ → ℕ) (big : 2 ≤ u) (p : (i : ℕ) → i < n → f i < u) (q : (i : ℕ) → i < n → g i < u) where
  v : ℕ → ℕ
  v = states_of op u f g

  pub carry_step : (i : ℕ) → i < n → carry_of (states_of op u f g) i ≤ 1 → carry_of (states_of op u f g) (suc i) ≡ passed op u (joint op u (f i) (g i) (carry_of (states_of op u f g) i))
  unfolding carry_of
  carry_step zero h c =
      let t : ℕ = joint op u (f 0) (g 0) 0 in
      ap (λ s. combine s 0) (state_first op u 0 t (omega arith)) ∙ combine_assoc (state_of op u t) 0 0 ∙ state_passes op u (f 0) (g 0) 0 big (p 0 h) (q 0 h) (omega arith)
  carry_step (suc i) h c =
      let t : ℕ = joint op u (f (suc i)) (g (suc i)) 0 in
      ap (λ s. combine s (carry_of (states_of op u f g) (suc i))) (state_later op u (suc i) t (omega arith)) ∙ state_passes op u (f (suc i)) (g (suc i)) (carry_of (states_of op u f g) (suc i)) big (p (suc i) h) (q (suc i) h) c

  pub carry_small : (i : ℕ) → i ≤ n → carry_of (states_of op u f g) i ≤ 1
  unfolding carry_of
  carry_small zero h = omega arith
  carry_small (suc i) h =
      let c : carry_of (states_of op u f g) i ≤ 1 = carry_small i (omega arith) in
      let pf : f i < u = p i (omega arith) in
      let pg : g i < u = q i (omega arith) in
      let j : joint op u (f i) (g i) (carry_of (states_of op u f g) i) ≤ 2 * u - 1 = joint_in op u (f i) (g i) (carry_of (states_of op u f g) i) (omega arith) (omega arith) c big in
      let e : carry_of (states_of op u f g) (suc i) ≡ passed op u (joint op u (f i) (g i) (carry_of (states_of op u f g) i)) = carry_step i (omega arith) c in
      omega (arith, e, passed_le op u (joint op u (f i) (g i) (carry_of (states_of op u f g) i)) j big)

-- the digits that are left
abbrev pub lefts_of : Operation → ℕ → (ℕ → ℕ) → (ℕ → ℕ) → ℕ → ℕ
lefts_of op u f g i = digit_left op u (joint op u (f i) (g i) (carry_of (states_of op u f g) i))

pub balances : (op : Operation) (u n : ℕ) (f g : ℕ → ℕ) → 2 ≤ u → ((i : ℕ) → i < n → f i < u) → ((i : ℕ) → i < n → g i < u)
    → Balances op (number u n f) (number u n g) (number u n (lefts_of op u f g)) (u ^ n * carry_of (states_of op u f g) n)
unfolding number carry_of
balances Sum u zero f g w p q = omega arith
balances Difference u zero f g w p q = omega arith
balances Negation u zero f g w p q = omega arith
balances op u (suc n) f g w p q =
    let c : ℕ = carry_of (states_of op u f g) n in
    let t : ℕ = joint op u (f n) (g n) c in
    let small : c ≤ 1 = carry_small op u (suc n) f g w p q n (omega arith) in
    let h : Balances op (number u n f) (number u n g) (number u n (lefts_of op u f g)) (u ^ n * c) = balances op u n f g w (λ i l. p i (omega arith)) (λ i l. q i (omega arith)) in
    let k : Balances op (f n) (g n + c) (digit_left op u t) (u * passed op u t) = block_balances op u (f n) (g n) c w (p n (omega arith)) (q n (omega arith)) small in
    let e : passed op u t ≡ combine (states_of op u f g n) c = sym (carry_step op u (suc n) f g w p q n (omega arith) small) in
    let m : u ^ n * u * passed op u t ≡ u ^ suc n * combine (states_of op u f g n) c = ap (λ o. u ^ n * u * o) e ∙ ap (λ z. z * combine (states_of op u f g n) c) (sym (pow-suc u n)) in
    subst (λ (z : ℕ). Balances op (number u n f + u ^ n * f n) (number u n g + u ^ n * g n) (number u n (lefts_of op u f g) + u ^ n * digit_left op u t) z) m
    (above op (number u n f) (number u n g) (number u n (lefts_of op u f g)) (u ^ n) c (f n) (g n) (digit_left op u t) u (passed op u t) h k)

-- what is left is what the whole number leaves
left_is : (op : Operation) (p a b l c : ℕ) → l < p → a < p → b < p → c ≤ 1 → Balances op a b l (p * c) → l ≡ whole op p a b % p
left_is Sum p a b l c h x y k e =
    let m : a + b ≡ c * p + l = omega arith in sym (ap (λ z. z % p) m ∙ mod-mul-add c p l h)
left_is Difference p a b l c h x y k e =
    elim (cases_lt c 1) as (λ _. l ≡ (a + p - b) % p) [
      | inl z ↦
          let o : p * c ≡ p * 0 = ap (λ c. p * c) (let w : c ≡ 0 = omega arith in w) in
          let m : a + p - b ≡ 1 * p + l = omega arith in sym (ap (λ z. z % p) m ∙ mod-mul-add 1 p l h)
      | inr z ↦
          let o : p * c ≡ p * 1 = ap (λ c. p * c) (let w : c ≡ 1 = omega arith in w) in
          let m : a + p - b ≡ l = omega arith in sym (ap (λ z. z % p) m ∙ mod_small l p h)
    ]
left_is Negation p a b l c h x y k e =
    elim (cases_lt c 1) as (λ _. l ≡ (p - b) % p) [
      | inl z ↦
          let o : p * c ≡ p * 0 = ap (λ c. p * c) (let w : c ≡ 0 = omega arith in w) in
          let m : p - b ≡ 1 * p + l = omega arith in sym (ap (λ z. z % p) m ∙ mod-mul-add 1 p l h)
      | inr z ↦
          let o : p * c ≡ p * 1 = ap (λ c. p * c) (let w : c ≡ 1 = omega arith in w) in
          let m : p - b ≡ l = omega arith in sym (ap (λ z. z % p) m ∙ mod_small l p h)
    ]

-- what goes out is what goes out of one block to a greater base
out_is : (op : Operation) (p a b l c : ℕ) → l < p → a < p → b < p → c ≤ 1 → Balances op a b l (p * c) → c ≡ passed op p (joint op p a b 0)
out_is Sum p a b l c h x y k e = let m : a + b + 0 ≡ c * p + l = omega arith in sym (ap (λ z. z / p) m ∙ div-mul-add c p l h)
out_is Difference p a b l c h x y k e =
    elim (cases_lt c 1) as (λ _. c ≡ passed Difference p (p + a - (b + 0))) [
      | inl z ↦
          let w : c ≡ 0 = omega arith in
          let o : p * c ≡ p * 0 = ap (λ c. p * c) w in
          w ∙ sym (borrow_no p (p + a - (b + 0)) (omega arith))
      | inr z ↦
          let w : c ≡ 1 = omega arith in
          let o : p * c ≡ p * 1 = ap (λ c. p * c) w in
          w ∙ sym (borrow_yes p (p + a - (b + 0)) (omega arith))
    ]
out_is Negation p a b l c h x y k e =
    elim (cases_lt c 1) as (λ _. c ≡ passed Negation p (b + 0)) [
      | inl z ↦
          let w : c ≡ 0 = omega arith in
          let o : p * c ≡ p * 0 = ap (λ c. p * c) w in
          w ∙ sym (turn_no p (b + 0) (omega arith))
      | inr z ↦
          let w : c ≡ 1 = omega arith in
          let o : p * c ≡ p * 1 = ap (λ c. p * c) w in
          w ∙ sym (turn_yes p (b + 0) (λ n. absurd (omega arith)))
    ]

pub lefts_number : (op : Operation) (u n : ℕ) (f g : ℕ → ℕ) → 2 ≤ u → ((i : ℕ) → i < n → f i < u) → ((i : ℕ) → i < n → g i < u)
    → number u n (lefts_of op u f g) ≡ whole op (u ^ n) (number u n f) (number u n g) % u ^ n
lefts_number op u n f g w p q =
    left_is op (u ^ n) (number u n f) (number u n g) (number u n (lefts_of op u f g)) (carry_of (states_of op u f g) n)
    (number_below u n (lefts_of op u f g) (λ i l. digit_below op u (joint op u (f i) (g i) (carry_of (states_of op u f g) i)) (omega arith)))
    (number_below u n f p) (number_below u n g q) (carry_small op u n f g w p q n (omega arith)) (balances op u n f g w p q)

pub carries_out : (op : Operation) (u n : ℕ) (f g : ℕ → ℕ) → 2 ≤ u → ((i : ℕ) → i < n → f i < u) → ((i : ℕ) → i < n → g i < u)
    → carry_of (states_of op u f g) n ≡ passed op (u ^ n) (joint op (u ^ n) (number u n f) (number u n g) 0)
carries_out op u n f g w p q =
    out_is op (u ^ n) (number u n f) (number u n g) (number u n (lefts_of op u f g)) (carry_of (states_of op u f g) n)
    (number_below u n (lefts_of op u f g) (λ i l. digit_below op u (joint op u (f i) (g i) (carry_of (states_of op u f g) i)) (omega arith)))
    (number_below u n f p) (number_below u n g q) (carry_small op u n f g w p q n (omega arith)) (balances op u n f g w p q)

-- ---- what comes into a place
pub carried_same : (v w : ℕ → ℕ) (n i : ℕ) → ((k : ℕ) → k < n → v k ≡ w k) → i ≤ n → carried_in v i ≡ carried_in w i
unfolding carried_in
carried_same v w n zero h q = refl
carried_same v w n (suc i) h q = h i (omega arith)

pub carried_zero : (w : ℕ → ℕ) (i : ℕ) → i ≡ 0 → carried_in w i ≡ 0
unfolding carried_in
carried_zero w zero e = refl
carried_zero w (suc i) e = absurd (omega arith)

pub carried_more : (w : ℕ → ℕ) (i : ℕ) → 1 ≤ i → carried_in w i ≡ w (i - 1)
unfolding carried_in
carried_more w zero h = absurd (omega arith)
carried_more w (suc i) h = let e : i ≡ suc i - 1 = omega arith in ap w e

pub carried_carry : (w v : ℕ → ℕ) (n i : ℕ) → ((k : ℕ) → k < n → w k ≡ carry_of v (k + 1)) → i ≤ n → carried_in w i ≡ carry_of v i
unfolding carried_in carry_of
carried_carry w v n zero h q = refl
carried_carry w v n (suc i) h q = let e : i + 1 ≡ suc i = omega arith in h i (omega arith) ∙ ap (carry_of v) e

-- ---- opposites
pub flipped_le : (b : Bool) (x : ℕ) → x ≤ 1 → flipped b x ≤ 1
flipped_le true x h = omega arith
flipped_le false x h = h

pub flipped_below : (b : Bool) (x n : ℕ) → x < n → 1 < n → flipped b x < n
flipped_below true x n h k = omega arith
flipped_below false x n h k = h

-- ---- two states in a table
pub pair_entry : (h l : ℕ) → l < 3 → combine ((3 * h + l) / 3) ((3 * h + l) % 3) ≡ combine h l
pair_entry h l q =
    let e : 3 * h + l ≡ h * 3 + l = omega arith in
    ap (λ i. combine (i / 3) (i % 3)) e ∙ ap (λ i. combine i ((h * 3 + l) % 3)) (div-mul-add h 3 l q) ∙ ap (combine h) (mod-mul-add h 3 l q)

combine_one : (h l : ℕ) → 3 * h + l ≤ 7 → l ≤ 2 → combine h l ≤ 1
combine_one zero l p q = omega arith
combine_one (suc zero) l p q = omega arith
combine_one (suc (suc zero)) l p q = omega arith
combine_one (suc (suc (suc n))) l p q = absurd (omega arith)

pub entry_le : (i : ℕ) → i ≤ 8 → combine (i / 3) (i % 3) ≤ 2
entry_le i h = combine_le (i / 3) (i % 3) (omega arith) (omega arith)

pub entry_one : (i : ℕ) → i ≤ 7 → combine (i / 3) (i % 3) ≤ 1
entry_one i h = combine_one (i / 3) (i % 3) (omega arith) (omega arith)
