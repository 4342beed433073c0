-- The order of numbers with a sign is that of numbers of which the top bit is turned.
use Rattle.std.proofs.Common.{◌≡◌, ◌^◌, ℕ, Bool, true, false, zero, suc, ◌+◌, ◌-◌, ◌*◌, ◌/◌, ◌%◌, ◌<◌, ◌≤◌, inl, inr, ℤ, pos, negsuc, refl, sym, ◌∙◌, ap, arith, cond, nat_lt, pow-add}
use Rattle.std.specs.Prelude.{◌-ℤ◌}
use Rattle.std.proofs.lemmas.Bool.{cases_lt, lt-ltb, le-ltb, le-leb, lt-leb}
use Rattle.std.proofs.lemmas.Int.{ints}
use Rattle.std.proofs.lemmas.Nat.{mul-le, pow_pos, mod_below, div-mul-add, mod-mul-add}
use Rattle.rx_residue.specs.Residues.{signed}
use Rattle.rx_residue.proofs.Turns.{signed_small, signed_big}
use Rattle.rx_plan.specs.Values.{number}
use Rattle.rx_plan.proofs.Numbers.{number_same, number_below, pow_pow}
use Rattle.rx_carry.specs.declared.operation.Operation.TheVariants.{Difference}
use Rattle.rx_carry.specs.Carries.{flipped, is_less, joint, state_of}
use Rattle.rx_cmp.specs.Order.{is_at_most, is_less_signed, is_at_most_signed, turned, signed_state, turned_top}

-- ---- tests
same_lt : (a b c d : ℕ) → (a < b → c < d) → (b ≤ a → d ≤ c) → nat_lt a b ≡ nat_lt c d
same_lt a b c d less more =
    elim (cases_lt a b) [
      | inl l ↦ lt-ltb a b l ∙ sym (lt-ltb c d (less l))
      | inr l ↦ le-ltb a b l ∙ sym (le-ltb c d (more l))
    ]

pub less_le : (x y : ℕ) → is_less x y ≤ 1
less_le x y = less_case (nat_lt x y) where
  less_case : (b : Bool) → cond b 1 0 ≤ 1
  less_case true = omega arith
  less_case false = omega arith

-- what is not less is at most
pub not_less : (x y : ℕ) → flipped true (is_less y x) ≡ is_at_most x y
not_less x y =
    elim (cases_lt y x) [
      | inl l ↦ ap (λ b. 1 - cond b 1 0) (lt-ltb y x l) ∙ sym (ap (λ b. cond b 1 0) (lt-leb x y l))
      | inr l ↦ ap (λ b. 1 - cond b 1 0) (le-ltb y x l) ∙ sym (ap (λ b. cond b 1 0) (le-leb x y l))
    ]

pub not_below : (x y : ℤ) → flipped true (is_less_signed y x) ≡ is_at_most_signed x y
not_below (pos a) (pos b) = not_less a b
not_below (pos a) (negsuc b) = refl
not_below (negsuc a) (pos b) = refl
not_below (negsuc a) (negsuc b) = not_less b a

-- ---- the top bit turned
pub half_of : (w : ℕ) → 1 ≤ w → 2 ^ w ≡ 2 * 2 ^ (w - 1)
half_of w h = let e : w ≡ 1 + (w - 1) = omega arith in ap (λ k. 2 ^ k) e ∙ pow-add 2 1 (w - 1)

turned_low : (h x : ℕ) → x < h → (x + h) % (2 * h) ≡ x + h
turned_low h x l = let e : x + h ≡ 0 * (2 * h) + (x + h) = omega arith in ap (λ k. k % (2 * h)) e ∙ mod-mul-add 0 (2 * h) (x + h) (omega arith)

turned_high : (h x : ℕ) → h ≤ x → x < 2 * h → (x + h) % (2 * h) ≡ x - h
turned_high h x l k = let e : x + h ≡ 1 * (2 * h) + (x - h) = omega arith in ap (λ k. k % (2 * h)) e ∙ mod-mul-add 1 (2 * h) (x - h) (omega arith)

pub turned_small : (w x : ℕ) → 1 ≤ w → x < 2 ^ (w - 1) → turned w x ≡ x + 2 ^ (w - 1)
turned_small w x o l = ap (λ p. (x + 2 ^ (w - 1)) % p) (half_of w o) ∙ turned_low (2 ^ (w - 1)) x l

pub turned_big : (w x : ℕ) → 1 ≤ w → 2 ^ (w - 1) ≤ x → x < 2 ^ w → turned w x ≡ x - 2 ^ (w - 1)
turned_big w x o l k = ap (λ p. (x + 2 ^ (w - 1)) % p) (half_of w o) ∙ turned_high (2 ^ (w - 1)) x l (omega (arith, half_of w o))

pub turned_below : (w x : ℕ) → turned w x < 2 ^ w
turned_below w x = mod_below (x + 2 ^ (w - 1)) (2 ^ w) (pow_pos w)

signed_low : (w x : ℕ) → x < 2 ^ w → 2 ^ (w - 1) ≤ x → signed w x ≡ negsuc (2 ^ w - 1 - x)
signed_low w x h l = signed_big w x l ∙ (let e : (pos x -ℤ pos (2 ^ w)) ≡ negsuc (2 ^ w - 1 - x) = omega (arith, ints) in e)

pub signed_order : (w x y : ℕ) → 1 ≤ w → x < 2 ^ w → y < 2 ^ w → is_less (turned w x) (turned w y) ≡ is_less_signed (signed w x) (signed w y)
signed_order w x y o hx hy =
    let h : ℕ = 2 ^ (w - 1) in
    elim (cases_lt x h) as (λ _. is_less (turned w x) (turned w y) ≡ is_less_signed (signed w x) (signed w y)) [
      | inl p ↦
          let tx : turned w x ≡ x + h = turned_small w x o p in
          elim (cases_lt y h) as (λ _. is_less (turned w x) (turned w y) ≡ is_less_signed (signed w x) (signed w y)) [
            | inl q ↦
                let ty : turned w y ≡ y + h = turned_small w y o q in
                ap (λ b. cond b 1 0) (same_lt (turned w x) (turned w y) x y (λ l. omega arith) (λ l. omega arith))
                ∙ ap (λ s. is_less_signed s (pos y)) (sym (signed_small w x p)) ∙ ap (is_less_signed (signed w x)) (sym (signed_small w y q))
            | inr q ↦
                let ty : turned w y ≡ y - h = turned_big w y o q hy in
                ap (λ b. cond b 1 0) (le-ltb (turned w x) (turned w y) (omega (arith, half_of w o)))
                ∙ ap (λ s. is_less_signed s (negsuc (2 ^ w - 1 - y))) (sym (signed_small w x p)) ∙ ap (is_less_signed (signed w x)) (sym (signed_low w y hy q))
          ]
      | inr p ↦
          let tx : turned w x ≡ x - h = turned_big w x o p hx in
          elim (cases_lt y h) as (λ _. is_less (turned w x) (turned w y) ≡ is_less_signed (signed w x) (signed w y)) [
            | inl q ↦
                let ty : turned w y ≡ y + h = turned_small w y o q in
                ap (λ b. cond b 1 0) (lt-ltb (turned w x) (turned w y) (omega (arith, half_of w o)))
                ∙ ap (λ s. is_less_signed s (pos y)) (sym (signed_low w x hx p)) ∙ ap (is_less_signed (signed w x)) (sym (signed_small w y q))
            | inr q ↦
                let ty : turned w y ≡ y - h = turned_big w y o q hy in
                ap (λ b. cond b 1 0) (same_lt (turned w x) (turned w y) (2 ^ w - 1 - y) (2 ^ w - 1 - x) (λ l. omega arith) (λ l. omega arith))
                ∙ ap (λ s. is_less_signed s (negsuc (2 ^ w - 1 - y))) (sym (signed_low w x hx p)) ∙ ap (is_less_signed (signed w x)) (sym (signed_low w y hy q))
          ]
    ]

-- ---- the number whose top digit is turned is the number turned
number_turned : (u h n : ℕ) (f : ℕ → ℕ) → u ≡ 2 * h → ((i : ℕ) → i < suc n → f i < u)
    → number u n f + u ^ n * ((f n + h) % (2 * h)) ≡ (number u n f + u ^ n * f n + u ^ n * h) % (2 * (u ^ n * h))
number_turned u h n f e p =
    let a : number u n f < u ^ n = number_below u n f (λ i l. p i (omega arith)) in
    let b : f n < u = p n (omega arith) in
    let w : ℕ = u ^ n in
    elim (cases_lt (f n) h) [
      | inl l ↦
          let m : w * suc (f n) ≤ w * h = mul-le w (suc (f n)) w h (omega arith) l in
          ap (λ k. number u n f + w * k) (turned_low h (f n) l) ∙ (let z : number u n f + w * (f n + h) ≡ number u n f + w * f n + w * h = omega arith in z) ∙ sym (turned_low (w * h) (number u n f + w * f n) (omega arith))
      | inr l ↦
          let m : w * suc (f n) ≤ w * (2 * h) = mul-le w (suc (f n)) w (2 * h) (omega arith) (omega arith) in
          let k : w * h ≤ w * f n = mul-le w h w (f n) (omega arith) l in
          let d : h + (f n - h) ≡ f n = omega arith in
          let q : w * h + w * (f n - h) ≡ w * f n = (let r : w * (h + (f n - h)) ≡ w * f n = ap (λ k. w * k) d in omega arith) in
          ap (λ k. number u n f + w * k) (turned_high h (f n) l (omega arith)) ∙ (let z : number u n f + w * (f n - h) ≡ number u n f + w * f n - w * h = omega arith in z) ∙ sym (turned_high (w * h) (number u n f + w * f n) (omega arith) (omega arith))
    ]

pub top_low : (m n : ℕ) (f : ℕ → ℕ) (i : ℕ) → i < n - 1 → turned_top m n f i ≡ f i
top_low m n f i h = ap (λ b. cond b (f i) (turned m (f i))) (lt-ltb i (n - 1) h)

pub top_high : (m n : ℕ) (f : ℕ → ℕ) (i : ℕ) → n - 1 ≤ i → turned_top m n f i ≡ turned m (f i)
top_high m n f i h = ap (λ b. cond b (f i) (turned m (f i))) (le-ltb i (n - 1) h)

pub top_below : (m n : ℕ) (f : ℕ → ℕ) (i : ℕ) → f i < 2 ^ m → turned_top m n f i < 2 ^ m
top_below m n f i h = below_case (nat_lt i (n - 1)) where
  below_case : (b : Bool) → cond b (f i) (turned m (f i)) < 2 ^ m
  below_case true = h
  below_case false = turned_below m (f i)

pub turned_number : (m n : ℕ) (f : ℕ → ℕ) → 1 ≤ m → 1 ≤ n → ((i : ℕ) → i < n → f i < 2 ^ m) → number (2 ^ m) n (turned_top m n f) ≡ turned (m * n) (number (2 ^ m) n f)
unfolding number
turned_number m zero f o n1 p = absurd (omega arith)
turned_number m (suc k) f o n1 p =
    let u : ℕ = 2 ^ m in
    let h : ℕ = 2 ^ (m - 1) in
    let e : u ≡ 2 * h = half_of m o in
    let s : suc k - 1 ≡ k = omega arith in
    let low : number u k (turned_top m (suc k) f) ≡ number u k f = number_same u k (turned_top m (suc k) f) f (λ i l. top_low m (suc k) f i (omega arith)) in
    let top : turned_top m (suc k) f k ≡ (f k + h) % (2 * h) = top_high m (suc k) f k (omega arith) ∙ ap (λ x. (f k + h) % x) e in
    let w : u ^ k ≡ 2 ^ (m * k) = pow_pow m k in
    let i : m * suc k - 1 ≡ m * k + (m - 1) = omega arith in
    let half : u ^ k * h ≡ 2 ^ (m * suc k - 1) = ap (λ x. x * h) w ∙ sym (pow-add 2 (m * k) (m - 1)) ∙ ap (λ x. 2 ^ x) (sym i) in
    let all : 2 * (u ^ k * h) ≡ 2 ^ (m * suc k) = ap (λ x. 2 * x) half ∙ sym (half_of (m * suc k) (omega arith)) in
    ap (λ x. x + u ^ k * turned_top m (suc k) f k) low ∙ ap (λ x. number u k f + u ^ k * x) top
    ∙ number_turned u h k f e p
    ∙ ap (λ x. (number u k f + u ^ k * f k + x) % (2 * (u ^ k * h))) half
    ∙ ap (λ x. (number u k f + u ^ k * f k + 2 ^ (m * suc k - 1)) % x) all

-- ---- the tables
pub state_entry-is : (m x y : ℕ) → y < 2 ^ m → signed_state m (2 ^ m * x + y) ≡ state_of Difference (2 ^ m) (joint Difference (2 ^ m) (turned m x) (turned m y) 0)
state_entry-is m x y h =
    let u : ℕ = 2 ^ m in
    let e : u * x + y ≡ x * u + y = omega arith in
    ap (signed_state m) e
    ∙ ap (λ q. state_of Difference u (joint Difference u (turned m q) (turned m ((x * u + y) % u)) 0)) (div-mul-add x u y h)
    ∙ ap (λ r. state_of Difference u (joint Difference u (turned m x) (turned m r) 0)) (mod-mul-add x u y h)

pub less_entry-is : (m x y : ℕ) → y < 2 ^ m → is_less (turned m ((2 ^ m * x + y) / 2 ^ m)) (turned m ((2 ^ m * x + y) % 2 ^ m)) ≡ is_less (turned m x) (turned m y)
less_entry-is m x y h =
    let u : ℕ = 2 ^ m in
    let e : u * x + y ≡ x * u + y = omega arith in
    ap (λ i. is_less (turned m (i / u)) (turned m (i % u))) e
    ∙ ap (λ q. is_less (turned m q) (turned m ((x * u + y) % u))) (div-mul-add x u y h)
    ∙ ap (λ r. is_less (turned m x) (turned m r)) (mod-mul-add x u y h)
