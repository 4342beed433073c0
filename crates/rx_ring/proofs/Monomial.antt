-- A turn by t is the product by X ^ t.
use Rattle.std.proofs.Common.{◌≡◌, ℕ, zero, suc, ℤ, pos, ◌+◌, ◌-◌, ◌*◌, ◌%◌, ◌<◌, ◌≤◌, ◌≢◌, refl, sym, ◌∙◌, ap, arith, inl, inr, cond, nat_eq, if◌then◌else◌}
use Rattle.std.proofs.lemmas.Nat.{mod_below}
use Rattle.std.proofs.lemmas.Bool.{cases_lt, eq-eqb, ne_eqb}
use Rattle.std.proofs.lemmas.Bool.Decides.{eqb_tells}
use Rattle.rx_ring.specs.Polynomial.{turned, product, rotated, turns, unit_polynomial, monomial}
use Rattle.rx_ring.proofs.Polynomial.{product_same, turned_low, turned_high, by_turn}
use Rattle.rx_ring.proofs.Rotation.{rotated_low, rotated_high, rotated_mod, turns_same, product_turns_left}
use Rattle.rx_ring.proofs.Noise.{product_unit}
use lib.IntN.{neg_ℤ}

-- what X ^ t is at place i, where s is t modulo 2 * n
power_at : ℕ → ℕ → ℕ → ℤ
power_at n s i = if nat_eq s i then pos 1 else if nat_eq s (i + n) then neg_ℤ (pos 1) else pos 0

power_one : (n s i : ℕ) → s ≡ i → power_at n s i ≡ pos 1
unfolding power_at
power_one n s i p = ap (λ b. cond b (pos 1) (cond (nat_eq s (i + n)) (neg_ℤ (pos 1)) (pos 0))) (eq-eqb s i p)

power_minus : (n s i : ℕ) → s ≢ i → s ≡ i + n → power_at n s i ≡ neg_ℤ (pos 1)
unfolding power_at
power_minus n s i p q =
    ap (λ b. cond b (pos 1) (cond (nat_eq s (i + n)) (neg_ℤ (pos 1)) (pos 0))) (ne_eqb s i p)
    ∙ ap (λ b. cond b (neg_ℤ (pos 1)) (pos 0)) (eq-eqb s (i + n) q)

power_none : (n s i : ℕ) → s ≢ i → s ≢ i + n → power_at n s i ≡ pos 0
unfolding power_at
power_none n s i p q =
    ap (λ b. cond b (pos 1) (cond (nat_eq s (i + n)) (neg_ℤ (pos 1)) (pos 0))) (ne_eqb s i p)
    ∙ ap (λ b. cond b (neg_ℤ (pos 1)) (pos 0)) (ne_eqb s (i + n) q)

unit_first : (k : ℕ) → k ≡ 0 → unit_polynomial k ≡ pos 1
unit_first zero p = refl
unit_first (suc k) p = absurd (omega arith)

unit_later : (k : ℕ) → 0 < k → unit_polynomial k ≡ pos 0
unit_later zero p = absurd (omega arith)
unit_later (suc k) p = refl

turned_unit : (n t i : ℕ) → t ≤ n → i < n → turned n unit_polynomial t i ≡ power_at n t i
turned_unit n t i p q = by_turn t i
    (λ l. turned_low n unit_polynomial t i l
    ∙ elim (cases_lt t i) as (λ _. unit_polynomial (i - t) ≡ power_at n t i) [
      | inl h ↦ unit_later (i - t) (omega arith) ∙ sym (power_none n t i (omega arith) (omega arith))
      | inr h ↦ unit_first (i - t) (omega arith) ∙ sym (power_one n t i (omega arith))
    ])
    (λ l. turned_high n unit_polynomial t i l
    ∙ elim (cases_lt t (i + n)) as (λ _. neg_ℤ (unit_polynomial (i + n - t)) ≡ power_at n t i) [
      | inl h ↦ ap neg_ℤ (unit_later (i + n - t) (omega arith)) ∙ sym (power_none n t i (omega arith) (omega arith))
      | inr h ↦ ap neg_ℤ (unit_first (i + n - t) (omega arith)) ∙ sym (power_minus n t i (omega arith) (omega arith))
    ])

power_next : (n s i : ℕ) → n < s → s < 2 * n → i < n → neg_ℤ (power_at n (s - n) i) ≡ power_at n s i
power_next n s i p q r = elim (eqb_tells (s - n) i) as (λ _. neg_ℤ (power_at n (s - n) i) ≡ power_at n s i) [
  | inl h ↦
      let e : s - n ≡ i = h.1 in
      ap neg_ℤ (power_one n (s - n) i e) ∙ sym (power_minus n s i (omega arith) (omega arith))
  | inr h ↦
      ap neg_ℤ (power_none n (s - n) i h.1 (omega arith))
      ∙ sym (power_none n s i (omega arith) (λ e. h.1 (omega arith)))
]

rotated_unit : (n s i : ℕ) → s < 2 * n → i < n → rotated n unit_polynomial s i ≡ power_at n s i
rotated_unit n s i p q = elim (cases_lt n s) as (λ _. rotated n unit_polynomial s i ≡ power_at n s i) [
  | inl h ↦
      rotated_high n unit_polynomial s i h
      ∙ ap neg_ℤ (turned_unit n (s - n) i (omega arith) q)
      ∙ power_next n s i h p q
  | inr h ↦ rotated_low n unit_polynomial s i h ∙ turned_unit n s i h q
]

unit_turns : (n t i : ℕ) → i < n → monomial n t i ≡ turns n unit_polynomial t i
unfolding monomial power_at
unit_turns n t i q =
    sym (rotated_unit n (t % (2 * n)) i (mod_below t (2 * n) (omega arith)) q) ∙ rotated_mod n unit_polynomial t i q

pub turns_product : (n : ℕ) (a : ℕ → ℤ) (t i : ℕ) → i < n → turns n a t i ≡ product n (monomial n t) a i
turns_product n a t i p = sym
    (product_same n (monomial n t) (turns n unit_polynomial t) a a i (λ j q. unit_turns n t j q) (λ j _. refl) p
    ∙ product_turns_left n unit_polynomial a t i p
    ∙ turns_same n (product n unit_polynomial a) a t i (λ j q. product_unit n a j q) p)
