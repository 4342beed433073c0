-- The least exponent whose power is a number or more.
use Rattle.std.proofs.Common.{◌≡◌, ◌^◌, ℕ, zero, suc, ◌+◌, ◌*◌, ◌<◌, ◌≤◌, arith, subst, nat_le, inl, inr}
use Rattle.std.proofs.lemmas.Bool.{cases_lt, leb-true, leb-false, cond_both}
use Rattle.std.proofs.Math.Nat.{pow-suc, pow-le-pow_left, pow-le-pow_right}
use Rattle.rx_costs.specs.Logs.{log_from, log_up, IsLogUp}

-- a number is below two to it
below_two_to : (n : ℕ) → n < 2 ^ n
below_two_to zero = omega arith
below_two_to (suc n) = let p : 2 ^ suc n ≡ 2 ^ n * 2 = pow-suc 2 n in omega (arith, below_two_to n)

reached : (base n : ℕ) → 2 ≤ base → n ≤ base ^ n
reached base n h = let p : 2 ^ n ≤ base ^ n = pow-le-pow_left h n in omega (arith, below_two_to n)

-- what is found is enough, where the last that may be found is
found_enough : (tries base n t : ℕ) → n ≤ base ^ (tries + t) → n ≤ base ^ log_from tries base n t
unfolding log_from
found_enough zero base n t h = let e : 0 + t ≡ t = omega arith in subst (λ (k : ℕ). n ≤ base ^ k) e h
found_enough (suc tries) base n t h =
    cond_both (nat_le n (base ^ t)) t (log_from tries base n (suc t)) (λ (k : ℕ). n ≤ base ^ k)
    (λ e. leb-true n (base ^ t) e)
    (λ e. found_enough tries base n (suc t) (let e : suc tries + t ≡ tries + suc t = omega arith in subst (λ (k : ℕ). n ≤ base ^ k) e h))

-- no exponent from t on is below it
found_least : (tries base n t s : ℕ) → 2 ≤ base → n ≤ base ^ s → t ≤ s → log_from tries base n t ≤ s
unfolding log_from
found_least zero base n t s b h l = l
found_least (suc tries) base n t s b h l =
    cond_both (nat_le n (base ^ t)) t (log_from tries base n (suc t)) (λ (k : ℕ). k ≤ s)
    (λ e. l)
    (λ e. found_least tries base n (suc t) s b h (
    elim (cases_lt t s) [
      | inl m ↦ omega arith
      | inr m ↦
          let p : base ^ s ≤ base ^ t = pow-le-pow_right {n = base} (omega arith) m in
          let q : base ^ t < n = leb-false n (base ^ t) e in
          absurd (omega arith)
    ]
    ))

pub log_least : (base n : ℕ) → 2 ≤ base → IsLogUp base n (log_up base n)
unfolding log_up
log_least base n h = record {
  enough = found_enough n base n 0 (let e : n ≡ n + 0 = omega arith in subst (λ (k : ℕ). n ≤ base ^ k) e (reached base n h));
  least = λ s e. found_least n base n 0 s h e (omega arith);
}

pub log_one : (base n s t : ℕ) → IsLogUp base n s → IsLogUp base n t → s ≡ t
log_one base n s t a b = let p : s ≤ t = a.least t b.enough in let q : t ≤ s = b.least s a.enough in omega arith

-- an exponent that is enough, where no less is, is the logarithm
pub log_is : (base n t : ℕ) → 2 ≤ base → n ≤ base ^ t → ((s : ℕ) → n ≤ base ^ s → t ≤ s) → t ≡ log_up base n
log_is base n t h e l = log_one base n t (log_up base n) (record { enough = e; least = l }) (log_least base n h)

-- one more is no more than any that is enough, where this one is not
pub log_more : (base n t : ℕ) → 2 ≤ base → base ^ t < n → ((s : ℕ) → n ≤ base ^ s → t ≤ s) → (s : ℕ) → n ≤ base ^ s → t + 1 ≤ s
log_more base n t h below l s e =
    let m : t ≤ s = l s e in
    elim (cases_lt t s) [
      | inl k ↦ omega arith
      | inr k ↦ let q : s ≡ t = omega arith in let p : n ≤ base ^ t = subst (λ (k : ℕ). n ≤ base ^ k) q e in absurd (omega arith)
    ]
