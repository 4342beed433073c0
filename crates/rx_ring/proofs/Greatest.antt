-- A turn keeps the greatest distance of the coefficients.
use Rattle.std.proofs.Common.{◌≡◌, ℕ, zero, suc, ℤ, ◌+◌, ◌-◌, ◌*◌, ◌<◌, ◌≤◌, ◌∙◌, ap, arith, inl, inr, max}
use Rattle.std.proofs.Math.Nat.{le-max_left, le-max_right}
use Rattle.std.proofs.lemmas.Nat.{mul-le}
use Rattle.std.proofs.lemmas.Bool.{cases_lt}
use Rattle.rx_laws.specs.Torus.{distance}
use Rattle.rx_ring.specs.Polynomial.{turns}
use Rattle.rx_ring.specs.Noise.{greatest_distance}
use Rattle.rx_ring.proofs.Rotation.{distance-turns, turns-add, turns_rounds}

greatest-at : (n : ℕ) (a : ℕ → ℤ) (i : ℕ) → i < n → distance (a i) ≤ greatest_distance n a
unfolding greatest_distance
greatest-at zero a i p = absurd (omega arith)
greatest-at (suc n) a i p = elim (cases_lt i n) as (λ _. distance (a i) ≤ max (greatest_distance n a) (distance (a n))) [
  | inl h ↦ omega (arith, greatest-at n a i h, le-max_left (greatest_distance n a) (distance (a n)))
  | inr h ↦
      let e : i ≡ n = omega arith in
      omega (arith, ap (λ j. distance (a j)) e, le-max_right (greatest_distance n a) (distance (a n)))
]

greatest-least : (n d : ℕ) (a : ℕ → ℤ) → ((i : ℕ) → i < n → distance (a i) ≤ d) → greatest_distance n a ≤ d
unfolding greatest_distance
greatest-least zero d a h = omega arith
greatest-least (suc n) d a h =
    let x : greatest_distance n a ≤ d = greatest-least n d a (λ i p. h i (omega arith)) in
    let y : distance (a n) ≤ d = h n (omega arith) in
    omega arith

-- so many turns more make whole rounds
turned_back : (n : ℕ) (a : ℕ → ℤ) (t i : ℕ) → i < n → turns n (turns n a t) (t * (2 * n) - t) i ≡ a i
unfolding turns
turned_back n a t i p =
    let l : t * 1 ≤ t * (2 * n) = mul-le t 1 t (2 * n) (omega arith) (omega arith) in
    let e : t + (t * (2 * n) - t) ≡ 0 + t * (2 * n) = omega arith in
    ap (λ f. f i) (turns-add n a t (t * (2 * n) - t))
    ∙ ap (λ k. turns n a k i) e
    ∙ turns_rounds n a t 0 i p

pub greatest-turns : (n : ℕ) (a : ℕ → ℤ) (t : ℕ) → greatest_distance n (turns n a t) ≡ greatest_distance n a
greatest-turns n a t =
    let up : greatest_distance n (turns n a t) ≤ greatest_distance n a =
    greatest-least n (greatest_distance n a) (turns n a t)
    (λ i p. distance-turns n a t i (greatest_distance n a) (λ j q. greatest-at n a j q) p) in
    let down : greatest_distance n a ≤ greatest_distance n (turns n a t) =
    greatest-least n (greatest_distance n (turns n a t)) a
    (λ i p. omega (
      arith,
      ap distance (turned_back n a t i p),
      distance-turns n (turns n a t) (t * (2 * n) - t) i (greatest_distance n (turns n a t))
          (λ j q. greatest-at n (turns n a t) j q) p,
    )) in
    omega arith
