-- Laws of sums over places.
use Rattle.std.proofs.Common.{◌≡◌, ℕ, zero, suc, ◌+◌, ◌*◌, ◌<◌, ◌≤◌, refl, ◌∙◌, ap, arith}
use Rattle.rx_plan.specs.Values.{total}

pub total_same : (n : ℕ) (f g : ℕ → ℕ) → ((i : ℕ) → i < n → f i ≡ g i) → total n f ≡ total n g
unfolding total
total_same zero f g h = refl
total_same (suc n) f g h = ap (λ x. x + f n) (total_same n f g (λ i p. h i (omega arith))) ∙ ap (λ x. total n g + x) (h n (omega arith))

pub total_front : (n : ℕ) (f : ℕ → ℕ) → total (suc n) f ≡ f 0 + total n (λ i. f (suc i))
unfolding total
total_front zero f = omega arith
total_front (suc n) f = omega (arith, total_front n f)

pub total_le : (n top : ℕ) (f : ℕ → ℕ) → ((i : ℕ) → i < n → f i ≤ top) → total n f ≤ n * top
unfolding total
total_le zero top f h = omega arith
total_le (suc n) top f h = omega (arith, total_le n top f (λ i p. h i (omega arith)), h n (omega arith))

pub total_mono : (n : ℕ) (f g : ℕ → ℕ) → ((i : ℕ) → i < n → f i ≤ g i) → total n f ≤ total n g
unfolding total
total_mono zero f g h = omega arith
total_mono (suc n) f g h = omega (arith, total_mono n f g (λ i p. h i (omega arith)), h n (omega arith))

pub total_split : (m n : ℕ) (f : ℕ → ℕ) → total (m + n) f ≡ total m f + total n (λ j. f (m + j))
unfolding total
total_split m zero f = let e : m + 0 ≡ m = omega arith in let z : total m f ≡ total m f + 0 = omega arith in ap (λ k. total k f) e ∙ z
total_split m (suc n) f =
    let e : m + suc n ≡ suc (m + n) = omega arith in
    let s : total (suc (m + n)) f ≡ total m f + (total n (λ j. f (m + j)) + f (m + n)) = omega (arith, total_split m n f) in
    ap (λ k. total k f) e ∙ s

pub total_add : (n : ℕ) (f g : ℕ → ℕ) → total n (λ i. f i + g i) ≡ total n f + total n g
unfolding total
total_add zero f g = refl
total_add (suc n) f g = omega (arith, total_add n f g)

pub total_none : (f : ℕ → ℕ) → total 0 f ≡ 0
unfolding total
total_none f = refl

pub total_more : (s n x : ℕ) (f : ℕ → ℕ) → s ≡ total n f → x ≡ f n → s + x ≡ total (n + 1) f
unfolding total
total_more s n x f p q = let e : suc n ≡ n + 1 = omega arith in ap (λ s. s + x) p ∙ ap (λ x. total n f + x) q ∙ ap (λ k. total k f) e
