-- A loop that takes the digits off a rounded word, the last digit first.
use Rattle.std.proofs.Common.{◌≡◌, ℕ, suc, ℤ, pos, negsuc, ◌+ℤ◌, ◌*ℤ◌, ◌+◌, ◌-◌, ◌<◌, ◌≤◌, sym, ◌∙◌, ap, arith, ◌*◌, ◌^◌, List, length, get_or, set, inl, inr, add-one, subst}
use Rattle.std.proofs.lemmas.Bool.{cases_lt}
use Rattle.std.proofs.lemmas.Int.{ints}
use Rattle.std.proofs.lemmas.Nat.{pow-add}
use Rattle.std.proofs.lemmas.List.{get_or-set_same, get_or-set_other}
use Rattle.rx_laws.specs.Sum.{sum_to}
use Rattle.rx_laws.specs.Torus.{word}
use Rattle.rx_laws.specs.Digits.{rounded, digits_total}
use Rattle.rx_laws.proofs.Sums.{sum_to-suc, sum_to-zero, sum_to-same, sum_to-reverse, sum_to-mul_right}
use Rattle.rx_laws.proofs.Torus.{word_same, word_of_word}
use Rattle.rx_laws.proofs.Ring.{add_mul, mul_assoc_ℤ}

-- the digits that m steps took, with the weight of the last one 1
unfoldable pub taken : ℕ → ℕ → ℕ → (ℕ → ℤ) → ℤ
taken b n m d = sum_to m (λ j. d (n - suc j) *ℤ pos (2 ^ (b * j)))

pub taken-none : (b n : ℕ) (d : ℕ → ℤ) → taken b n 0 d ≡ pos 0
unfolding taken
taken-none b n d = sum_to-zero (λ j. d (n - suc j) *ℤ pos (2 ^ (b * j)))

pub taken_total : (b n : ℕ) (d : ℕ → ℤ) → b * n ≤ 64 → digits_total b n d ≡ taken b n n d *ℤ pos (2 ^ (64 - b * n))
unfolding taken
taken_total b n d p =
    sum_to-reverse n (λ t. d t *ℤ pos (2 ^ (64 - b * suc t)))
    ∙ sum_to-same n (λ j. d (n - suc j) *ℤ pos (2 ^ (64 - b * suc (n - suc j)))) (λ j. d (n - suc j) *ℤ pos (2 ^ (b * j)) *ℤ pos (2 ^ (64 - b * n)))
    (λ j q.
    let i : b * suc (n - suc j) + b * j ≡ b * n = weights b n j q in
    let k : 64 - b * suc (n - suc j) ≡ b * j + (64 - b * n) = omega arith in
    let e : 2 ^ (64 - b * suc (n - suc j)) ≡ 2 ^ (b * j) * 2 ^ (64 - b * n) =
    ap (λ x. 2 ^ x) k ∙ pow-add 2 (b * j) (64 - b * n) in
    ap (λ x. d (n - suc j) *ℤ pos x) e
    ∙ sym (mul_assoc_ℤ (d (n - suc j)) (pos (2 ^ (b * j))) (pos (2 ^ (64 - b * n)))))
    ∙ sum_to-mul_right n (pos (2 ^ (64 - b * n))) (λ j. d (n - suc j) *ℤ pos (2 ^ (b * j)))
  where
    weights : (b n j : ℕ) → j < n → b * suc (n - suc j) + b * j ≡ b * n
    weights b n j q =
        let e : suc (n - suc j) + j ≡ n = omega arith in
        let f : b * (suc (n - suc j) + j) ≡ b * n = ap (λ x. b * x) e in
        omega arith

pub digits_done : (w b n v rest : ℕ) (d : ℕ → ℤ) → b * n ≤ 64 → v * 2 ^ (64 - b * n) ≡ rounded w (b * n) →
    pos rest *ℤ pos (2 ^ (b * n)) +ℤ taken b n n d ≡ pos v → word (digits_total b n d) ≡ rounded w (b * n)
digits_done w b n v rest d p e f =
    let x : ℤ = taken b n n d in
    let s : ℕ = 2 ^ (64 - b * n) in
    let i : 64 ≡ b * n + (64 - b * n) = omega arith in
    let whole : 2 ^ 64 ≡ 2 ^ (b * n) * s = ap (λ k. 2 ^ k) i ∙ pow-add 2 (b * n) (64 - b * n) in
    let g : pos rest *ℤ pos (2 ^ 64) +ℤ x *ℤ pos s ≡ pos (v * s) =
    ap (λ k. pos rest *ℤ pos k +ℤ x *ℤ pos s) whole
    ∙ ap (λ k. k +ℤ x *ℤ pos s) (sym (mul_assoc_ℤ (pos rest) (pos (2 ^ (b * n))) (pos s)))
    ∙ sym (add_mul (pos rest *ℤ pos (2 ^ (b * n))) x (pos s))
    ∙ ap (λ k. k *ℤ pos s) f in
    let t : digits_total b n d ≡ x *ℤ pos s = taken_total b n d p in
    word_same (digits_total b n d) (pos (v * s)) (negsuc rest +ℤ pos 1) (omega (arith, ints))
    ∙ ap (λ k. word (pos k)) e
    ∙ word_of_word (rounded w (b * n)) (omega arith)

pub digits_step : (b n m rest next : ℕ) (digit : ℤ) (ds : List ℤ) (start : ℤ) → m < n → length ds ≡ n →
    pos rest ≡ pos next *ℤ pos (2 ^ b) +ℤ digit →
    pos rest *ℤ pos (2 ^ (b * m)) +ℤ taken b n m (λ t. get_or ds t (pos 0)) ≡ start →
    pos next *ℤ pos (2 ^ (b * (m + 1))) +ℤ taken b n (m + 1) (λ t. get_or (set ds (n - 1 - m) digit) t (pos 0)) ≡ start
unfolding taken
digits_step b n m rest next digit ds start p l e f =
    let s : ℕ = 2 ^ (b * m) in
    let new : List ℤ = set ds (n - 1 - m) digit in
    let old_terms : ℕ → ℤ = λ j. get_or ds (n - suc j) (pos 0) *ℤ pos (2 ^ (b * j)) in
    let new_terms : ℕ → ℤ = λ j. get_or new (n - suc j) (pos 0) *ℤ pos (2 ^ (b * j)) in
    let i : b * (m + 1) ≡ b + b * m = omega arith in
    let w : 2 ^ (b * (m + 1)) ≡ 2 ^ b * s = ap (λ k. 2 ^ k) i ∙ pow-add 2 b (b * m) in
    let place : n - suc m ≡ n - 1 - m = omega arith in
    let same : sum_to m new_terms ≡ sum_to m old_terms =
    sum_to-same m new_terms old_terms
    (λ j q. ap (λ x. x *ℤ pos (2 ^ (b * j))) (get_or-set_other ds (n - 1 - m) (n - suc j) digit (pos 0) (λ h. absurd (omega arith)))) in
    let last : new_terms m ≡ digit *ℤ pos s =
    ap (λ x. get_or new x (pos 0) *ℤ pos s) place
    ∙ ap (λ x. x *ℤ pos s) (get_or-set_same ds (n - 1 - m) digit (pos 0) (omega arith)) in
    let grown : sum_to (m + 1) new_terms ≡ sum_to m new_terms +ℤ new_terms m =
    ap (λ k. sum_to k new_terms) (add-one m) ∙ sum_to-suc m new_terms in
    let head : pos next *ℤ pos (2 ^ (b * (m + 1))) ≡ pos next *ℤ pos (2 ^ b) *ℤ pos s =
    ap (λ k. pos next *ℤ pos k) w ∙ sym (mul_assoc_ℤ (pos next) (pos (2 ^ b)) (pos s)) in
    let split : pos rest *ℤ pos s ≡ pos next *ℤ pos (2 ^ b) *ℤ pos s +ℤ digit *ℤ pos s =
    ap (λ k. k *ℤ pos s) e ∙ add_mul (pos next *ℤ pos (2 ^ b)) digit (pos s) in
    let old : pos rest *ℤ pos s +ℤ sum_to m old_terms ≡ start = f in
    let new_total : pos next *ℤ pos (2 ^ (b * (m + 1))) +ℤ sum_to (m + 1) new_terms ≡ start = omega (arith, ints) in
    new_total

-- what holds of the last m elements, and of the one before them that is written
pub set_before_last : (P : ℤ → Type 0) (ds : List ℤ) (n m : ℕ) (digit : ℤ) → length ds ≡ n → m < n → P digit →
    ((t : ℕ) → n ≤ t + m → t < n → P (get_or ds t (pos 0))) →
    (t : ℕ) → n ≤ t + (m + 1) → t < n → P (get_or (set ds (n - 1 - m) digit) t (pos 0))
set_before_last P ds n m digit l p h g t q r =
    elim (cases_lt t (n - m)) as (λ _. P (get_or (set ds (n - 1 - m) digit) t (pos 0))) [
      | inl s ↦
          let e : t ≡ n - 1 - m = omega arith in
          subst P (sym (ap (λ k. get_or (set ds (n - 1 - m) digit) k (pos 0)) e ∙ get_or-set_same ds (n - 1 - m) digit (pos 0) (omega arith))) h
      | inr s ↦ subst P (sym (get_or-set_other ds (n - 1 - m) t digit (pos 0) (λ e. absurd (omega arith)))) (g t (omega arith) r)
    ]
