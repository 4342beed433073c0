-- Where the words of a job lie, and what a write there leaves.
use Rattle.std.proofs.Common.{◌≡◌, ◌≢◌, ℕ, suc, ◌+◌, ◌*◌, ◌<◌, ◌≤◌, List, set, sym, ap, ◌∙◌, arith, mul-le-mul_right, suc-mul, lt_of_not-le, get_or-set_other}
use mathlib.Core.Logic.{dite}
use native.Mathlib.Decide.{dec_le, ℕ_discrete}
use Rattle.rx_board.specs.Rule.{state_place, count_place, word_place, state_in, count_in, word_in}

pub times_more : (k w : ℕ) → (k + 1) * w ≡ k * w + w
times_more k w = let e : suc k ≡ k + 1 = omega arith in ap (λ (z : ℕ). z * w) (sym e) ∙ suc-mul k w

pub further : (x y n : ℕ) → x < y → x * n + n ≤ y * n
further x y n h = let a : suc x * n ≤ y * n = mul-le-mul_right n h in omega (arith, suc-mul x n)

-- two places of two rows of n are not one
pub apart : (n j k a b : ℕ) → a < n → b < n → j ≢ k → 1 + (j * n + a) ≢ 1 + (k * n + b)
apart n j k a b l m ne e = dite (dec_le k j)
    (λ ge. let f = further k j n (omega arith) in let x : ℕ = j * n in let y : ℕ = k * n in let f' : y + n ≤ x = f in let e' : 1 + (x + a) ≡ 1 + (y + b) = e in omega arith)
    (λ lt. let f = further j k n (lt_of_not-le lt) in let x : ℕ = j * n in let y : ℕ = k * n in let f' : x + n ≤ y = f in let e' : 1 + (x + a) ≡ 1 + (y + b) = e in omega arith)

pub inside : (n k c a : ℕ) → k < c → a < n → 1 + (k * n + a) < 1 + c * n
inside n k c a l m = let f = further k c n l in let x : ℕ = k * n in let y : ℕ = c * n in let f' : x + n ≤ y = f in let goal : 1 + (x + a) < 1 + y = omega arith in goal

pub state_row : (w j : ℕ) → state_place w j ≡ 1 + (j * (w + 2) + 0)
state_row w j = let x : ℕ = j * (w + 2) in let e : 1 + x ≡ 1 + (x + 0) = omega arith in e

-- the place i is place a of the row of k, and x is written there
module _ (w : ℕ) (ws : List ℕ) (k a x i : ℕ) (here : i ≡ 1 + (k * (w + 2) + a)) (in_row : a < w + 2) where
  pub state_else : (j : ℕ) → j ≢ k → state_in w (set ws i x) j ≡ state_in w ws j
  state_else j ne = get_or-set_other ws i (state_place w j) x 0 (λ e. apart (w + 2) j k 0 a (omega arith) in_row ne (sym (state_row w j) ∙ (e ∙ here)))

  pub word_else : (j q : ℕ) → j ≢ k → q < w → word_in w (set ws i x) j q ≡ word_in w ws j q
  word_else j q ne l = get_or-set_other ws i (word_place w j q) x 0 (λ e. apart (w + 2) j k (2 + q) a (omega arith) in_row ne (e ∙ here))

  pub count_else : (j : ℕ) → j ≢ k → count_in w (set ws i x) j ≡ count_in w ws j
  count_else j ne = get_or-set_other ws i (count_place w j) x 0 (λ e. apart (w + 2) j k 1 a (omega arith) in_row ne (e ∙ here))

  -- a write to no count leaves all counts
  pub counts_stay : 1 ≢ a → (j : ℕ) → count_in w (set ws i x) j ≡ count_in w ws j
  counts_stay ne j = dite (ℕ_discrete j k)
      (λ e. get_or-set_other ws i (count_place w j) x 0 (λ z. let y : ℕ = k * (w + 2) in let z' : 1 + (y + 1) ≡ 1 + (y + a) = ap (λ (n : ℕ). 1 + (n * (w + 2) + 1)) (sym e) ∙ (z ∙ here) in ne (omega arith)))
      (λ n. count_else j n)

  -- a write to a count leaves all states and words
  pub states_stay : 0 < a → (j : ℕ) → state_in w (set ws i x) j ≡ state_in w ws j
  states_stay some j = get_or-set_other ws i (state_place w j) x 0 (λ z. dite (ℕ_discrete j k)
      (λ e. let y : ℕ = k * (w + 2) in let z' : 1 + y ≡ 1 + (y + a) = ap (λ (n : ℕ). 1 + n * (w + 2)) (sym e) ∙ (z ∙ here) in omega arith)
      (λ n. apart (w + 2) j k 0 a (omega arith) in_row n (sym (state_row w j) ∙ (z ∙ here))))

  pub words_stay : a < 2 → (j q : ℕ) → q < w → word_in w (set ws i x) j q ≡ word_in w ws j q
  words_stay low j q l = get_or-set_other ws i (word_place w j q) x 0 (λ z. dite (ℕ_discrete j k)
      (λ e. let y : ℕ = k * (w + 2) in let z' : 1 + (y + (2 + q)) ≡ 1 + (y + a) = ap (λ (n : ℕ). 1 + (n * (w + 2) + (2 + q))) (sym e) ∙ (z ∙ here) in omega arith)
      (λ n. apart (w + 2) j k (2 + q) a (omega arith) in_row n (z ∙ here)))

  -- the row's own words at other places
  pub own_state : 0 < a → state_in w (set ws i x) k ≡ state_in w ws k
  own_state some = get_or-set_other ws i (state_place w k) x 0 (λ e. let y : ℕ = k * (w + 2) in let z : 1 + y ≡ 1 + (y + a) = e ∙ here in omega arith)

  pub own_word : (q : ℕ) → 2 + q ≢ a → word_in w (set ws i x) k q ≡ word_in w ws k q
  own_word q ne = get_or-set_other ws i (word_place w k q) x 0 (λ e. let y : ℕ = k * (w + 2) in let z : 1 + (y + (2 + q)) ≡ 1 + (y + a) = e ∙ here in ne (omega arith))
