-- Weighted sums of words, one term after another.
use Rattle.std.proofs.Common.{◌≡◌, ℕ, suc, ℤ, pos, ◌+ℤ◌, ◌+◌, ◌<◌, ◌≤◌, nat_lt, if◌then◌else◌, sym, ◌∙◌, ap, arith, inl, inr, List, length, get_or, set}
use Rattle.std.proofs.lemmas.Int.{ints}
use Rattle.std.proofs.lemmas.Bool.{cases_lt, lt-ltb, le-ltb}
use Rattle.std.proofs.lemmas.Grind.{common_steps}
use Rattle.rx_laws.specs.Torus.{word}
use Rattle.rx_laws.specs.Sum.{sum_to}
use Rattle.rx_laws.specs.Words.{words_below}
use Rattle.rx_laws.proofs.Torus.{word-word, word-add, word_of_word}
use Rattle.rx_laws.proofs.Sums.{sum_to-zero, sum_to-suc}
use Rattle.rx_laws.proofs.Words.{are-words_below}

-- no term yet
pub mixed-none : (x : ℕ) (f : ℕ → ℤ) → x ≡ 0 → x ≡ word (sum_to 0 f)
mixed-none x f e = e ∙ sym (word_of_word 0 (omega arith)) ∙ ap word (sym (sum_to-zero f))

-- one term more
pub mixed-more : (n x y : ℕ) (part : ℤ) (f : ℕ → ℤ) → x ≡ word (sum_to n f) → y ≡ word (pos x +ℤ part) → part ≡ f n →
    y ≡ word (sum_to (n + 1) f)
mixed-more n x y part f e h k =
    let same : word (pos x) ≡ word (sum_to n f) = ap (λ w. word (pos w)) e ∙ word-word (sum_to n f) in
    let s : n + 1 ≡ suc n = omega arith in
    h ∙ word-add (pos x) (sum_to n f) part (f n) same (ap word k) ∙ ap word (sym (sum_to-suc n f)) ∙ ap (λ m. word (sum_to m f)) (sym s)

-- the constant, in the last place
abbrev pub last_only : ℕ → ℤ → ℕ → ℤ
last_only n last i = if nat_lt i n then pos 0 else last

pub last_only-before : (n : ℕ) (last : ℤ) (i : ℕ) → i < n → last_only n last i ≡ pos 0
last_only-before n last i p = rw (lt-ltb i n p)

pub last_only-at : (n : ℕ) (last : ℤ) (i : ℕ) → n ≤ i → last_only n last i ≡ last
last_only-at n last i p = rw (le-ltb i n p)

mixed-each : (n : ℕ) (xs : List ℕ) (x : ℕ) (f : ℕ → ℤ) (last : ℤ) → length xs ≡ n + 1 →
    ((i : ℕ) → i < length xs → get_or xs i 0 ≡ word (f i)) → x ≡ word (f n +ℤ last) →
    (i : ℕ) → i < n + 1 → get_or (set xs n x) i 0 ≡ word (f i +ℤ last_only n last i)
mixed-each n xs x f last l h e i p =
    elim (cases_lt i n) as (λ _. get_or (set xs n x) i 0 ≡ word (f i +ℤ last_only n last i)) [
      | inl q ↦
          let before : get_or (set xs n x) i 0 ≡ get_or xs i 0 = grind (arith, common_steps) in
          before ∙ h i (omega arith) ∙ ap word (omega (arith, ints, last_only-before n last i q))
      | inr q ↦
          let w : i ≡ n = omega arith in
          let at : get_or (set xs n x) i 0 ≡ x = grind (arith, common_steps) in
          at ∙ e ∙ ap (λ k. word (f k +ℤ last)) (sym w) ∙ ap (λ z. word (f i +ℤ z)) (sym (last_only-at n last i q))
    ]

pub mixed-last : (n : ℕ) (xs : List ℕ) (x : ℕ) (f : ℕ → ℤ) (last : ℤ) → length xs ≡ n + 1 →
    ((i : ℕ) → i < length xs → get_or xs i 0 ≡ word (f i)) → x ≡ word (f n +ℤ last) →
    set xs n x ≡ words_below (n + 1) (λ i. f i +ℤ (if nat_lt i n then pos 0 else last))
mixed-last n xs x f last l h e =
    are-words_below (n + 1) (λ i. f i +ℤ last_only n last i) (set xs n x)
    (record { count = grind (arith, common_steps); each = mixed-each n xs x f last l h e })
