-- The digits of a level after those of the levels before it.
use Rattle.std.proofs.Common.{◌≡◌, ℕ, ℤ, pos, ◌+◌, ◌*◌, ◌<◌, ◌≤◌, sym, ◌∙◌, ap, arith, List, length, get_or, inl, inr}
use Rattle.std.proofs.lemmas.Bool.{cases_lt}
use Rattle.std.proofs.lemmas.Grind.{common_steps}
use Rattle.std.proofs.lemmas.Nat.{mul-add-lt}
use borrow.Rule.Slice.PartMut.{put_mid}

before : (a k i : ℕ) (xs ys : List ℤ) → i < a → a ≤ length xs → get_or (put_mid a k xs ys) i (pos 0) ≡ get_or xs i (pos 0)
before a k i xs ys p q = grind (arith, common_steps)

within : (a k i : ℕ) (xs ys : List ℤ) → i < length ys → a ≤ length xs → get_or (put_mid a k xs ys) (a + i) (pos 0) ≡ get_or ys i (pos 0)
within a k i xs ys p q = grind (arith, common_steps)

pub level_more : (n k t : ℕ) (xs ys : List ℤ) (f : ℕ → ℕ → ℤ) → t * n ≤ length xs → length ys ≡ n →
    ((s x : ℕ) → s < t → x < n → get_or xs (s * n + x) (pos 0) ≡ f s x) → ((x : ℕ) → x < n → get_or ys x (pos 0) ≡ f t x) →
    (s x : ℕ) → s < t + 1 → x < n → get_or (put_mid (t * n) k xs ys) (s * n + x) (pos 0) ≡ f s x
level_more n k t xs ys f l e old new s x p q =
    elim (cases_lt s t) as (λ _. get_or (put_mid (t * n) k xs ys) (s * n + x) (pos 0) ≡ f s x) [
      | inl h ↦ before (t * n) k (s * n + x) xs ys (omega (arith, mul-add-lt s n x t h q)) l ∙ old s x h q
      | inr h ↦
          let w : s ≡ t = omega arith in
          ap (λ y. get_or (put_mid (t * n) k xs ys) (y * n + x) (pos 0)) w ∙ within (t * n) k x xs ys (omega arith) l
          ∙ new x q ∙ ap (λ y. f y x) (sym w)
    ]
