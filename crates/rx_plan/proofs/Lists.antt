-- What holds of each place of a list that grows.
use Rattle.std.proofs.Common.{◌≡◌, ℕ, ◌+◌, ◌-◌, ◌<◌, ◌≤◌, inl, inr, List, [], ◌∷◌, ◌++◌, length, get_or, refl, sym, ◌∙◌, ap, arith, subst, length-append}
use Rattle.std.proofs.lemmas.Bool.{cases_lt}
use Rattle.std.proofs.lemmas.List.{get_or_append_left, get_or-append_right}
use Rattle.rx_plan.specs.Planned.{Each}

-- one more cell of a list
pub by_push : (cs : List ℕ) (c : ℕ) (P : ℕ → ℕ → Type 0) → ((i : ℕ) → i < length cs → P i (get_or cs i 0)) → P (length cs) c
    → (i : ℕ) → i < length (cs ++ c ∷ []) → P i (get_or (cs ++ c ∷ []) i 0)
by_push cs c P h p i q =
    elim (cases_lt i (length cs)) [
      | inl l ↦ subst (P i) (sym (get_or_append_left cs (c ∷ []) 0 i l)) (h i l)
      | inr l ↦
          let z : 0 ≡ i - length cs = omega (arith, length-append cs (c ∷ [])) in
          let l' : length cs ≤ i = l in
          let e : length cs ≡ i = omega (arith, length-append cs (c ∷ [])) in
          subst (P i) (ap (λ k. get_or (c ∷ []) k 0) z ∙ sym (get_or-append_right cs (c ∷ []) (length cs) i 0 refl l')) (subst (λ (i : ℕ). P i c) e p)
    ]

-- what holds of each place of two lists holds of the places of one list after the other
pub by_join : (cs ds : List ℕ) (P : ℕ → ℕ → Type 0) → ((i : ℕ) → i < length cs → P i (get_or cs i 0)) → ((i : ℕ) → i < length ds → P (length cs + i) (get_or ds i 0))
    → (i : ℕ) → i < length (cs ++ ds) → P i (get_or (cs ++ ds) i 0)
by_join cs ds P h k i q =
    elim (cases_lt i (length cs)) [
      | inl l ↦ subst (P i) (sym (get_or_append_left cs ds 0 i l)) (h i l)
      | inr l ↦
          let l' : length cs ≤ i = l in
          let r : i - length cs < length ds = omega (arith, length-append cs ds) in
          let e : length cs + (i - length cs) ≡ i = omega arith in
          subst (P i) (sym (get_or-append_right cs ds (length cs) i 0 refl l')) (subst (λ (n : ℕ). P n (get_or ds (i - length cs) 0)) e (k (i - length cs) r))
    ]

-- what holds of the cells of both lists
pub by_append : (cs ds : List ℕ) (P : ℕ → Type 0) → Each cs P → Each ds P → Each (cs ++ ds) P
by_append cs ds P h k = by_join cs ds (λ i c. P c) h k
