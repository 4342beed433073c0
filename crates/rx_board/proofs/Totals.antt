-- Totals over a list of views, and marks in the words of jobs.
use Rattle.std.proofs.Common.{◌≡◌, ◌≢◌, ℕ, zero, suc, ◌+◌, ◌≤◌, Bool, cond, eqb, List, [], ◌∷◌, ◌++◌, get_or, set, sym, refl, ap, subst, arith, eq-eqb, ne_eqb}
use Rattle.std.specs.Prelude.{Option, Some, None, Contains}
use mathlib.Core.Logic.{dite}
use native.Mathlib.Decide.{ℕ_discrete}
use mathlib.Core.Option.{some, some-injective, some-ne-none}
use lib.ListN.{get_elem?}
use Rattle.rx_board.specs.declared.view.Held.{Held}
use Rattle.rx_board.specs.declared.view.View.{View}
use Rattle.rx_board.specs.Rule.{one_if, total, holds_job, credits, holding}

pub one : (x j : ℕ) → x ≡ j → one_if (eqb x j) ≡ 1
one x j e = ap one_if (eq-eqb x j e)

pub no : (x j : ℕ) → x ≢ j → one_if (eqb x j) ≡ 0
no x j e = ap one_if (ne_eqb x j e)

module _ {A : Type 0} (f : A → ℕ) where
  pub total_set : (l : List A) (i : ℕ) (v w : A) → get_elem? l i ≡ some v → total f (set l i w) + f v ≡ total f l + f w
  total_set [] i v w e = absurd (some-ne-none v (sym e))
  total_set (x ∷ xs) zero v w e = let h = ap f (some-injective x v e) in omega arith
  total_set (x ∷ xs) (suc i) v w e = let h = total_set xs i v w e in omega arith

  pub total_append : (l m : List A) → total f (l ++ m) ≡ total f l + total f m
  total_append [] m = omega arith
  total_append (x ∷ xs) m = let h = total_append xs m in omega arith

  pub total_at : (l : List A) (i : ℕ) (v : A) → get_elem? l i ≡ some v → f v ≤ total f l
  total_at [] i v e = absurd (some-ne-none v (sym e))
  total_at (x ∷ xs) zero v e = let h = ap f (some-injective x v e) in omega arith
  total_at (x ∷ xs) (suc i) v e = let h = total_at xs i v e in omega arith

  pub total_two : (l : List A) (i j : ℕ) (v w : A) → i ≢ j → get_elem? l i ≡ some v → get_elem? l j ≡ some w → f v + f w ≤ total f l
  total_two [] i j v w ne e d = absurd (some-ne-none v (sym e))
  total_two (x ∷ xs) zero zero v w ne e d = absurd (ne refl)
  total_two (x ∷ xs) zero (suc j) v w ne e d = let h = ap f (some-injective x v e) in let t = total_at xs j w d in omega arith
  total_two (x ∷ xs) (suc i) zero v w ne e d = let h = ap f (some-injective x w d) in let t = total_at xs i v e in omega arith
  total_two (x ∷ xs) (suc i) (suc j) v w ne e d = let h = total_two xs i j v w (λ q. ne (ap suc q)) e d in omega arith

pub single : (j i : ℕ) → Contains (j ∷ []) i → j ≡ i
single j i (k, l, e) = let z : k ≡ 0 = omega arith in subst (λ (n : ℕ). get_or (j ∷ []) n i ≡ i) z e

-- who does not hold k credited no node of it
not_held : (k : ℕ) (h : Option Held) → holds_job k h ≡ 0 → credits k h ≡ 0
not_held k None z = refl
not_held k (Some h) z = dite (ℕ_discrete h.job k) (λ e. let o = one h.job k e in absurd (omega arith)) (λ ne. ap (λ (c : Bool). cond c h.credited 0) (ne_eqb h.job k ne))

pub credits_own : (k q e : ℕ) → credits k (Some (holding k q e)) ≡ e
credits_own k q e = ap (λ (c : Bool). cond c e 0) (eq-eqb k k refl)

pub credits_else : (k q e j : ℕ) → j ≢ k → credits j (Some (holding k q e)) ≡ 0
credits_else k q e j ne = ap (λ (c : Bool). cond c e 0) (ne_eqb k j (λ z. ne (sym z)))

pub credits_none : (k q j : ℕ) → credits j (Some (holding k q 0)) ≡ 0
credits_none k q j = dite (ℕ_discrete j k) (λ e. subst (λ (z : ℕ). credits z (Some (holding k q 0)) ≡ 0) (sym e) (credits_own k q 0)) (λ ne. credits_else k q 0 j ne)

none_credited : (k : ℕ) (views : List View) → total (λ v. holds_job k v.held) views ≡ 0 → total (λ v. credits k v.held) views ≡ 0
none_credited k [] z = refl
none_credited k (v ∷ vs) z = let h = not_held k v.held (omega arith) in let t = none_credited k vs (omega arith) in omega arith

-- where one view alone holds k, the nodes credited are its own
pub sole_credits : (k : ℕ) (views : List View) (i : ℕ) (v : View) → get_elem? views i ≡ some v → total (λ u. holds_job k u.held) views ≡ 1 → holds_job k v.held ≡ 1 → total (λ u. credits k u.held) views ≡ credits k v.held
sole_credits k views i v at all own = let w : View = record v { held = None } in
    let t = total_set (λ (u : View). holds_job k u.held) views i v w at in
    let z : total (λ u. holds_job k u.held) (set views i w) ≡ 0 = omega arith in
    let n = none_credited k (set views i w) z in
    let c = total_set (λ (u : View). credits k u.held) views i v w at in omega arith

module _ {A : Type 0} (f : A → ℕ) where
  pub total_some : (l : List A) → 1 ≤ total f l → (i : ℕ) × (v : A) × (get_elem? l i ≡ some v) × (1 ≤ f v)
  total_some [] h = absurd (omega arith)
  total_some (x ∷ xs) h = dite (ℕ_discrete (f x) 0) (λ z. let t = total_some xs (omega arith) in (suc t.0, t.1, t.2, t.3)) (λ n. (zero, x, refl, omega arith))
