-- How planners compose where one needs only the first levels of the one before.
use Rattle.std.proofs.Common.{◌≡◌, ℕ, ◌+◌, ◌<◌, ◌≤◌, inl, inr, List, ◌++◌, length, get_or, sym, ◌∙◌, ap, arith, subst, length-append}
use Rattle.std.proofs.lemmas.Bool.{cases_lt}
use Rattle.rx_net.specs.declared.net.Net.{Net}
use Rattle.rx_net.specs.Cells.{cell_count, value, depth}
use Rattle.rx_net.specs.Growth.{Extends}
use Rattle.rx_net.proofs.Grows.{extends_onward}
use Rattle.rx_plan.specs.Values.{AreInputs}
use Rattle.rx_plan.specs.Planned.{IsCell, Planned}
use Rattle.rx_plan.proofs.Lists.{by_join, by_append}
use Rattle.rx_plan.proofs.Kept.{within_now, cells_by_kept, cell_within}

-- one planner, and then another, whose operands are at most so much deeper than those of the first
pub planned_later : (old now new : Net) (cs ds : List ℕ) (tops more : ℕ → ℕ) (n m j k l s r most : ℕ) (O Q : (ℕ → Type 0) → Type 0) (f g h : List ℕ → ℕ → ℕ)
    → l ≤ most → s + r ≤ most
    → Planned old now cs tops n j l O f
    → Planned now new ds more m k r Q g
    → ((d : ℕ) → O (λ o. depth old o ≤ d) → Q (λ o. depth now o ≤ d + s))
    → ((xs : List ℕ) → AreInputs old xs → (i : ℕ) → i < m → g xs i ≡ h xs i)
    → Planned old new ds more m (j + k) most O h
planned_later old now new cs ds tops more n m j k l s r most O Q f g h a b p q t v = record {
  extends = extends_onward old now new p.extends q.extends;
  bounded = q.bounded;
  count_is = q.count_is;
  jobs_in = omega (arith, p.jobs_in, q.jobs_in);
  cells_are = q.cells_are;
  deep = λ d o c x y.
      elim (cases_lt c (cell_count now)) [
        | inl z ↦
            let e : depth new c ≡ depth now c = q.extends.depths c z in
            let w : depth now c ≤ d + l = p.deep d o c x z in
            omega arith
        | inr z ↦
            let w : depth new c ≤ d + s + r = q.deep (d + s) (t d o) c z y in
            omega arith
      ];
  deep_cells = λ d o i x.
      let w : depth new (get_or ds i 0) ≤ d + s + r = q.deep_cells (d + s) (t d o) i x in
      omega arith;
  values_are = λ xs w i x. q.values_are xs (within_now old now p.extends xs w) i x ∙ v xs w i x;
}

-- cells of a planner, among the jobs of one that goes on from it
pub planned_among : (old now new : Net) (cs ds : List ℕ) (tops more : ℕ → ℕ) (n m j k l r : ℕ) (O : (ℕ → Type 0) → Type 0) (f g : List ℕ → ℕ → ℕ)
    → l ≤ r → Planned old now cs tops n j l O f → Extends now new → Planned old new ds more m k r O g → Planned old new cs tops n k r O f
planned_among old now new cs ds tops more n m j k l r O f g a p e q = record {
  extends = q.extends;
  bounded = q.bounded;
  count_is = p.count_is;
  jobs_in = q.jobs_in;
  cells_are = cells_by_kept now new tops cs e p.cells_are;
  deep = q.deep;
  deep_cells = λ d o i x.
      let z : depth new (get_or cs i 0) ≡ depth now (get_or cs i 0) = e.depths (get_or cs i 0) (p.cells_are i x).there in
      let y : depth now (get_or cs i 0) ≤ d + l = p.deep_cells d o i x in
      omega arith;
  values_are = λ xs w i x. e.values xs (within_now old now p.extends xs w) (get_or cs i 0) (p.cells_are i (omega (arith, p.count_is))).there ∙ p.values_are xs w i x;
}

-- the cells of two planners of the same jobs
pub planned_both : (old new : Net) (cs ds : List ℕ) (tops more all : ℕ → ℕ) (n m k r : ℕ) (O : (ℕ → Type 0) → Type 0) (f g h : List ℕ → ℕ → ℕ)
    → Planned old new cs tops n k r O f → Planned old new ds more m k r O g
    → ((i : ℕ) → i < n → tops i ≤ all i) → ((i : ℕ) → i < m → more i ≤ all (n + i))
    → ((xs : List ℕ) → AreInputs old xs → (i : ℕ) → i < n → f xs i ≡ h xs i) → ((xs : List ℕ) → AreInputs old xs → (i : ℕ) → i < m → g xs i ≡ h xs (n + i))
    → Planned old new (cs ++ ds) all (n + m) k r O h
planned_both old new cs ds tops more all n m k r O f g h p q a b v w = record {
  extends = q.extends;
  bounded = q.bounded;
  count_is = omega (arith, length-append cs ds, p.count_is, q.count_is);
  jobs_in = q.jobs_in;
  cells_are = by_join cs ds (λ i c. IsCell new (all i) c)
      (λ i x. cell_within new (tops i) (all i) (get_or cs i 0) (a i (omega (arith, p.count_is))) (p.cells_are i x))
      (λ i x. subst (λ (n : ℕ). IsCell new (all (n + i)) (get_or ds i 0)) (sym p.count_is) (cell_within new (more i) (all (n + i)) (get_or ds i 0) (b i (omega (arith, q.count_is))) (q.cells_are i x)));
  deep = q.deep;
  deep_cells = λ d o. by_append cs ds (λ c. depth new c ≤ d + r) (p.deep_cells d o) (q.deep_cells d o);
  values_are = λ xs x i y.
      by_join cs ds (λ i c. value new xs c ≡ h xs i)
      (λ i z. p.values_are xs x i (omega (arith, p.count_is)) ∙ v xs x i (omega (arith, p.count_is)))
      (λ i z. q.values_are xs x i (omega (arith, q.count_is)) ∙ w xs x i (omega (arith, q.count_is)) ∙ ap (λ n. h xs (n + i)) (sym p.count_is))
      i (omega (arith, length-append cs ds, p.count_is, q.count_is));
}
