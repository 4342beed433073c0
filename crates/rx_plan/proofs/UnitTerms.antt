-- A job over the sum of many cells.
use Rattle.std.proofs.Common.{◌≡◌, ◌^◌, ℕ, pos, suc, ◌+◌, ◌<◌, ◌≤◌, List, [], ◌∷◌, length, get_or, map, refl, sym, ◌∙◌, ap, arith, subst}
use Rattle.std.specs.List.{AllByRecursion}
use Rattle.std.proofs.lemmas.Int.{ints}
use Rattle.rx_net.specs.declared.term.Term.{Term}
use Rattle.rx_net.specs.declared.net.Net.{Net}
use Rattle.rx_net.specs.Tags.{value_of, low_of, high_of, noise_of, natural}
use Rattle.rx_net.specs.Cells.{cell_count, value, degree, noise}
use Rattle.rx_net.specs.Legal.{JobFits}
use Rattle.rx_net.specs.Growth.{AddsJob}
use Rattle.rx_plan.specs.Tables.{entries, IsTable}
use Rattle.rx_plan.specs.Values.{total}
use Rattle.rx_plan.specs.Planned.{Each, Makes}
use Rattle.rx_plan.proofs.Totals.{total_front}
use Rattle.rx_plan.proofs.Terms.{natural_is, below_entries, table_count, table_entries, job_makes}

-- a cell of the weight 1
abbrev pub unit_term : ℕ → Term
unit_term c = record { cell = c; weight = pos 1 }

pub unit_count : (cs : List ℕ) → length (map unit_term cs) ≡ length cs
unit_count [] = refl
unit_count (c ∷ cs) = ap suc (unit_count cs)

pub unit_all : (P : ℕ → Type 0) (cs : List ℕ) → Each cs P → AllByRecursion (λ (t : Term). P t.cell) (map unit_term cs)
unit_all P [] h = tt
unit_all P (c ∷ cs) h = (h 0 (omega arith), unit_all P cs (λ i q. h (suc i) (omega arith)))

unit_low : (cs : List ℕ) (d : ℕ → ℕ) → low_of d (pos 0) (map unit_term cs) ≡ pos 0
unit_low [] d = refl
unit_low (c ∷ cs) d = omega (arith, ints, unit_low cs d)

unit_high : (cs : List ℕ) (d : ℕ → ℕ) → high_of d (pos 0) (map unit_term cs) ≡ pos (total (length cs) (λ i. d (get_or cs i 0)))
unfolding total
unit_high [] d = refl
unit_high (c ∷ cs) d = omega (arith, ints, unit_high cs d, total_front (length cs) (λ i. d (get_or (c ∷ cs) i 0)))

unit_value : (cs : List ℕ) (d : ℕ → ℕ) → value_of d (pos 0) (map unit_term cs) ≡ pos (total (length cs) (λ i. d (get_or cs i 0)))
unfolding total
unit_value [] d = refl
unit_value (c ∷ cs) d = omega (arith, ints, unit_value cs d, total_front (length cs) (λ i. d (get_or (c ∷ cs) i 0)))

unit_noise : (cs : List ℕ) (d : ℕ → ℕ) → noise_of d (map unit_term cs) ≡ total (length cs) (λ i. d (get_or cs i 0))
unfolding total
unit_noise [] d = refl
unit_noise (c ∷ cs) d = omega (arith, unit_noise cs d, total_front (length cs) (λ i. d (get_or (c ∷ cs) i 0)))

pub unit_fits : (s count : ℕ) (d ns : ℕ → ℕ) (cs table : List ℕ) → Each cs (λ c. c < count)
    → total (length cs) (λ i. d (get_or cs i 0)) < entries s → total (length cs) (λ i. ns (get_or cs i 0)) ≤ 2 ^ s + 1 → IsTable s table
    → JobFits s count d ns (map unit_term cs) (pos 0) table
unit_fits s count d ns cs table h r n t = record {
  forward = unit_all (λ c. c < count) cs h;
  low = omega (arith, ints, unit_low cs d);
  high = below_entries s (high_of d (pos 0) (map unit_term cs)) (total (length cs) (λ i. d (get_or cs i 0))) (unit_high cs d) r;
  noise_in = omega (arith, unit_noise cs ns);
  table_count = table_count s table t;
  table_entries = table_entries s table t;
}

pub unit_makes : (old new : Net) (k : ℕ) (cs table : List ℕ) (ts : List Term) → ts ≡ map unit_term cs
    → JobFits old.space (cell_count old) (degree old) (noise old) ts (pos 0) table → AddsJob old new k ts (pos 0) table
    → Makes old new k (Each cs) (total (length cs) (λ i. degree old (get_or cs i 0))) (λ v. total (length cs) (λ i. v (get_or cs i 0))) table
unit_makes old new k cs table ts e f h =
    job_makes old new k ts (pos 0) table (Each cs) (total (length cs) (λ i. degree old (get_or cs i 0))) (λ v. total (length cs) (λ i. v (get_or cs i 0))) f h
    (λ P p. subst (λ (ts : List Term). AllByRecursion (λ (t : Term). P t.cell) ts) (sym e) (unit_all P cs p))
    (ap (λ ts. natural (high_of (degree old) (pos 0) ts)) e ∙ natural_is _ (total (length cs) (λ i. degree old (get_or cs i 0))) (unit_high cs (degree old)))
    (λ xs i. ap (λ ts. natural (value_of (value old xs) (pos 0) ts)) e ∙ natural_is _ (total (length cs) (λ i. value old xs (get_or cs i 0))) (unit_value cs (value old xs)))
