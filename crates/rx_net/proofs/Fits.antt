-- Jobs without a fault are lawful, and the other way round.
use Rattle.std.proofs.Common.{◌≡◌, ℕ, ℤ, pos, negsuc, ◌+◌, ◌<◌, ◌≤◌, ◌≤ℤ◌, ◌<ℤ◌, ◌*ℤ◌, List, [], ◌∷◌, length, get_or, true, false, refl, sym, ◌∙◌, ap, arith, subst, Some, None, eq-eqb}
use Rattle.std.specs.Prelude.{◌&&◌, ◌==◌, nat_le, nat_lt}
use Rattle.std.specs.Int.Signed.{le_z, lt_z}
use Rattle.std.specs.List.{list_all, AllByRecursion}
use Rattle.std.proofs.lemmas.Int.{ints}
use Rattle.std.proofs.lemmas.Bool.{and_parts}
use Rattle.std.proofs.lemmas.Bool.Decides.{nat_tests}
use Rattle.rx_laws.specs.Decode.{plaintexts}
use Rattle.rx_params.specs.Derived.{noise_limit}
use Rattle.rx_net.specs.declared.term.Term.{Term}
use Rattle.rx_net.specs.declared.net.Job.{Job}
use Rattle.rx_net.specs.declared.net.NetInput.{NetInput}
use Rattle.rx_net.specs.declared.fault.NetFault.{NetFault}
use Rattle.rx_net.specs.declared.fault.NetFault.TheVariants.{Forward, Range, Noise, Table, Degree}
use Rattle.rx_net.specs.Tags.{natural, low_of, high_of, noise_of, negative_part, positive_part}
use Rattle.rx_net.specs.Cells.{input_cells, degrees_after, noises_after}
use Rattle.rx_net.specs.Legal.{are_cells, JobFits, IsJob, reached}
use Rattle.rx_net.specs.Faults.{first_failing, sum_fault, fit_fault, degree_fault, new_fault, job_fault}
use Rattle.rx_net.proofs.Faults.{both_none, of_none, of_some, none_fails, passes, fails, all_from_test, test_from_all}
use Rattle.rx_net.proofs.Bounded.{natural_lt}

pub nat_lt_yes : (a b : ℕ) → nat_lt a b ≡ true → a < b
nat_lt_yes a b e = grind (arith, nat_tests)

pub nat_lt_is : (a b : ℕ) → a < b → nat_lt a b ≡ true
nat_lt_is a b h = grind (arith, nat_tests)

pub nat_le_yes : (a b : ℕ) → nat_le a b ≡ true → a ≤ b
nat_le_yes a b e = grind (arith, nat_tests)

pub nat_le_is : (a b : ℕ) → a ≤ b → nat_le a b ≡ true
nat_le_is a b h = grind (arith, nat_tests)

pub same_yes : (a b : ℕ) → (a == b) ≡ true → a ≡ b
same_yes a b e = grind (arith, nat_tests)

le_z_yes : (a b : ℤ) → le_z a b ≡ true → a ≤ℤ b
le_z_yes a b e = grind (arith, ints)

le_z_is : (a b : ℤ) → a ≤ℤ b → le_z a b ≡ true
le_z_is a b h = grind (arith, ints)

lt_z_yes : (a b : ℤ) → lt_z a b ≡ true → a <ℤ b
lt_z_yes a b e = grind (arith, ints)

lt_z_is : (a b : ℤ) → a <ℤ b → lt_z a b ≡ true
lt_z_is a b h = grind (arith, ints)

pub forward_from_test : (count : ℕ) (ts : List Term) → list_all (λ t. nat_lt t.cell count) ts ≡ true → AllByRecursion (λ t. t.cell < count) ts
forward_from_test count ts e = all_from_test (λ (t : Term). nat_lt t.cell count) (λ t. t.cell < count) (λ t h. nat_lt_yes t.cell count h) ts e

pub cells_below : (count : ℕ) (degree : ℕ → ℕ) (most : ℕ) (cells : List ℕ) → are_cells count degree most cells ≡ true → AllByRecursion (λ c. c < count) cells
cells_below count degree most cells e =
    all_from_test (λ c. nat_lt c count && nat_le (degree c) most) (λ c. c < count)
    (λ c h. nat_lt_yes c count (and_parts (nat_lt c count) (nat_le (degree c) most) h).0) cells e

low_part_high : (w : ℤ) (d : ℕ) → (negative_part w *ℤ pos d) ≤ℤ (positive_part w *ℤ pos d)
low_part_high (pos n) d = omega (arith, ints)
low_part_high (negsuc n) d = omega (arith, ints)

pub low_high : (degree : ℕ → ℕ) (k : ℤ) (ts : List Term) → low_of degree k ts ≤ℤ high_of degree k ts
low_high degree k [] = omega (arith, ints)
low_high degree k (t ∷ ts) = omega (arith, ints, low_part_high t.weight (degree t.cell), low_high degree k ts)

pub fits_from_none : (space number count : ℕ) (degree noise : ℕ → ℕ) (ts : List Term) (k : ℤ) (table : List ℕ)
    → fit_fault space number count degree noise ts k table ≡ None → JobFits space count degree noise ts k table
fits_from_none space number count degree noise ts k table e =
    let p : ℕ = plaintexts space in
    let low : ℤ = low_of degree k ts in
    let high : ℤ = high_of degree k ts in
    let sum : ℕ = noise_of noise ts in
    let forward = list_all (λ (t : Term). nat_lt t.cell count) ts in
    let b = both_none (first_failing ((forward, Forward number) ∷ [])) (sum_fault space number low high sum table) e in
    let f = none_fails forward (Forward number) [] b.0 in
    let r = none_fails (le_z (pos 0) low && lt_z high (pos p)) (Range number low high) ((nat_le sum (noise_limit space), Noise number sum)
    ∷ ((length table == p) && list_all (λ entry. nat_lt entry p) table, Table number) ∷ []) b.1 in
    let n = none_fails (nat_le sum (noise_limit space)) (Noise number sum) (((length table == p) && list_all (λ entry. nat_lt entry p) table, Table number) ∷ []) r.1 in
    let t = none_fails ((length table == p) && list_all (λ entry. nat_lt entry p) table) (Table number) [] n.1 in
    let r2 = and_parts (le_z (pos 0) low) (lt_z high (pos p)) r.0 in
    let t2 = and_parts (length table == p) (list_all (λ entry. nat_lt entry p) table) t.0 in
    record {
      forward = forward_from_test count ts f.0;
      low = le_z_yes (pos 0) low r2.0;
      high = lt_z_yes high (pos p) r2.1;
      noise_in = nat_le_yes sum (noise_limit space) n.0;
      table_count = same_yes (length table) p t2.0;
      table_entries = all_from_test (λ entry. nat_lt entry p) (λ entry. entry < p) (λ entry h. nat_lt_yes entry p h) table t2.1;
    }

pub none_from_fits : (space number count : ℕ) (degree noise : ℕ → ℕ) (ts : List Term) (k : ℤ) (table : List ℕ)
    → JobFits space count degree noise ts k table → fit_fault space number count degree noise ts k table ≡ None
none_from_fits space number count degree noise ts k table h =
    let p : ℕ = plaintexts space in
    let low : ℤ = low_of degree k ts in
    let high : ℤ = high_of degree k ts in
    let sum : ℕ = noise_of noise ts in
    let forward = list_all (λ (t : Term). nat_lt t.cell count) ts in
    let f : forward ≡ true = test_from_all (λ (t : Term). nat_lt t.cell count) (λ t. t.cell < count) (λ t h. nat_lt_is t.cell count h) ts h.forward in
    let r : (le_z (pos 0) low && lt_z high (pos p)) ≡ true = ap (λ b. b && lt_z high (pos p)) (le_z_is (pos 0) low h.low) ∙ lt_z_is high (pos p) h.high in
    let n : nat_le sum (noise_limit space) ≡ true = nat_le_is sum (noise_limit space) h.noise_in in
    let t : ((length table == p) && list_all (λ entry. nat_lt entry p) table) ≡ true =
    ap (λ b. b && list_all (λ entry. nat_lt entry p) table) (eq-eqb (length table) p h.table_count)
    ∙ test_from_all (λ entry. nat_lt entry p) (λ entry. entry < p) (λ entry h. nat_lt_is entry p h) table h.table_entries in
    of_none (first_failing ((forward, Forward number) ∷ [])) (sum_fault space number low high sum table) (passes forward (Forward number) [] f)
    ∙ passes (le_z (pos 0) low && lt_z high (pos p)) (Range number low high) ((nat_le sum (noise_limit space), Noise number sum) ∷ ((length table == p) && list_all (λ entry. nat_lt entry p) table, Table number) ∷ []) r
    ∙ passes (nat_le sum (noise_limit space)) (Noise number sum) (((length table == p) && list_all (λ entry. nat_lt entry p) table, Table number) ∷ []) n
    ∙ passes ((length table == p) && list_all (λ entry. nat_lt entry p) table) (Table number) [] t

pub job_from_none : (space : ℕ) (inputs : List NetInput) (before : List Job) (j : Job) → job_fault space inputs before j ≡ None → IsJob space inputs before j
unfolding job_fault new_fault
job_from_none space inputs before j e =
    let r : ℕ = reached (λ c. get_or (degrees_after space inputs before) c 0) j.terms j.constant j.table in
    let b = both_none (fit_fault space (length before) (input_cells space inputs + length before) (λ c. get_or (degrees_after space inputs before) c 0)
    (λ c. get_or (noises_after space inputs before) c 0) j.terms j.constant j.table) (degree_fault (length before) j.degree r) e in
    record {
      fits = fits_from_none space (length before) (input_cells space inputs + length before) (λ c. get_or (degrees_after space inputs before) c 0)
          (λ c. get_or (noises_after space inputs before) c 0) j.terms j.constant j.table b.0;
      declared = same_yes j.degree r (none_fails (j.degree == r) (Degree (length before) j.degree r) [] b.1).0;
    }

pub none_from_job : (space : ℕ) (inputs : List NetInput) (before : List Job) (j : Job) → IsJob space inputs before j → job_fault space inputs before j ≡ None
unfolding job_fault new_fault
none_from_job space inputs before j h =
    let r : ℕ = reached (λ c. get_or (degrees_after space inputs before) c 0) j.terms j.constant j.table in
    of_none (fit_fault space (length before) (input_cells space inputs + length before) (λ c. get_or (degrees_after space inputs before) c 0)
    (λ c. get_or (noises_after space inputs before) c 0) j.terms j.constant j.table) (degree_fault (length before) j.degree r)
    (none_from_fits space (length before) (input_cells space inputs + length before) (λ c. get_or (degrees_after space inputs before) c 0)
    (λ c. get_or (noises_after space inputs before) c 0) j.terms j.constant j.table h.fits)
    ∙ passes (j.degree == r) (Degree (length before) j.degree r) [] (eq-eqb j.degree r h.declared)

-- ---- a new job, as it is tested
pub sum_order : (degree : ℕ → ℕ) (k low high : ℤ) (ts : List Term) → low ≡ low_of degree k ts → high ≡ high_of degree k ts → low ≤ℤ high
sum_order degree k low high ts e f =
    let h : low_of degree k ts ≤ℤ high = subst (λ (z : ℤ). low_of degree k ts ≤ℤ z) (sym f) (low_high degree k ts) in
    subst (λ (z : ℤ). z ≤ℤ high) (sym e) h

pub later_fault : (space number count : ℕ) (degree noise : ℕ → ℕ) (ts : List Term) (k : ℤ) (table : List ℕ) (count' : ℕ) → count' ≡ count
    → list_all (λ t. nat_lt t.cell count') ts ≡ false → fit_fault space number count degree noise ts k table ≡ Some (Forward number)
later_fault space number count degree noise ts k table count' c e =
    let f : list_all (λ t. nat_lt t.cell count) ts ≡ false = subst (λ (n : ℕ). list_all (λ (t : Term). nat_lt t.cell n) ts ≡ false) c e in
    of_some (first_failing ((list_all (λ t. nat_lt t.cell count) ts, Forward number) ∷ [])) (sum_fault space number (low_of degree k ts) (high_of degree k ts) (noise_of noise ts) table) (Forward number)
    (fails (list_all (λ t. nat_lt t.cell count) ts) (Forward number) [] f)

pub earlier_fault : (space number count : ℕ) (degree noise : ℕ → ℕ) (ts : List Term) (k : ℤ) (table : List ℕ) (count' : ℕ) → count' ≡ count
    → list_all (λ t. nat_lt t.cell count') ts ≡ true → (low high : ℤ) (sum : ℕ) → low ≡ low_of degree k ts → high ≡ high_of degree k ts → sum ≡ noise_of noise ts
    → sum_fault space number low high sum table ≡ fit_fault space number count degree noise ts k table
earlier_fault space number count degree noise ts k table count' c e low high sum x y z =
    let f : list_all (λ t. nat_lt t.cell count) ts ≡ true = subst (λ (n : ℕ). list_all (λ (t : Term). nat_lt t.cell n) ts ≡ true) c e in
    ap (λ l. sum_fault space number l high sum table) x ∙ ap (λ h. sum_fault space number (low_of degree k ts) h sum table) y
    ∙ ap (λ s. sum_fault space number (low_of degree k ts) (high_of degree k ts) s table) z
    ∙ sym (of_none (first_failing ((list_all (λ t. nat_lt t.cell count) ts, Forward number) ∷ [])) (sum_fault space number (low_of degree k ts) (high_of degree k ts) (noise_of noise ts) table)
    (passes (list_all (λ t. nat_lt t.cell count) ts) (Forward number) [] f))

pub new_fault_is : (space : ℕ) (inputs : List NetInput) (before : List Job) (ts : List Term) (k : ℤ) (table : List ℕ)
    → fit_fault space (length before) (input_cells space inputs + length before) (λ c. get_or (degrees_after space inputs before) c 0)
    (λ c. get_or (noises_after space inputs before) c 0) ts k table ≡ new_fault space inputs before ts k table
unfolding new_fault
new_fault_is space inputs before ts k table = refl

-- ---- a job, as it is tested: its terms, constant and table as they were read
module _ (space : ℕ) (inputs : List NetInput) (before : List Job) (j : Job) (ts : List Term) (k : ℤ) (table : List ℕ) (e : ts ≡ j.terms) (f : k ≡ j.constant) (g : table ≡ j.table) where
  same_new : new_fault space inputs before ts k table ≡ new_fault space inputs before j.terms j.constant j.table
  same_new = ap (λ ts. new_fault space inputs before ts k table) e ∙ ap (λ k. new_fault space inputs before j.terms k table) f ∙ ap (λ table. new_fault space inputs before j.terms j.constant table) g

  same_reached : reached (λ c. get_or (degrees_after space inputs before) c 0) ts k table ≡ reached (λ c. get_or (degrees_after space inputs before) c 0) j.terms j.constant j.table
  same_reached = ap (λ ts. reached (λ c. get_or (degrees_after space inputs before) c 0) ts k table) e
      ∙ ap (λ k. reached (λ c. get_or (degrees_after space inputs before) c 0) j.terms k table) f
      ∙ ap (λ table. reached (λ c. get_or (degrees_after space inputs before) c 0) j.terms j.constant table) g

  pub job_stops : (x : NetFault) → new_fault space inputs before ts k table ≡ Some x → job_fault space inputs before j ≡ Some x
  unfolding job_fault
  job_stops x h = of_some (new_fault space inputs before j.terms j.constant j.table) (degree_fault (length before) j.degree (reached (λ c. get_or (degrees_after space inputs before) c 0) j.terms j.constant j.table)) x (sym same_new ∙ h)

  on : new_fault space inputs before ts k table ≡ None → (r : ℕ) → r ≡ reached (λ c. get_or (degrees_after space inputs before) c 0) ts k table
      → job_fault space inputs before j ≡ degree_fault (length before) j.degree r
  unfolding job_fault
  on h r d = of_none (new_fault space inputs before j.terms j.constant j.table) (degree_fault (length before) j.degree (reached (λ c. get_or (degrees_after space inputs before) c 0) j.terms j.constant j.table)) (sym same_new ∙ h)
      ∙ ap (degree_fault (length before) j.degree) (sym (d ∙ same_reached))

  pub job_passes : new_fault space inputs before ts k table ≡ None → (r : ℕ) → r ≡ reached (λ c. get_or (degrees_after space inputs before) c 0) ts k table
      → j.degree ≡ r → job_fault space inputs before j ≡ None
  job_passes h r d q = on h r d ∙ passes (j.degree == r) (Degree (length before) j.degree r) [] (eq-eqb j.degree r q)

  pub job_differs : new_fault space inputs before ts k table ≡ None → (r : ℕ) → r ≡ reached (λ c. get_or (degrees_after space inputs before) c 0) ts k table
      → (j.degree ≡ r → ⊥) → job_fault space inputs before j ≡ Some (Degree (length before) j.degree r)
  job_differs h r d q = on h r d ∙ fails (j.degree == r) (Degree (length before) j.degree r) [] (grind (arith, nat_tests))

pub high_within : (space count : ℕ) (degree noise : ℕ → ℕ) (ts : List Term) (k : ℤ) (table : List ℕ) → JobFits space count degree noise ts k table
    → natural (high_of degree k ts) < length table
high_within space count degree noise ts k table f =
    let o : low_of degree k ts ≤ℤ high_of degree k ts = low_high degree k ts in
    let l : pos 0 ≤ℤ low_of degree k ts = f.low in
    let z : pos 0 ≤ℤ high_of degree k ts = omega (arith, ints) in
    subst (λ (n : ℕ). natural (high_of degree k ts) < n) (sym f.table_count) (natural_lt (high_of degree k ts) (plaintexts space) z f.high)
