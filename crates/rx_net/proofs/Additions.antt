-- What an addition to a legal net makes of its first fault, of its tags and of its values.
use Rattle.std.proofs.Common.{◌≡◌, ℕ, ℤ, suc, ◌+◌, ◌<◌, ◌≤◌, List, [], ◌∷◌, ◌++◌, length, get_or, map, Bool, true, false, refl, sym, ◌∙◌, ap, arith, subst, length-append, add-one, Option, Some, None, eq-eqb}
use Rattle.std.specs.Prelude.{◌&&◌, ◌||◌, ◌==◌, not, nat_le, nat_lt, IsTrue}
use Rattle.std.proofs.Math.Seq.{take-append_seam}
use Rattle.std.proofs.lemmas.List.{get_or_append_left}
use Rattle.std.specs.Option.{option_or}
use Rattle.std.proofs.lemmas.Bool.{and_parts}
use Rattle.rx_params.specs.Kinds.{greatest, block_count, is_form}
use Rattle.rx_params.proofs.Refusals.{two_or_three}
use Rattle.rx_net.specs.declared.term.Term.{Term}
use Rattle.rx_net.specs.declared.net.Job.{Job}
use Rattle.rx_net.specs.declared.net.NetInput.{NetInput}
use Rattle.rx_net.specs.declared.net.NetOutput.{NetOutput}
use Rattle.rx_net.specs.declared.net.Net.{Net}
use Rattle.rx_net.specs.declared.fault.NetFault.{NetFault}
use Rattle.rx_net.specs.declared.fault.NetFault.TheVariants.{Degree, Output}
use Rattle.rx_net.specs.Tags.{value_of, greatest_of, natural}
use Rattle.rx_net.specs.Cells.{input_cells, cell_count, given, laid, job_value, declared_degree, unit_noise, one_deeper, values_after, degrees_after, noises_after, depths_after, value, degree, noise, depth, Within}
use Rattle.rx_net.specs.Legal.{InTurn, is_input, names_output, are_cells, is_output, reached, JobFits, Legal, WithinLimits}
use Rattle.rx_net.specs.Faults.{first_in_turn, limit, input_fault, terms_fault, new_fault, job_fault, output_fault, limit_fault, fault_of}
use Rattle.rx_net.specs.Pen.{with_input, new_job, with_job, with_output}
use Rattle.rx_net.specs.Growth.{Extends, AddsJob}
use Rattle.rx_net.proofs.Laid.{laid_kept, laid_new}
use Rattle.rx_net.proofs.Inputs.{length-given, given-append}
use Rattle.rx_net.proofs.Faults.{of_last, of_none, of_some, passes, fails, turn_last, all_from_test, test_from_all, none_from_turn}
use Rattle.rx_net.proofs.Fits.{none_from_fits, nat_lt_yes, nat_lt_is, nat_le_yes, nat_le_is}
use Rattle.rx_net.proofs.NoFault.{limit_is, inputs_none, terms_none, jobs_none, outputs_none, none_from_output, legal_from_none}
use Rattle.rx_net.proofs.Bounded.{bounded_from_legal}

-- ---- outputs stay lawful where cells and degrees stay
cells_stay : (count more : ℕ) (old new : ℕ → ℕ) (most : ℕ) (cs : List ℕ) → count ≤ more → ((c : ℕ) → c < count → new c ≡ old c)
    → are_cells count old most cs ≡ true → are_cells more new most cs ≡ true
cells_stay count more old new most cs g s h =
    let test = λ (c : ℕ). nat_lt c count && nat_le (old c) most in
    let test' = λ (c : ℕ). nat_lt c more && nat_le (new c) most in
    test_from_all test' (λ c. test c ≡ true) (λ c p.
    let b = and_parts (nat_lt c count) (nat_le (old c) most) p in
    let l : c < count = nat_lt_yes c count b.0 in
    let d : old c ≤ most = nat_le_yes (old c) most b.1 in
    let e : new c ≡ old c = s c l in
    ap (λ b. b && nat_le (new c) most) (nat_lt_is c more (omega arith)) ∙ nat_le_is (new c) most (omega arith))
    cs (all_from_test test (λ c. test c ≡ true) (λ c p. p) cs h)

output_stays : (space count more : ℕ) (old new : ℕ → ℕ) → count ≤ more → ((c : ℕ) → c < count → new c ≡ old c)
    → (before : List NetOutput) (o : NetOutput) → IsTrue (is_output space count old before o) → IsTrue (is_output space more new before o)
output_stays space count more old new g s before o h =
    let most : ℕ = greatest o.kind space in
    let a = and_parts (is_form space o.kind o.bits) ((length o.cells == block_count o.kind space o.bits) && (not (names_output o.name before) && are_cells count old most o.cells)) h in
    let b = and_parts (length o.cells == block_count o.kind space o.bits) (not (names_output o.name before) && are_cells count old most o.cells) a.1 in
    let d = and_parts (not (names_output o.name before)) (are_cells count old most o.cells) b.1 in
    ap (λ x. x && ((length o.cells == block_count o.kind space o.bits) && (not (names_output o.name before) && are_cells more new most o.cells))) a.0
    ∙ ap (λ x. x && (not (names_output o.name before) && are_cells more new most o.cells)) b.0
    ∙ ap (λ x. x && are_cells more new most o.cells) d.0
    ∙ cells_stay count more old new most o.cells g s d.1

outputs_stay : (space count more : ℕ) (old new : ℕ → ℕ) → count ≤ more → ((c : ℕ) → c < count → new c ≡ old c)
    → (before os : List NetOutput) → InTurn (λ before o. IsTrue (is_output space count old before o)) before os → first_in_turn (output_fault space more new) before os ≡ None
outputs_stay space count more old new g s before os h =
    none_from_turn (output_fault space more new) (λ before o. IsTrue (is_output space count old before o))
    (λ before o t. none_from_output space more new before o (output_stays space count more old new g s before o t)) before os h

-- ---- one input more
input_count_more : (space : ℕ) (is : List NetInput) (i : NetInput) → input_cells space is ≤ input_cells space (is ++ i ∷ [])
unfolding input_cells
input_count_more space [] i = omega arith
input_count_more space (x ∷ xs) i = omega (arith, input_count_more space xs i)

input_cell_count : (net : Net) (i : NetInput) → cell_count net ≤ cell_count (with_input net i)
unfolding cell_count
input_cell_count net i = omega (arith, input_count_more net.space net.inputs i)

input_degrees : (net : Net) (i : NetInput) → net.jobs ≡ [] → (c : ℕ) → c < cell_count net → degree (with_input net i) c ≡ degree net c
unfolding degree degrees_after cell_count laid
input_degrees net i e c p =
    let ds : List ℕ = given net.space (λ i. i.degree) net.inputs in
    let l : c < length ds = omega (arith, length-given net.space (λ i. i.degree) net.inputs, ap (λ (js : List Job). length js) e) in
    let jobs = λ (js : List Job). get_or (laid declared_degree (given net.space (λ i. i.degree) (net.inputs ++ i ∷ [])) js) c 0 in
    let olds = λ (js : List Job). get_or (laid declared_degree ds js) c 0 in
    ap jobs e ∙ ap (λ l. get_or l c 0) (given-append net.space (λ i. i.degree) net.inputs (i ∷ [])) ∙ get_or_append_left ds (given net.space (λ i. i.degree) (i ∷ [])) 0 c l ∙ sym (ap olds e)

three_last : (a b : Option NetFault) → option_or (option_or a (option_or b None)) None ≡ option_or a b
three_last None None = refl
three_last None (Some g) = refl
three_last (Some f) b = refl

pub input_first : (net : Net) (i : NetInput) → Legal net → net.jobs ≡ []
    → fault_of (with_input net i) ≡ option_or (limit (nat_le (length net.inputs + 1) 64) 2 (length net.inputs + 1)) (input_fault net.space net.inputs i)
unfolding fault_of limit_fault
input_first net i l e =
    let n : length (net.inputs ++ i ∷ []) ≡ length net.inputs + 1 = length-append net.inputs (i ∷ []) in
    let w : WithinLimits net = l.limits in
    let more : List NetInput = net.inputs ++ i ∷ [] in
    let t : first_in_turn (input_fault net.space) [] more ≡ input_fault net.space net.inputs i = turn_last (input_fault net.space) [] net.inputs i (inputs_none net w) in
    let j : first_in_turn (job_fault net.space more) [] net.jobs ≡ None = ap (first_in_turn (job_fault net.space more) []) e in
    let o : first_in_turn (output_fault net.space (cell_count (with_input net i)) (degree (with_input net i))) [] net.outputs ≡ None =
    outputs_stay net.space (cell_count net) (cell_count (with_input net i)) (degree net) (degree (with_input net i)) (input_cell_count net i) (input_degrees net i e) [] net.outputs l.outputs in
    let count : Option NetFault = limit (nat_le (length net.inputs + 1) 64) 2 (length net.inputs + 1) in
    rw (
      limit_is ((net.space == 2) || (net.space == 3)) 1 net.space (two_or_three net.space w.space),
      n,
      t,
      limit_is (nat_le (length net.jobs) 65536) 4 (length net.jobs) (nat_le_is (length net.jobs) 65536 w.few_jobs),
      terms_none net w,
      limit_is (nat_le (length net.outputs) 64) 6 (length net.outputs) (nat_le_is (length net.outputs) 64 w.few_outputs),
      j,
      o,
    ) (three_last count (input_fault net.space net.inputs i))

-- ---- one job more
new_job_fault : (net : Net) (ts : List Term) (k : ℤ) (table : List ℕ) → job_fault net.space net.inputs net.jobs (new_job net ts k table) ≡ new_fault net.space net.inputs net.jobs ts k table
unfolding job_fault degree
new_job_fault net ts k table =
    let r : ℕ = reached (λ c. get_or (degrees_after net.space net.inputs net.jobs) c 0) ts k table in
    ap (option_or (new_fault net.space net.inputs net.jobs ts k table)) (passes (r == r) (Degree (length net.jobs) r r) [] (eq-eqb r r refl))
    ∙ of_last (new_fault net.space net.inputs net.jobs ts k table)

job_cell_count : (net : Net) (j : Job) → cell_count (record net { jobs = net.jobs ++ j ∷ [] }) ≡ suc (cell_count net)
unfolding cell_count
job_cell_count net j = omega (arith, length-append net.jobs (j ∷ []))

job_degrees : (net : Net) (j : Job) (c : ℕ) → c < cell_count net → degree (record net { jobs = net.jobs ++ j ∷ [] }) c ≡ degree net c
unfolding degree degrees_after cell_count
job_degrees net j c p = laid_kept declared_degree (given net.space (λ i. i.degree) net.inputs) net.jobs j 0 c (omega (arith, length-given net.space (λ i. i.degree) net.inputs))

job_noises : (net : Net) (j : Job) (c : ℕ) → c < cell_count net → noise (record net { jobs = net.jobs ++ j ∷ [] }) c ≡ noise net c
unfolding noise noises_after cell_count
job_noises net j c p = laid_kept unit_noise (given net.space (λ i. i.noise) net.inputs) net.jobs j 0 c (omega (arith, length-given net.space (λ i. i.noise) net.inputs))

job_depths : (net : Net) (j : Job) (c : ℕ) → c < cell_count net → depth (record net { jobs = net.jobs ++ j ∷ [] }) c ≡ depth net c
unfolding depth depths_after cell_count
job_depths net j c p = laid_kept one_deeper (given net.space (λ i. 0) net.inputs) net.jobs j 0 c (omega (arith, length-given net.space (λ i. 0) net.inputs))

job_values : (net : Net) (j : Job) (xs : List ℕ) → Within net.space net.inputs xs → (c : ℕ) → c < cell_count net → value (record net { jobs = net.jobs ++ j ∷ [] }) xs c ≡ value net xs c
unfolding value values_after cell_count
job_values net j xs w c p = laid_kept job_value xs net.jobs j 0 c (omega (arith, w.count))

job_extends : (net : Net) (j : Job) → Extends net (record net { jobs = net.jobs ++ j ∷ [] })
job_extends net j = record {
  space = refl;
  inputs = refl;
  outputs = refl;
  jobs = take-append_seam net.jobs (j ∷ []);
  cells_grow = omega (arith, job_cell_count net j);
  jobs_grow = omega (arith, job_cell_count net j, length-append net.jobs (j ∷ []));
  degrees = job_degrees net j;
  noises = job_noises net j;
  depths = job_depths net j;
  values = job_values net j;
}

new_degree : (net : Net) (j : Job) → degree (record net { jobs = net.jobs ++ j ∷ [] }) (cell_count net) ≡ j.degree
unfolding degree degrees_after cell_count
new_degree net j = laid_new declared_degree (given net.space (λ i. i.degree) net.inputs) net.jobs j 0 (input_cells net.space net.inputs + length net.jobs) (omega (arith, length-given net.space (λ i. i.degree) net.inputs))

new_noise : (net : Net) (j : Job) → noise (record net { jobs = net.jobs ++ j ∷ [] }) (cell_count net) ≡ 1
unfolding noise noises_after cell_count
new_noise net j = laid_new unit_noise (given net.space (λ i. i.noise) net.inputs) net.jobs j 0 (input_cells net.space net.inputs + length net.jobs) (omega (arith, length-given net.space (λ i. i.noise) net.inputs))

new_depth : (net : Net) (j : Job) → depth (record net { jobs = net.jobs ++ j ∷ [] }) (cell_count net) ≡ suc (greatest_of (map (λ t. depth net t.cell) j.terms))
unfolding depth depths_after cell_count one_deeper
new_depth net j = laid_new one_deeper (given net.space (λ i. 0) net.inputs) net.jobs j 0 (input_cells net.space net.inputs + length net.jobs) (omega (arith, length-given net.space (λ i. 0) net.inputs))

new_value : (net : Net) (j : Job) (xs : List ℕ) → Within net.space net.inputs xs
    → value (record net { jobs = net.jobs ++ j ∷ [] }) xs (cell_count net) ≡ get_or j.table (natural (value_of (value net xs) j.constant j.terms)) 0
unfolding value values_after cell_count job_value
new_value net j xs w = laid_new job_value xs net.jobs j 0 (input_cells net.space net.inputs + length net.jobs) (omega (arith, w.count))

-- the whole of what a lawful job adds
pub job_adds : (net : Net) (ts : List Term) (k : ℤ) (table : List ℕ) (c : ℕ) → Legal (with_job net ts k table) → c ≡ cell_count net → AddsJob net (with_job net ts k table) c ts k table
job_adds net ts k table c l e =
    let j : Job = new_job net ts k table in
    let new : Net = with_job net ts k table in
    record {
      extends = job_extends net j;
      cell = e;
      count = job_cell_count net j;
      degree_is = ap (degree new) e ∙ new_degree net j;
      noise_is = ap (noise new) e ∙ new_noise net j;
      depth_is = ap (depth new) e ∙ new_depth net j;
      value_is = λ xs w. ap (value new xs) e ∙ new_value net j xs w;
      bounded = bounded_from_legal new l;
    }

three_parts : (a b d : Option NetFault) → option_or (option_or a (option_or b None)) (option_or d None) ≡ option_or a (option_or b d)
three_parts None None d = of_last d
three_parts None (Some g) d = refl
three_parts (Some f) b d = refl

job_limits : (net : Net) (j : Job) → WithinLimits net → (b : Option NetFault) → first_in_turn terms_fault [] (net.jobs ++ j ∷ []) ≡ b
    → limit_fault net.space net.inputs (net.jobs ++ j ∷ []) net.outputs ≡ option_or (limit (nat_le (length net.jobs + 1) 65536) 4 (length net.jobs + 1)) (option_or b None)
unfolding limit_fault
job_limits net j w b t =
    let n : length (net.jobs ++ j ∷ []) ≡ length net.jobs + 1 = length-append net.jobs (j ∷ []) in
    rw (
      limit_is ((net.space == 2) || (net.space == 3)) 1 net.space (two_or_three net.space w.space),
      limit_is (nat_le (length net.inputs) 64) 2 (length net.inputs) (nat_le_is (length net.inputs) 64 w.few_inputs),
      inputs_none net w,
      n,
      t,
      limit_is (nat_le (length net.outputs) 64) 6 (length net.outputs) (nat_le_is (length net.outputs) 64 w.few_outputs),
    ) refl

pub job_first : (net : Net) (ts : List Term) (k : ℤ) (table : List ℕ) → Legal net
    → fault_of (with_job net ts k table) ≡ option_or (limit (nat_le (length net.jobs + 1) 65536) 4 (length net.jobs + 1))
    (option_or (limit (nat_le (length ts) 16) 5 (length net.jobs)) (new_fault net.space net.inputs net.jobs ts k table))
unfolding fault_of limit_fault
job_first net ts k table l =
    let j : Job = new_job net ts k table in
    let new : Net = with_job net ts k table in
    let n : length (net.jobs ++ j ∷ []) ≡ length net.jobs + 1 = length-append net.jobs (j ∷ []) in
    let w : WithinLimits net = l.limits in
    let t : first_in_turn terms_fault [] (net.jobs ++ j ∷ []) ≡ limit (nat_le (length ts) 16) 5 (length net.jobs) = turn_last terms_fault [] net.jobs j (terms_none net w) in
    let f : first_in_turn (job_fault net.space net.inputs) [] (net.jobs ++ j ∷ []) ≡ new_fault net.space net.inputs net.jobs ts k table =
    turn_last (job_fault net.space net.inputs) [] net.jobs j (jobs_none net l) ∙ new_job_fault net ts k table in
    let o : first_in_turn (output_fault net.space (cell_count new) (degree new)) [] net.outputs ≡ None =
    outputs_stay net.space (cell_count net) (cell_count new) (degree net) (degree new) (omega (arith, job_cell_count net j)) (job_degrees net j) [] net.outputs l.outputs in
    let a : Option NetFault = limit (nat_le (length net.jobs + 1) 65536) 4 (length net.jobs + 1) in
    let b : Option NetFault = limit (nat_le (length ts) 16) 5 (length net.jobs) in
    let d : Option NetFault = new_fault net.space net.inputs net.jobs ts k table in
    let heads : limit_fault net.space net.inputs (net.jobs ++ j ∷ []) net.outputs ≡ option_or a (option_or b None) =
    job_limits net j w b t in
    ap (λ x. option_or x (option_or (first_in_turn (job_fault net.space net.inputs) [] (net.jobs ++ j ∷ [])) (first_in_turn (output_fault net.space (cell_count new) (degree new)) [] net.outputs))) heads
    ∙ ap (λ x. option_or (option_or a (option_or b None)) (option_or x (first_in_turn (output_fault net.space (cell_count new) (degree new)) [] net.outputs))) f
    ∙ ap (λ x. option_or (option_or a (option_or b None)) (option_or d x)) o
    ∙ three_parts a b d

-- ---- one output more
pub output_first : (net : Net) (o : NetOutput) → Legal net
    → fault_of (with_output net o) ≡ option_or (limit (nat_le (length net.outputs + 1) 64) 6 (length net.outputs + 1)) (output_fault net.space (cell_count net) (degree net) net.outputs o)
unfolding fault_of limit_fault cell_count degree
output_first net o l =
    let n : length (net.outputs ++ o ∷ []) ≡ length net.outputs + 1 = length-append net.outputs (o ∷ []) in
    let w : WithinLimits net = l.limits in
    let t : first_in_turn (output_fault net.space (cell_count net) (degree net)) [] (net.outputs ++ o ∷ []) ≡ output_fault net.space (cell_count net) (degree net) net.outputs o =
    turn_last (output_fault net.space (cell_count net) (degree net)) [] net.outputs o (outputs_none net l) in
    rw (
      limit_is ((net.space == 2) || (net.space == 3)) 1 net.space (two_or_three net.space w.space),
      limit_is (nat_le (length net.inputs) 64) 2 (length net.inputs) (nat_le_is (length net.inputs) 64 w.few_inputs),
      inputs_none net w,
      limit_is (nat_le (length net.jobs) 65536) 4 (length net.jobs) (nat_le_is (length net.jobs) 65536 w.few_jobs),
      terms_none net w,
      n,
      jobs_none net l,
      t,
    ) refl

-- ---- the tests of a pen, over the lists of its net as they were lent
lt_is_le : (a b : ℕ) → nat_le (a + 1) b ≡ nat_lt a b
lt_is_le a b = ap (λ n. nat_le n b) (add-one a)

module _ (net : Net) (i : NetInput) (l : Legal net) (j : net.jobs ≡ []) (is : List NetInput) (e : is ≡ net.inputs) where
  input_is : fault_of (with_input net i) ≡ option_or (limit (nat_lt (length is) 64) 2 (length is + 1)) (input_fault net.space is i)
  input_is = input_first net i l j
      ∙ ap (λ b. option_or (limit b 2 (length net.inputs + 1)) (input_fault net.space net.inputs i)) (lt_is_le (length net.inputs) 64)
      ∙ ap (λ is. option_or (limit (nat_lt (length is) 64) 2 (length is + 1)) (input_fault net.space is i)) (sym e)

  pub input_many : (x : NetFault) → limit (nat_lt (length is) 64) 2 (length is + 1) ≡ Some x → fault_of (with_input net i) ≡ Some x
  input_many x h = input_is ∙ of_some (limit (nat_lt (length is) 64) 2 (length is + 1)) (input_fault net.space is i) x h

  pub input_tested : limit (nat_lt (length is) 64) 2 (length is + 1) ≡ None → (b : Bool) → b ≡ is_input net.space is i → limit b 3 (length is) ≡ fault_of (with_input net i)
  input_tested h b t = ap (λ b. limit b 3 (length is)) t ∙ sym (input_is ∙ of_none (limit (nat_lt (length is) 64) 2 (length is + 1)) (input_fault net.space is i) h)

module _ (net : Net) (l : Legal net) (ts : List Term) (k : ℤ) (table : List ℕ) (is : List NetInput) (js : List Job) (e : is ≡ net.inputs) (f : js ≡ net.jobs) where
  rest_is : Option NetFault
  rest_is = option_or (limit (nat_le (length ts) 16) 5 (length js)) (new_fault net.space is js ts k table)

  job_is : fault_of (with_job net ts k table) ≡ option_or (limit (nat_lt (length js) 65536) 4 (length js + 1)) rest_is
  unfolding rest_is
  job_is = job_first net ts k table l
      ∙ ap (λ b. option_or (limit b 4 (length net.jobs + 1)) (option_or (limit (nat_le (length ts) 16) 5 (length net.jobs)) (new_fault net.space net.inputs net.jobs ts k table))) (lt_is_le (length net.jobs) 65536)
      ∙ ap (λ js. option_or (limit (nat_lt (length js) 65536) 4 (length js + 1)) (option_or (limit (nat_le (length ts) 16) 5 (length js)) (new_fault net.space net.inputs js ts k table))) (sym f)
      ∙ ap (λ is. option_or (limit (nat_lt (length js) 65536) 4 (length js + 1)) (option_or (limit (nat_le (length ts) 16) 5 (length js)) (new_fault net.space is js ts k table))) (sym e)

  pub job_many : (x : NetFault) → limit (nat_lt (length js) 65536) 4 (length js + 1) ≡ Some x → fault_of (with_job net ts k table) ≡ Some x
  job_many x h = job_is ∙ of_some (limit (nat_lt (length js) 65536) 4 (length js + 1)) rest_is x h

  pub job_long : limit (nat_lt (length js) 65536) 4 (length js + 1) ≡ None → (x : NetFault) → limit (nat_le (length ts) 16) 5 (length js) ≡ Some x → fault_of (with_job net ts k table) ≡ Some x
  unfolding rest_is
  job_long h x g = job_is ∙ of_none (limit (nat_lt (length js) 65536) 4 (length js + 1)) rest_is h
      ∙ of_some (limit (nat_le (length ts) 16) 5 (length js)) (new_fault net.space is js ts k table) x g

  pub job_tested : limit (nat_lt (length js) 65536) 4 (length js + 1) ≡ None → limit (nat_le (length ts) 16) 5 (length js) ≡ None
      → new_fault net.space is js ts k table ≡ fault_of (with_job net ts k table)
  unfolding rest_is
  job_tested h g = sym (job_is ∙ of_none (limit (nat_lt (length js) 65536) 4 (length js + 1)) rest_is h
      ∙ of_none (limit (nat_le (length ts) 16) 5 (length js)) (new_fault net.space is js ts k table) g)

  pub degrees_lent : (λ (c : ℕ). get_or (degrees_after net.space is js) c 0) ≡ degree net
  unfolding degree
  degrees_lent = ap (λ is. λ (c : ℕ). get_or (degrees_after net.space is js) c 0) e ∙ ap (λ js. λ (c : ℕ). get_or (degrees_after net.space net.inputs js) c 0) f

module _ (net : Net) (l : Legal net) (o : NetOutput) (os : List NetOutput) (e : os ≡ net.outputs) where
  output_is : fault_of (with_output net o) ≡ option_or (limit (nat_lt (length os) 64) 6 (length os + 1)) (output_fault net.space (cell_count net) (degree net) os o)
  output_is = output_first net o l
      ∙ ap (λ b. option_or (limit b 6 (length net.outputs + 1)) (output_fault net.space (cell_count net) (degree net) net.outputs o)) (lt_is_le (length net.outputs) 64)
      ∙ ap (λ os. option_or (limit (nat_lt (length os) 64) 6 (length os + 1)) (output_fault net.space (cell_count net) (degree net) os o)) (sym e)

  pub output_many : (x : NetFault) → limit (nat_lt (length os) 64) 6 (length os + 1) ≡ Some x → fault_of (with_output net o) ≡ Some x
  output_many x h = output_is ∙ of_some (limit (nat_lt (length os) 64) 6 (length os + 1)) (output_fault net.space (cell_count net) (degree net) os o) x h

  output_on : limit (nat_lt (length os) 64) 6 (length os + 1) ≡ None → fault_of (with_output net o) ≡ output_fault net.space (cell_count net) (degree net) os o
  output_on h = output_is ∙ of_none (limit (nat_lt (length os) 64) 6 (length os + 1)) (output_fault net.space (cell_count net) (degree net) os o) h

  pub output_fine : limit (nat_lt (length os) 64) 6 (length os + 1) ≡ None → (b : Bool) → b ≡ is_output net.space (cell_count net) (degree net) os o → b ≡ true
      → fault_of (with_output net o) ≡ None
  output_fine h b t p = output_on h ∙ passes (is_output net.space (cell_count net) (degree net) os o) (Output (length os)) [] (sym t ∙ p)

  pub output_wrong : limit (nat_lt (length os) 64) 6 (length os + 1) ≡ None → (b : Bool) → b ≡ is_output net.space (cell_count net) (degree net) os o → b ≡ false
      → fault_of (with_output net o) ≡ Some (Output (length os))
  output_wrong h b t p = output_on h ∙ fails (is_output net.space (cell_count net) (degree net) os o) (Output (length os)) [] (sym t ∙ p)

-- ---- a net to whose jobs one was added
module _ (net : Net) (ts : List Term) (z : ℤ) (table : List ℕ) (d : ℕ) (new : Net) (e : new ≡ record net { jobs = net.jobs ++ record { terms = ts; constant = z; table = table; degree = d } ∷ [] })
    (f : d ≡ reached (degree net) ts z table) where
  pub added_is : new ≡ with_job net ts z table
  added_is = e ∙ ap (λ d. record net { jobs = net.jobs ++ record { terms = ts; constant = z; table = table; degree = d } ∷ [] }) f

  pub added_legal : fault_of (with_job net ts z table) ≡ None → Legal new
  added_legal n = subst (λ (new : Net). Legal new) (sym added_is) (legal_from_none (with_job net ts z table) n)

  -- as the caller names the net and the constant
  pub added_adds : fault_of (with_job net ts z table) ≡ None → (c : ℕ) → c ≡ cell_count net → (old : Net) → net ≡ old → (k : ℤ) → z ≡ k → AddsJob old new c ts k table
  added_adds n c p old v k q =
      let a : AddsJob net (with_job net ts z table) c ts z table = job_adds net ts z table c (legal_from_none (with_job net ts z table) n) p in
      let b : AddsJob net new c ts z table = subst (λ (m : Net). AddsJob net m c ts z table) (sym added_is) a in
      let g : AddsJob net new c ts k table = subst (λ (k : ℤ). AddsJob net new c ts k table) q b in
      subst (λ (o : Net). AddsJob o new c ts k table) v g

pub fits_fault : (net : Net) (ts : List Term) (k : ℤ) (table : List ℕ) → Legal net → length net.jobs < 65536 → length ts ≤ 16
    → JobFits net.space (cell_count net) (degree net) (noise net) ts k table → fault_of (with_job net ts k table) ≡ None
unfolding degree noise cell_count new_fault
fits_fault net ts k table l room few f =
    let new : Option NetFault = new_fault net.space net.inputs net.jobs ts k table in
    job_first net ts k table l
    ∙ of_none (limit (nat_le (length net.jobs + 1) 65536) 4 (length net.jobs + 1)) (option_or (limit (nat_le (length ts) 16) 5 (length net.jobs)) new)
    (limit_is (nat_le (length net.jobs + 1) 65536) 4 (length net.jobs + 1) (nat_le_is (length net.jobs + 1) 65536 (omega arith)))
    ∙ of_none (limit (nat_le (length ts) 16) 5 (length net.jobs)) new (limit_is (nat_le (length ts) 16) 5 (length net.jobs) (nat_le_is (length ts) 16 few))
    ∙ none_from_fits net.space (length net.jobs) (input_cells net.space net.inputs + length net.jobs) (λ c. get_or (degrees_after net.space net.inputs net.jobs) c 0)
    (λ c. get_or (noises_after net.space net.inputs net.jobs) c 0) ts k table f
