-- A net is legal exactly where it has no first fault.
use Rattle.std.proofs.Common.{◌≡◌, ℕ, ◌≤◌, ◌⊎◌, List, [], length, Bool, true, refl, sym, ◌∙◌, ap, Option, Some, None, Result, Ok, Err}
use Rattle.std.specs.Prelude.{◌||◌, ◌==◌, nat_le, IsTrue}
use Rattle.std.specs.Result.{IsOk}
use Rattle.std.specs.Option.{option_or}
use Rattle.rx_params.specs.Acceptance.{answered}
use Rattle.rx_params.proofs.Refusals.{two_or_three, two_or_three-is}
use Rattle.rx_net.specs.declared.net.Job.{Job}
use Rattle.rx_net.specs.declared.net.NetInput.{NetInput}
use Rattle.rx_net.specs.declared.net.NetOutput.{NetOutput}
use Rattle.rx_net.specs.declared.net.Net.{Net}
use Rattle.rx_net.specs.declared.fault.NetFault.{NetFault}
use Rattle.rx_net.specs.declared.fault.NetFault.TheVariants.{Limit, Output}
use Rattle.rx_net.specs.Cells.{cell_count, degree}
use Rattle.rx_net.specs.Legal.{IsJob, is_input, is_output, WithinLimits, Legal}
use Rattle.rx_net.specs.Faults.{first_in_turn, input_fault, terms_fault, job_fault, output_fault, limit, limit_fault, fault_of, TellsFault}
use Rattle.rx_net.proofs.Faults.{both_none, of_none, of_some, none_fails, passes, turn_from_none, none_from_turn}
use Rattle.rx_net.proofs.Fits.{job_from_none, none_from_job, nat_le_yes, nat_le_is}

input_from_none : (space : ℕ) (before : List NetInput) (i : NetInput) → input_fault space before i ≡ None → IsTrue (is_input space before i)
input_from_none space before i e = (none_fails (is_input space before i) (Limit 3 (length before)) [] e).0

none_from_input : (space : ℕ) (before : List NetInput) (i : NetInput) → IsTrue (is_input space before i) → input_fault space before i ≡ None
none_from_input space before i h = passes (is_input space before i) (Limit 3 (length before)) [] h

terms_from_none : (before : List Job) (j : Job) → terms_fault before j ≡ None → length j.terms ≤ 16
terms_from_none before j e = nat_le_yes (length j.terms) 16 (none_fails (nat_le (length j.terms) 16) (Limit 5 (length before)) [] e).0

none_from_terms : (before : List Job) (j : Job) → length j.terms ≤ 16 → terms_fault before j ≡ None
none_from_terms before j h = passes (nat_le (length j.terms) 16) (Limit 5 (length before)) [] (nat_le_is (length j.terms) 16 h)

output_from_none : (space count : ℕ) (degree : ℕ → ℕ) (before : List NetOutput) (o : NetOutput) → output_fault space count degree before o ≡ None → IsTrue (is_output space count degree before o)
output_from_none space count degree before o e = (none_fails (is_output space count degree before o) (Output (length before)) [] e).0

pub none_from_output : (space count : ℕ) (degree : ℕ → ℕ) (before : List NetOutput) (o : NetOutput) → IsTrue (is_output space count degree before o) → output_fault space count degree before o ≡ None
none_from_output space count degree before o h = passes (is_output space count degree before o) (Output (length before)) [] h

limit_yes : (holds : Bool) (field value : ℕ) → limit holds field value ≡ None → holds ≡ true
limit_yes holds field value e = (none_fails holds (Limit field value) [] e).0

pub space_from_none : (space : ℕ) → limit ((space == 2) || (space == 3)) 1 space ≡ None → (space ≡ 2) ⊎ (space ≡ 3)
space_from_none space e = two_or_three-is space (limit_yes ((space == 2) || (space == 3)) 1 space e)

-- the parts of the limits
abbrev jobs_on : List Job → List NetOutput → Option NetFault
jobs_on jobs outputs = option_or (limit (nat_le (length jobs) 65536) 4 (length jobs)) (option_or (first_in_turn terms_fault [] jobs) (limit (nat_le (length outputs) 64) 6 (length outputs)))

abbrev inputs_on : ℕ → List NetInput → List Job → List NetOutput → Option NetFault
inputs_on space inputs jobs outputs = option_or (first_in_turn (input_fault space) [] inputs) (jobs_on jobs outputs)

pub limits_from_none : (net : Net) → limit_fault net.space net.inputs net.jobs net.outputs ≡ None → WithinLimits net
unfolding limit_fault
limits_from_none net e =
    let a = both_none (limit ((net.space == 2) || (net.space == 3)) 1 net.space) (option_or (limit (nat_le (length net.inputs) 64) 2 (length net.inputs)) (inputs_on net.space net.inputs net.jobs net.outputs)) e in
    let b = both_none (limit (nat_le (length net.inputs) 64) 2 (length net.inputs)) (inputs_on net.space net.inputs net.jobs net.outputs) a.1 in
    let d = both_none (first_in_turn (input_fault net.space) [] net.inputs) (jobs_on net.jobs net.outputs) b.1 in
    let g = both_none (limit (nat_le (length net.jobs) 65536) 4 (length net.jobs)) (option_or (first_in_turn terms_fault [] net.jobs) (limit (nat_le (length net.outputs) 64) 6 (length net.outputs))) d.1 in
    let h = both_none (first_in_turn terms_fault [] net.jobs) (limit (nat_le (length net.outputs) 64) 6 (length net.outputs)) g.1 in
    record {
      space = space_from_none net.space a.0;
      few_inputs = nat_le_yes (length net.inputs) 64 (limit_yes (nat_le (length net.inputs) 64) 2 (length net.inputs) b.0);
      inputs = turn_from_none (input_fault net.space) (λ before i. IsTrue (is_input net.space before i)) (input_from_none net.space) [] net.inputs d.0;
      few_jobs = nat_le_yes (length net.jobs) 65536 (limit_yes (nat_le (length net.jobs) 65536) 4 (length net.jobs) g.0);
      few_terms = turn_from_none terms_fault (λ before (j : Job). length j.terms ≤ 16) terms_from_none [] net.jobs h.0;
      few_outputs = nat_le_yes (length net.outputs) 64 (limit_yes (nat_le (length net.outputs) 64) 6 (length net.outputs) h.1);
    }

pub limit_is : (holds : Bool) (field value : ℕ) → holds ≡ true → limit holds field value ≡ None
limit_is holds field value e = passes holds (Limit field value) [] e

pub inputs_none : (net : Net) → WithinLimits net → first_in_turn (input_fault net.space) [] net.inputs ≡ None
inputs_none net w = none_from_turn (input_fault net.space) (λ before i. IsTrue (is_input net.space before i)) (none_from_input net.space) [] net.inputs w.inputs

pub terms_none : (net : Net) → WithinLimits net → first_in_turn terms_fault [] net.jobs ≡ None
terms_none net w = none_from_turn terms_fault (λ before (j : Job). length j.terms ≤ 16) none_from_terms [] net.jobs w.few_terms

pub none_from_limits : (net : Net) → WithinLimits net → limit_fault net.space net.inputs net.jobs net.outputs ≡ None
unfolding limit_fault
none_from_limits net w = rw (
  limit_is ((net.space == 2) || (net.space == 3)) 1 net.space (two_or_three net.space w.space),
  limit_is (nat_le (length net.inputs) 64) 2 (length net.inputs) (nat_le_is (length net.inputs) 64 w.few_inputs),
  inputs_none net w,
  limit_is (nat_le (length net.jobs) 65536) 4 (length net.jobs) (nat_le_is (length net.jobs) 65536 w.few_jobs),
  terms_none net w,
  limit_is (nat_le (length net.outputs) 64) 6 (length net.outputs) (nat_le_is (length net.outputs) 64 w.few_outputs),
) refl

pub legal_from_none : (net : Net) → fault_of net ≡ None → Legal net
unfolding fault_of
legal_from_none net e =
    let jobs = first_in_turn (job_fault net.space net.inputs) [] net.jobs in
    let outputs = first_in_turn (output_fault net.space (cell_count net) (degree net)) [] net.outputs in
    let a = both_none (limit_fault net.space net.inputs net.jobs net.outputs) (option_or jobs outputs) e in
    let b = both_none jobs outputs a.1 in
    record {
      limits = limits_from_none net a.0;
      jobs = turn_from_none (job_fault net.space net.inputs) (IsJob net.space net.inputs) (job_from_none net.space net.inputs) [] net.jobs b.0;
      outputs = turn_from_none (output_fault net.space (cell_count net) (degree net)) (λ before o. IsTrue (is_output net.space (cell_count net) (degree net) before o))
          (output_from_none net.space (cell_count net) (degree net)) [] net.outputs b.1;
    }

pub jobs_none : (net : Net) → Legal net → first_in_turn (job_fault net.space net.inputs) [] net.jobs ≡ None
jobs_none net l = none_from_turn (job_fault net.space net.inputs) (IsJob net.space net.inputs) (none_from_job net.space net.inputs) [] net.jobs l.jobs

pub outputs_none : (net : Net) → Legal net → first_in_turn (output_fault net.space (cell_count net) (degree net)) [] net.outputs ≡ None
outputs_none net l = none_from_turn (output_fault net.space (cell_count net) (degree net)) (λ before o. IsTrue (is_output net.space (cell_count net) (degree net) before o))
    (none_from_output net.space (cell_count net) (degree net)) [] net.outputs l.outputs

pub none_from_legal : (net : Net) → Legal net → fault_of net ≡ None
unfolding fault_of
none_from_legal net l =
    let jobs = first_in_turn (job_fault net.space net.inputs) [] net.jobs in
    let outputs = first_in_turn (output_fault net.space (cell_count net) (degree net)) [] net.outputs in
    of_none (limit_fault net.space net.inputs net.jobs net.outputs) (option_or jobs outputs) (none_from_limits net l.limits) ∙ of_none jobs outputs (jobs_none net l) ∙ outputs_none net l

-- ---- what the check answers
pub answer_ok : (r : Result (Unit {0}) NetFault) (f : Option NetFault) → TellsFault r f → r ≡ answered f tt
answer_ok (Ok tt) f e = ap (λ fault. answered fault tt) (sym e)
answer_ok (Err x) f e = ap (λ fault. answered fault tt) (sym e)

some_none : (x : NetFault) → Some x ≡ None → ⊥
some_none x e = cc

pub ok_exactly : (net : Net) (r : Result (Unit {0}) NetFault) → TellsFault r (fault_of net) → (IsOk r → Legal net) × (Legal net → IsOk r)
ok_exactly net (Ok x) e = (λ _. legal_from_none net e, λ _. refl)
ok_exactly net (Err x) e = (λ h. let z : ⊥ = cc in absurd z, λ l. let n = none_from_legal net l in absurd (some_none x (sym e ∙ n)))

-- the lists of a net, as they were lent
module _ (net : Net) (is : List NetInput) (js : List Job) (os : List NetOutput) (e : is ≡ net.inputs) (f : js ≡ net.jobs) (g : os ≡ net.outputs) where
  same_limits : limit_fault net.space is js os ≡ limit_fault net.space net.inputs net.jobs net.outputs
  same_limits = ap (λ is. limit_fault net.space is js os) e ∙ ap (λ js. limit_fault net.space net.inputs js os) f ∙ ap (limit_fault net.space net.inputs net.jobs) g

  same_jobs : first_in_turn (job_fault net.space is) [] js ≡ first_in_turn (job_fault net.space net.inputs) [] net.jobs
  same_jobs = ap (λ is. first_in_turn (job_fault net.space is) [] js) e ∙ ap (first_in_turn (job_fault net.space net.inputs) []) f

  jobs_part : Option NetFault
  jobs_part = first_in_turn (job_fault net.space net.inputs) [] net.jobs

  outputs_part : Option NetFault
  outputs_part = first_in_turn (output_fault net.space (cell_count net) (degree net)) [] net.outputs

  pub within : limit_fault net.space is js os ≡ None → WithinLimits net
  within h = limits_from_none net (sym same_limits ∙ h)

  pub limit_stops : (x : NetFault) → limit_fault net.space is js os ≡ Some x → fault_of net ≡ Some x
  unfolding fault_of jobs_part outputs_part
  limit_stops x h = of_some (limit_fault net.space net.inputs net.jobs net.outputs) (option_or jobs_part outputs_part) x (sym same_limits ∙ h)

  pub jobs_stop : (x : NetFault) → limit_fault net.space is js os ≡ None → first_in_turn (job_fault net.space is) [] js ≡ Some x → fault_of net ≡ Some x
  unfolding fault_of jobs_part outputs_part
  jobs_stop x h k = of_none (limit_fault net.space net.inputs net.jobs net.outputs) (option_or jobs_part outputs_part) (sym same_limits ∙ h)
      ∙ of_some jobs_part outputs_part x (sym same_jobs ∙ k)

  pub outputs_left : limit_fault net.space is js os ≡ None → first_in_turn (job_fault net.space is) [] js ≡ None
      → first_in_turn (output_fault net.space (cell_count net) (degree net)) [] net.outputs ≡ fault_of net
  unfolding fault_of jobs_part outputs_part
  outputs_left h k = sym (of_none (limit_fault net.space net.inputs net.jobs net.outputs) (option_or jobs_part outputs_part) (sym same_limits ∙ h)
      ∙ of_none jobs_part outputs_part (sym same_jobs ∙ k))
