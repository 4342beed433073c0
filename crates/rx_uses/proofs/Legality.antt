-- What use lists and boards want of a net, from its legality.
use Rattle.std.proofs.Common.{◌≡◌, ℕ, zero, suc, ◌+◌, ◌^◌, ◌<◌, ◌≤◌, List, [], ◌∷◌, length, get_or, take, length-take-le, sym, refl, ap, ◌∙◌, subst, arith}
use Rattle.std.specs.List.{AllByRecursion}
use Rattle.rx_net.specs.declared.term.Term.{Term}
use Rattle.rx_net.specs.declared.net.Job.{Job}
use Rattle.rx_net.specs.declared.net.Net.{Net}
use Rattle.rx_net.specs.Limits.{most_terms}
use Rattle.rx_net.specs.Cells.{input_cells}
use Rattle.rx_net.specs.Legal.{IsJob, Legal}
use Rattle.rx_net.proofs.Faults.{turn_at}
use Rattle.rx_net.proofs.Limits.{few_input_cells}
use Rattle.rx_uses.specs.Cells.{terms_at, table_at, IsJobAt, Forward}

-- what holds of every legal net
pub record Lawful (net : Net) : Type 0 where
  pub forward : Forward (input_cells net.space net.inputs) net.jobs
  pub few : (j : ℕ) → j < length net.jobs → length (terms_at net.jobs j) ≤ 16
  pub jobs : length net.jobs ≤ 65536
  pub inputs : input_cells net.space net.inputs ≤ 2048
  pub cells : input_cells net.space net.inputs + length net.jobs ≤ 4294967295
  pub tables : (j : ℕ) → j < length net.jobs → length (table_at net.jobs j) ≡ 4 ^ net.space

-- a number below the count is that of a job
pub job_of : (jobs : List Job) (j : ℕ) → j < length jobs → (x : Job) × IsJobAt jobs j x
job_of [] j l = absurd (omega arith)
job_of (x ∷ xs) zero l = (x, (refl, refl, refl))
job_of (x ∷ xs) (suc j) l = let h = job_of xs j (omega arith) in (h.0, (h.1.0, h.1.1, h.1.2))

-- what a read of the jobs gives
pub job_at : (jobs : List Job) (j : ℕ) (x : Job) → j < length jobs → x ≡ get_or jobs j x → IsJobAt jobs j x
job_at [] j x l e = absurd (omega arith)
job_at (y ∷ ys) zero x l e = (ap (λ (z : Job). z.terms) (sym e), e, ap (λ (z : Job). z.table) (sym e))
job_at (y ∷ ys) (suc j) x l e = let h = job_at ys j x (omega arith) e in (h.0, e, h.2)

-- what holds of each term holds of the term at a place
term_at : (P : Term → Type 0) (ts : List Term) (k : ℕ) (d : Term) → k < length ts → AllByRecursion P ts → P (get_or ts k d)
term_at P [] k d l all = absurd (omega arith)
term_at P (t ∷ ts) zero d l all = all.0
term_at P (t ∷ ts) (suc k) d l all = term_at P ts k d (omega arith) all.1

follows : (net : Net) → Legal net → (j : ℕ) (x : Job) → j < length net.jobs → IsJobAt net.jobs j x → IsJob net.space net.inputs (take j net.jobs) x
follows net legal j x l is = turn_at (IsJob net.space net.inputs) [] net.jobs legal.jobs j x l is.1

pub lawful : (net : Net) → Legal net → Lawful net
lawful net legal = record {
  forward = λ j k d l m. let x = job_of net.jobs j l in let f = follows net legal j x.0 l x.1 in
      let n : length (take j net.jobs) ≡ j = length-take-le j net.jobs (omega arith) in
      let m' : k < length x.0.terms = subst (λ (ts : List Term). k < length ts) x.1.0 m in
      let here : (get_or x.0.terms k d).cell < input_cells net.space net.inputs + length (take j net.jobs)
      = term_at (λ t. t.cell < input_cells net.space net.inputs + length (take j net.jobs)) x.0.terms k d m' f.fits.forward in
      subst (λ (ts : List Term). (get_or ts k d).cell < input_cells net.space net.inputs + j) (sym x.1.0)
      (subst (λ (i : ℕ). (get_or x.0.terms k d).cell < input_cells net.space net.inputs + i) n here);
  few = λ j l. let x = job_of net.jobs j l in
      subst (λ (ts : List Term). length ts ≤ 16) (sym x.1.0)
      (turn_at (λ before (y : Job). length y.terms ≤ most_terms) [] net.jobs legal.limits.few_terms j x.0 l x.1.1);
  jobs = legal.limits.few_jobs;
  inputs = few_input_cells net legal.limits;
  cells = omega (arith, few_input_cells net legal.limits, legal.limits.few_jobs);
  tables = λ j l. let x = job_of net.jobs j l in let f = follows net legal j x.0 l x.1 in
      ap length x.1.2 ∙ f.fits.table_count;
}
