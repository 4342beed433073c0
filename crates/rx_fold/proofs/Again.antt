-- What the definitions of the folded net say, and a net that is folded stays.
use Rattle.std.proofs.Common.{◌≡◌, ℕ, zero, suc, ◌+◌, ◌-◌, ◌<◌, ◌≤◌, inl, inr, Bool, true, List, [], ◌∷◌, ◌++◌, length, map, cond, refl, sym, ◌∙◌, ap, subst, arith}
use Rattle.std.specs.List.{AllByRecursion}
use Rattle.std.proofs.lemmas.Bool.{cases_lt}
use Rattle.rx_net.specs.declared.term.Term.{Term}
use Rattle.rx_net.specs.declared.net.Job.{Job}
use Rattle.rx_net.specs.declared.net.NetOutput.{NetOutput}
use Rattle.rx_net.specs.declared.net.Net.{Net}
use Rattle.rx_net.specs.Legal.{Legal}
use Rattle.rx_net.proofs.Each.{all_map}
use Rattle.rx_fold.specs.Jobs.{moved, moved_output, AreEqual, job_at}
use Rattle.rx_fold.specs.Folded.{input_count, merged, rep, cells_given, is_live, is_kept, numbered, kept_of, anew, folded_jobs, folded}
use Rattle.rx_fold.specs.Laws.{IsFirst, HasReps, HasLive, IsFolded}
use Rattle.rx_fold.proofs.Equal.{equal_back, moved_agree, moved_id}
use Rattle.rx_fold.proofs.Numbering.{numbered_first}
use Rattle.rx_fold.proofs.Facts.{given_within, forward, merged_is, stands_for, rep_in, rep_of, rep_le, rep_equal, by_cell, live_given, live_named, live_least, kept_in, kept_live}

two_are : (a b c d : Job) → a ≡ b → c ≡ d → AreEqual a c → AreEqual b d
two_are a b c d e f h = record {
  terms = sym (ap (λ (j : Job). j.terms) e) ∙ h.terms ∙ ap (λ (j : Job). j.terms) f;
  constant = sym (ap (λ (j : Job). j.constant) e) ∙ h.constant ∙ ap (λ (j : Job). j.constant) f;
  table = sym (ap (λ (j : Job). j.table) e) ∙ h.table ∙ ap (λ (j : Job). j.table) f;
}

module _ (net : Net) (l : Legal net) where
  first_is : (j : ℕ) (b : j < length net.jobs) → IsFirst net (stands_for net l j b).job j
  first_is j b =
      let s = stands_for net l j b in
      let i : ℕ = s.job in
      let early : i ≤ j = s.earlier in
      let mi = merged_is net l i (omega arith) in
      let mj = merged_is net l j b in
      record {
        earlier = early;
        equal = two_are (job_at (merged net) i) (moved (rep net) (job_at net.jobs i)) (job_at (merged net) j) (moved (rep net) (job_at net.jobs j)) mi mj (equal_back (job_at (merged net) j) (job_at (merged net) i) s.equal);
        first = λ k w e.
            let mk = merged_is net l k (omega arith) in
            let r = rep_equal net l k j (two_are (moved (rep net) (job_at net.jobs k)) (job_at (merged net) k) (moved (rep net) (job_at net.jobs j)) (job_at (merged net) j) (sym mk) (sym mj) e) in
            let o = rep_of net l j b in
            let h = rep_le net l (input_count net + k) (omega arith) in
            omega arith;
      }

  pub has_reps : HasReps net
  has_reps = record {
    of_input = rep_in net l;
    of_job = λ j b. ((stands_for net l j b).job, rep_of net l j b, first_is j b);
  }

  pub has_live : HasLive net
  has_live = record {
    closed = record { outputs = live_given net l; jobs = λ j b h c n. live_named net l j b h c n };
    least = λ has closed c h. live_least net l (λ (c : ℕ). has c ≡ true) closed.outputs (λ j b p c n. closed.jobs j b p c n) c h;
  }

  -- ---- a net that is folded
  module _ (f : IsFolded net) where
    moved_same : (j : Job) → AllByRecursion (λ (t : Term). rep net t.cell ≡ t.cell) j.terms → moved (rep net) j ≡ j
    moved_same j h = moved_agree (rep net) (λ c. c) j h ∙ moved_id j

    itself_below : (k c : ℕ) → c < k → c < input_count net + length net.jobs → rep net c ≡ c
    itself_below zero c b w = absurd (omega arith)
    itself_below (suc k) c b w = elim (cases_lt c (input_count net)) [
      | inl lt ↦ rep_in net l c lt
      | inr le ↦
          let j : ℕ = c - input_count net in
          let e : input_count net + j ≡ c = omega arith in
          let v : j < length net.jobs = omega arith in
          let s = first_is j v in
          let i : ℕ = (stands_for net l j v).job in
          let early : i ≤ j = s.earlier in
          let at : rep net (input_count net + j) ≡ input_count net + j = elim (cases_lt i j) [
            | inl lt ↦ absurd (f.apart i j lt v (two_are (moved (rep net) (job_at net.jobs i)) (job_at net.jobs i) (moved (rep net) (job_at net.jobs j)) (job_at net.jobs j)
                (moved_same (job_at net.jobs i) (all_map (λ (t : Term). t.cell < input_count net + i) (λ (t : Term). rep net t.cell ≡ t.cell) (job_at net.jobs i).terms (λ t y. itself_below k t.cell (omega arith) (omega arith)) (forward net l i (omega arith))))
                (moved_same (job_at net.jobs j) (all_map (λ (t : Term). t.cell < input_count net + j) (λ (t : Term). rep net t.cell ≡ t.cell) (job_at net.jobs j).terms (λ t y. itself_below k t.cell (omega arith) (omega arith)) (forward net l j v)))
                s.equal))
            | inr ge ↦ let o = rep_of net l j v in omega arith
          ] in
          subst (λ (c : ℕ). rep net c ≡ c) e at
    ]

    itself : (c : ℕ) → c < input_count net + length net.jobs → rep net c ≡ c
    itself c b = itself_below (suc c) c (omega arith) b

    all_live : (k i : ℕ) → length net.jobs ≤ i + k → i < length net.jobs → is_live net (input_count net + i) ≡ true
    all_live zero i b w = absurd (omega arith)
    all_live (suc k) i b w =
        let own = itself (input_count net + i) (omega arith) in
        elim (f.used i w) [
          | inl given ↦ subst (λ (c : ℕ). is_live net c ≡ true) own (live_given net l (input_count net + i) given)
          | inr later ↦ subst (λ (c : ℕ). is_live net c ≡ true) own (live_named net l later.0 later.2 (all_live k later.0 (let y = later.1 in omega arith) later.2) (input_count net + i) later.3)
        ]

    all_kept : (c : ℕ) → c < input_count net + length net.jobs → is_kept net c ≡ true
    all_kept c b = by_cell net l (λ (c : ℕ). is_kept net c ≡ true) (kept_in net l) (λ i w. kept_live net l (input_count net + i) (all_live (length net.jobs) i (omega arith) w)) c b

    anew_itself : (c : ℕ) → c < input_count net + length net.jobs → anew net c ≡ c
    unfolding anew
    anew_itself c b = ap (numbered (is_kept net)) (itself c b) ∙ numbered_first (is_kept net) (input_count net + length net.jobs) all_kept c (omega arith)

    keeps_all : (c : ℕ) (js : List Job) → ((i : ℕ) → i < length js → is_kept net (c + i) ≡ true) → kept_of (is_kept net) c js ≡ js
    unfolding kept_of
    keeps_all c [] h = refl
    keeps_all c (j ∷ js) h =
        let z : c + 0 ≡ c = omega arith in
        let own : is_kept net c ≡ true = subst (λ (x : ℕ). is_kept net x ≡ true) z (h 0 (omega arith)) in
        ap (λ (b : Bool). cond b (j ∷ kept_of (is_kept net) (suc c) js) (kept_of (is_kept net) (suc c) js)) own
        ∙ ap (λ (ks : List Job). j ∷ ks) (keeps_all (suc c) js (λ i b. let e : c + suc i ≡ suc c + i = omega arith in subst (λ (x : ℕ). is_kept net x ≡ true) e (h (suc i) (omega arith))))

    job_itself : (j : Job) → AllByRecursion (λ (t : Term). t.cell < input_count net + length net.jobs) j.terms → moved (anew net) j ≡ j
    job_itself j h = moved_agree (anew net) (λ c. c) j (all_map (λ (t : Term). t.cell < input_count net + length net.jobs) (λ (t : Term). anew net t.cell ≡ t.cell) j.terms (λ t b. anew_itself t.cell b) h) ∙ moved_id j

    jobs_itself : (js : List Job) → ((i : ℕ) → i < length js → AllByRecursion (λ (t : Term). t.cell < input_count net + length net.jobs) (job_at js i).terms) → map (moved (anew net)) js ≡ js
    jobs_itself [] h = refl
    jobs_itself (j ∷ js) h = ap (λ (k : Job). k ∷ map (moved (anew net)) js) (job_itself j (h 0 (omega arith))) ∙ ap (λ (ks : List Job). j ∷ ks) (jobs_itself js (λ i b. h (suc i) (omega arith)))

    same_jobs : folded_jobs net ≡ net.jobs
    unfolding folded_jobs
    same_jobs = ap (map (moved (anew net))) (keeps_all (input_count net) net.jobs (λ i b. all_kept (input_count net + i) (omega arith)))
        ∙ jobs_itself net.jobs (λ i b. all_map (λ (t : Term). t.cell < input_count net + i) (λ (t : Term). t.cell < input_count net + length net.jobs) (job_at net.jobs i).terms (λ t w. omega arith) (forward net l i b))

    cells_itself : (cs : List ℕ) → AllByRecursion (λ (c : ℕ). c < input_count net + length net.jobs) cs → map (anew net) cs ≡ cs
    cells_itself [] h = refl
    cells_itself (c ∷ cs) h = ap (λ (x : ℕ). x ∷ map (anew net) cs) (anew_itself c h.0) ∙ ap (λ (xs : List ℕ). c ∷ xs) (cells_itself cs h.1)

    front_of : (xs ys : List ℕ) → AllByRecursion (λ (c : ℕ). c < input_count net + length net.jobs) (xs ++ ys) → AllByRecursion (λ (c : ℕ). c < input_count net + length net.jobs) xs
    front_of [] ys h = tt
    front_of (x ∷ xs) ys h = (h.0, front_of xs ys h.1)

    back_of : (xs ys : List ℕ) → AllByRecursion (λ (c : ℕ). c < input_count net + length net.jobs) (xs ++ ys) → AllByRecursion (λ (c : ℕ). c < input_count net + length net.jobs) ys
    back_of [] ys h = h
    back_of (x ∷ xs) ys h = back_of xs ys h.1

    outputs_itself : (os : List NetOutput) → AllByRecursion (λ (c : ℕ). c < input_count net + length net.jobs) (cells_given os) → map (moved_output (anew net)) os ≡ os
    outputs_itself [] h = refl
    outputs_itself (o ∷ os) h =
        ap (λ (cs : List ℕ). (let z : NetOutput = record { name = o.name; kind = o.kind; bits = o.bits; cells = cs } in z) ∷ map (moved_output (anew net)) os) (cells_itself o.cells (front_of o.cells (cells_given os) h))
        ∙ ap (λ (ps : List NetOutput). o ∷ ps) (outputs_itself os (back_of o.cells (cells_given os) h))

    pub stays : folded net ≡ net
    unfolding folded
    stays =
        ap (λ (js : List Job). let z : Net = record { space = net.space; inputs = net.inputs; jobs = js; outputs = map (moved_output (anew net)) net.outputs } in z) same_jobs
        ∙ ap (λ (os : List NetOutput). let z : Net = record { space = net.space; inputs = net.inputs; jobs = net.jobs; outputs = os } in z) (outputs_itself net.outputs (given_within net l))
