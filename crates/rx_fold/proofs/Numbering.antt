-- The new numbers of the cells that are kept, and the jobs of those cells.
use Rattle.std.proofs.Common.{◌≡◌, ℕ, zero, suc, ◌+◌, ◌-◌, ◌<◌, ◌≤◌, inl, inr, Bool, true, false, cond, List, [], ◌∷◌, length, refl, sym, ◌∙◌, ap, subst, arith}
use Rattle.std.proofs.lemmas.Bool.{cases_lt}
use Rattle.rx_net.specs.declared.net.Job.{Job}
use Rattle.rx_fold.specs.Jobs.{job_at}
use Rattle.rx_fold.specs.Folded.{numbered, kept_of}

module _ (kept : ℕ → Bool) where
  pub numbered_yes : (c : ℕ) → kept c ≡ true → numbered kept (suc c) ≡ suc (numbered kept c)
  unfolding numbered
  numbered_yes c h = ap (λ (b : Bool). cond b (suc (numbered kept c)) (numbered kept c)) h

  pub numbered_no : (c : ℕ) → kept c ≡ false → numbered kept (suc c) ≡ numbered kept c
  unfolding numbered
  numbered_no c h = ap (λ (b : Bool). cond b (suc (numbered kept c)) (numbered kept c)) h

  one_more : (c : ℕ) (b : Bool) → b ≡ kept c → (numbered kept c ≤ numbered kept (suc c)) × (numbered kept (suc c) ≤ suc (numbered kept c))
  one_more c true h = let e = numbered_yes c (sym h) in (omega arith, omega arith)
  one_more c false h = let e = numbered_no c (sym h) in (omega arith, omega arith)

  pub numbered_grows : (c k : ℕ) → numbered kept c ≤ numbered kept (c + k)
  numbered_grows c zero = let e : numbered kept (c + 0) ≡ numbered kept c = (let z : c + 0 ≡ c = omega arith in ap (numbered kept) z) in omega arith
  numbered_grows c (suc k) =
      let e : numbered kept (c + suc k) ≡ numbered kept (suc (c + k)) = (let z : c + suc k ≡ suc (c + k) = omega arith in ap (numbered kept) z) in
      let h = numbered_grows c k in let o = one_more (c + k) (kept (c + k)) refl in let a = o.0 in omega arith

  pub numbered_le : (c d : ℕ) → c ≤ d → numbered kept c ≤ numbered kept d
  numbered_le c d l = let e : c + (d - c) ≡ d = omega arith in subst (λ (x : ℕ). numbered kept c ≤ numbered kept x) e (numbered_grows c (d - c))

  pub numbered_lt : (c d : ℕ) → c < d → kept c ≡ true → numbered kept c < numbered kept d
  numbered_lt c d l h = let a = numbered_le (suc c) d l in let e = numbered_yes c h in omega arith

  pub numbered_once : (c d : ℕ) → kept c ≡ true → kept d ≡ true → numbered kept c ≡ numbered kept d → c ≡ d
  numbered_once c d g h e = elim (cases_lt c d) [
    | inl lt ↦ absurd (let a = numbered_lt c d lt g in omega arith)
    | inr le ↦ elim (cases_lt d c) [
      | inl lt ↦ absurd (let a = numbered_lt d c lt h in omega arith)
      | inr ge ↦ omega arith
    ]
  ]

  pub numbered_most : (c : ℕ) → numbered kept c ≤ c
  unfolding numbered
  numbered_most zero = omega arith
  numbered_most (suc c) = let h = numbered_most c in let o = one_more c (kept c) refl in let a = o.1 in let m : numbered kept (suc c) ≤ suc c = omega arith in m

  -- where all cells below n are kept, they keep their numbers
  pub numbered_first : (n : ℕ) → ((c : ℕ) → c < n → kept c ≡ true) → (c : ℕ) → c ≤ n → numbered kept c ≡ c
  unfolding numbered
  numbered_first n h zero l = refl
  numbered_first n h (suc c) l = numbered_yes c (h c (omega arith)) ∙ (let e = numbered_first n h c (omega arith) in ap (λ (k : ℕ). suc k) e)

  -- ---- the jobs of kept cells

  pub length-kept : (c : ℕ) (js : List Job) → numbered kept c + length (kept_of kept c js) ≡ numbered kept (c + length js)
  unfolding kept_of
  length-kept c [] = let z : c + 0 ≡ c = omega arith in let e = ap (numbered kept) z in omega arith
  length-kept c (j ∷ js) =
      let z : c + suc (length js) ≡ suc c + length js = omega arith in
      by_case (kept c) refl (ap (numbered kept) z) (length-kept (suc c) js)
    where
      by_case : (b : Bool) → b ≡ kept c → numbered kept (c + suc (length js)) ≡ numbered kept (suc c + length js)
          → numbered kept (suc c) + length (kept_of kept (suc c) js) ≡ numbered kept (suc c + length js)
          → numbered kept c + length (cond (kept c) (j ∷ kept_of kept (suc c) js) (kept_of kept (suc c) js)) ≡ numbered kept (c + suc (length js))
      by_case true h e i = let n = numbered_yes c (sym h) in
          subst (λ (b : Bool). numbered kept c + length (cond b (j ∷ kept_of kept (suc c) js) (kept_of kept (suc c) js)) ≡ numbered kept (c + suc (length js))) h (omega arith)
      by_case false h e i = let n = numbered_no c (sym h) in
          subst (λ (b : Bool). numbered kept c + length (cond b (j ∷ kept_of kept (suc c) js) (kept_of kept (suc c) js)) ≡ numbered kept (c + suc (length js))) h (omega arith)

  -- the place p of the kept jobs has the job i
  pub record Keeps (c : ℕ) (js : List Job) (i p : ℕ) : Type 0 where
    pub job : i < length js
    pub kept_is : kept (c + i) ≡ true
    pub place : p < length (kept_of kept c js)
    pub number : numbered kept c + p ≡ numbered kept (c + i)
    pub same : job_at (kept_of kept c js) p ≡ job_at js i

  -- one job more before the others
  one_more_job : (c : ℕ) (j : Job) (js : List Job) (i p : ℕ) → Keeps (suc c) js i p → (b : Bool) → b ≡ kept c → (q : ℕ) × Keeps c (j ∷ js) (suc i) q
  unfolding kept_of
  one_more_job c j js i p k true h =
      let z : suc c + i ≡ c + suc i = omega arith in
      let s : kept_of kept c (j ∷ js) ≡ j ∷ kept_of kept (suc c) js = ap (λ (b : Bool). cond b (j ∷ kept_of kept (suc c) js) (kept_of kept (suc c) js)) (sym h) in (
        suc p,
        record {
          job = let l = k.job in omega arith;
          kept_is = subst (λ (x : ℕ). kept x ≡ true) z k.kept_is;
          place = subst (λ (xs : List Job). suc p < length xs) (sym s) (let l = k.place in omega arith);
          number = let e = ap (numbered kept) z in let n = k.number in let y = numbered_yes c (sym h) in omega arith;
          same = ap (λ (xs : List Job). job_at xs (suc p)) s ∙ k.same;
        },
      )
  one_more_job c j js i p k false h =
      let z : suc c + i ≡ c + suc i = omega arith in
      let s : kept_of kept c (j ∷ js) ≡ kept_of kept (suc c) js = ap (λ (b : Bool). cond b (j ∷ kept_of kept (suc c) js) (kept_of kept (suc c) js)) (sym h) in (
        p,
        record {
          job = let l = k.job in omega arith;
          kept_is = subst (λ (x : ℕ). kept x ≡ true) z k.kept_is;
          place = subst (λ (xs : List Job). p < length xs) (sym s) k.place;
          number = let e = ap (numbered kept) z in let n = k.number in let y = numbered_no c (sym h) in omega arith;
          same = ap (λ (xs : List Job). job_at xs p) s ∙ k.same;
        },
      )

  place_by : (c : ℕ) (j : Job) (js : List Job) (p : ℕ) → p < length (kept_of kept c (j ∷ js)) → (b : Bool) → b ≡ kept c
      → ((q : ℕ) → q < length (kept_of kept (suc c) js) → (i : ℕ) × Keeps (suc c) js i q) → (i : ℕ) × Keeps c (j ∷ js) i p
  unfolding kept_of
  place_by c j js zero l true h later =
      let z : c ≡ c + 0 = omega arith in
      let s : kept_of kept c (j ∷ js) ≡ j ∷ kept_of kept (suc c) js = ap (λ (b : Bool). cond b (j ∷ kept_of kept (suc c) js) (kept_of kept (suc c) js)) (sym h) in (
        0,
        record {
          job = omega arith;
          kept_is = subst (λ (x : ℕ). kept x ≡ true) z (sym h);
          place = l;
          number = let e = ap (numbered kept) z in omega arith;
          same = ap (λ (xs : List Job). job_at xs 0) s;
        },
      )
  place_by c j js (suc p) l true h later =
      let s : kept_of kept c (j ∷ js) ≡ j ∷ kept_of kept (suc c) js = ap (λ (b : Bool). cond b (j ∷ kept_of kept (suc c) js) (kept_of kept (suc c) js)) (sym h) in
      let l' : suc p < suc (length (kept_of kept (suc c) js)) = subst (λ (xs : List Job). suc p < length xs) s l in
      let k = later p (omega arith) in
      let m = k.1 in
      let z : suc c + k.0 ≡ c + suc k.0 = omega arith in (
        suc k.0,
        record {
          job = let l = m.job in omega arith;
          kept_is = subst (λ (x : ℕ). kept x ≡ true) z m.kept_is;
          place = l;
          number = let e = ap (numbered kept) z in let n = m.number in let y = numbered_yes c (sym h) in omega arith;
          same = ap (λ (xs : List Job). job_at xs (suc p)) s ∙ m.same;
        },
      )
  place_by c j js p l false h later =
      let s : kept_of kept c (j ∷ js) ≡ kept_of kept (suc c) js = ap (λ (b : Bool). cond b (j ∷ kept_of kept (suc c) js) (kept_of kept (suc c) js)) (sym h) in
      let k = later p (subst (λ (xs : List Job). p < length xs) s l) in
      let m = k.1 in
      let z : suc c + k.0 ≡ c + suc k.0 = omega arith in (
        suc k.0,
        record {
          job = let l = m.job in omega arith;
          kept_is = subst (λ (x : ℕ). kept x ≡ true) z m.kept_is;
          place = l;
          number = let e = ap (numbered kept) z in let n = m.number in let y = numbered_no c (sym h) in omega arith;
          same = ap (λ (xs : List Job). job_at xs p) s ∙ m.same;
        },
      )

  -- each job of a kept cell has a place
  pub keeps_job : (c : ℕ) (js : List Job) (i : ℕ) → i < length js → kept (c + i) ≡ true → (p : ℕ) × Keeps c js i p
  unfolding kept_of
  keeps_job c [] i l h = absurd (omega arith)
  keeps_job c (j ∷ js) zero l h =
      let z : c + 0 ≡ c = omega arith in
      let h' : kept c ≡ true = subst (λ (x : ℕ). kept x ≡ true) z h in
      let s : kept_of kept c (j ∷ js) ≡ j ∷ kept_of kept (suc c) js = ap (λ (b : Bool). cond b (j ∷ kept_of kept (suc c) js) (kept_of kept (suc c) js)) h' in (
        0,
        record {
          job = l;
          kept_is = h;
          place = subst (λ (xs : List Job). 0 < length xs) (sym s) (omega arith);
          number = let e = ap (numbered kept) z in omega arith;
          same = ap (λ (xs : List Job). job_at xs 0) s;
        },
      )
  keeps_job c (j ∷ js) (suc i) l h =
      let z : c + suc i ≡ suc c + i = omega arith in
      let k = keeps_job (suc c) js i (omega arith) (subst (λ (x : ℕ). kept x ≡ true) z h) in
      one_more_job c j js i k.0 k.1 (kept c) refl

  -- and each place has a job
  pub keeps_place : (c : ℕ) (js : List Job) (p : ℕ) → p < length (kept_of kept c js) → (i : ℕ) × Keeps c js i p
  unfolding kept_of
  keeps_place c [] p l = absurd (omega arith)
  keeps_place c (j ∷ js) p l = place_by c j js p l (kept c) refl (λ q m. keeps_place (suc c) js q m)
