-- What is laid job after job, in a net and in its folded net.
use Rattle.std.proofs.Common.{◌≡◌, ℕ, ℤ, pos, ◌+ℤ◌, ◌*ℤ◌, zero, suc, ◌+◌, ◌-◌, ◌<◌, ◌≤◌, inl, inr, true, List, [], ◌∷◌, ◌++◌, length, get_or, take, map, refl, sym, ◌∙◌, ap, subst, arith, length-take-le}
use Rattle.std.specs.List.{AllByRecursion}
use Rattle.std.proofs.lemmas.Bool.{cases_lt}
use Rattle.std.proofs.lemmas.List.{get_or_append_left, get_or-map, length-map}
use Rattle.rx_net.specs.declared.term.Term.{Term}
use Rattle.rx_net.specs.declared.net.Job.{Job}
use Rattle.rx_net.specs.declared.net.Net.{Net}
use Rattle.rx_net.specs.Tags.{sum_of, value_of, low_of, high_of, noise_of, negative_part, positive_part, greatest_of, greatest_between, natural}
use Rattle.rx_net.specs.Cells.{laid, job_value, one_deeper, operand_words}
use Rattle.rx_net.specs.Legal.{Legal, reached}
use Rattle.rx_net.proofs.Each.{all_map}
use Rattle.rx_net.proofs.Laid.{length-laid}
use Rattle.rx_fold.specs.Jobs.{moved_term, moved, AreEqual, job_at, no_job}
use Rattle.rx_fold.specs.Folded.{input_count, merged, rep, is_kept, numbered, kept_of, anew, folded_jobs}
use Rattle.rx_fold.specs.Laws.{ReadsWeights}
use Rattle.rx_fold.proofs.Equal.{moved_id}
use Rattle.rx_fold.proofs.Stand.{laid_cut, get_or_middle}
use Rattle.rx_fold.proofs.Numbering.{Keeps, keeps_job, keeps_place, numbered_first}
use Rattle.rx_fold.proofs.Facts.{forward, merged_is, stands_for, rep_in, rep_of, rep_le, kept_in, kept_named}

-- ---- steps that read a job's cells by their entries

module _ {A : Type 0} (d : A) (step : Job → List A → A) where
  unfoldable pub Reads : Type 0
  Reads = (f : ℕ → ℕ) (j : Job) (xs ys : List A) → AllByRecursion (λ (t : Term). get_or xs (f t.cell) d ≡ get_or ys t.cell d) j.terms → step (moved f j) xs ≡ step j ys

  -- the cell of each job, of which the first has the cell n, holds what the step makes of the job
  unfoldable pub Obeys : ℕ → List Job → List A → Type 0
  Obeys n jobs vs = (i : ℕ) → i < length jobs → get_or vs (n + i) d ≡ step (job_at jobs i) vs

  pub reads_same : Reads → (j : Job) (xs ys : List A) → AllByRecursion (λ (t : Term). get_or xs t.cell d ≡ get_or ys t.cell d) j.terms → step j xs ≡ step j ys
  unfolding Reads
  reads_same r j xs ys h = ap (λ (k : Job). step k xs) (sym (moved_id j)) ∙ r (λ c. c) j xs ys h

  -- the cells before the job i's
  pub laid_front : (ins : List A) (jobs : List Job) (i c : ℕ) → i < length jobs → c < length ins + i → get_or (laid step ins (take i jobs)) c d ≡ get_or (laid step ins jobs) c d
  laid_front ins jobs i c b l =
      let front = laid step ins (take i jobs) in
      let cut = laid_cut step ins jobs i b in
      let n : length front ≡ length ins + i = (let e = length-laid step ins (take i jobs) in let t = length-take-le i jobs (omega arith) in omega (arith, e, t)) in
      sym (ap (λ (xs : List A). get_or xs c d) cut.1 ∙ get_or_append_left front (step (job_at jobs i) front ∷ cut.0) d c (omega (arith, n)))

  pub laid_obeys : Reads → (n : ℕ) (ins : List A) (jobs : List Job) → length ins ≡ n → ((i : ℕ) → i < length jobs → AllByRecursion (λ (t : Term). t.cell < n + i) (job_at jobs i).terms)
      → Obeys n jobs (laid step ins jobs)
  unfolding Obeys
  laid_obeys r n ins jobs m f i b =
      let front = laid step ins (take i jobs) in
      let j : Job = job_at jobs i in
      let cut = laid_cut step ins jobs i b in
      let k : n + i ≡ length front = (let e = length-laid step ins (take i jobs) in let t = length-take-le i jobs (omega arith) in omega (arith, e, t)) in
      ap (λ (xs : List A). get_or xs (n + i) d) cut.1 ∙ get_or_middle front (step j front) cut.0 d (n + i) k
      ∙ reads_same r j front (laid step ins jobs) (all_map (λ (t : Term). t.cell < n + i) (λ (t : Term). get_or front t.cell d ≡ get_or (laid step ins jobs) t.cell d) j.terms
      (λ t l. laid_front ins jobs i t.cell b (omega (arith, l, m))) (f i b))

-- ---- a net whose cells are replaced by those that stand for them

module _ (net : Net) (l : Legal net) {A : Type 0} (d : A) (step : Job → List A → A) (reads : Reads d step) (vs : List A) (obeys : Obeys d step (input_count net) net.jobs vs) where
  job_is : (i : ℕ) → i < length net.jobs → ((c : ℕ) → c < input_count net + i → get_or vs (rep net c) d ≡ get_or vs c d) → get_or vs (input_count net + i) d ≡ step (job_at (merged net) i) vs
  unfolding Reads Obeys
  job_is i b before = obeys i b ∙ sym (ap (λ (j : Job). step j vs) (merged_is net l i b) ∙ reads (rep net) (job_at net.jobs i) vs vs
      (all_map (λ (t : Term). t.cell < input_count net + i) (λ (t : Term). get_or vs (rep net t.cell) d ≡ get_or vs t.cell d) (job_at net.jobs i).terms (λ t b. before t.cell b) (forward net l i b)))

  -- equal jobs give equal entries
  unfoldable pub Alike : Type 0
  Alike = (a b : ℕ) → a < length net.jobs → b < length net.jobs → AreEqual (job_at (merged net) a) (job_at (merged net) b) → step (job_at (merged net) a) vs ≡ step (job_at (merged net) b) vs

  same_below : Alike → (k c : ℕ) → c < k → c < input_count net + length net.jobs → get_or vs (rep net c) d ≡ get_or vs c d
  unfolding Alike
  same_below alike zero c b w = absurd (omega arith)
  same_below alike (suc k) c b w = elim (cases_lt c (input_count net)) [
    | inl lt ↦ ap (λ (x : ℕ). get_or vs x d) (rep_in net l c lt)
    | inr le ↦
        let i : ℕ = c - input_count net in
        let e : input_count net + i ≡ c = omega arith in
        let w' : i < length net.jobs = omega arith in
        let s = stands_for net l i w' in
        let earlier = s.earlier in
        let at : get_or vs (rep net (input_count net + i)) d ≡ get_or vs (input_count net + i) d =
        ap (λ (x : ℕ). get_or vs x d) (rep_of net l i w')
        ∙ job_is s.job (omega arith) (λ x y. same_below alike k x (omega arith) (omega arith))
        ∙ sym (alike i s.job w' (omega arith) s.equal)
        ∙ sym (job_is i w' (λ x y. same_below alike k x (omega arith) (omega arith))) in
        subst (λ (c : ℕ). get_or vs (rep net c) d ≡ get_or vs c d) e at
  ]

  pub rep_same : Alike → (c : ℕ) → c < input_count net + length net.jobs → get_or vs (rep net c) d ≡ get_or vs c d
  rep_same alike c b = same_below alike (suc c) c (omega arith) b

-- ---- the places of the kept jobs

-- the job i is kept, and is the job p of the folded net
pub record Placed (net : Net) (i p : ℕ) : Type 0 where
  pub job : i < length net.jobs
  pub kept : is_kept net (input_count net + i) ≡ true
  pub place : p < length (folded_jobs net)
  pub number : numbered (is_kept net) (input_count net + i) ≡ input_count net + p
  pub is : job_at (folded_jobs net) p ≡ moved (anew net) (job_at net.jobs i)

module _ (net : Net) (l : Legal net) where
  abbrev kept_jobs : List Job
  kept_jobs = kept_of (is_kept net) (input_count net) net.jobs

  pub number_inputs : (c : ℕ) → c ≤ input_count net → numbered (is_kept net) c ≡ c
  number_inputs c b = numbered_first (is_kept net) (input_count net) (kept_in net l) c b

  placed : (i p : ℕ) → Keeps (is_kept net) (input_count net) net.jobs i p → Placed net i p
  unfolding folded_jobs
  placed i p k = record {
    job = k.job;
    kept = k.kept_is;
    place = let b = k.place in let e = length-map kept_jobs (moved (anew net)) in omega arith;
    number = let e = k.number in let n = number_inputs (input_count net) (omega arith) in omega arith;
    is = get_or-map (moved (anew net)) kept_jobs p no_job no_job k.place ∙ ap (moved (anew net)) k.same;
  }

  pub place_of : (i : ℕ) → i < length net.jobs → is_kept net (input_count net + i) ≡ true → (p : ℕ) × Placed net i p
  place_of i b h = let k = keeps_job (is_kept net) (input_count net) net.jobs i b h in (k.0, placed i k.0 k.1)

  pub job_of : (p : ℕ) → p < length (folded_jobs net) → (i : ℕ) × Placed net i p
  unfolding folded_jobs
  job_of p b = let e = length-map kept_jobs (moved (anew net)) in let k = keeps_place (is_kept net) (input_count net) net.jobs p (omega arith) in (k.0, placed k.0 p k.1)

-- ---- the same entries in the folded net

module _ (net : Net) (l : Legal net) {A : Type 0} (d : A) (step : Job → List A → A) (reads : Reads d step) (vs : List A) (obeys : Obeys d step (input_count net) net.jobs vs)
    (same : (c : ℕ) → c < input_count net + length net.jobs → get_or vs (rep net c) d ≡ get_or vs c d)
    (ws : List A) (folds : Obeys d step (input_count net) (folded_jobs net) ws) (first : (c : ℕ) → c < input_count net → get_or ws c d ≡ get_or vs c d) where
  pub kept_below : (k c : ℕ) → c < k → c < input_count net + length net.jobs → is_kept net c ≡ true → get_or ws (numbered (is_kept net) c) d ≡ get_or vs c d
  unfolding Reads Obeys anew
  kept_below zero c b w h = absurd (omega arith)
  kept_below (suc k) c b w h = elim (cases_lt c (input_count net)) [
    | inl lt ↦ ap (λ (x : ℕ). get_or ws x d) (number_inputs net l c (omega arith)) ∙ first c lt
    | inr le ↦
        let i : ℕ = c - input_count net in
        let e : input_count net + i ≡ c = omega arith in
        let w' : i < length net.jobs = omega arith in
        let h' : is_kept net (input_count net + i) ≡ true = subst (λ (x : ℕ). is_kept net x ≡ true) (sym e) h in
        let q = place_of net l i w' h' in
        let p = q.1 in
        let terms : AllByRecursion (λ (t : Term). get_or ws (anew net t.cell) d ≡ get_or vs t.cell d) (job_at net.jobs i).terms =
        all_two (job_at net.jobs i).terms (λ t y kept. let r = rep_le net l t.cell (omega arith) in
        kept_below k (rep net t.cell) (omega arith) (omega arith) kept ∙ same t.cell (omega arith)) (forward net l i w') (kept_named net l i w' h') in
        let at : get_or ws (numbered (is_kept net) (input_count net + i)) d ≡ get_or vs (input_count net + i) d =
        ap (λ (x : ℕ). get_or ws x d) p.number ∙ folds q.0 p.place ∙ ap (λ (j : Job). step j ws) p.is
        ∙ reads (anew net) (job_at net.jobs i) ws vs terms ∙ sym (obeys i w') in
        subst (λ (c : ℕ). get_or ws (numbered (is_kept net) c) d ≡ get_or vs c d) e at
  ]
    where
      all_two : {P Q R : Term → Type 0} (ts : List Term) → ((t : Term) → P t → Q t → R t) → AllByRecursion P ts → AllByRecursion Q ts → AllByRecursion R ts
      all_two [] f g h = tt
      all_two (t ∷ ts) f g h = (f t g.0 h.0, all_two ts f g.1 h.1)

  -- the cell that is numbered anew holds what the cell held
  pub anew_same : (c : ℕ) → c < input_count net + length net.jobs → is_kept net (rep net c) ≡ true → get_or ws (anew net c) d ≡ get_or vs c d
  unfolding anew
  anew_same c b h = let r = rep_le net l c b in kept_below (suc c) (rep net c) (omega arith) (omega arith) h ∙ same c b

-- ---- the steps of a net

sum_same : (part part' : Term → ℤ) (f : ℕ → ℕ) (k : ℤ) (ts : List Term) → AllByRecursion (λ (t : Term). part (moved_term f t) ≡ part' t) ts
    → sum_of part k (map (moved_term f) ts) ≡ sum_of part' k ts
sum_same part part' f k [] h = refl
sum_same part part' f k (t ∷ ts) h = ap (λ (x : ℤ). x +ℤ sum_of part k (map (moved_term f) ts)) h.0 ∙ ap (λ (x : ℤ). part' t +ℤ x) (sum_same part part' f k ts h.1)

module _ (f : ℕ → ℕ) (g h : ℕ → ℕ) (ts : List Term) (same : AllByRecursion (λ (t : Term). g (f t.cell) ≡ h t.cell) ts) where
  pub value_same : (k : ℤ) → value_of g k (map (moved_term f) ts) ≡ value_of h k ts
  value_same k = sum_same (λ t. t.weight *ℤ pos (g t.cell)) (λ t. t.weight *ℤ pos (h t.cell)) f k ts
      (all_map (λ (t : Term). g (f t.cell) ≡ h t.cell) (λ (t : Term). (t.weight *ℤ pos (g (f t.cell))) ≡ (t.weight *ℤ pos (h t.cell))) ts (λ t e. ap (λ (x : ℕ). t.weight *ℤ pos x) e) same)

  pub low_same : (k : ℤ) → low_of g k (map (moved_term f) ts) ≡ low_of h k ts
  low_same k = sum_same (λ t. negative_part t.weight *ℤ pos (g t.cell)) (λ t. negative_part t.weight *ℤ pos (h t.cell)) f k ts
      (all_map (λ (t : Term). g (f t.cell) ≡ h t.cell) (λ (t : Term). (negative_part t.weight *ℤ pos (g (f t.cell))) ≡ (negative_part t.weight *ℤ pos (h t.cell))) ts (λ t e. ap (λ (x : ℕ). negative_part t.weight *ℤ pos x) e) same)

  pub high_same : (k : ℤ) → high_of g k (map (moved_term f) ts) ≡ high_of h k ts
  high_same k = sum_same (λ t. positive_part t.weight *ℤ pos (g t.cell)) (λ t. positive_part t.weight *ℤ pos (h t.cell)) f k ts
      (all_map (λ (t : Term). g (f t.cell) ≡ h t.cell) (λ (t : Term). (positive_part t.weight *ℤ pos (g (f t.cell))) ≡ (positive_part t.weight *ℤ pos (h t.cell))) ts (λ t e. ap (λ (x : ℕ). positive_part t.weight *ℤ pos x) e) same)

  pub reached_same : (k : ℤ) (table : List ℕ) → reached g (map (moved_term f) ts) k table ≡ reached h ts k table
  reached_same k table =
      ap (λ (x : ℤ). greatest_between table (natural x) (natural (high_of g k (map (moved_term f) ts)))) (low_same k)
      ∙ ap (λ (x : ℤ). greatest_between table (natural (low_of h k ts)) (natural x)) (high_same k)

pub noise_same : (f g h : ℕ → ℕ) (ts : List Term) → AllByRecursion (λ (t : Term). g (f t.cell) ≡ h t.cell) ts → noise_of g (map (moved_term f) ts) ≡ noise_of h ts
noise_same f g h [] same = refl
noise_same f g h (t ∷ ts) same = let a = same.0 in let b = noise_same f g h ts same.1 in rw (a, b) refl

abbrev pub reach : Job → List ℕ → ℕ
reach j degrees = reached (λ c. get_or degrees c 0) j.terms j.constant j.table

pub reach_reads : Reads 0 reach
unfolding Reads
reach_reads f j xs ys h = reached_same f (λ c. get_or xs c 0) (λ c. get_or ys c 0) j.terms h j.constant j.table

pub value_reads : Reads 0 job_value
unfolding Reads job_value
value_reads f j xs ys h = ap (λ (z : ℤ). get_or j.table (natural z) 0) (value_same f (λ c. get_or xs c 0) (λ c. get_or ys c 0) j.terms h j.constant)

deepest_same : (f : ℕ → ℕ) (xs ys : List ℕ) (ts : List Term) → AllByRecursion (λ (t : Term). get_or xs (f t.cell) 0 ≡ get_or ys t.cell 0) ts
    → map (λ (t : Term). get_or xs t.cell 0) (map (moved_term f) ts) ≡ map (λ (t : Term). get_or ys t.cell 0) ts
deepest_same f xs ys [] h = refl
deepest_same f xs ys (t ∷ ts) h = ap (λ (x : ℕ). x ∷ map (λ (t : Term). get_or xs t.cell 0) (map (moved_term f) ts)) h.0 ∙ ap (λ (zs : List ℕ). get_or ys t.cell 0 ∷ zs) (deepest_same f xs ys ts h.1)

pub depth_reads : Reads 0 one_deeper
unfolding Reads one_deeper
depth_reads f j xs ys h = ap (λ (zs : List ℕ). suc (greatest_of zs)) (deepest_same f xs ys j.terms h)

operands_same : (f : ℕ → ℕ) (xs ys : List (List ℕ)) (ts : List Term) → AllByRecursion (λ (t : Term). get_or xs (f t.cell) [] ≡ get_or ys t.cell []) ts
    → operand_words xs (map (moved_term f) ts) ≡ operand_words ys ts
operands_same f xs ys [] h = refl
operands_same f xs ys (t ∷ ts) h = ap (λ (w : List ℕ). w ++ operand_words xs (map (moved_term f) ts)) h.0 ∙ ap (λ (w : List ℕ). get_or ys t.cell [] ++ w) (operands_same f xs ys ts h.1)

weights_moved : (f : ℕ → ℕ) (ts : List Term) → map (λ (t : Term). t.weight) (map (moved_term f) ts) ≡ map (λ (t : Term). t.weight) ts
weights_moved f [] = refl
weights_moved f (t ∷ ts) = ap (λ (ws : List ℤ). t.weight ∷ ws) (weights_moved f ts)

abbrev pub words_step : (List ℕ → Job → List ℕ → List ℕ) → List ℕ → Job → List (List ℕ) → List ℕ
words_step words_of basis job cells = words_of basis job (operand_words cells job.terms)

pub words_reads : (words_of : List ℕ → Job → List ℕ → List ℕ) (basis : List ℕ) → ReadsWeights words_of → Reads [] (words_step words_of basis)
unfolding Reads
words_reads words_of basis r f j xs ys h =
    r basis (moved f j) j (operand_words xs (map (moved_term f) j.terms)) record { weights = weights_moved f j.terms; constant = refl; table = refl; degree = refl }
    ∙ ap (words_of basis j) (operands_same f xs ys j.terms h)
