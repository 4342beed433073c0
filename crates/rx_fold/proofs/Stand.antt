-- The cells that stand for cells.
use Rattle.std.proofs.Common.{◌≡◌, ℕ, zero, suc, ◌+◌, ◌-◌, ◌<◌, ◌≤◌, inl, inr, Bool, true, false, cond, List, [], ◌∷◌, ◌++◌, length, get_or, take, drop, not, refl, sym, ◌∙◌, ap, subst, arith, length-take-le, eqb}
use Rattle.std.specs.List.{AllByRecursion, position_or_len}
use Rattle.std.proofs.lemmas.Bool.{cases_lt, lt-ltb, le-ltb}
use Rattle.std.proofs.lemmas.List.{get_or_append_left, get_or-append_right, append_assoc, append-nil}
use Rattle.std.proofs.lemmas.List.Sums.{fails_before_first, passes_at_first, position_or_len_is}
use Rattle.std.proofs.lemmas.List.Folds.{prefix_len-append}
use Rattle.rx_net.specs.declared.term.Term.{Term}
use Rattle.rx_net.specs.declared.net.Job.{Job}
use Rattle.rx_net.specs.Cells.{laid}
use Rattle.rx_net.proofs.Each.{all_map}
use Rattle.rx_net.proofs.Laid.{length-laid}
use Rattle.rx_fold.specs.Jobs.{moved, AreEqual, are_equal, job_at, no_job}
use Rattle.rx_fold.specs.Folded.{rep_among, merged_by}
use Rattle.rx_fold.proofs.Equal.{equal_yes, equal_is, equal_self, same_tests, moved_agree}

-- ---- the first job that passes

pub first_at_most : (p : Job → Bool) (m : List Job) (k : ℕ) → p (job_at m k) ≡ true → position_or_len p m ≤ k
first_at_most p m k h = elim (cases_lt k (position_or_len p m)) [
  | inl lt ↦ absurd (let f : p (job_at m k) ≡ false = fails_before_first p m k no_job lt in let g : true ≡ false = sym h ∙ f in cc)
  | inr le ↦ le
]

first_kept : (p : Job → Bool) (m more : List Job) → position_or_len p m < length m → position_or_len p (m ++ more) ≡ position_or_len p m
first_kept p m more l = prefix_len-append (λ (x : Job). not (p x)) m more ∙ ap (λ (b : Bool). cond b (length m + position_or_len p more) (position_or_len p m)) (apart (position_or_len p m) (length m) l)
  where
    apart : (a b : ℕ) → a < b → eqb a b ≡ false
    apart a b l = grind (arith, l)

-- ---- what stands for inputs and jobs

pub rep_input : (n : ℕ) (m : List Job) (c : ℕ) → c < n → rep_among n m c ≡ c
unfolding rep_among
rep_input n m c l = ap (λ (b : Bool). cond b c (n + position_or_len (are_equal (job_at m (c - n))) m)) (lt-ltb c n l)

pub rep_job : (n : ℕ) (m : List Job) (i : ℕ) → rep_among n m (n + i) ≡ n + position_or_len (are_equal (job_at m i)) m
unfolding rep_among
rep_job n m i =
    ap (λ (b : Bool). cond b (n + i) (n + position_or_len (are_equal (job_at m (n + i - n))) m)) (le-ltb (n + i) n (omega arith))
    ∙ ap (λ (k : ℕ). n + position_or_len (are_equal (job_at m k)) m) (let e : n + i - n ≡ i = omega arith in e)

rep_stays_job : (n : ℕ) (m more : List Job) (i : ℕ) → i < length m → rep_among n (m ++ more) (n + i) ≡ rep_among n m (n + i)
rep_stays_job n m more i l =
    let x : Job = job_at m i in
    let same : job_at (m ++ more) i ≡ x = get_or_append_left m more no_job i l in
    let f : position_or_len (are_equal x) m ≤ i = first_at_most (are_equal x) m i (equal_is x x (equal_self x)) in
    let first : position_or_len (are_equal x) m < length m = omega arith in
    rep_job n (m ++ more) i ∙ ap (λ (y : Job). n + position_or_len (are_equal y) (m ++ more)) same
    ∙ ap (λ (k : ℕ). n + k) (first_kept (are_equal x) m more first) ∙ sym (rep_job n m i)

-- where more jobs follow, the same cell stands for a cell
pub rep_stays : (n : ℕ) (m more : List Job) (c : ℕ) → c < n + length m → rep_among n (m ++ more) c ≡ rep_among n m c
rep_stays n m more c l = elim (cases_lt c n) [
  | inl lt ↦ rep_input n (m ++ more) c lt ∙ sym (rep_input n m c lt)
  | inr le ↦ let e : n + (c - n) ≡ c = omega arith in
      subst (λ (c : ℕ). rep_among n (m ++ more) c ≡ rep_among n m c) e (rep_stays_job n m more (c - n) (omega arith))
]

-- ---- the fold over jobs, cut in two

laid_on : {A : Type 0} (step : Job → List A → A) (xs : List A) (front back : List Job) → laid step xs (front ++ back) ≡ laid step (laid step xs front) back
unfolding laid
laid_on step xs [] back = refl
laid_on step xs (j ∷ front) back = laid_on step (xs ++ step j xs ∷ []) front back

laid_grows : {A : Type 0} (step : Job → List A → A) (xs : List A) (js : List Job) → (more : List A) × (laid step xs js ≡ xs ++ more)
unfolding laid
laid_grows step xs [] = ([], sym (append-nil xs))
laid_grows step xs (j ∷ js) = let g = laid_grows step (xs ++ step j xs ∷ []) js in (step j xs ∷ g.0, g.1 ∙ append_assoc xs (step j xs ∷ []) g.0)

pub cut_at : (js : List Job) (i : ℕ) → i < length js → js ≡ take i js ++ (job_at js i ∷ drop (suc i) js)
cut_at [] i l = absurd (omega arith)
cut_at (x ∷ xs) zero l = refl
cut_at (x ∷ xs) (suc i) l = ap (λ (ys : List Job). x ∷ ys) (cut_at xs i (omega arith))

-- the cells up to that of the job i, the cell of the job, and the others
pub laid_cut : {A : Type 0} (step : Job → List A → A) (xs : List A) (js : List Job) (i : ℕ) → i < length js
    → (more : List A) × (laid step xs js ≡ laid step xs (take i js) ++ (step (job_at js i) (laid step xs (take i js)) ∷ more))
unfolding laid
laid_cut step xs js i l =
    let b = laid step xs (take i js) in
    let j : Job = job_at js i in
    let g = laid_grows step (b ++ step j b ∷ []) (drop (suc i) js) in
    (g.0, ap (laid step xs) (cut_at js i l) ∙ laid_on step xs (take i js) (j ∷ drop (suc i) js) ∙ g.1 ∙ append_assoc b (step j b ∷ []) g.0)

pub get_or_middle : {A : Type 0} (xs : List A) (x : A) (more : List A) (d : A) (c : ℕ) → c ≡ length xs → get_or (xs ++ (x ∷ more)) c d ≡ x
get_or_middle xs x more d c e =
    let z : c - length xs ≡ 0 = omega arith in
    let h : length xs ≤ c = omega arith in
    get_or-append_right xs (x ∷ more) (length xs) c d refl h ∙ ap (λ (i : ℕ). get_or (x ∷ more) i d) z

-- ---- the jobs over the cells that stand for theirs

pub length-merged : (n : ℕ) (jobs : List Job) → length (merged_by n jobs) ≡ length jobs
unfolding merged_by
length-merged n jobs = let e = length-laid (λ (job : Job) (m : List Job). moved (rep_among n m) job) [] jobs in omega (arith, e)

pub merged_at : (n : ℕ) (jobs : List Job) (i : ℕ) → i < length jobs → AllByRecursion (λ (t : Term). t.cell < n + i) (job_at jobs i).terms
    → job_at (merged_by n jobs) i ≡ moved (rep_among n (merged_by n jobs)) (job_at jobs i)
unfolding merged_by
merged_at n jobs i l forward =
    let step = λ (job : Job) (m : List Job). moved (rep_among n m) job in
    let b : List Job = laid step [] (take i jobs) in
    let j : Job = job_at jobs i in
    let x : Job = moved (rep_among n b) j in
    let cut = laid_cut step [] jobs i l in
    let count : length b ≡ i = (let e = length-laid step [] (take i jobs) in let t = length-take-le i jobs (omega arith) in omega (arith, e, t)) in
    let at : job_at (laid step [] jobs) i ≡ x = ap (λ (m : List Job). job_at m i) cut.1 ∙ get_or_middle b x cut.0 no_job i (sym count) in
    let agree : AllByRecursion (λ (t : Term). rep_among n b t.cell ≡ rep_among n (laid step [] jobs) t.cell) j.terms =
    all_map (λ (t : Term). t.cell < n + i) (λ (t : Term). rep_among n b t.cell ≡ rep_among n (laid step [] jobs) t.cell) j.terms
    (λ t q. sym (ap (λ (m : List Job). rep_among n m t.cell) cut.1 ∙ rep_stays n b (x ∷ cut.0) t.cell (omega (arith, q, count)))) forward in
    at ∙ moved_agree (rep_among n b) (rep_among n (laid step [] jobs)) j agree

-- ---- the cell that stands for another stands for itself

pub record Stands (n : ℕ) (m : List Job) (i : ℕ) : Type 0 where
  pub job : ℕ
  pub is : rep_among n m (n + i) ≡ n + job
  pub earlier : job ≤ i
  pub equal : AreEqual (job_at m i) (job_at m job)
  pub itself : rep_among n m (n + job) ≡ n + job

pub stands : (n : ℕ) (m : List Job) (i : ℕ) → i < length m → Stands n m i
stands n m i l =
    let x : Job = job_at m i in
    let d : ℕ = position_or_len (are_equal x) m in
    let y : Job = job_at m d in
    let le : d ≤ i = first_at_most (are_equal x) m i (equal_is x x (equal_self x)) in
    let e : AreEqual x y = equal_yes x y (passes_at_first (are_equal x) m no_job (omega arith)) in
    let again : position_or_len (are_equal y) m ≡ d = position_or_len_is (are_equal y) m d no_job (omega arith)
    (λ k b. sym (same_tests x y (job_at m k) e) ∙ fails_before_first (are_equal x) m k no_job b)
    (λ b. equal_is y y (equal_self y)) in
    record {
      job = d;
      is = rep_job n m i;
      earlier = le;
      equal = e;
      itself = rep_job n m d ∙ ap (λ (k : ℕ). n + k) again;
    }

pub first_pointwise : (p q : Job → Bool) → ((x : Job) → p x ≡ q x) → (m : List Job) → position_or_len p m ≡ position_or_len q m
first_pointwise p q h [] = refl
first_pointwise p q h (x ∷ m) = rw (h x, first_pointwise p q h m) refl

-- for equal jobs stands one cell
pub same_rep : (n : ℕ) (m : List Job) (i k : ℕ) → AreEqual (job_at m i) (job_at m k) → rep_among n m (n + i) ≡ rep_among n m (n + k)
same_rep n m i k e =
    rep_job n m i
    ∙ ap (λ (d : ℕ). n + d) (first_pointwise (are_equal (job_at m i)) (are_equal (job_at m k)) (λ x. same_tests (job_at m i) (job_at m k) x e) m)
    ∙ sym (rep_job n m k)
