-- Marks of cells.
use Rattle.std.proofs.Common.{◌≡◌, ℕ, zero, suc, ◌+◌, ◌<◌, ◌≤◌, Bool, false, List, [], ◌∷◌, length, get_or, drop, map, refl, sym, ◌∙◌, ap, subst, arith}
use Rattle.std.specs.Prelude.{◌==◌, ◌||◌, ◌&&◌}
use Rattle.std.specs.List.{AllByRecursion, list_any}
use Rattle.std.proofs.lemmas.List.{drop_more, get_or-map, length-map, get_or_default}
use Rattle.rx_net.specs.declared.term.Term.{Term}
use Rattle.rx_net.specs.declared.net.Job.{Job}
use Rattle.rx_fold.specs.Jobs.{moved_term, moved, job_at, no_job}
use Rattle.rx_fold.specs.Folded.{names_any, is_needed}
use Rattle.rx_net.proofs.Each.{all_map}
use Rattle.rx_fold.specs.Passes.{Tells, is_marked, AreForward}

rest_is : {A : Type 0} (xs : List A) (i : ℕ) (y : A) → i < length xs → y ≡ get_or xs i y → drop i xs ≡ y ∷ drop (i + 1) xs
rest_is xs i y l e = drop_more xs i y l ∙ (λ k. sym e k ∷ drop (i + 1) xs)

none_left : {A : Type 0} (xs : List A) (i : ℕ) → length xs ≤ i → drop i xs ≡ []
none_left [] zero l = refl
none_left [] (suc i) l = refl
none_left (x ∷ xs) zero l = absurd (omega arith)
none_left (x ∷ xs) (suc i) l = none_left xs i (omega arith)

-- ---- jobs

any_moved_terms : (f : ℕ → ℕ) (ts : List Term) (x : ℕ) → list_any (λ (t : Term). t.cell == x) (map (moved_term f) ts) ≡ list_any (λ (t : Term). f t.cell == x) ts
any_moved_terms f [] x = refl
any_moved_terms f (t ∷ ts) x = ap (λ (b : Bool). (f t.cell == x) || b) (any_moved_terms f ts x)

pub any_moved_cells : (f : ℕ → ℕ) (cs : List ℕ) (x : ℕ) → list_any (λ (c : ℕ). f c == x) cs ≡ names_any (map f cs) x
any_moved_cells f [] x = refl
any_moved_cells f (c ∷ cs) x = ap (λ (b : Bool). (f c == x) || b) (any_moved_cells f cs x)

-- no job yet
pub needed_none : (cells : List ℕ) (c : ℕ) (f : ℕ → ℕ) (jobs : List Job) (n : ℕ) (marks : List Bool) → Tells false (names_any cells) n marks
    → Tells false (is_needed cells c (drop (length jobs) (map (moved f) jobs))) n marks
unfolding is_needed
needed_none cells c f jobs n marks t =
    let e : drop (length jobs) (map (moved f) jobs) ≡ [] = none_left (map (moved f) jobs) (length jobs) (let a = length-map jobs (moved f) in omega arith) in
    subst (λ (js : List Job). Tells false (is_needed cells c js) n marks) (sym e) record { count = t.count; each = t.each }

-- the job at the place more
pub needed_more : (cells : List ℕ) (first : ℕ) (f : ℕ → ℕ) (jobs : List Job) (place : ℕ) (job : Job) (n : ℕ) (old new : List Bool)
    → place < length jobs → job ≡ get_or jobs place job → first + place < n → length new ≡ n
    → Tells false (is_needed cells (first + (place + 1)) (drop (place + 1) (map (moved f) jobs))) n old
    → ((x : ℕ) → x < n → is_marked new x ≡ (is_marked old x || (is_marked old (first + place) && list_any (λ (t : Term). f t.cell == x) job.terms)))
    → Tells false (is_needed cells (first + place) (drop place (map (moved f) jobs))) n new
unfolding is_needed
needed_more cells first f jobs place job n old new l e within count t h =
    let rest : List Job = drop (place + 1) (map (moved f) jobs) in
    let z : first + (place + 1) ≡ suc (first + place) = omega arith in
    let at : moved f job ≡ get_or (map (moved f) jobs) place (moved f job) = ap (moved f) e ∙ sym (get_or-map (moved f) jobs place job (moved f job) l) in
    let own : drop place (map (moved f) jobs) ≡ moved f job ∷ rest = rest_is (map (moved f) jobs) place (moved f job) (let a = length-map jobs (moved f) in omega (arith, a)) at in
    let u : Tells false (is_needed cells (suc (first + place)) rest) n old = subst (λ (k : ℕ). Tells false (is_needed cells k rest) n old) z t in
    subst (λ (js : List Job). Tells false (is_needed cells (first + place) js) n new) (sym own) record {
      count = count;
      each = λ x b. h x b ∙ (λ i. u.each x b i || (u.each (first + place) within i && sym (any_moved_terms f job.terms x) i));
    }

-- a job's terms name cells below its own
pub job_within : (n : ℕ) (jobs : List Job) (i : ℕ) (job : Job) (k : ℕ) → AreForward n jobs → i < length jobs → job ≡ get_or jobs i job → n + i ≤ k
    → AllByRecursion (λ (t : Term). t.cell < k) job.terms
job_within n jobs i job k f l e m =
    let own : job ≡ job_at jobs i = e ∙ sym (get_or_default jobs i no_job job l) in
    all_map (λ (t : Term). t.cell < n + i) (λ (t : Term). t.cell < k) job.terms (λ t b. omega arith)
    (subst (λ (j : Job). AllByRecursion (λ (t : Term). t.cell < n + i) j.terms) (sym own) (f i l))
