-- The cells that are needed.
use Rattle.std.proofs.Common.{◌≡◌, ℕ, zero, suc, ◌+◌, ◌<◌, ◌≤◌, ◌⊎◌, inl, inr, Bool, true, false, List, [], ◌∷◌, length, refl, sym, ◌∙◌, ap, subst, arith}
use Rattle.std.specs.Prelude.{◌||◌, ◌&&◌, ◌==◌}
use Rattle.std.specs.List.{AllByRecursion, list_any}
use Rattle.std.proofs.lemmas.Bool.{and_parts, eqb-true}
use Rattle.rx_net.specs.declared.term.Term.{Term}
use Rattle.rx_net.specs.declared.net.Job.{Job}
use Rattle.rx_fold.specs.Jobs.{job_at}
use Rattle.rx_fold.specs.Folded.{names, names_any, is_needed}

pub or_left : (a b : Bool) → a ≡ true → (a || b) ≡ true
or_left a b h = ap (λ (x : Bool). x || b) h

pub or_right : (a b : Bool) → b ≡ true → (a || b) ≡ true
or_right true b h = refl
or_right false b h = h

pub and_both : (a b : Bool) → a ≡ true → b ≡ true → (a && b) ≡ true
and_both a b e f = ap (λ (x : Bool). x && b) e ∙ f

pub or_which : (a b : Bool) → (a || b) ≡ true → (a ≡ true) ⊎ (b ≡ true)
or_which true b h = inl refl
or_which false b h = inr h

pub not_both : (a : Bool) → a ≡ true → a ≡ false → ⊥
not_both a e f = let g : true ≡ false = sym e ∙ f in cc

or_false : (a b : Bool) → b ≡ false → (a || b) ≡ a
or_false true b h = refl
or_false false b h = h

-- the jobs, of which the first has the cell c, name earlier cells alone
pub Forward : ℕ → List Job → Type 0
Forward c [] = Unit {0}
Forward c (j ∷ js) = AllByRecursion (λ (t : Term). t.cell < c) j.terms × Forward (suc c) js

pub forward_from : (c : ℕ) (js : List Job) → ((i : ℕ) → i < length js → AllByRecursion (λ (t : Term). t.cell < c + i) (job_at js i).terms) → Forward c js
unfolding Forward
forward_from c [] h = tt
forward_from c (j ∷ js) h = (
  let e : c + 0 ≡ c = omega arith in subst (λ (n : ℕ). AllByRecursion (λ (t : Term). t.cell < n) j.terms) e (h 0 (omega arith)),
  forward_from (suc c) js (λ i l. let e : c + suc i ≡ suc c + i = omega arith in
      subst (λ (n : ℕ). AllByRecursion (λ (t : Term). t.cell < n) (job_at js i).terms) e (h (suc i) (omega arith))),
)

pub forward_at : (c : ℕ) (js : List Job) → Forward c js → (i : ℕ) → i < length js → AllByRecursion (λ (t : Term). t.cell < c + i) (job_at js i).terms
unfolding Forward
forward_at c [] h i l = absurd (omega arith)
forward_at c (j ∷ js) h zero l = let e : c ≡ c + 0 = omega arith in subst (λ (n : ℕ). AllByRecursion (λ (t : Term). t.cell < n) j.terms) e h.0
forward_at c (j ∷ js) h (suc i) l = let e : suc c + i ≡ c + suc i = omega arith in
    subst (λ (n : ℕ). AllByRecursion (λ (t : Term). t.cell < n) (job_at js i).terms) e (forward_at (suc c) js h.1 i (omega arith))

-- a job whose cells are below c names no cell from c on
pub names_none : (ts : List Term) (c x : ℕ) → AllByRecursion (λ (t : Term). t.cell < c) ts → c ≤ x → list_any (λ (t : Term). t.cell == x) ts ≡ false
names_none [] c x h l = refl
names_none (t ∷ ts) c x h l = both_false (t.cell == x) (list_any (λ (t : Term). t.cell == x) ts) (apart t.cell x (let a = h.0 in omega arith)) (names_none ts c x h.1 l)
  where
    both_false : (a b : Bool) → a ≡ false → b ≡ false → (a || b) ≡ false
    both_false a b e f = ap (λ (y : Bool). y || b) e ∙ f

    apart : (a b : ℕ) → a < b → (a == b) ≡ false
    apart a b l = grind (arith, l)

-- what is named is a term's cell
pub named_by : (P : ℕ → Type 0) (ts : List Term) (x : ℕ) → list_any (λ (t : Term). t.cell == x) ts ≡ true → AllByRecursion (λ (t : Term). P t.cell) ts → P x
named_by P [] x h all = absurd (let g : false ≡ true = h in cc)
named_by P (t ∷ ts) x h all = elim (or_which (t.cell == x) (list_any (λ (t : Term). t.cell == x) ts) h) [
  | inl here ↦ subst P (eqb-true t.cell x here) all.0
  | inr later ↦ named_by P ts x later all.1
]

-- and each term's cell is named
pub each_named : (Q : ℕ → Type 0) (ts : List Term) → ((x : ℕ) → list_any (λ (t : Term). t.cell == x) ts ≡ true → Q x) → AllByRecursion (λ (t : Term). Q t.cell) ts
each_named Q [] h = tt
each_named Q (t ∷ ts) h = (
  h t.cell (or_left (t.cell == t.cell) (list_any (λ (u : Term). u.cell == t.cell) ts) (same t.cell)),
  each_named Q ts (λ x l. h x (or_right (t.cell == x) (list_any (λ (u : Term). u.cell == x) ts) l)),
)
  where
    same : (a : ℕ) → (a == a) ≡ true
    same a = grind arith

-- the same of a list of cells
pub each_of : (Q : ℕ → Type 0) (cs : List ℕ) → ((x : ℕ) → names_any cs x ≡ true → Q x) → AllByRecursion Q cs
each_of Q [] h = tt
each_of Q (c ∷ cs) h = (
  h c (or_left (c == c) (list_any (λ (d : ℕ). d == c) cs) (same c)),
  each_of Q cs (λ x l. h x (or_right (c == x) (list_any (λ (d : ℕ). d == x) cs) l)),
)
  where
    same : (a : ℕ) → (a == a) ≡ true
    same a = grind arith

-- ---- what is needed

pub needed_given : (cells : List ℕ) (c : ℕ) (js : List Job) (x : ℕ) → names_any cells x ≡ true → is_needed cells c js x ≡ true
unfolding is_needed
needed_given cells c [] x h = h
needed_given cells c (j ∷ js) x h = or_left (is_needed cells (suc c) js x) (is_needed cells (suc c) js c && names j x) (needed_given cells (suc c) js x h)

-- a cell from c on is needed by jobs of cells from c on exactly where it is by the later ones
pub needed_later : (cells : List ℕ) (c : ℕ) (j : Job) (js : List Job) (x : ℕ) → Forward c (j ∷ js) → c ≤ x
    → is_needed cells c (j ∷ js) x ≡ is_needed cells (suc c) js x
unfolding is_needed Forward
needed_later cells c j js x h l =
    or_false (is_needed cells (suc c) js x) (is_needed cells (suc c) js c && names j x) (and_false (is_needed cells (suc c) js c) (names j x) (names_none j.terms c x h.0 l))
  where
    and_false : (a b : Bool) → b ≡ false → (a && b) ≡ false
    and_false true b e = e
    and_false false b e = refl

pub needed_named : (cells : List ℕ) (c : ℕ) (js : List Job) → Forward c js → (i x : ℕ) → i < length js → is_needed cells c js (c + i) ≡ true → names (job_at js i) x ≡ true
    → is_needed cells c js x ≡ true
unfolding is_needed Forward
needed_named cells c [] f i x l h n = absurd (omega arith)
needed_named cells c (j ∷ js) f zero x l h n =
    let e : c + 0 ≡ c = omega arith in
    let own : is_needed cells (suc c) js c ≡ true = sym (needed_later cells c j js c f (omega arith)) ∙ subst (λ (y : ℕ). is_needed cells c (j ∷ js) y ≡ true) e h in
    or_right (is_needed cells (suc c) js x) (is_needed cells (suc c) js c && names j x) (and_both (is_needed cells (suc c) js c) (names j x) own n)
needed_named cells c (j ∷ js) f (suc i) x l h n =
    let e : c + suc i ≡ suc c + i = omega arith in
    let later : is_needed cells (suc c) js (suc c + i) ≡ true =
    subst (λ (y : ℕ). is_needed cells (suc c) js y ≡ true) e (sym (needed_later cells c j js (c + suc i) f (omega arith)) ∙ h) in
    or_left (is_needed cells (suc c) js x) (is_needed cells (suc c) js c && names j x) (needed_named cells (suc c) js f.1 i x (omega arith) later n)

-- why a cell is needed
pub record NamedLater (cells : List ℕ) (c : ℕ) (js : List Job) (x : ℕ) : Type 0 where
  pub job : ℕ
  pub within : job < length js
  pub needed : is_needed cells c js (c + job) ≡ true
  pub names : names (job_at js job) x ≡ true

pub needed_why : (cells : List ℕ) (c : ℕ) (js : List Job) → Forward c js → (x : ℕ) → is_needed cells c js x ≡ true → (names_any cells x ≡ true) ⊎ NamedLater cells c js x
unfolding is_needed Forward
needed_why cells c [] f x h = inl h
needed_why cells c (j ∷ js) f x h = elim (or_which (is_needed cells (suc c) js x) (is_needed cells (suc c) js c && names j x) h) [
  | inl later ↦ elim (needed_why cells (suc c) js f.1 x later) [
    | inl given ↦ inl given
    | inr why ↦ let e : suc c + why.job ≡ c + suc why.job = omega arith in inr record {
      job = suc why.job;
      within = let w = why.within in omega arith;
      needed = needed_later cells c j js (c + suc why.job) f (omega arith) ∙ subst (λ (y : ℕ). is_needed cells (suc c) js y ≡ true) e why.needed;
      names = why.names;
    }
  ]
  | inr here ↦
      let p = and_parts (is_needed cells (suc c) js c) (names j x) here in
      let e : c ≡ c + 0 = omega arith in inr record {
        job = 0;
        within = omega arith;
        needed = subst (λ (y : ℕ). is_needed cells c (j ∷ js) y ≡ true) e (needed_later cells c j js c f (omega arith) ∙ p.0);
        names = p.1;
      }
]

-- what holds the cells, and with a needed job's cell those that it names, holds all that is needed
pub needed_least : (cells : List ℕ) (n : ℕ) (js : List Job) → Forward n js → (P : ℕ → Type 0) → ((x : ℕ) → names_any cells x ≡ true → P x)
    → ((i x : ℕ) → i < length js → P (n + i) → names (job_at js i) x ≡ true → P x) → (x : ℕ) → is_needed cells n js x ≡ true → P x
unfolding is_needed Forward
needed_least cells n [] f P given closed x h = given x h
needed_least cells n (j ∷ js) f P given closed x h =
    let later = needed_least cells (suc n) js f.1 P given (λ i x l. let e : n + suc i ≡ suc n + i = omega arith in
    λ p. closed (suc i) x (omega arith) (subst P (sym e) p)) in
    elim (or_which (is_needed cells (suc n) js x) (is_needed cells (suc n) js n && names j x) h) [
      | inl there ↦ later x there
      | inr here ↦
          let p = and_parts (is_needed cells (suc n) js n) (names j x) here in
          let e : n ≡ n + 0 = omega arith in
          closed 0 x (omega arith) (subst P e (later n p.0)) p.1
    ]
