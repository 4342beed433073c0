-- Equal jobs, and jobs over other cells.
use Rattle.std.proofs.Common.{◌≡◌, ℕ, ℤ, Bool, true, List, [], ◌∷◌, map, refl, sym, ◌∙◌, ap}
use Rattle.std.specs.Prelude.{◌==◌, ◌&&◌}
use Rattle.std.specs.Bool.{Decides}
use Rattle.std.specs.List.{AllByRecursion}
use Rattle.std.specs.Cmp.Lexicographic.{pointwise}
use Rattle.std.specs.Ordering.{int_eq}
use Rattle.std.specs.Str.{bytes_eq}
use Rattle.std.proofs.lemmas.Bool.{and_parts}
use Rattle.std.proofs.lemmas.Bool.Decides.{Decides-eqb, Decides-int_eq, same_from_decides}
use Rattle.std.proofs.lemmas.Slice.Eq.{slice_eq-Decides, bytes_eq-Decides}
use Rattle.rx_net.specs.declared.term.Term.{Term}
use Rattle.rx_net.specs.declared.net.Job.{Job}
use Rattle.rx_fold.specs.Jobs.{moved_term, moved, AreEqual, equal_terms, are_equal}

both : (a b : Bool) → a ≡ true → b ≡ true → (a && b) ≡ true
both a b e f = ap (λ (x : Bool). x && b) e ∙ f

make_term : ℕ → ℤ → Term
make_term c w = record { cell = c; weight = w }

term_decides : (s t : Term) → Decides (equal_terms s t) (s ≡ t)
term_decides s t = (
  λ h. let p = and_parts (s.cell == t.cell) (int_eq s.weight t.weight) h in
      let c : s.cell ≡ t.cell = (Decides-eqb s.cell t.cell).0 p.0 in
      let w : s.weight ≡ t.weight = (Decides-int_eq s.weight t.weight).0 p.1 in
      let f : Term ≡ Term = refl in
      both_fields s.cell t.cell c s.weight t.weight w,
  λ e. both (s.cell == t.cell) (int_eq s.weight t.weight) ((Decides-eqb s.cell t.cell).1 (ap (λ (x : Term). x.cell) e)) ((Decides-int_eq s.weight t.weight).1 (ap (λ (x : Term). x.weight) e)),
)
  where
    both_fields : (c d : ℕ) → c ≡ d → (w v : ℤ) → w ≡ v → (let x : Term = record { cell = c; weight = w } in x) ≡ (let y : Term = record { cell = d; weight = v } in y)
    both_fields c d e w v f = ap (λ (c : ℕ). let x : Term = record { cell = c; weight = w } in x) e ∙ ap (λ (w : ℤ). let x : Term = record { cell = d; weight = w } in x) f

terms_decide : (xs ys : List Term) → Decides (pointwise equal_terms xs ys) (xs ≡ ys)
terms_decide xs ys = slice_eq-Decides term_decides xs ys (pointwise equal_terms xs ys) refl

pub equal_yes : (i j : Job) → are_equal i j ≡ true → AreEqual i j
equal_yes i j h =
    let p = and_parts (pointwise equal_terms i.terms j.terms) (int_eq i.constant j.constant && bytes_eq i.table j.table) h in
    let q = and_parts (int_eq i.constant j.constant) (bytes_eq i.table j.table) p.1 in
    record {
      terms = (terms_decide i.terms j.terms).0 p.0;
      constant = (Decides-int_eq i.constant j.constant).0 q.0;
      table = (bytes_eq-Decides i.table j.table).0 q.1;
    }

pub equal_is : (i j : Job) → AreEqual i j → are_equal i j ≡ true
equal_is i j h =
    both (pointwise equal_terms i.terms j.terms) (int_eq i.constant j.constant && bytes_eq i.table j.table) ((terms_decide i.terms j.terms).1 h.terms)
    (both (int_eq i.constant j.constant) (bytes_eq i.table j.table) ((Decides-int_eq i.constant j.constant).1 h.constant) ((bytes_eq-Decides i.table j.table).1 h.table))

pub equal_self : (i : Job) → AreEqual i i
equal_self i = record { terms = refl; constant = refl; table = refl }

pub equal_back : (i j : Job) → AreEqual i j → AreEqual j i
equal_back i j h = record { terms = sym h.terms; constant = sym h.constant; table = sym h.table }

pub equal_on : (i j k : Job) → AreEqual i j → AreEqual j k → AreEqual i k
equal_on i j k g h = record { terms = g.terms ∙ h.terms; constant = g.constant ∙ h.constant; table = g.table ∙ h.table }

-- equal jobs are equal to the same jobs
pub same_tests : (i j k : Job) → AreEqual i j → are_equal i k ≡ are_equal j k
same_tests i j k h = same_from_decides (are_equal i k) (are_equal j k) (equal_yes i k, equal_is i k)
    (λ t. equal_on i j k h (equal_yes j k t), λ g. equal_is j k (equal_on j i k (equal_back i j h) g))

-- ---- cells replaced by two functions that agree on them

pub moved_terms_agree : (f g : ℕ → ℕ) (ts : List Term) → AllByRecursion (λ (t : Term). f t.cell ≡ g t.cell) ts → map (moved_term f) ts ≡ map (moved_term g) ts
moved_terms_agree f g [] h = refl
moved_terms_agree f g (t ∷ ts) h =
    ap (λ (c : ℕ). (let x : Term = record { cell = c; weight = t.weight } in x) ∷ map (moved_term f) ts) h.0
    ∙ ap (λ (us : List Term). moved_term g t ∷ us) (moved_terms_agree f g ts h.1)

pub moved_agree : (f g : ℕ → ℕ) (j : Job) → AllByRecursion (λ (t : Term). f t.cell ≡ g t.cell) j.terms → moved f j ≡ moved g j
moved_agree f g j h = ap (λ (ts : List Term). let x : Job = record { terms = ts; constant = j.constant; table = j.table; degree = j.degree } in x) (moved_terms_agree f g j.terms h)

moved_terms_id : (ts : List Term) → map (moved_term (λ c. c)) ts ≡ ts
moved_terms_id [] = refl
moved_terms_id (t ∷ ts) = ap (λ (us : List Term). t ∷ us) (moved_terms_id ts)

pub moved_id : (j : Job) → moved (λ c. c) j ≡ j
moved_id j = ap (λ (ts : List Term). let x : Job = record { terms = ts; constant = j.constant; table = j.table; degree = j.degree } in x) (moved_terms_id j.terms)

moved_terms_twice : (f g : ℕ → ℕ) (ts : List Term) → map (moved_term g) (map (moved_term f) ts) ≡ map (moved_term (λ c. g (f c))) ts
moved_terms_twice f g [] = refl
moved_terms_twice f g (t ∷ ts) = ap (λ (us : List Term). moved_term (λ c. g (f c)) t ∷ us) (moved_terms_twice f g ts)

pub moved_twice : (f g : ℕ → ℕ) (j : Job) → moved g (moved f j) ≡ moved (λ c. g (f c)) j
moved_twice f g j = ap (λ (ts : List Term). let x : Job = record { terms = ts; constant = j.constant; table = j.table; degree = j.degree } in x) (moved_terms_twice f g j.terms)
