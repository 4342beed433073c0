-- The order of keys tells apart what their jobs do, and the first jobs of keys.
use Rattle.std.proofs.Common.{◌≡◌, ℕ, ℤ, ◌+◌, ◌<◌, ◌≤◌, Bool, true, false, cond, List, [], ◌∷◌, ◌++◌, length, map, Option, Some, None, is_some, eqb, ltb, not, refl, sym, ◌∙◌, ap, arith, length-append}
use Rattle.std.specs.Prelude.{◌==◌, ◌&&◌, nat_lt}
use Rattle.std.specs.Option.{option_map, option_map_or}
use Rattle.std.specs.List.{position, position_or_len}
use Rattle.std.specs.declared.cmp.Ordering.TheVariants.{Less, Equal, Greater}
use Rattle.std.specs.Ordering.{nat_cmp, int_cmp, int_eq, is_eq, ordering_then}
use Rattle.std.specs.Cmp.{tied_then}
use Rattle.std.specs.Cmp.Lexicographic.{slice_cmp, pointwise}
use Rattle.std.specs.BTreeMap.{BTreeMap, get}
use Rattle.std.proofs.lemmas.Bool.{lt-ltb, le-ltb, ltb-true, eqb-true, eqb-false}
use Rattle.std.proofs.lemmas.Bool.Decides.{same_from_decides}
use Rattle.std.proofs.lemmas.Map.Text.{is_eq-slice_cmp}
use Rattle.std.proofs.lemmas.List.Folds.{position_or_len_push}
use Rattle.std.proofs.lemmas.List.Sums.{prefix_len-le-length}
use Rattle.rx_net.specs.declared.net.Job.{Job}
use Rattle.rx_fold.specs.declared.keys.Key.{Key}
use Rattle.rx_fold.specs.Jobs.{AreEqual, equal_terms, are_equal}
use Rattle.rx_fold.specs.Passes.{term_of, job_of, term_cmp, key_cmp, TellsFirsts}
use Rattle.rx_fold.proofs.Equal.{equal_yes, equal_is, equal_back, equal_on, same_tests}
use Rattle.rx_fold.proofs.Stand.{first_pointwise}

nat_same : (x y : ℕ) → is_eq (nat_cmp x y) ≡ (x == y)
nat_same x y = by_test x y (nat_lt x y) refl
  where
    apart : (a b : ℕ) → a < b → (a == b) ≡ false
    apart a b l = grind (arith, l)

    other : (b : Bool) → is_eq (cond b Equal Greater) ≡ b
    other true = refl
    other false = refl

    by_test : (x y : ℕ) (b : Bool) → b ≡ nat_lt x y → is_eq (cond b Less (cond (x == y) Equal Greater)) ≡ (x == y)
    by_test x y true h = sym (apart x y (ltb-true x y (sym h)))
    by_test x y false h = other (x == y)

term_same : (p q : ℕ × ℤ) → is_eq (term_cmp p q) ≡ equal_terms (term_of p) (term_of q)
term_same p q = sym (tied_then (nat_cmp p.0 q.0) (int_cmp p.1 q.1)) ∙ (λ i. nat_same p.0 q.0 i && int_eq p.1 q.1)

terms_same : (xs ys : List (ℕ × ℤ)) → is_eq (slice_cmp term_cmp xs ys) ≡ pointwise equal_terms (map term_of xs) (map term_of ys)
terms_same [] [] = refl
terms_same [] (y ∷ ys) = refl
terms_same (x ∷ xs) [] = refl
terms_same (x ∷ xs) (y ∷ ys) = sym (tied_then (term_cmp x y) (slice_cmp term_cmp xs ys)) ∙ (λ i. term_same x y i && terms_same xs ys i)

pub key_same : (a b : Key) → is_eq (key_cmp a b) ≡ are_equal (job_of a) (job_of b)
key_same a b =
    let s = slice_cmp term_cmp a.terms.items b.terms.items in
    let c = int_cmp a.constant b.constant in
    let t = slice_cmp nat_cmp a.table.items b.table.items in
    sym (tied_then s (ordering_then c t))
    ∙ (λ i. terms_same a.terms.items b.terms.items i && sym (tied_then c t) i)
    ∙ (λ i. pointwise equal_terms (map term_of a.terms.items) (map term_of b.terms.items) && (int_eq a.constant b.constant && is_eq-slice_cmp a.table.items b.table.items i))

-- ---- the first job that passes, where one job more follows

abbrev or_last : Option ℕ → Bool → ℕ → Option ℕ
or_last (Some a) b n = Some a
or_last None b n = cond b (Some n) None

last_cases : (n len : ℕ) (passes last : Bool) → last ≡ eqb n len → n ≤ len
    → cond (ltb (cond last (len + cond passes 0 1) n) (len + 1)) (Some (cond last (len + cond passes 0 1) n)) None ≡ or_last (cond (ltb n len) (Some n) None) passes len
last_cases n len true true k most =
    let same : n ≡ len = eqb-true n len (sym k) in
    rw (lt-ltb (len + 0) (len + 1) (omega arith), le-ltb n len (omega (arith, same))) (let z : len + 0 ≡ len = omega arith in ap (λ (k : ℕ). Some k) z)
last_cases n len false true k most =
    let same : n ≡ len = eqb-true n len (sym k) in
    rw (le-ltb (len + 1) (len + 1) (omega arith), le-ltb n len (omega (arith, same))) refl
last_cases n len passes false k most =
    let below : n < len = below_from n len most (eqb-false n len (sym k)) in
    rw (lt-ltb n (len + 1) (omega arith), lt-ltb n len below) refl
  where
    below_from : (n len : ℕ) → n ≤ len → (n ≡ len → ⊥) → n < len
    below_from n len most apart = grind (arith, apart)

position_last : (p : Job → Bool) (xs : List Job) (x : Job) → position p (xs ++ x ∷ []) ≡ or_last (position p xs) (p x) (length xs)
position_last p xs x =
    rw (position_or_len_push p xs x, length-append xs (x ∷ []))
    (last_cases (position_or_len p xs) (length xs) (p x) (eqb (position_or_len p xs) (length xs)) refl (prefix_len-le-length (λ y. not (p y)) xs))

rep_cases : (n p len : ℕ) (last : Bool) → last ≡ eqb p len → p ≤ len
    → n + cond last (len + 0) p ≡ option_map_or (λ f. f) (option_map (λ i. n + i) (cond (ltb p len) (Some p) None)) (n + len)
rep_cases n p len true k most = let same : p ≡ len = eqb-true p len (sym k) in rw (le-ltb p len (omega (arith, same))) (let z : n + (len + 0) ≡ n + len = omega arith in z)
rep_cases n p len false k most = let below : p < len = below_from p len most (eqb-false p len (sym k)) in rw (lt-ltb p len below) refl
  where
    below_from : (n len : ℕ) → n ≤ len → (n ≡ len → ⊥) → n < len
    below_from n len most apart = grind (arith, apart)

-- the cell of the first job that passes, where the last does
pub rep_last : (n : ℕ) (p : Job → Bool) (m : List Job) (x : Job) → p x ≡ true
    → n + position_or_len p (m ++ x ∷ []) ≡ option_map_or (λ f. f) (option_map (λ i. n + i) (position p m)) (n + length m)
rep_last n p m x h = rw (position_or_len_push p m x, h)
    (rep_cases n (position_or_len p m) (length m) (eqb (position_or_len p m) (length m)) refl (prefix_len-le-length (λ y. not (p y)) m))

firsts_cases : (n len : ℕ) (P Q : Option ℕ) (b q : Bool) → b ≡ q → (q ≡ true → Q ≡ P)
    → cond (is_some (option_map (λ i. n + i) P)) (option_map (λ i. n + i) Q) (cond b (Some (n + len)) (option_map (λ i. n + i) Q)) ≡ option_map (λ i. n + i) (or_last Q q len)
firsts_cases n len (Some a) (Some c) b q e f = refl
firsts_cases n len (Some a) None b true e f = let g = f refl in absurd cc
firsts_cases n len (Some a) None b false e f = refl
firsts_cases n len None (Some c) true true e f = let g = f refl in absurd cc
firsts_cases n len None (Some c) true false e f = absurd cc
firsts_cases n len None (Some c) false q e f = refl
firsts_cases n len None None true true e f = refl
firsts_cases n len None None true false e f = absurd cc
firsts_cases n len None None false true e f = absurd cc
firsts_cases n len None None false false e f = refl

position_same : (i k : Job) → AreEqual i k → (m : List Job) → position (are_equal i) m ≡ position (are_equal k) m
position_same i k e m = ap (λ (a : ℕ). cond (nat_lt a (length m)) (Some a) None) (first_pointwise (are_equal i) (are_equal k) (λ x. same_tests i k x e) m)

-- one job more, which equals the job of the key
pub firsts_more : (n : ℕ) (m : List Job) (x : Job) (firsts new : BTreeMap Key ℕ) (key : Key) (cell : ℕ) → TellsFirsts n m firsts → AreEqual (job_of key) x → cell ≡ n + length m
    → ((k : Key) → get key_cmp new k ≡ cond (is_some (get key_cmp firsts key)) (get key_cmp firsts k) (cond (is_eq (key_cmp key k)) (Some cell) (get key_cmp firsts k)))
    → TellsFirsts n (m ++ x ∷ []) new
firsts_more n m x firsts new key cell h e c known k =
    known k
    ∙ (λ i. cond (is_some (h key i)) (h k i) (cond (is_eq (key_cmp key k)) (Some (c i)) (h k i)))
    ∙ firsts_cases n (length m) (position (are_equal (job_of key)) m) (position (are_equal (job_of k)) m) (is_eq (key_cmp key k)) (are_equal (job_of k) x) same
    (λ t. position_same (job_of k) (job_of key) (equal_on (job_of k) x (job_of key) (equal_yes (job_of k) x t) (equal_back (job_of key) x e)) m)
    ∙ ap (option_map (λ i. n + i)) (sym (position_last (are_equal (job_of k)) m x))
  where
    same : is_eq (key_cmp key k) ≡ are_equal (job_of k) x
    same = key_same key k ∙ same_from_decides (are_equal (job_of key) (job_of k)) (are_equal (job_of k) x) (equal_yes (job_of key) (job_of k), equal_is (job_of key) (job_of k))
        (λ t. equal_on (job_of key) x (job_of k) e (equal_back (job_of k) x (equal_yes (job_of k) x t)), λ g. equal_is (job_of k) x (equal_on (job_of k) (job_of key) x (equal_back (job_of key) (job_of k) g) e))

-- the first cell that is found for a key
pub first_found : (n : ℕ) (m : List Job) (x : Job) (firsts : BTreeMap Key ℕ) (key : Key) (cell first : ℕ) → TellsFirsts n m firsts → AreEqual (job_of key) x → cell ≡ n + length m
    → first ≡ option_map_or (λ f. f) (get key_cmp firsts key) cell → first ≡ n + position_or_len (are_equal x) (m ++ x ∷ [])
first_found n m x firsts key cell first h e c f =
    f ∙ (λ i. option_map_or (λ f. f) (h key i) (c i)) ∙ sym (rep_last n (are_equal (job_of key)) m x (equal_is (job_of key) x e))
    ∙ ap (λ (a : ℕ). n + a) (first_pointwise (are_equal (job_of key)) (are_equal x) (λ y. same_tests (job_of key) x y e) (m ++ x ∷ []))
