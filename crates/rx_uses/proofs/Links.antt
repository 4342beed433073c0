-- Lists that are linked by index.
use Rattle.std.proofs.Common.{◌≡◌, ◌≢◌, ℕ, zero, suc, ◌+◌, ◌<◌, ◌≤◌, Bool, true, false, cond, eqb, replicate, append-nil, append_assoc, List, [], ◌∷◌, ◌++◌, map, length, get_or, set, drop, sym, refl, ap, ◌∙◌, subst, arith, eq-eqb, ne_eqb, get_or-set_other, length-set, length-drop}
use Rattle.std.specs.Prelude.{Some, None, ◌||◌}
use Rattle.std.specs.List.{AllByRecursion, IsDistinct, list_any}
use Rattle.std.proofs.lemmas.List.{drop_all, drop_more}
use Rattle.std.proofs.lemmas.Map.Steps.{length-le_from_distinct_below}
use mathlib.Core.Logic.{dite}
use native.Mathlib.Decide.{ℕ_discrete}
use Rattle.rx_net.specs.declared.term.Term.{Term}
use Rattle.rx_net.specs.declared.net.Job.{Job}
use Rattle.rx_uses.specs.Uses.{node_at, naming, all_terms, owners_from}
use Rattle.rx_uses.specs.Links.{link_of, walk, Chain, LinksBack, AreLists, cell_named, places, places_from}
use Rattle.rx_uses.proofs.UsesLaw.{at_node}

-- ---- one list and its links onward

linked_some : (h n : ℕ) → h < n → n < 4294967295 → link_of h ≡ Some h
linked_some h n l s = ap (λ (b : Bool). cond b None (Some h)) (ne_eqb h 4294967295 (λ e. omega arith))

pub chain_first : (nexts : List ℕ) (h : ℕ) (xs : List ℕ) → length nexts < 4294967295 → Chain nexts h xs → link_of h ≡ node_at xs 0
chain_first nexts h [] s c = ap (λ (b : Bool). cond b None (Some h)) (eq-eqb h 4294967295 c)
chain_first nexts h (x ∷ xs) s c = ap link_of c.0 ∙ linked_some x (length nexts) c.1 s

pub chain_next : (nexts : List ℕ) (h : ℕ) (xs : List ℕ) (k x : ℕ) → length nexts < 4294967295 → Chain nexts h xs → node_at xs k ≡ Some x → link_of (get_or nexts x 0) ≡ node_at xs (k + 1)
chain_next nexts h [] k x s c e = absurd (let z : None ≡ Some x = e in cc)
chain_next nexts h (y ∷ xs) zero x s c e = let z : Some y ≡ Some x = e in let same : y ≡ x = cc in
    ap (λ (n : ℕ). link_of (get_or nexts n 0)) (sym same) ∙ (chain_first nexts (get_or nexts y 0) xs s c.2 ∙ (let q : suc 0 ≡ 0 + 1 = omega arith in ap (node_at (y ∷ xs)) q))
chain_next nexts h (y ∷ xs) (suc k) x s c e = chain_next nexts (get_or nexts y 0) xs k x s c.2 e ∙ (let q : suc (k + 1) ≡ suc k + 1 = omega arith in ap (node_at (y ∷ xs)) q)

pub chain_within : (nexts : List ℕ) (h : ℕ) (xs : List ℕ) (k x : ℕ) → Chain nexts h xs → node_at xs k ≡ Some x → x < length nexts
chain_within nexts h [] k x c e = absurd (let z : None ≡ Some x = e in cc)
chain_within nexts h (y ∷ xs) zero x c e = let z : Some y ≡ Some x = e in let same : y ≡ x = cc in subst (λ (n : ℕ). n < length nexts) same c.1
chain_within nexts h (y ∷ xs) (suc k) x c e = chain_within nexts (get_or nexts y 0) xs k x c.2 e

-- a chain is what a walk finds
pub walk_is : (nexts : List ℕ) (n h : ℕ) (xs : List ℕ) → length nexts < 4294967295 → length xs < n → Chain nexts h xs → walk nexts n h ≡ xs
walk_is nexts zero h xs s l c = absurd (omega arith)
walk_is nexts (suc n) h [] s l c = ap (λ (b : Bool). cond b [] (h ∷ walk nexts n (get_or nexts h 0))) (eq-eqb h 4294967295 c)
walk_is nexts (suc n) h (x ∷ xs) s l c = let small : x < length nexts = c.1 in
    ap (λ (z : ℕ). cond (eqb z 4294967295) [] (z ∷ walk nexts n (get_or nexts z 0))) c.0
    ∙ (ap (λ (b : Bool). cond b [] (x ∷ walk nexts n (get_or nexts x 0))) (ne_eqb x 4294967295 (λ e. omega arith))
    ∙ ap (λ (ys : List ℕ). x ∷ ys) (walk_is nexts n (get_or nexts x 0) xs s (omega arith) c.2))

-- the links from a node on are one list alone
chain_same : (nexts : List ℕ) (h : ℕ) (xs ys : List ℕ) → length nexts < 4294967295 → Chain nexts h xs → Chain nexts h ys → xs ≡ ys
chain_same nexts h [] [] s a b = refl
chain_same nexts h [] (y ∷ ys) s a b = let e : h ≡ 4294967295 = a in let i : h ≡ y = b.0 in let l : y < length nexts = b.1 in absurd (omega arith)
chain_same nexts h (x ∷ xs) [] s a b = let e : h ≡ 4294967295 = b in let i : h ≡ x = a.0 in let l : x < length nexts = a.1 in absurd (omega arith)
chain_same nexts h (x ∷ xs) (y ∷ ys) s a b = let e : x ≡ y = sym a.0 ∙ b.0 in
    let r : xs ≡ ys = chain_same nexts (get_or nexts x 0) xs ys s a.2 (subst (λ (z : ℕ). Chain nexts (get_or nexts z 0) ys) (sym e) b.2) in
    λ i. e i ∷ r i

chain_tail : (nexts : List ℕ) (h : ℕ) (xs : List ℕ) (q : ℕ) → q < length xs → Chain nexts h xs → Chain nexts (get_or xs q 0) (drop q xs)
chain_tail nexts h [] q l c = absurd (omega arith)
chain_tail nexts h (x ∷ xs) zero l c = (refl, c.1, c.2)
chain_tail nexts h (x ∷ xs) (suc q) l c = chain_tail nexts (get_or nexts x 0) xs q (omega arith) c.2

pub chain_after : (nexts : List ℕ) (h : ℕ) (xs : List ℕ) (k t : ℕ) → Chain nexts h xs → node_at xs k ≡ Some t → Chain nexts (get_or nexts t 0) (drop (suc k) xs)
chain_after nexts h [] k t c e = absurd (let z : None ≡ Some t = e in cc)
chain_after nexts h (x ∷ xs) zero t c e = let z : Some x ≡ Some t = e in let same : x ≡ t = cc in subst (λ (n : ℕ). Chain nexts (get_or nexts n 0) xs) same c.2
chain_after nexts h (x ∷ xs) (suc k) t c e = chain_after nexts (get_or nexts x 0) xs k t c.2 e

-- ---- what is not in a list

abbrev pub Apart : ℕ → List ℕ → Type 0
Apart y xs = (q : ℕ) → q < length xs → get_or xs q 0 ≢ y

-- a node stands once in its list
pub apart_first : (nexts : List ℕ) (h x : ℕ) (xs : List ℕ) → length nexts < 4294967295 → Chain nexts h (x ∷ xs) → Apart x xs
apart_first nexts h x xs s c = λ q l e.
    let t : Chain nexts x (drop q xs) = subst (λ (z : ℕ). Chain nexts z (drop q xs)) e (chain_tail nexts (get_or nexts x 0) xs q l c.2) in
    let here : Chain nexts x (x ∷ xs) = (refl, c.1, c.2) in
    let n : length (drop q xs) ≡ length (x ∷ xs) = ap length (chain_same nexts x (drop q xs) (x ∷ xs) s t here) in
    omega (arith, length-drop q xs)

pub apart_node : (nexts : List ℕ) (h x : ℕ) (xs : List ℕ) (k y : ℕ) → length nexts < 4294967295 → Chain nexts h (x ∷ xs) → node_at xs k ≡ Some y → x ≢ y
apart_node nexts h x xs k y s c m = λ e. let a = at_node xs k y m in apart_first nexts h x xs s c k a.0 (a.1 ∙ sym e)

-- no later node leads back to an earlier one
pub not_after : (nexts : List ℕ) (h x : ℕ) (xs : List ℕ) (k t : ℕ) → length nexts < 4294967295 → Chain nexts h (x ∷ xs) → node_at xs k ≡ Some t → x ≢ get_or nexts t 0
not_after nexts h x xs k t s c m = λ e.
    let r : Chain nexts x (drop (suc k) xs) = subst (λ (z : ℕ). Chain nexts z (drop (suc k) xs)) (sym e) (chain_after nexts (get_or nexts x 0) xs k t c.2 m) in
    let here : Chain nexts x (x ∷ xs) = (refl, c.1, c.2) in
    let n : length (drop (suc k) xs) ≡ length (x ∷ xs) = ap length (chain_same nexts x (drop (suc k) xs) (x ∷ xs) s r here) in
    omega (arith, length-drop (suc k) xs)

node_below : (nexts : List ℕ) (h : ℕ) (xs : List ℕ) (q : ℕ) → q < length xs → Chain nexts h xs → get_or xs q 0 < length nexts
node_below nexts h [] q l c = absurd (omega arith)
node_below nexts h (x ∷ xs) zero l c = c.1
node_below nexts h (x ∷ xs) (suc q) l c = node_below nexts (get_or nexts x 0) xs q (omega arith) c.2

pub past_apart : (nexts : List ℕ) (h : ℕ) (xs : List ℕ) (y : ℕ) → length nexts ≤ y → Chain nexts h xs → Apart y xs
past_apart nexts h xs y past c = λ q l e. let b = node_below nexts h xs q l c in omega arith

-- ---- a list is at most as long as the list of its links

all_apart : (x : ℕ) (xs : List ℕ) → Apart x xs → AllByRecursion (λ y. eqb x y ≡ false) xs
all_apart x [] apart = tt
all_apart x (y ∷ ys) apart = (ne_eqb x y (λ e. apart 0 (omega arith) (sym e)), all_apart x ys (λ q l. apart (suc q) (omega arith)))

chain_distinct : (nexts : List ℕ) (h : ℕ) (xs : List ℕ) → length nexts < 4294967295 → Chain nexts h xs → IsDistinct eqb xs
unfolding IsDistinct
chain_distinct nexts h [] s c = tt
chain_distinct nexts h (x ∷ xs) s c = (all_apart x xs (apart_first nexts h x xs s c), chain_distinct nexts (get_or nexts x 0) xs s c.2)

chain_below : (nexts : List ℕ) (h : ℕ) (xs : List ℕ) → Chain nexts h xs → (q : ℕ) → list_any (eqb q) xs ≡ true → q < length nexts
chain_below nexts h [] c q has = absurd (let z : false ≡ true = has in cc)
chain_below nexts h (x ∷ xs) c q has = dite (ℕ_discrete q x)
    (λ e. let l : x < length nexts = c.1 in omega arith)
    (λ ne. chain_below nexts (get_or nexts x 0) xs c.2 q (subst (λ (b : Bool). (b || list_any (eqb q) xs) ≡ true) (ne_eqb q x ne) has))

pub chain_short : (nexts : List ℕ) (h : ℕ) (xs : List ℕ) → length nexts < 4294967295 → Chain nexts h xs → length xs ≤ length nexts
chain_short nexts h xs s c = length-le_from_distinct_below xs (length nexts) (chain_distinct nexts h xs s c) (chain_below nexts h xs c)

-- ---- links that are set

-- a link onward that is set at a node which is not in the list
pub chain_else : (nexts : List ℕ) (t y h : ℕ) (xs : List ℕ) → Apart t xs → Chain nexts h xs → Chain (set nexts t y) h xs
chain_else nexts t y h [] not c = c
chain_else nexts t y h (x ∷ xs) not c = (
  c.0,
  (let n = length-set nexts t y in let b = c.1 in omega arith),
  subst (λ (z : ℕ). Chain (set nexts t y) z xs) (sym (get_or-set_other nexts t x y 0 (not 0 (omega arith)))) (chain_else nexts t y (get_or nexts x 0) xs (λ q l. not (suc q) (omega arith)) c.2),
)

-- a link back, and a cell
pub back_else : (prevs homes : List ℕ) (c p t y : ℕ) (xs : List ℕ) → Apart t xs → LinksBack prevs homes c p xs → LinksBack (set prevs t y) homes c p xs
back_else prevs homes c p t y [] not b = tt
back_else prevs homes c p t y (x ∷ xs) not b = (
  get_or-set_other prevs t x y 0 (not 0 (omega arith)) ∙ b.0,
  b.1,
  back_else prevs homes c x t y xs (λ q l. not (suc q) (omega arith)) b.2,
)

pub home_else : (prevs homes : List ℕ) (c p t y : ℕ) (xs : List ℕ) → Apart t xs → LinksBack prevs homes c p xs → LinksBack prevs (set homes t y) c p xs
home_else prevs homes c p t y [] not b = tt
home_else prevs homes c p t y (x ∷ xs) not b = (
  b.0,
  get_or-set_other homes t x y 0 (not 0 (omega arith)) ∙ b.1,
  home_else prevs homes c x t y xs (λ q l. not (suc q) (omega arith)) b.2,
)

-- ---- lists of different cells share no node

home_at : (prevs homes : List ℕ) (c p : ℕ) (xs : List ℕ) (q : ℕ) → q < length xs → LinksBack prevs homes c p xs → get_or homes (get_or xs q 0) 0 ≡ c
home_at prevs homes c p [] q l b = absurd (omega arith)
home_at prevs homes c p (x ∷ xs) zero l b = b.1
home_at prevs homes c p (x ∷ xs) (suc q) l b = home_at prevs homes c x xs q (omega arith) b.2

pub elsewhere : (prevs homes : List ℕ) (d p : ℕ) (xs : List ℕ) (y c : ℕ) → LinksBack prevs homes d p xs → get_or homes y 0 ≡ c → d ≢ c → Apart y xs
elsewhere prevs homes d p xs y c b is ne = λ q l e. ne (sym (home_at prevs homes d p xs q l b) ∙ (ap (λ (z : ℕ). get_or homes z 0) e ∙ is))

-- what a list of one cell begins with is not in a list of another
pub first_apart : (nexts prevs homes : List ℕ) (c p h : ℕ) (xs : List ℕ) (d q g : ℕ) (ys : List ℕ) → length nexts < 4294967295 → d ≢ c
    → Chain nexts h xs → LinksBack prevs homes c p xs → Chain nexts g ys → LinksBack prevs homes d q ys → Apart h ys
first_apart nexts prevs homes c p h [] d q g ys s ne ch b dh db = let e : h ≡ 4294967295 = ch in past_apart nexts g ys h (omega arith) dh
first_apart nexts prevs homes c p h (x ∷ xs) d q g ys s ne ch b dh db =
    elsewhere prevs homes d q ys h c db (ap (λ (z : ℕ). get_or homes z 0) ch.0 ∙ b.1) ne

-- ---- the lists of a net

places_late : (t : ℕ) (ys : List ℕ) (c q : ℕ) → q < length (places t ys c) → t ≤ get_or (places t ys c) q 0
places_late t [] c q l = absurd (omega arith)
places_late t (y ∷ ys) c zero l = let rest : List ℕ = places (suc t) ys c in dite (ℕ_discrete y c)
    (λ e. subst (λ (b : Bool). t ≤ get_or (cond b (t ∷ rest) rest) 0 0) (sym (eq-eqb y c e)) (omega arith))
    (λ n. let s = ne_eqb y c n in let m : 0 < length rest = subst (λ (b : Bool). 0 < length (cond b (t ∷ rest) rest)) s l in
    let h = places_late (suc t) ys c 0 m in subst (λ (b : Bool). t ≤ get_or (cond b (t ∷ rest) rest) 0 0) (sym s) (omega arith))
places_late t (y ∷ ys) c (suc q) l = let rest : List ℕ = places (suc t) ys c in dite (ℕ_discrete y c)
    (λ e. let s = eq-eqb y c e in let m : suc q < length (t ∷ rest) = subst (λ (b : Bool). suc q < length (cond b (t ∷ rest) rest)) s l in
    let h = places_late (suc t) ys c q (omega arith) in subst (λ (b : Bool). t ≤ get_or (cond b (t ∷ rest) rest) (suc q) 0) (sym s) (omega arith))
    (λ n. let s = ne_eqb y c n in let m : suc q < length rest = subst (λ (b : Bool). suc q < length (cond b (t ∷ rest) rest)) s l in
    let h = places_late (suc t) ys c (suc q) m in subst (λ (b : Bool). t ≤ get_or (cond b (t ∷ rest) rest) (suc q) 0) (sym s) (omega arith))

-- a node is in none of the lists of later nodes
pub places_apart : (named : List ℕ) (t c : ℕ) → Apart t (places_from (suc t) named c)
places_apart named t c = λ q l e. let late = places_late (suc t) (drop (suc t) named) c q l in omega arith

-- past all nodes there are no lists
pub none_listed : (nexts prevs named heads : List ℕ) (n : ℕ) → length named ≤ n → length nexts < 4294967295 → length prevs ≡ length nexts → length named ≡ length nexts
    → ((c : ℕ) → c < length heads → get_or heads c 0 ≡ 4294967295) → AreLists nexts prevs named heads (places_from n named)
none_listed nexts prevs named heads n past small pl nl none = record {
  small = small;
  prevs_length = pl;
  homes_length = nl;
  chains = λ c l. subst (λ (ys : List ℕ). Chain nexts (get_or heads c 0) (places n ys c)) (sym (drop_all n named past)) (none c l);
  back = λ c l. subst (λ (ys : List ℕ). LinksBack prevs named c 4294967295 (places n ys c)) (sym (drop_all n named past)) tt;
}

-- one node more, before the list of its cell
pub places_more : (t c : ℕ) (named : List ℕ) (d : ℕ) → t < length named → c ≡ get_or named t 0
    → cond (eqb d c) (t ∷ places_from (suc t) named d) (places_from (suc t) named d) ≡ places_from t named d
places_more t c named d l is = let y : ℕ = get_or named t 0 in let e : t + 1 ≡ suc t = omega arith in let rest : List ℕ = places_from (suc t) named d in
    let cut : drop t named ≡ y ∷ drop (suc t) named = drop_more named t 0 l ∙ ap (λ (n : ℕ). y ∷ drop n named) e in
    let more : cond (eqb y d) (t ∷ rest) rest ≡ places_from t named d = ap (λ (zs : List ℕ). places t zs d) (sym cut) in
    let turned : eqb d c ≡ eqb y d = dite (ℕ_discrete d c) (λ q. eq-eqb d c q ∙ sym (eq-eqb y d (sym is ∙ sym q))) (λ ne. ne_eqb d c ne ∙ sym (ne_eqb y d (λ z. ne (sym (is ∙ z))))) in
    ap (λ (b : Bool). cond b (t ∷ rest) rest) turned ∙ more

pub naming_places : (t : ℕ) (ts : List Term) (c : ℕ) → naming t ts c ≡ places t (map cell_named ts) c
naming_places t [] c = refl
naming_places t (x ∷ xs) c = let h = naming_places (suc t) xs c in λ i. cond (eqb x.cell c) (t ∷ h i) (h i)

pub all_terms_more : (xs : List Job) (x : Job) → all_terms (xs ++ x ∷ []) ≡ all_terms xs ++ x.terms
all_terms_more [] x = append-nil x.terms
all_terms_more (y ∷ ys) x = ap (λ (ts : List Term). y.terms ++ ts) (all_terms_more ys x) ∙ sym (append_assoc y.terms (all_terms ys) x.terms)

pub owners_more : (n m : ℕ) (xs : List Job) (x : Job) → m ≡ n + length xs → owners_from n (xs ++ x ∷ []) ≡ owners_from n xs ++ replicate (length x.terms) m
owners_more n m [] x e = append-nil (replicate (length x.terms) n) ∙ (let e' : n ≡ m = omega arith in ap (replicate (length x.terms)) e')
owners_more n m (y ∷ ys) x e = let r : List ℕ = replicate (length y.terms) n in
    ap (λ (ts : List ℕ). r ++ ts) (owners_more (suc n) m ys x (omega arith)) ∙ sym (append_assoc r (owners_from (suc n) ys) (replicate (length x.terms) m))
