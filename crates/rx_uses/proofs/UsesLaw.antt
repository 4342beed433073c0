-- Terms as nodes, and nodes as terms.
use Rattle.std.proofs.Common.{◌≡◌, ℕ, zero, suc, ◌+◌, ◌-◌, ◌*◌, ◌<◌, ◌≤◌, Bool, cond, List, [], ◌∷◌, ◌++◌, map, length, get_or, take, replicate, sym, refl, ap, ◌∙◌, subst, arith, length-append, eq-eqb, ne_eqb}
use Rattle.std.specs.Prelude.{Contains, Some, None, pos}
use Rattle.std.proofs.lemmas.List.{get_or_append_left, get_or-append-add, get_or-replicate, length-replicate, get_or_default, get_or-map}
use mathlib.Core.Logic.{dite}
use native.Mathlib.Decide.{ℕ_discrete, dec_le}
use Rattle.rx_net.specs.declared.term.Term.{Term}
use Rattle.rx_net.specs.declared.net.Job.{Job}
use Rattle.rx_net.specs.declared.net.Net.{Net}
use Rattle.rx_net.specs.Cells.{input_cells}
use Rattle.rx_net.specs.Legal.{Legal}
use Rattle.rx_uses.specs.Cells.{terms_at}
use Rattle.rx_uses.specs.Laws.{NamesAt}
use Rattle.rx_uses.specs.Links.{cell_named}
use Rattle.rx_uses.proofs.Legality.{lawful}
use Rattle.rx_uses.specs.Uses.{all_terms, owners_from, naming, nodes_of, node_of, owner_of, node_at, UsesValue, IsUsesOf}

-- the term i is a node of the cell that it names
naming_has : (t : ℕ) (ts : List Term) (i c : ℕ) → i < length ts → ((d : Term) → (get_or ts i d).cell ≡ c) → Contains (naming t ts c) (t + i)
naming_has t [] i c l is = absurd (omega arith)
naming_has t (x ∷ xs) zero c l is = let here : x.cell ≡ c = is x in let e : t ≡ t + 0 = omega arith in
    subst (λ (b : Bool). Contains (cond b (t ∷ naming (suc t) xs c) (naming (suc t) xs c)) (t + 0)) (sym (eq-eqb x.cell c here)) (zero, omega arith, e)
naming_has t (x ∷ xs) (suc i) c l is = let h = naming_has (suc t) xs i c (omega arith) is in let e : suc t + i ≡ t + suc i = omega arith in
    let h' : Contains (naming (suc t) xs c) (t + suc i) = subst (Contains (naming (suc t) xs c)) e h in
    dite (ℕ_discrete x.cell c)
    (λ q. subst (λ (b : Bool). Contains (cond b (t ∷ naming (suc t) xs c) (naming (suc t) xs c)) (t + suc i)) (sym (eq-eqb x.cell c q)) (suc h'.0, (let m = h'.1 in omega arith), h'.2))
    (λ n. subst (λ (b : Bool). Contains (cond b (t ∷ naming (suc t) xs c) (naming (suc t) xs c)) (t + suc i)) (sym (ne_eqb x.cell c n)) h')

-- what a node of a cell is
pub record IsNode (t : ℕ) (ts : List Term) (c y : ℕ) : Type 0 where
  pub index : ℕ
  pub within : index < length ts
  pub is : y ≡ t + index
  pub names : (d : Term) → (get_or ts index d).cell ≡ c

node_later : (t : ℕ) (x : Term) (xs : List Term) (c y : ℕ) → IsNode (suc t) xs c y → IsNode t (x ∷ xs) c y
node_later t x xs c y n = record { index = suc n.index; within = (let w = n.within in omega arith); is = (let e = n.is in omega arith); names = n.names }

pub naming_is : (t : ℕ) (ts : List Term) (c q : ℕ) → q < length (naming t ts c) → IsNode t ts c (get_or (naming t ts c) q 0)
naming_is t [] c q l = absurd (omega arith)
naming_is t (x ∷ xs) c zero l = let rest : List ℕ = naming (suc t) xs c in dite (ℕ_discrete x.cell c)
    (λ e. subst (λ (b : Bool). IsNode t (x ∷ xs) c (get_or (cond b (t ∷ rest) rest) 0 0)) (sym (eq-eqb x.cell c e)) record { index = 0; within = omega arith; is = omega arith; names = λ d. e })
    (λ n. let s = ne_eqb x.cell c n in let m : 0 < length rest = subst (λ (b : Bool). 0 < length (cond b (t ∷ rest) rest)) s l in
    subst (λ (b : Bool). IsNode t (x ∷ xs) c (get_or (cond b (t ∷ rest) rest) 0 0)) (sym s) (node_later t x xs c (get_or rest 0 0) (naming_is (suc t) xs c 0 m)))
naming_is t (x ∷ xs) c (suc q) l = let rest : List ℕ = naming (suc t) xs c in dite (ℕ_discrete x.cell c)
    (λ e. let s = eq-eqb x.cell c e in let m : suc q < length (t ∷ rest) = subst (λ (b : Bool). suc q < length (cond b (t ∷ rest) rest)) s l in
    subst (λ (b : Bool). IsNode t (x ∷ xs) c (get_or (cond b (t ∷ rest) rest) (suc q) 0)) (sym s) (node_later t x xs c (get_or rest q 0) (naming_is (suc t) xs c q (omega arith))))
    (λ n. let s = ne_eqb x.cell c n in let m : suc q < length rest = subst (λ (b : Bool). suc q < length (cond b (t ∷ rest) rest)) s l in
    subst (λ (b : Bool). IsNode t (x ∷ xs) c (get_or (cond b (t ∷ rest) rest) (suc q) 0)) (sym s) (node_later t x xs c (get_or rest (suc q) 0) (naming_is (suc t) xs c (suc q) m)))

-- the place k of the job j is the term i of all, whose owner is j
pub record IsPlace (n : ℕ) (jobs : List Job) (j k i : ℕ) : Type 0 where
  pub job : j < length jobs
  pub place : k < length (terms_at jobs j)
  pub within : i < length (all_terms jobs)
  pub number : i ≡ length (all_terms (take j jobs)) + k
  pub same : (d : Term) → get_or (all_terms jobs) i d ≡ get_or (terms_at jobs j) k d
  pub owner : get_or (owners_from n jobs) i 0 ≡ n + j

place_later : (n : ℕ) (x : Job) (xs : List Job) (j k i : ℕ) → IsPlace (suc n) xs j k i → IsPlace n (x ∷ xs) (suc j) k (length x.terms + i)
place_later n x xs j k i p = let ts : List Term = x.terms in let r : List ℕ = replicate (length ts) n in let rn : length r ≡ length ts = length-replicate (length ts) n in record {
  job = (let l = p.job in omega arith);
  place = p.place;
  within = (let l = p.within in omega (arith, length-append ts (all_terms xs)));
  number = (let e = p.number in omega (arith, length-append ts (all_terms (take j xs))));
  same = λ d. get_or-append-add ts (all_terms xs) i d ∙ p.same d;
  owner = ap (λ (m : ℕ). get_or (r ++ owners_from (suc n) xs) (m + i) 0) (sym rn) ∙ (get_or-append-add r (owners_from (suc n) xs) i 0 ∙ (p.owner ∙ (let e : suc n + j ≡ n + suc j = omega arith in e)));
}

place_first : (n : ℕ) (x : Job) (xs : List Job) (k : ℕ) → k < length x.terms → IsPlace n (x ∷ xs) 0 k k
place_first n x xs k l = let ts : List Term = x.terms in let r : List ℕ = replicate (length ts) n in let rn : length r ≡ length ts = length-replicate (length ts) n in record {
  job = omega arith;
  place = l;
  within = omega (arith, length-append ts (all_terms xs));
  number = omega arith;
  same = λ d. get_or_append_left ts (all_terms xs) d k l;
  owner = get_or_append_left r (owners_from (suc n) xs) 0 k (omega arith) ∙ (get_or-replicate (length ts) k n 0 l ∙ (let e : n ≡ n + 0 = omega arith in e));
}

pub term_of : (n : ℕ) (jobs : List Job) (j k : ℕ) → k < length (terms_at jobs j) → (i : ℕ) × IsPlace n jobs j k i
term_of n [] j k l = absurd (omega arith)
term_of n (x ∷ xs) zero k l = (k, place_first n x xs k l)
term_of n (x ∷ xs) (suc j) k l = let t = term_of (suc n) xs j k l in (length x.terms + t.0, place_later n x xs j k t.0 t.1)

pub place_of : (n : ℕ) (jobs : List Job) (i : ℕ) → i < length (all_terms jobs) → (j : ℕ) × (k : ℕ) × IsPlace n jobs j k i
place_of n [] i l = absurd (omega arith)
place_of n (x ∷ xs) i l = let ts : List Term = x.terms in dite (dec_le (length ts) i)
    (λ le. let m : i - length ts < length (all_terms xs) = omega (arith, length-append ts (all_terms xs)) in let t = place_of (suc n) xs (i - length ts) m in
    let e : length ts + (i - length ts) ≡ i = omega arith in
    (suc t.0, t.1, subst (IsPlace n (x ∷ xs) (suc t.0) t.1) e (place_later n x xs t.0 t.1 (i - length ts) t.2)))
    (λ gt. (0, i, place_first n x xs i (omega arith)))

-- the place k of the job j names the cell c: so a node of c is that job's
pub operand_node : (net : Net) (j k c : ℕ) → k < length (terms_at net.jobs j) → ((d : Term) → (get_or (terms_at net.jobs j) k d).cell ≡ c)
    → (q : ℕ) × (q < length (nodes_of net c)) × (owner_of net (get_or (nodes_of net c) q 0) ≡ j)
operand_node net j k c l names = let t = term_of 0 net.jobs j k l in
    let h = naming_has 0 (all_terms net.jobs) t.0 c t.1.within (λ d. ap (λ (z : Term). z.cell) (t.1.same d) ∙ names d) in
    let at : get_or (nodes_of net c) h.0 0 ≡ t.0 = get_or_default (nodes_of net c) h.0 0 (0 + t.0) h.1 ∙ (h.2 ∙ (let e : 0 + t.0 ≡ t.0 = omega arith in e)) in
    (h.0, h.1, ap (owner_of net) at ∙ (t.1.owner ∙ (let e : 0 + j ≡ j = omega arith in e)))

-- a node of the cell c is a job's, one of whose places names c
pub node_operand : (net : Net) (c q : ℕ) → q < length (nodes_of net c)
    → (k : ℕ) × (owner_of net (get_or (nodes_of net c) q 0) < length net.jobs) × (k < length (terms_at net.jobs (owner_of net (get_or (nodes_of net c) q 0))))
    × ((d : Term) → (get_or (terms_at net.jobs (owner_of net (get_or (nodes_of net c) q 0))) k d).cell ≡ c)
node_operand net c q l = let n = naming_is 0 (all_terms net.jobs) c q l in let t = place_of 0 net.jobs n.index n.within in
    let y : ℕ = get_or (nodes_of net c) q 0 in
    let at : y ≡ n.index = n.is ∙ (let e : 0 + n.index ≡ n.index = omega arith in e) in
    let is : owner_of net y ≡ t.0 = ap (owner_of net) at ∙ (t.2.owner ∙ (let e : 0 + t.0 ≡ t.0 = omega arith in e)) in
    subst (λ (j : ℕ). (k : ℕ) × (j < length net.jobs) × (k < length (terms_at net.jobs j)) × ((d : Term) → (get_or (terms_at net.jobs j) k d).cell ≡ c)) (sym is)
    (t.1, t.2.job, t.2.place, λ d. ap (λ (z : Term). z.cell) (sym (t.2.same d)) ∙ n.names d)

-- the node of a place that names the cell c is in its list
pub node_listed : (net : Net) (j k c : ℕ) → NamesAt net j k c → (q : ℕ) × (q < length (nodes_of net c)) × (get_or (nodes_of net c) q 0 ≡ node_of net j k)
node_listed net j k c n = let t = term_of 0 net.jobs j k n.within in
    let h = naming_has 0 (all_terms net.jobs) t.0 c t.1.within (λ d. ap (λ (z : Term). z.cell) (t.1.same d) ∙ n.names d) in
    (h.0, h.1, get_or_default (nodes_of net c) h.0 0 (0 + t.0) h.1 ∙ (h.2 ∙ (let e : 0 + t.0 ≡ t.0 = omega arith in e ∙ t.1.number)))

-- a node of the cell c is that of a place that names c
pub node_named : (net : Net) (c q : ℕ) → q < length (nodes_of net c) → (j : ℕ) × (k : ℕ) × NamesAt net j k c × (get_or (nodes_of net c) q 0 ≡ node_of net j k)
node_named net c q l = let n = naming_is 0 (all_terms net.jobs) c q l in let t = place_of 0 net.jobs n.index n.within in
    let at : get_or (nodes_of net c) q 0 ≡ n.index = n.is ∙ (let e : 0 + n.index ≡ n.index = omega arith in e) in
    (t.0, t.1, record { within = t.2.place; names = λ d. ap (λ (z : Term). z.cell) (sym (t.2.same d)) ∙ n.names d }, at ∙ t.2.number)

-- the node of a place is its job's
pub node_owned : (net : Net) (j k : ℕ) → k < length (terms_at net.jobs j) → owner_of net (node_of net j k) ≡ j
node_owned net j k l = let t = term_of 0 net.jobs j k l in
    ap (owner_of net) (sym t.1.number) ∙ (t.1.owner ∙ (let e : 0 + j ≡ j = omega arith in e))

length-naming : (t : ℕ) (ts : List Term) (c : ℕ) → length (naming t ts c) ≤ length ts
length-naming t [] c = omega arith
length-naming t (x ∷ xs) c = let h = length-naming (suc t) xs c in let rest : List ℕ = naming (suc t) xs c in dite (ℕ_discrete x.cell c)
    (λ e. let s = ap (λ (b : Bool). length (cond b (t ∷ rest) rest)) (eq-eqb x.cell c e) in omega arith)
    (λ n. let s = ap (λ (b : Bool). length (cond b (t ∷ rest) rest)) (ne_eqb x.cell c n) in omega arith)

pub length-all_terms : (jobs : List Job) → ((j : ℕ) → j < length jobs → length (terms_at jobs j) ≤ 16) → length (all_terms jobs) ≤ 16 * length jobs
length-all_terms [] few = omega arith
length-all_terms (x ∷ xs) few = let h = length-all_terms xs (λ j l. few (suc j) (omega arith)) in let f = few 0 (omega arith) in omega (arith, length-append x.terms (all_terms xs))

pub length-nodes : (net : Net) (c : ℕ) → ((j : ℕ) → j < length net.jobs → length (terms_at net.jobs j) ≤ 16) → length (nodes_of net c) ≤ 16 * length net.jobs
length-nodes net c few = let a = length-naming 0 (all_terms net.jobs) c in let b = length-all_terms net.jobs few in omega arith

pub length-owners : (n : ℕ) (jobs : List Job) → length (owners_from n jobs) ≡ length (all_terms jobs)
length-owners n [] = refl
length-owners n (x ∷ xs) = let h = length-owners (suc n) xs in let r = length-replicate (length x.terms) n in
    omega (arith, length-append x.terms (all_terms xs), length-append (replicate (length x.terms) n) (owners_from (suc n) xs))

pub at_node : (xs : List ℕ) (k t : ℕ) → node_at xs k ≡ Some t → (k < length xs) × (get_or xs k 0 ≡ t)
at_node [] k t e = absurd (let z : None ≡ Some t = e in cc)
at_node (x ∷ xs) zero t e = let z : Some x ≡ Some t = e in (omega arith, cc)
at_node (x ∷ xs) (suc k) t e = let h = at_node xs k t e in let l = h.0 in (omega arith, h.1)

pub no_node : (xs : List ℕ) (k : ℕ) → node_at xs k ≡ None → length xs ≤ k
no_node [] k e = omega arith
no_node (x ∷ xs) zero e = absurd (let z : Some x ≡ None = e in cc)
no_node (x ∷ xs) (suc k) e = let h = no_node xs k e in omega arith

-- a node has an owner
pub node_within : (net : Net) (c k t : ℕ) → node_at (nodes_of net c) k ≡ Some t → t < length (owners_from 0 net.jobs)
node_within net c k t e = let a = at_node (nodes_of net c) k t e in let n = naming_is 0 (all_terms net.jobs) c k a.0 in
    let is : t ≡ 0 + n.index = sym a.1 ∙ n.is in let w = n.within in omega (arith, length-owners 0 net.jobs)

-- the owner of the k-th node of a list, as use lists tell it
pub owner_is : (net : Net) (u : UsesValue) (c k t : ℕ) → IsUsesOf net u → node_at (nodes_of net c) k ≡ Some t
    → (t < length u.owners) × (get_or u.owners t 0 ≡ owner_of net (get_or (nodes_of net c) k 0)) × (owner_of net (get_or (nodes_of net c) k 0) < length net.jobs) × (k < length (nodes_of net c))
owner_is net u c k t of e = let a = at_node (nodes_of net c) k t e in (
  subst (λ (xs : List ℕ). t < length xs) (sym of.owners) (node_within net c k t e),
  ap (λ (xs : List ℕ). get_or xs t 0) of.owners ∙ ap (owner_of net) (sym a.1),
  (node_operand net c k a.0).1,
  a.0,
)

-- what a node names is a cell
pub named_within : (net : Net) → Legal net → (t : ℕ) → t < length (all_terms net.jobs) → get_or (map cell_named (all_terms net.jobs)) t 0 < input_cells net.space net.inputs + length net.jobs
named_within net legal t l = let ts : List Term = all_terms net.jobs in let d : Term = record { cell = 0; weight = pos 0 } in
    let at = get_or-map cell_named ts t d 0 l in let q = place_of 0 net.jobs t l in
    let same : get_or (map cell_named ts) t 0 ≡ (get_or (terms_at net.jobs q.0) q.1 d).cell = at ∙ ap cell_named (q.2.same d) in
    let f = (lawful net legal).forward q.0 q.1 d q.2.job q.2.place in let j = q.2.job in omega arith

-- of two nodes of a cell the later is greater
pub naming_grows : (t : ℕ) (ts : List Term) (c q r : ℕ) → q < r → r < length (naming t ts c) → get_or (naming t ts c) q 0 < get_or (naming t ts c) r 0
naming_grows t [] c q r l m = absurd (omega arith)
naming_grows t (x ∷ xs) c q zero l m = absurd (omega arith)
naming_grows t (x ∷ xs) c zero (suc r) l m = let rest : List ℕ = naming (suc t) xs c in dite (ℕ_discrete x.cell c)
    (λ e. let s = eq-eqb x.cell c e in let m' : suc r < length (t ∷ rest) = subst (λ (b : Bool). suc r < length (cond b (t ∷ rest) rest)) s m in
    let n = naming_is (suc t) xs c r (omega arith) in let y = n.is in
    subst (λ (b : Bool). get_or (cond b (t ∷ rest) rest) 0 0 < get_or (cond b (t ∷ rest) rest) (suc r) 0) (sym s) (omega arith))
    (λ ne. let s = ne_eqb x.cell c ne in let m' : suc r < length rest = subst (λ (b : Bool). suc r < length (cond b (t ∷ rest) rest)) s m in
    subst (λ (b : Bool). get_or (cond b (t ∷ rest) rest) 0 0 < get_or (cond b (t ∷ rest) rest) (suc r) 0) (sym s) (naming_grows (suc t) xs c 0 (suc r) (omega arith) m'))
naming_grows t (x ∷ xs) c (suc q) (suc r) l m = let rest : List ℕ = naming (suc t) xs c in dite (ℕ_discrete x.cell c)
    (λ e. let s = eq-eqb x.cell c e in let m' : suc r < length (t ∷ rest) = subst (λ (b : Bool). suc r < length (cond b (t ∷ rest) rest)) s m in
    subst (λ (b : Bool). get_or (cond b (t ∷ rest) rest) (suc q) 0 < get_or (cond b (t ∷ rest) rest) (suc r) 0) (sym s) (naming_grows (suc t) xs c q r (omega arith) (omega arith)))
    (λ ne. let s = ne_eqb x.cell c ne in let m' : suc r < length rest = subst (λ (b : Bool). suc r < length (cond b (t ∷ rest) rest)) s m in
    subst (λ (b : Bool). get_or (cond b (t ∷ rest) rest) (suc q) 0 < get_or (cond b (t ∷ rest) rest) (suc r) 0) (sym s) (naming_grows (suc t) xs c (suc q) (suc r) l m'))

-- a node is in one list alone, and stands there once
pub node_once : (net : Net) (c d q r : ℕ) → q < length (nodes_of net c) → r < length (nodes_of net d) → get_or (nodes_of net c) q 0 ≡ get_or (nodes_of net d) r 0 → (c ≡ d) × (q ≡ r)
node_once net c d q r l m e = let ts : List Term = all_terms net.jobs in let a = naming_is 0 ts c q l in let b = naming_is 0 ts d r m in let x : Term = record { cell = 0; weight = pos 0 } in
    let i : a.index ≡ b.index = (let ai = a.is in let bi = b.is in omega arith) in
    let same : c ≡ d = sym (a.names x) ∙ (ap (λ (n : ℕ). (get_or ts n x).cell) i ∙ b.names x) in
    let m' : r < length (nodes_of net c) = subst (λ (z : ℕ). r < length (nodes_of net z)) (sym same) m in
    let e' : get_or (nodes_of net c) q 0 ≡ get_or (nodes_of net c) r 0 = e ∙ ap (λ (z : ℕ). get_or (nodes_of net z) r 0) (sym same) in (
      same,
      dite (ℕ_discrete q r) (λ z. z) (λ ne. dite (dec_le q r)
          (λ le. let g = naming_grows 0 ts c q r (omega arith) m' in absurd (omega arith))
          (λ gt. let g = naming_grows 0 ts c r q (omega arith) l in absurd (omega arith))),
    )
