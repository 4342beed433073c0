-- Values and depths, job after job.
use Rattle.std.proofs.Common.{◌≡◌, ℕ, ℤ, pos, neg_ℤ, zero, suc, ◌+◌, ◌*◌, ◌<◌, ◌≤◌, ◌+ℤ◌, ◌*ℤ◌, ◌≤ℤ◌, List, [], ◌∷◌, ◌++◌, length, get_or, take, drop, map, max, replicate, refl, sym, ◌∙◌, ap, arith, subst, length-take-le, drop-cons, add-one}
use Rattle.std.specs.List.{AllByRecursion}
use Rattle.std.proofs.lemmas.Int.{ints}
use Rattle.std.proofs.lemmas.List.{drop_all, take_more, take_all}
use Rattle.rx_params.specs.Kinds.{block_count}
use Rattle.rx_net.specs.declared.term.Term.{Term}
use Rattle.rx_net.specs.declared.net.Job.{Job}
use Rattle.rx_net.specs.declared.net.NetInput.{NetInput}
use Rattle.rx_net.specs.declared.net.Net.{Net}
use Rattle.rx_net.specs.Tags.{value_of, greatest_of, natural}
use Rattle.rx_net.specs.Cells.{input_cells, given, laid, job_value, one_deeper, values_after, degrees_after, depths_after, net_depth, Within}
use Rattle.rx_net.specs.Legal.{InTurn, IsJob, Legal}
use Rattle.rx_net.proofs.Laid.{length-laid, laid-last}
use Rattle.rx_net.proofs.Inputs.{length-given}
use Rattle.rx_net.proofs.Sums.{sum_goes_on}
use Rattle.rx_net.proofs.Faults.{turn_at}
use Rattle.rx_net.proofs.Bounded.{greatest_at, LooksUp, looks_up, AreWithin, within_all, within_first}

-- ---- a weighted sum
pub record IsSumUpTo (value : ℕ → ℕ) (constant : ℤ) (ts : List Term) (i : ℕ) (sum : ℤ) : Type 0 where
  pub sum_is : value_of value sum (drop i ts) ≡ value_of value constant ts
  pub least : neg_ℤ (pos (32768 + 32640 * i)) ≤ℤ sum
  pub most : sum ≤ℤ pos (32767 + 32640 * i)

pub sum_more : (value : ℕ → ℕ) (constant : ℤ) (ts : List Term) (i : ℕ) (sum : ℤ) → IsSumUpTo value constant ts i sum → (t : Term) → i < length ts → t ≡ get_or ts i t
    → (w : ℤ) (v : ℕ) → w ≡ t.weight → v ≡ value t.cell → (a : ℤ) → a ≡ w *ℤ pos v → neg_ℤ (pos 32640) ≤ℤ a → a ≤ℤ pos 32640
    → (next : ℤ) → next ≡ sum +ℤ a → IsSumUpTo value constant ts (i + 1) next
sum_more value constant ts i sum h t p e w v w_is v_is a a_is low high next n = record {
  sum_is = sum_goes_on (λ t. t.weight *ℤ pos (value t.cell)) sum next ts i t p e (n ∙ ap (λ a. sum +ℤ a) (a_is ∙ ap (λ w. w *ℤ pos v) w_is ∙ ap (λ v. t.weight *ℤ pos v) v_is)) ∙ h.sum_is;
  least = omega (arith, ints, h.least);
  most = omega (arith, ints, h.most);
}

-- ---- the greatest depth of terms
pub record IsDeepestUpTo (depths : List ℕ) (ts : List Term) (i most : ℕ) : Type 0 where
  pub most_is : max most (greatest_of (map (λ t. get_or depths t.cell 0) (drop i ts))) ≡ greatest_of (map (λ t. get_or depths t.cell 0) ts)
  pub within : most ≤ greatest_of depths

pub deepest_more : (depths : List ℕ) (ts : List Term) (i most : ℕ) → IsDeepestUpTo depths ts i most → (t : Term) → i < length ts → t ≡ get_or ts i t → t.cell < length depths
    → (next : ℕ) → next ≡ max most (get_or depths t.cell 0) → IsDeepestUpTo depths ts (i + 1) next
unfolding greatest_of
deepest_more depths ts i most h t p e l next n =
    let f = λ (t : Term). get_or depths t.cell 0 in
    let d : drop i ts ≡ t ∷ drop (i + 1) ts = rw add-one (drop-cons ts i t p ∙ ap (λ y. y ∷ drop (suc i) ts) (sym e)) in
    let g : greatest_of (map f (drop i ts)) ≡ max (get_or depths t.cell 0) (greatest_of (map f (drop (i + 1) ts))) = ap (λ l. greatest_of (map f l)) d in
    record {
      most_is = omega (arith, h.most_is);
      within = omega (arith, h.within, greatest_at depths t.cell l);
    }

pub deepest_done : (depths : List ℕ) (ts : List Term) (i most : ℕ) → IsDeepestUpTo depths ts i most → length ts ≤ i → most ≡ greatest_of (map (λ t. get_or depths t.cell 0) ts)
unfolding greatest_of
deepest_done depths ts i most h p =
    let f = λ (t : Term). get_or depths t.cell 0 in
    let g : greatest_of (map f (drop i ts)) ≡ 0 = ap (λ l. greatest_of (map f l)) (drop_all i ts p) in
    omega (arith, h.most_is)

-- ---- values
pub values_more : (xs : List ℕ) (js : List Job) (i : ℕ) (j : Job) → i < length js → j ≡ get_or js i j
    → values_after xs (take (i + 1) js) ≡ values_after xs (take i js) ++ job_value j (values_after xs (take i js)) ∷ []
unfolding values_after
values_more xs js i j p e =
    let t : take (i + 1) js ≡ take i js ++ j ∷ [] = take_more js i j p ∙ ap (λ y. take i js ++ y ∷ []) (sym e) in
    ap (laid job_value xs) t ∙ laid-last job_value xs (take i js) j

pub length-values : (xs : List ℕ) (js : List Job) → length (values_after xs js) ≡ length xs + length js
unfolding values_after
length-values xs js = length-laid job_value xs js

pub values_begin : (xs : List ℕ) → values_after xs [] ≡ xs
unfolding values_after laid
values_begin xs = refl

pub looked_up_is : (j : Job) (xs : List ℕ) → get_or j.table (natural (value_of (λ c. get_or xs c 0) j.constant j.terms)) 0 ≡ job_value j xs
unfolding job_value
looked_up_is j xs = refl

turn_take : {A : Type 0} (P : List A → A → Type 0) (before xs : List A) (i : ℕ) → InTurn P before xs → InTurn P before (take i xs)
turn_take P before [] zero h = tt
turn_take P before [] (suc i) h = tt
turn_take P before (x ∷ xs) zero h = tt
turn_take P before (x ∷ xs) (suc i) h = (h.0, turn_take P (before ++ x ∷ []) xs i h.1)

-- what a job of a legal net looks up
pub job_looks_up : (net : Net) (xs : List ℕ) → Legal net → Within net.space net.inputs xs → (i : ℕ) (j : Job) → i < length net.jobs → j ≡ get_or net.jobs i j
    → LooksUp (λ c. get_or (values_after xs (take i net.jobs)) c 0) (λ c. get_or (degrees_after net.space net.inputs (take i net.jobs)) c 0) j.terms j.constant j.table
job_looks_up net xs l w i j p e =
    let is = turn_at (IsJob net.space net.inputs) [] net.jobs l.jobs i j p e in
    let h : AreWithin net.space net.inputs xs (take i net.jobs) = within_all net.space net.inputs xs [] (take i net.jobs) w.count (within_first net.space net.inputs xs w) (turn_take (IsJob net.space net.inputs) [] net.jobs i l.jobs) in
    looks_up net.space (input_cells net.space net.inputs + length (take i net.jobs)) (λ c. get_or (values_after xs (take i net.jobs)) c 0) (λ c. get_or (degrees_after net.space net.inputs (take i net.jobs)) c 0) _ j.terms j.constant j.table h is.fits

pub job_forward : (net : Net) → Legal net → (i : ℕ) (j : Job) → i < length net.jobs → j ≡ get_or net.jobs i j → AllByRecursion (λ t. t.cell < input_cells net.space net.inputs + i) j.terms
job_forward net l i j p e =
    let is = turn_at (IsJob net.space net.inputs) [] net.jobs l.jobs i j p e in
    let n : length (take i net.jobs) ≡ i = length-take-le i net.jobs (omega arith) in
    subst (λ (n : ℕ). AllByRecursion (λ (t : Term). t.cell < input_cells net.space net.inputs + n) j.terms) n is.fits.forward

pub job_few : (net : Net) → Legal net → (i : ℕ) (j : Job) → i < length net.jobs → j ≡ get_or net.jobs i j → length j.terms ≤ 16
job_few net l i j p e = turn_at (λ before (j : Job). length j.terms ≤ 16) [] net.jobs l.limits.few_terms i j p e

-- ---- depths
pub greatest_of-append : (xs : List ℕ) (x : ℕ) → greatest_of (xs ++ x ∷ []) ≡ max (greatest_of xs) x
unfolding greatest_of
greatest_of-append [] x = omega arith
greatest_of-append (y ∷ ys) x = omega (arith, greatest_of-append ys x)

replicate_both : (a b x : ℕ) → replicate a x ++ replicate b x ≡ replicate (a + b) x
replicate_both zero b x = let e : b ≡ 0 + b = omega arith in ap (λ n. replicate n x) e
replicate_both (suc a) b x =
    let e : suc (a + b) ≡ suc a + b = omega arith in
    ap (λ xs. x ∷ xs) (replicate_both a b x) ∙ ap (λ n. replicate n x) e

pub given_zero : (space : ℕ) (is : List NetInput) → given space (λ i. 0) is ≡ replicate (input_cells space is) 0
unfolding given input_cells
given_zero space [] = refl
given_zero space (i ∷ is) =
    let n : ℕ = block_count i.kind space i.bits in
    ap (λ xs. replicate n 0 ++ xs) (given_zero space is) ∙ replicate_both n (input_cells space is) 0

greatest_none : (n : ℕ) → greatest_of (replicate n 0) ≡ 0
unfolding greatest_of
greatest_none zero = refl
greatest_none (suc n) = omega (arith, greatest_none n)

pub record HasDepths (space : ℕ) (is : List NetInput) (js : List Job) (i : ℕ) (depths : List ℕ) (most : ℕ) : Type 0 where
  pub depths_are : depths ≡ depths_after space is (take i js)
  pub most_is : most ≡ greatest_of depths
  pub most_in : most ≤ i

pub depths_begin : (space : ℕ) (is : List NetInput) (js : List Job) (depths : List ℕ) (n : ℕ) → depths ≡ replicate n 0 → n ≡ input_cells space is → HasDepths space is js 0 depths 0
unfolding depths_after laid
depths_begin space is js depths n e f = record {
  depths_are = e ∙ ap (λ n. replicate n 0) f ∙ sym (given_zero space is);
  most_is = sym (ap greatest_of e ∙ greatest_none n);
  most_in = omega arith;
}

pub depths_more : (space : ℕ) (is : List NetInput) (js : List Job) (i : ℕ) (depths : List ℕ) (most : ℕ) → HasDepths space is js i depths most → (j : Job) → i < length js → j ≡ get_or js i j
    → (d : ℕ) → d ≡ greatest_of (map (λ t. get_or depths t.cell 0) j.terms) → d ≤ greatest_of depths → (more : List ℕ) → more ≡ depths ++ (d + 1) ∷ [] → (next : ℕ) → next ≡ max most (d + 1)
    → HasDepths space is js (i + 1) more next
unfolding depths_after one_deeper
depths_more space is js i depths most h j p e d d_is d_in more more_is next next_is =
    let zs : List ℕ = given space (λ i. 0) is in
    let t : take (i + 1) js ≡ take i js ++ j ∷ [] = take_more js i j p ∙ ap (λ y. take i js ++ y ∷ []) (sym e) in
    let s : d + 1 ≡ one_deeper j depths = omega arith in
    record {
      depths_are = more_is ∙ ap (λ x. depths ++ x ∷ []) s ∙ ap (λ ds. ds ++ one_deeper j ds ∷ []) h.depths_are
          ∙ sym (ap (laid one_deeper zs) t ∙ laid-last one_deeper zs (take i js) j);
      most_is = omega (arith, h.most_is, ap greatest_of more_is, greatest_of-append depths (d + 1));
      most_in = omega (arith, h.most_is, h.most_in);
    }

pub length-depths : (space : ℕ) (is : List NetInput) (js : List Job) (i : ℕ) (depths : List ℕ) (most : ℕ) → HasDepths space is js i depths most → i ≤ length js
    → length depths ≡ input_cells space is + i
unfolding depths_after
length-depths space is js i depths most h p =
    let e : length depths ≡ length (laid one_deeper (given space (λ i. 0) is) (take i js)) = ap (λ (l : List ℕ). length l) h.depths_are in
    omega (arith, length-laid one_deeper (given space (λ i. 0) is) (take i js), length-given space (λ i. 0) is, length-take-le i js p)

pub depths_done : (net : Net) (i : ℕ) (depths : List ℕ) (most : ℕ) → HasDepths net.space net.inputs net.jobs i depths most → length net.jobs ≤ i → most ≡ net_depth net
unfolding net_depth
depths_done net i depths most h p = h.most_is ∙ ap greatest_of (h.depths_are ∙ ap (depths_after net.space net.inputs) (take_all i net.jobs p))
