-- The costs of a circuit, line after line.
use Rattle.std.proofs.Common.{◌≡◌, ℕ, ◌+◌, ◌<◌, ◌≤◌, max, List, [], ◌∷◌, ◌++◌, length, get_or, drop, refl, sym, ◌∙◌, ap, subst, arith, append_assoc, append-nil, length-append, inl, inr}
use Rattle.std.specs.List.{sum_by}
use Rattle.std.proofs.lemmas.List.{drop_all, get_or_append_left, get_or_past, get_or_push}
use Rattle.std.proofs.lemmas.List.Sums.{sum_by-cons}
use Rattle.std.proofs.lemmas.Bool.{cases_order}
use Rattle.rx_costs.specs.declared.table.Cost.{Cost}
use Rattle.rx_language.specs.declared.line.Line.{Line}
use Rattle.rx_language.specs.declared.line.Step.{Step}
use Rattle.rx_language.specs.Programs.{Program, steps_of}
use Rattle.rx_meaning.specs.Bounds.{cost_of, costs_of, jobs_by, jobs_of, depths_by, depth_of, greatest, greatest_at, depth_after, depths_from}
use Rattle.rx_meaning.proofs.Walks.{drop_is}

-- ---- jobs

abbrev pub jobs_in : List Cost → ℕ
jobs_in costs = sum_by (λ cost. cost.jobs) costs

pub jobs_are : (p : Program) (space : ℕ) (lines : List Line) (steps : List Step) → space ≡ p.space → lines ≡ p.lines → steps ≡ steps_of p → jobs_by space lines steps ≡ jobs_of p
jobs_are p space lines steps e f g = ap (λ m. jobs_by m lines steps) e ∙ ap (λ ls. jobs_by p.space ls steps) f ∙ ap (jobs_by p.space p.lines) g

pub jobs_more : (space : ℕ) (all : List Step) (lines : List Line) (steps : List Step) (i : ℕ) (x : Line) (s : Step)
    → i < length lines → i < length steps → x ≡ get_or lines i x → s ≡ get_or steps i s
    → jobs_in (costs_of space all (drop i lines) (drop i steps)) ≡ (cost_of space all x s).jobs + jobs_in (costs_of space all (drop (i + 1) lines) (drop (i + 1) steps))
unfolding costs_of
jobs_more space all lines steps i x s h k e f =
    ap (λ ls. jobs_in (costs_of space all ls (drop i steps))) (drop_is lines i x x h e)
    ∙ ap (λ ss. jobs_in (costs_of space all (x ∷ drop (i + 1) lines) ss)) (drop_is steps i s s k f)
    ∙ sum_by-cons (λ (cost : Cost). cost.jobs) (cost_of space all x s) (costs_of space all (drop (i + 1) lines) (drop (i + 1) steps))

pub jobs_end : (space : ℕ) (all : List Step) (lines : List Line) (steps : List Step) (i : ℕ) → length lines ≤ i → jobs_in (costs_of space all (drop i lines) (drop i steps)) ≡ 0
unfolding costs_of
jobs_end space all lines steps i h = ap (λ ls. jobs_in (costs_of space all ls (drop i steps))) (drop_all i lines h)

-- ---- greatest numbers

-- the greatest of three, in another order
pub max_turned : (n m g : ℕ) → max (max n m) g ≡ max m (max n g)
max_turned n m g = omega arith

pub greatest_more : (numbers places : List ℕ) (i : ℕ) → i < length places
    → greatest_at numbers (drop i places) ≡ max (get_or numbers (get_or places i 0) 0) (greatest_at numbers (drop (i + 1) places))
unfolding greatest
greatest_more numbers places i h = ap (greatest_at numbers) (drop_is places i (get_or places i 0) 0 h refl)

pub greatest_end : (numbers places : List ℕ) (i : ℕ) → length places ≤ i → greatest_at numbers (drop i places) ≡ 0
unfolding greatest
greatest_end numbers places i h = ap (greatest_at numbers) (drop_all i places h)

pub most_more : (numbers : List ℕ) (i : ℕ) → i < length numbers → greatest (drop i numbers) ≡ max (get_or numbers i 0) (greatest (drop (i + 1) numbers))
unfolding greatest
most_more numbers i h = ap greatest (drop_is numbers i (get_or numbers i 0) 0 h refl)

pub most_end : (numbers : List ℕ) (i : ℕ) → length numbers ≤ i → greatest (drop i numbers) ≡ 0
unfolding greatest
most_end numbers i h = ap greatest (drop_all i numbers h)

pub greatest_below : (numbers : List ℕ) (top : ℕ) → ((k : ℕ) → get_or numbers k 0 ≤ top) → (places : List ℕ) → greatest_at numbers places ≤ top
unfolding greatest
greatest_below numbers top h [] = omega arith
greatest_below numbers top h (place ∷ places) = omega (arith, h place, greatest_below numbers top h places)

-- ---- depths

pub depths_are : (p : Program) (space : ℕ) (lines : List Line) (steps : List Step) → space ≡ p.space → lines ≡ p.lines → steps ≡ steps_of p → greatest (depths_by space lines steps) ≡ depth_of p
depths_are p space lines steps e f g =
    ap (λ m. greatest (depths_by m lines steps)) e ∙ ap (λ ls. greatest (depths_by p.space ls steps)) f ∙ ap (λ ss. greatest (depths_by p.space p.lines ss)) g

pub depths_more : (space : ℕ) (all : List Step) (done : List ℕ) (lines : List Line) (steps : List Step) (i : ℕ) (x : Line) (s : Step) (d : ℕ)
    → i < length lines → i < length steps → x ≡ get_or lines i x → s ≡ get_or steps i s → d ≡ depth_after done (cost_of space all x s) s
    → done ++ depths_from done (costs_of space all (drop i lines) (drop i steps)) (drop i steps)
    ≡ (done ++ d ∷ []) ++ depths_from (done ++ d ∷ []) (costs_of space all (drop (i + 1) lines) (drop (i + 1) steps)) (drop (i + 1) steps)
unfolding costs_of depths_from
depths_more space all done lines steps i x s d h k e f g =
    let w : ℕ = depth_after done (cost_of space all x s) s in
    let rest : ℕ → List ℕ = λ y. depths_from (done ++ y ∷ []) (costs_of space all (drop (i + 1) lines) (drop (i + 1) steps)) (drop (i + 1) steps) in
    ap (λ ls. done ++ depths_from done (costs_of space all ls (drop i steps)) (drop i steps)) (drop_is lines i x x h e)
    ∙ ap (λ ss. done ++ depths_from done (costs_of space all (x ∷ drop (i + 1) lines) ss) ss) (drop_is steps i s s k f)
    ∙ sym (append_assoc done (w ∷ []) (rest w))
    ∙ ap (λ y. (done ++ y ∷ []) ++ rest y) (sym g)

pub depths_end : (space : ℕ) (all : List Step) (done : List ℕ) (lines : List Line) (steps : List Step) (i : ℕ) → length lines ≤ i
    → done ++ depths_from done (costs_of space all (drop i lines) (drop i steps)) (drop i steps) ≡ done
unfolding costs_of depths_from
depths_end space all done lines steps i h =
    ap (λ ls. done ++ depths_from done (costs_of space all ls (drop i steps)) (drop i steps)) (drop_all i lines h) ∙ append-nil done

-- one number more that is no greater
pub below_push : (numbers : List ℕ) (x top more : ℕ) → ((k : ℕ) → get_or numbers k 0 ≤ top) → top ≤ more → x ≤ more → (k : ℕ) → get_or (numbers ++ x ∷ []) k 0 ≤ more
below_push numbers x top more h l m k =
    elim (cases_order k (length numbers)) [
      | inl e ↦ subst (λ (y : ℕ). y ≤ more) (sym (get_or_push numbers x 0 k (sym e))) m
      | inr o ↦ elim o [
        | inl b ↦ subst (λ (y : ℕ). y ≤ more) (sym (get_or_append_left numbers (x ∷ []) 0 k b)) (omega (arith, h k))
        | inr b ↦ subst (λ (y : ℕ). y ≤ more) (sym (get_or_past (numbers ++ x ∷ []) k 0 (omega (arith, length-append numbers (x ∷ []))))) (omega arith)
      ]
    ]
