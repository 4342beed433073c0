-- What one step of a worker changes.
use Rattle.std.proofs.Common.{◌≡◌, ◌≢◌, ℕ, zero, suc, ◌+◌, ◌<◌, ◌≤◌, inl, inr, ⊎_elim, List, [], ◌∷◌, ◌++◌, length, get_or, eqb, ◌==◌, refl, ap, ◌∙◌, sym, subst, arith, append_assoc}
use Rattle.std.specs.Prelude.{Contains}
use Rattle.std.proofs.lemmas.List.Elements.{Contains-append_left, Contains-append_right}
use mathlib.Core.Logic.{dite}
use native.Mathlib.Decide.{ℕ_discrete}
use Rattle.rx_board.specs.declared.view.Found.{Found}
use Rattle.rx_board.specs.declared.view.View.{View}
use Rattle.rx_board.specs.Rule.{one_if, times}
use Rattle.rx_board.specs.Steps.{both_of}
use Rattle.rx_board.specs.Tells.{Keeps, MetSince}
use Rattle.rx_board.proofs.Totals.{total_append, one, no}
use Rattle.rx_board.specs.Rule.{BoardValue}
use Rattle.rx_workers.specs.Crew.{taken_in, HasDrained, KnowsAll}

-- how many of the first n jobs are not in the list
abbrev pub missing : ℕ → List ℕ → ℕ
missing zero ran = 0
missing (suc n) ran = missing n ran + one_if (times n ran == 0)

pub keeps_on : (u v w : View) → Keeps u v → Keeps v w → Keeps u w
keeps_on u v w a b = record {
  plan = b.plan ∙ a.plan;
  known = λ j h. b.known j (a.known j h);
  ready = λ j h. b.ready j (a.ready j h);
  met = (a.met.0 ++ b.met.0, b.met.1 ∙ (ap (λ xs. xs ++ b.met.0) a.met.1 ∙ append_assoc u.met a.met.0 b.met.0));
}

taken-append : (xs ys : List Found) → taken_in (xs ++ ys) ≡ taken_in xs + taken_in ys
taken-append [] ys = omega arith
taken-append (x ∷ xs) ys = let h = taken-append xs ys in omega arith

taken_one : (xs : List Found) (j k : ℕ) → k < length xs → get_or xs k record { job = j; state = 1 } ≡ record { job = j; state = 1 } → 1 ≤ taken_in xs
taken_one [] j k l e = absurd (omega arith)
taken_one (x ∷ xs) j zero l e = let s = one x.state 1 (ap (λ (f : Found). f.state) e) in omega arith
taken_one (x ∷ xs) j (suc k) l e = let h = taken_one xs j k (omega arith) e in omega arith

pub taken_more : (v w : View) (j : ℕ) → MetSince v w j 1 → taken_in v.met + 1 ≤ taken_in w.met
taken_more v w j m = let a = taken-append v.met m.more in let e = ap taken_in m.is in let o = taken_one m.more j m.has.0 m.has.1 m.has.2 in omega arith

pub taken_keeps : (v w : View) → Keeps v w → taken_in v.met ≤ taken_in w.met
taken_keeps v w k = let a = taken-append v.met k.met.0 in let e = ap taken_in k.met.1 in omega arith

absent : (j : ℕ) (xs : List ℕ) → (Contains xs j → ⊥) → times j xs ≡ 0
absent j [] n = refl
absent j (x ∷ xs) n =
    let first : x ≢ j = λ e. n (0, omega arith, e) in let z = no x j first in
    let rest = absent j xs (λ h. n (suc h.0, (let l = h.1 in omega arith), h.2)) in omega arith

still : (n : ℕ) (xs : List ℕ) (j : ℕ) → n ≤ j → missing n (xs ++ j ∷ []) ≡ missing n xs
still zero xs j l = refl
still (suc n) xs j l = let h = still n xs j (omega arith) in let t = total_append (λ x. one_if (eqb x n)) xs (j ∷ []) in let z = no j n (λ e. omega arith) in
    let same : times n (xs ++ j ∷ []) ≡ times n xs = omega arith in
    (λ i. h i + one_if (eqb (same i) 0))

pub missing_less : (n : ℕ) (xs : List ℕ) (j : ℕ) → j < n → (Contains xs j → ⊥) → missing n (xs ++ j ∷ []) + 1 ≡ missing n xs
missing_less zero xs j l new = absurd (omega arith)
missing_less (suc n) xs j l new = let t = total_append (λ x. one_if (eqb x n)) xs (j ∷ []) in dite (ℕ_discrete j n)
    (λ e. let h = still n xs j (omega arith) in
    let none : times n xs ≡ 0 = subst (λ (z : ℕ). times z xs ≡ 0) e (absent j xs new) in
    let z = one j n e in let some : times n (xs ++ j ∷ []) ≢ 0 = (λ q. omega arith) in
    let a = one (times n xs) 0 none in let b = no (times n (xs ++ j ∷ [])) 0 some in omega arith)
    (λ ne. let h = missing_less n xs j (omega arith) new in let z = no j n ne in
    let same : times n (xs ++ j ∷ []) ≡ times n xs = omega arith in
    let b = ap (λ (m : ℕ). one_if (eqb m 0)) same in omega arith)

-- what was drained stays so where no known job is forgotten and the entries of `met` are the same
pub drained_later : (b : BoardValue) (v w : View) → HasDrained b v → ((j : ℕ) → Contains v.known j → Contains w.known j) → w.met ≡ v.met → HasDrained b w
drained_later b v w h known met = record {
  either = ⊎_elim (λ all. inl (λ k l. known k (all k l))) (λ often. let e = ap taken_in met in inr (omega arith)) h.either;
}

pub knows_itself : (v : View) → KnowsAll v v
knows_itself v = record { known = λ j h. h; ready = λ j h. h; ran = λ j h. h }

pub knows_on : (u v w : View) → KnowsAll u v → KnowsAll v w → KnowsAll u w
knows_on u v w a b = record {
  known = λ j h. b.known j (a.known j h);
  ready = λ j h. b.ready j (a.ready j h);
  ran = λ j h. b.ran j (a.ran j h);
}

-- a step keeps what is known, and runs a job more or none
pub knows_more : (v w : View) (more : List ℕ) → Keeps v w → w.ran ≡ v.ran ++ more → KnowsAll v w
knows_more v w more k e = record {
  known = k.known;
  ready = k.ready;
  ran = λ j h. subst (λ (xs : List ℕ). Contains xs j) (sym e) (Contains-append_left v.ran more j h);
}

pub knows_same : (v w : View) → Keeps v w → w.ran ≡ v.ran → KnowsAll v w
knows_same v w k e = record {
  known = k.known;
  ready = k.ready;
  ran = λ j h. subst (λ (xs : List ℕ). Contains xs j) (sym e) h;
}

-- a seat to which another was joined knows what it knew, and what the other knew
pub knows_own : (v w x : View) → x ≡ both_of v w → KnowsAll v x
knows_own v w x e = subst (KnowsAll v) (sym e) (record {
  known = λ j h. Contains-append_left v.known w.known j h;
  ready = λ j h. Contains-append_left v.ready w.ready j h;
  ran = λ j h. Contains-append_left v.ran w.ran j h;
})

pub knows_other : (v w x : View) → x ≡ both_of v w → KnowsAll w x
knows_other v w x e = subst (KnowsAll w) (sym e) (record {
  known = λ j h. Contains-append_right v.known w.known j h;
  ready = λ j h. Contains-append_right v.ready w.ready j h;
  ran = λ j h. Contains-append_right v.ran w.ran j h;
})
