-- First faults: how they are found in turn, and what holds where there is none.
use Rattle.std.proofs.Common.{◌≡◌, ℕ, zero, suc, ◌<◌, List, [], ◌∷◌, ◌++◌, length, get_or, take, Bool, true, false, refl, sym, ◌∙◌, ap, arith, subst, append_assoc, append-nil, Option, Some, None, Result, Err}
use Rattle.std.specs.Prelude.{◌&&◌}
use Rattle.std.specs.List.{list_all, AllByRecursion}
use Rattle.std.proofs.lemmas.Bool.{and_parts}
use Rattle.std.specs.Option.{option_or}
use Rattle.rx_net.specs.declared.fault.NetFault.{NetFault}
use Rattle.rx_net.specs.Legal.{InTurn}
use Rattle.rx_net.specs.Faults.{first_failing, first_in_turn, TellsFault}

pub of_some : (first second : Option NetFault) (f : NetFault) → first ≡ Some f → option_or first second ≡ Some f
of_some first second f e = ap (λ x. option_or x second) e

pub of_none : (first second : Option NetFault) → first ≡ None → option_or first second ≡ second
of_none first second e = ap (λ x. option_or x second) e

pub fails : (test : Bool) (f : NetFault) (tests : List (Bool × NetFault)) → test ≡ false → first_failing ((test, f) ∷ tests) ≡ Some f
fails test f tests e = ap (λ t. first_failing ((t, f) ∷ tests)) e

pub passes : (test : Bool) (f : NetFault) (tests : List (Bool × NetFault)) → test ≡ true → first_failing ((test, f) ∷ tests) ≡ first_failing tests
passes test f tests e = ap (λ t. first_failing ((t, f) ∷ tests)) e

-- ---- none
pub both_none : (first second : Option NetFault) → option_or first second ≡ None → (first ≡ None) × (second ≡ None)
both_none None second e = (refl, e)
both_none (Some f) second e = cc

pub none_fails : (test : Bool) (f : NetFault) (tests : List (Bool × NetFault)) → first_failing ((test, f) ∷ tests) ≡ None → (test ≡ true) × (first_failing tests ≡ None)
none_fails true f tests e = (refl, e)
none_fails false f tests e = cc

pub of_last : (first : Option NetFault) → option_or first None ≡ first
of_last None = refl
of_last (Some f) = refl

-- ---- in turn
module _ {A : Type 0} (fault : List A → A → Option NetFault) where
  -- one element more at the end
  pub turn_last : (before xs : List A) (x : A) → first_in_turn fault before xs ≡ None → first_in_turn fault before (xs ++ x ∷ []) ≡ fault (before ++ xs) x
  turn_last before [] x h = of_last (fault before x) ∙ ap (λ ys. fault ys x) (sym (append-nil before))
  turn_last before (y ∷ ys) x h =
      let b = both_none (fault before y) (first_in_turn fault (before ++ y ∷ []) ys) h in
      of_none (fault before y) (first_in_turn fault (before ++ y ∷ []) (ys ++ x ∷ [])) b.0
      ∙ turn_last (before ++ y ∷ []) ys x b.1 ∙ ap (λ zs. fault zs x) (append_assoc before (y ∷ []) ys)

pub turn_from_none : {A : Type 0} (fault : List A → A → Option NetFault) (Lawful : List A → A → Type 0)
    → ((before : List A) (x : A) → fault before x ≡ None → Lawful before x)
    → (before xs : List A) → first_in_turn fault before xs ≡ None → InTurn Lawful before xs
turn_from_none fault Lawful says before [] h = tt
turn_from_none fault Lawful says before (x ∷ xs) h =
    let b = both_none (fault before x) (first_in_turn fault (before ++ x ∷ []) xs) h in
    (says before x b.0, turn_from_none fault Lawful says (before ++ x ∷ []) xs b.1)

pub none_from_turn : {A : Type 0} (fault : List A → A → Option NetFault) (Lawful : List A → A → Type 0)
    → ((before : List A) (x : A) → Lawful before x → fault before x ≡ None)
    → (before xs : List A) → InTurn Lawful before xs → first_in_turn fault before xs ≡ None
none_from_turn fault Lawful says before [] h = refl
none_from_turn fault Lawful says before (x ∷ xs) h =
    of_none (fault before x) (first_in_turn fault (before ++ x ∷ []) xs) (says before x h.0)
    ∙ none_from_turn fault Lawful says (before ++ x ∷ []) xs h.1

-- what holds at a place
pub turn_at : {A : Type 0} (Lawful : List A → A → Type 0) (before xs : List A) → InTurn Lawful before xs → (i : ℕ) (x : A) → i < length xs → x ≡ get_or xs i x
    → Lawful (before ++ take i xs) x
turn_at Lawful before [] h i x p e = absurd (omega arith)
turn_at Lawful before (y ∷ ys) h zero x p e =
    let b : before ≡ before ++ [] = sym (append-nil before) in
    subst (λ zs. Lawful zs x) b (subst (Lawful before) (sym e) h.0)
turn_at Lawful before (y ∷ ys) h (suc i) x p e =
    subst (λ zs. Lawful zs x) (append_assoc before (y ∷ []) (take i ys)) (turn_at Lawful (before ++ y ∷ []) ys h.1 i x (omega arith) e)

-- ---- tests
pub all_from_test : {A : Type 0} (test : A → Bool) (P : A → Type 0) → ((x : A) → test x ≡ true → P x) → (xs : List A) → list_all test xs ≡ true → AllByRecursion P xs
all_from_test test P says [] e = tt
all_from_test test P says (x ∷ xs) e = let b = and_parts (test x) (list_all test xs) e in (says x b.0, all_from_test test P says xs b.1)

pub test_from_all : {A : Type 0} (test : A → Bool) (P : A → Type 0) → ((x : A) → P x → test x ≡ true) → (xs : List A) → AllByRecursion P xs → list_all test xs ≡ true
test_from_all test P says [] h = refl
test_from_all test P says (x ∷ xs) h = ap (λ b. b && list_all test xs) (says x h.0) ∙ test_from_all test P says xs h.1

-- an error that is passed on
pub passed_on : {A : Type 0} (r : Result A NetFault) (x e : NetFault) (f : Option NetFault) → r ≡ Err x → x ≡ e → f ≡ Some e → TellsFault r f
passed_on r x e f p q h = subst (λ r. TellsFault r f) (sym p) (h ∙ ap Some (sym q))
