-- What is known of the lines of a program, one line after the other.
use Rattle.std.proofs.Common.{◌≡◌, ◌+◌, ℕ, List, [], ◌∷◌, ◌++◌, length, sym, ap, subst, ◌∙◌, append_assoc, arith, length-append}
use Rattle.std.proofs.lemmas.List.{append-nil}
use Rattle.rx_language.specs.declared.line.Line.{Line}
use Rattle.rx_language.specs.declared.line.Step.{Step}
use Rattle.rx_language.specs.Programs.{step_after, steps_from, steps_by, IsLawful, AreLawful}

-- one line more, regrouped
pub regrouped : {A : Type 0} (before : List A) (x : A) (xs : List A) → before ++ x ∷ xs ≡ (before ++ x ∷ []) ++ xs
regrouped before x xs = sym (append_assoc before (x ∷ []) xs)

-- ---- the steps of lines in two parts
pub from-append : (width : ℕ) (before : List Line) (steps : List Step) (xs ys : List Line)
    → steps_from width before steps (xs ++ ys) ≡ steps_from width (before ++ xs) (steps_from width before steps xs) ys
from-append width before steps [] ys = ap (λ (b : List Line). steps_from width b steps ys) (sym (append-nil before))
from-append width before steps (x ∷ xs) ys =
    from-append width (before ++ x ∷ []) (steps ++ step_after width before steps x ∷ []) xs ys
    ∙ ap (λ (b : List Line). steps_from width b (steps_from width before steps (x ∷ xs)) ys) (sym (regrouped before x xs))

pub by-append : (width : ℕ) (xs ys : List Line) → steps_by width (xs ++ ys) ≡ steps_from width xs (steps_by width xs) ys
unfolding steps_by
by-append width xs ys = from-append width [] [] xs ys

-- one line more
pub by-push : (width : ℕ) (xs : List Line) (x : Line) → steps_by width (xs ++ x ∷ []) ≡ steps_by width xs ++ step_after width xs (steps_by width xs) x ∷ []
by-push width xs x = by-append width xs (x ∷ [])

length-from : (width : ℕ) (before : List Line) (steps : List Step) (xs : List Line) → length (steps_from width before steps xs) ≡ length steps + length xs
length-from width before steps [] = omega arith
length-from width before steps (x ∷ xs) =
    let rest = length-from width (before ++ x ∷ []) (steps ++ step_after width before steps x ∷ []) xs in
    omega (arith, rest, length-append steps (step_after width before steps x ∷ []))

-- there is one step for each line
pub length-by : (width : ℕ) (xs : List Line) → length (steps_by width xs) ≡ length xs
unfolding steps_by
length-by width xs = omega (arith, length-from width [] [] xs)

-- ---- lawful lines, one more
pub lawful-push : (space width : ℕ) (before xs : List Line) (x : Line) → AreLawful space width before xs → IsLawful space width (before ++ xs) x
    → AreLawful space width before (xs ++ x ∷ [])
lawful-push space width before [] x h one = (subst (λ (b : List Line). IsLawful space width b x) (append-nil before) one, tt)
lawful-push space width before (y ∷ xs) x h one =
    (h.0, lawful-push space width (before ++ y ∷ []) xs x h.1 (subst (λ (b : List Line). IsLawful space width b x) (regrouped before y xs) one))

-- the line that stands after these
pub lawful-at : (space width : ℕ) (before xs : List Line) (x : Line) (ys : List Line) → AreLawful space width before (xs ++ x ∷ ys) → IsLawful space width (before ++ xs) x
lawful-at space width before [] x ys h = subst (λ (b : List Line). IsLawful space width b x) (sym (append-nil before)) h.0
lawful-at space width before (y ∷ xs) x ys h =
    subst (λ (b : List Line). IsLawful space width b x) (sym (regrouped before y xs)) (lawful-at space width (before ++ y ∷ []) xs x ys h.1)
