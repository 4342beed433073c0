-- The first word that another list does not have at its place.
use Rattle.std.proofs.Common.{◌≡◌, ℕ, suc, ◌+◌, ◌*◌, ◌<◌, ◌≤◌, refl, ◌∙◌, ap, arith, Bool, true, false, eqb, cond, List, [], ◌∷◌, ◌++◌, length, get_or, drop, Option, Some, None}
use Rattle.std.specs.Option.{option_or}
use Rattle.std.proofs.lemmas.Bool.{eq-eqb, eqb-true}
use Rattle.std.proofs.lemmas.List.{drop_more, drop_all}
use Rattle.rx_seeded.specs.Masks.{first_unlike}

pub unlike-same : (at : ℕ) (xs : List ℕ) → first_unlike at xs xs ≡ None
unlike-same at [] = refl
unlike-same at (x ∷ xs) =
    ap (λ (b : Bool). cond b (first_unlike (at + 8) xs xs) (Some at)) (eq-eqb x x refl) ∙ unlike-same (at + 8) xs

-- lists of one length without such a word are equal
none_head : (b : Bool) (rest : Option ℕ) (at : ℕ) → cond b rest (Some at) ≡ None → (b ≡ true) × (rest ≡ None)
none_head true rest at e = (refl, e)
none_head false rest at e = absurd cc

pub unlike-none : (at : ℕ) (xs ys : List ℕ) → length xs ≡ length ys → first_unlike at xs ys ≡ None → xs ≡ ys
unlike-none at [] [] count e = refl
unlike-none at [] (y ∷ ys) count e = absurd (omega (arith, count))
unlike-none at (x ∷ xs) [] count e = absurd (omega (arith, count))
unlike-none at (x ∷ xs) (y ∷ ys) count e =
    let parts = none_head (eqb x y) (first_unlike (at + 8) xs ys) at e in
    ap (λ z. z ∷ xs) (eqb-true x y parts.0) ∙ ap (λ zs. y ∷ zs) (unlike-none (at + 8) xs ys (omega (arith, count)) parts.1)

-- in two lists, one after another
or_of : (b : Bool) (first second : Option ℕ) (at : ℕ) →
    cond b (option_or first second) (Some at) ≡ option_or (cond b first (Some at)) second
or_of true first second at = refl
or_of false first second at = refl

pub unlike-append : (at : ℕ) (xs zs ys ws : List ℕ) → length xs ≡ length zs →
    first_unlike at (xs ++ ys) (zs ++ ws) ≡ option_or (first_unlike at xs zs) (first_unlike (at + 8 * length xs) ys ws)
unlike-append at [] [] ys ws count = let e : at ≡ at + 8 * 0 = omega arith in ap (λ k. first_unlike k ys ws) e
unlike-append at [] (z ∷ zs) ys ws count = absurd (omega (arith, count))
unlike-append at (x ∷ xs) [] ys ws count = absurd (omega (arith, count))
unlike-append at (x ∷ xs) (z ∷ zs) ys ws count =
    let e : at + 8 + 8 * length xs ≡ at + 8 * suc (length xs) = omega arith in
    ap (λ rest. cond (eqb x z) rest (Some at))
    (unlike-append (at + 8) xs zs ys ws (omega (arith, count))
    ∙ ap (λ k. option_or (first_unlike (at + 8) xs zs) (first_unlike k ys ws)) e)
    ∙ or_of (eqb x z) (first_unlike (at + 8) xs zs) (first_unlike (at + 8 * suc (length xs)) ys ws) at

-- ---- as far as a loop has come

-- what is left at place i
abbrev pub unlike_rest : ℕ → List ℕ → List ℕ → ℕ → Option ℕ
unlike_rest at xs ys i = first_unlike (at + 8 * i) (drop i xs) (drop i ys)

rest-is : (at : ℕ) (xs ys : List ℕ) (i : ℕ) → i < length xs → length xs ≡ length ys →
    unlike_rest at xs ys i
    ≡ cond (eqb (get_or xs i 0) (get_or ys i 0)) (unlike_rest at xs ys (i + 1)) (Some (at + 8 * i))
rest-is at xs ys i low count =
    let place : at + 8 * i + 8 ≡ at + 8 * (i + 1) = omega arith in
    ap (λ zs. first_unlike (at + 8 * i) zs (drop i ys)) (drop_more xs i 0 low)
    ∙ ap (λ zs. first_unlike (at + 8 * i) (get_or xs i 0 ∷ drop (i + 1) xs) zs) (drop_more ys i 0 (omega (arith, low, count)))
    ∙ ap (λ k. cond (eqb (get_or xs i 0) (get_or ys i 0)) (first_unlike k (drop (i + 1) xs) (drop (i + 1) ys)) (Some (at + 8 * i))) place

pub rest-alike : (at : ℕ) (xs ys : List ℕ) (i : ℕ) → i < length xs → length xs ≡ length ys → get_or xs i 0 ≡ get_or ys i 0 →
    unlike_rest at xs ys i ≡ unlike_rest at xs ys (i + 1)
rest-alike at xs ys i low count same =
    rest-is at xs ys i low count
    ∙ ap (λ (b : Bool). cond b (unlike_rest at xs ys (i + 1)) (Some (at + 8 * i))) (eq-eqb (get_or xs i 0) (get_or ys i 0) same)

pub rest-unlike : (at : ℕ) (xs ys : List ℕ) (i : ℕ) → i < length xs → length xs ≡ length ys →
    eqb (get_or xs i 0) (get_or ys i 0) ≡ false → unlike_rest at xs ys i ≡ Some (at + 8 * i)
rest-unlike at xs ys i low count differ =
    rest-is at xs ys i low count
    ∙ ap (λ (b : Bool). cond b (unlike_rest at xs ys (i + 1)) (Some (at + 8 * i))) differ

pub rest-start : (at : ℕ) (xs ys : List ℕ) → unlike_rest at xs ys 0 ≡ first_unlike at xs ys
rest-start at xs ys = let e : at + 8 * 0 ≡ at = omega arith in ap (λ k. first_unlike k xs ys) e

pub rest-end : (at : ℕ) (xs ys : List ℕ) (i : ℕ) → length xs ≤ i → unlike_rest at xs ys i ≡ None
rest-end at xs ys i past = ap (λ zs. first_unlike (at + 8 * i) zs (drop i ys)) (drop_all i xs past)
