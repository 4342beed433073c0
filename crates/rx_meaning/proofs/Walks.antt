-- The values of a circuit, line after line.
use Rattle.std.proofs.Common.{◌≡◌, ℕ, suc, ◌+◌, ◌<◌, ◌≤◌, List, [], ◌∷◌, ◌++◌, length, get_or, drop, sym, ◌∙◌, ap, subst, arith, append_assoc, append-nil, length-append, inl, inr, lit<, lit≤}
use Rattle.std.proofs.Math.Seq.{drop-cons}
use Rattle.std.proofs.lemmas.Bool.{cases_order, cond_both}
use Rattle.std.proofs.lemmas.List.{get_or_append_left, get_or_past, get_or_push, drop_all}
use Rattle.rx_language.specs.declared.line.Line.{Line}
use Rattle.rx_language.specs.declared.line.Step.{Step}
use Rattle.rx_language.specs.Words.{is_input}
use Rattle.rx_meaning.specs.declared.operand.Operand.{Operand}
use Rattle.rx_meaning.specs.Operations.{IsHeld}
use Rattle.rx_meaning.specs.Values.{AreHeld, absent, value_after, given_to, next_after, values_from, output_of, given_out}

-- ---- values within their kinds

pub absent_held : IsHeld absent
absent_held = record { bits = record { some = lit≤ tt; few = lit≤ tt }; below = lit< tt }

-- one value more
pub held_push : (values : List Operand) (x : Operand) → AreHeld values → IsHeld x → AreHeld (values ++ x ∷ [])
held_push values x h k i =
    elim (cases_order i (length values)) [
      | inl e ↦ subst IsHeld (sym (get_or_push values x absent i (sym e))) k
      | inr o ↦ elim o [
        | inl l ↦ subst IsHeld (sym (get_or_append_left values (x ∷ []) absent i l)) (h i)
        | inr l ↦ subst IsHeld (sym (get_or_past (values ++ x ∷ []) i absent (omega (arith, length-append {A = Operand})))) absent_held
      ]
    ]

-- ---- a line more

pub drop_is : {A : Type 0} → (xs : List A) (i : ℕ) (x d : A) → i < length xs → x ≡ get_or xs i d → drop i xs ≡ x ∷ drop (i + 1) xs
drop_is xs i x d h e =
    let s : suc i ≡ i + 1 = omega arith in
    drop-cons xs i d h ∙ ap (λ y. y ∷ drop (suc i) xs) (sym e) ∙ ap (λ k. x ∷ drop k xs) s

pub values_more : (inputs : List ℕ) (done : List Operand) (next : ℕ) (lines : List Line) (steps : List Step) (i : ℕ) (x : Line) (s : Step) (v : Operand)
    → i < length lines → i < length steps → x ≡ get_or lines i x → s ≡ get_or steps i s → v ≡ value_after done (given_to inputs next x) x s
    → done ++ values_from inputs done next (drop i lines) (drop i steps)
    ≡ (done ++ v ∷ []) ++ values_from inputs (done ++ v ∷ []) (next_after next x) (drop (i + 1) lines) (drop (i + 1) steps)
unfolding values_from
values_more inputs done next lines steps i x s v h k e f g =
    let w : Operand = value_after done (given_to inputs next x) x s in
    let rest : Operand → List Operand = λ y. values_from inputs (done ++ y ∷ []) (next_after next x) (drop (i + 1) lines) (drop (i + 1) steps) in
    ap (λ ls. done ++ values_from inputs done next ls (drop i steps)) (drop_is lines i x x h e)
    ∙ ap (λ ss. done ++ values_from inputs done next (x ∷ drop (i + 1) lines) ss) (drop_is steps i s s k f)
    ∙ sym (append_assoc done (w ∷ []) (rest w))
    ∙ ap (λ y. (done ++ y ∷ []) ++ rest y) (sym g)

pub values_end : (inputs : List ℕ) (done : List Operand) (next : ℕ) (lines : List Line) (steps : List Step) (i : ℕ) → length lines ≤ i
    → done ++ values_from inputs done next (drop i lines) (drop i steps) ≡ done
unfolding values_from
values_end inputs done next lines steps i h =
    ap (λ ls. done ++ values_from inputs done next ls (drop i steps)) (drop_all i lines h) ∙ append-nil done

-- ---- an output more

pub given_more : (done : List ℕ) (lines : List Line) (values : List Operand) (i : ℕ) (x : Line) (v d : Operand)
    → i < length lines → i < length values → x ≡ get_or lines i x → v ≡ get_or values i d
    → done ++ given_out (drop i lines) (drop i values) ≡ (done ++ output_of x v.value) ++ given_out (drop (i + 1) lines) (drop (i + 1) values)
unfolding given_out
given_more done lines values i x v d h k e f =
    ap (λ ls. done ++ given_out ls (drop i values)) (drop_is lines i x x h e)
    ∙ ap (λ vs. done ++ given_out (x ∷ drop (i + 1) lines) vs) (drop_is values i v d k f)
    ∙ sym (append_assoc done (output_of x v.value) (given_out (drop (i + 1) lines) (drop (i + 1) values)))

pub given_end : (done : List ℕ) (lines : List Line) (values : List Operand) (i : ℕ) → length lines ≤ i → done ++ given_out (drop i lines) (drop i values) ≡ done
unfolding given_out
given_end done lines values i h = ap (λ ls. done ++ given_out ls (drop i values)) (drop_all i lines h) ∙ append-nil done

pub next_near : (next : ℕ) (line : Line) → next_after next line ≤ next + 1
next_near next line = cond_both (is_input line.word) (next + 1) next (λ (n : ℕ). n ≤ next + 1) (λ e. omega arith) (λ e. omega arith)
