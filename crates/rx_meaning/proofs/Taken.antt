-- Inputs that are taken line by line are within the kinds of the circuit's inputs.
use Rattle.std.proofs.Common.{◌≡◌, ℕ, ◌+◌, ◌-◌, ◌<◌, ◌≤◌, ◌^◌, Bool, true, false, cond, ◌&&◌, eqb, ltb, leb, List, [], ◌∷◌, length, get_or, drop, Option, Some, None, refl, sym, ◌∙◌, ap, subst, arith, inl, inr, length-drop}
use Rattle.std.specs.Prelude.{IsTrue}
use Rattle.std.specs.Option.{option_eq}
use Rattle.std.proofs.lemmas.Bool.{cases_lt, lt-ltb, le-ltb, le-leb, lt-leb, eqb-true, eq-eqb, and_from, and_left, and_right, false≢true}
use Rattle.std.proofs.lemmas.List.{drop_all}
use Rattle.rx_language.specs.declared.line.Line.{Line}
use Rattle.rx_language.specs.declared.line.Step.{Step}
use Rattle.rx_language.specs.Words.{is_input}
use Rattle.rx_language.specs.Kinds.{bits_of}
use Rattle.rx_language.specs.Programs.{Program, Port, ports_in, steps_of, inputs_of}
use Rattle.rx_language.proofs.Steps.{length-by}
use Rattle.rx_meaning.specs.Values.{AreWithin}
use Rattle.rx_meaning.specs.Inputs.{taken_after, is_taken_from}
use Rattle.rx_meaning.proofs.Walks.{drop_is}

-- a test and what it says
abbrev pub Tells : Bool → Type 0 → Type 0
Tells test P = (IsTrue test → P) × (P → IsTrue test)

-- where one line has no input, the test fails
none_taken : (inputs : List ℕ) (lines : List Line) (steps : List Step) → is_taken_from inputs None lines steps ≡ false
unfolding is_taken_from
none_taken inputs [] steps = refl
none_taken inputs (line ∷ lines) [] = refl
none_taken inputs (line ∷ lines) (step ∷ steps) = none_taken inputs lines steps

-- nothing is within no ports but no numbers
empty_within : (xs : List ℕ) → AreWithin [] xs → length xs ≡ 0
empty_within [] h = refl
empty_within (x ∷ xs) h = absurd h

no_ports : (inputs : List ℕ) (next : ℕ) → next ≤ length inputs → Tells (eqb next (length inputs)) (AreWithin [] (drop next inputs))
no_ports inputs next h = (
  (λ e. let n : next ≡ length inputs = eqb-true next (length inputs) e in subst (AreWithin []) (sym (drop_all next inputs (omega arith))) tt),
  (λ w. let n : length (drop next inputs) ≡ 0 = empty_within (drop next inputs) w in eq-eqb next (length inputs) (omega (arith, length-drop next inputs))),
)

tells_no : {P : Type 0} → (test : Bool) → test ≡ false → (P → ⊥) → Tells test P
tells_no test e denied = ((λ t. absurd (false≢true (sym e ∙ t))), (λ p. absurd (denied p)))

-- one port more, whose input is the next
port_taken : (inputs : List ℕ) (next : ℕ) (port : Port) (ports : List Port) (rest : Option ℕ → Bool) → next ≤ length inputs → rest None ≡ false
    → (next < length inputs → Tells (rest (Some (next + 1))) (AreWithin ports (drop (next + 1) inputs)))
    → Tells (rest (cond (ltb next (length inputs) && ltb (get_or inputs next 0) (2 ^ bits_of port.kind)) (Some (next + 1)) None)) (AreWithin (port ∷ ports) (drop next inputs))
port_taken inputs next port ports rest h none more =
    let x : ℕ = get_or inputs next 0 in
    let top : ℕ = 2 ^ bits_of port.kind in
    let test : Bool = ltb next (length inputs) && ltb x top in
    let given : Option ℕ = cond test (Some (next + 1)) None in
    elim (cases_lt next (length inputs)) [
      | inl l ↦
          let d : drop next inputs ≡ x ∷ drop (next + 1) inputs = drop_is inputs next x 0 l refl in
          elim (cases_lt x top) [
            | inl k ↦
                let t : test ≡ true = and_from (ltb next (length inputs)) (ltb x top) (lt-ltb next (length inputs) l) (lt-ltb x top k) in
                let e : given ≡ Some (next + 1) = ap (λ b. cond b (Some (next + 1)) None) t in (
                  (λ t. subst (AreWithin (port ∷ ports)) (sym d) (k, (more l).0 (subst (λ (o : Option ℕ). IsTrue (rest o)) e t))),
                  (λ w. let v = subst (AreWithin (port ∷ ports)) d w in subst (λ (o : Option ℕ). IsTrue (rest o)) (sym e) ((more l).1 v.1)),
                )
            | inr k ↦
                let t : test ≡ false = and_right (ltb next (length inputs)) (ltb x top) (le-ltb x top k) in
                let e : given ≡ None = ap (λ b. cond b (Some (next + 1)) None) t in
                tells_no (rest given) (ap rest e ∙ none) (λ w. let v = subst (AreWithin (port ∷ ports)) d w in let b : x < top = v.0 in omega arith)
          ]
      | inr l ↦
          let t : test ≡ false = and_left (ltb next (length inputs)) (ltb x top) (le-ltb next (length inputs) l) in
          let e : given ≡ None = ap (λ b. cond b (Some (next + 1)) None) t in
          tells_no (rest given) (ap rest e ∙ none) (λ w. subst (AreWithin (port ∷ ports)) (drop_all next inputs l) w)
    ]

line_taken : (given : Bool) (inputs : List ℕ) (next : ℕ) (port : Port) (ports : List Port) (rest : Option ℕ → Bool) → next ≤ length inputs → rest None ≡ false
    → ((n : ℕ) → n ≤ length inputs → Tells (rest (Some n)) (AreWithin ports (drop n inputs)))
    → Tells (rest (cond given (cond (ltb next (length inputs) && ltb (get_or inputs next 0) (2 ^ bits_of port.kind)) (Some (next + 1)) None) (Some next))) (AreWithin (cond given (port ∷ ports) ports) (drop next inputs))
line_taken true inputs next port ports rest h none more = port_taken inputs next port ports rest h none (λ l. more (next + 1) (omega arith))
line_taken false inputs next port ports rest h none more = more next h

taken_is : (inputs : List ℕ) (lines : List Line) (steps : List Step) → length steps ≡ length lines → (next : ℕ) → next ≤ length inputs
    → Tells (is_taken_from inputs (Some next) lines steps) (AreWithin (ports_in is_input lines steps) (drop next inputs))
unfolding is_taken_from
taken_is inputs [] steps e next h = no_ports inputs next h
taken_is inputs (line ∷ lines) [] e next h = absurd (omega arith)
taken_is inputs (line ∷ lines) (step ∷ steps) e next h =
    line_taken (is_input line.word) inputs next (record { name = line.name; kind = step.kind }) (ports_in is_input lines steps) (λ o. is_taken_from inputs o lines steps) h
    (none_taken inputs lines steps)
    (taken_is inputs lines steps (omega arith))

pub inputs_taken : (p : Program) (inputs : List ℕ) (lines : List Line) (steps : List Step) → lines ≡ p.lines → steps ≡ steps_of p
    → (test : Bool) → test ≡ is_taken_from inputs (Some 0) lines steps → Tells test (AreWithin (inputs_of p) inputs)
inputs_taken p inputs lines steps e f test g =
    let whole : test ≡ is_taken_from inputs (Some 0) p.lines (steps_of p) =
    g ∙ ap (λ ls. is_taken_from inputs (Some 0) ls steps) e ∙ ap (is_taken_from inputs (Some 0) p.lines) f
    in
    subst (λ (b : Bool). Tells b (AreWithin (inputs_of p) inputs)) (sym whole) (taken_is inputs p.lines (steps_of p) (length-by p.width p.lines) 0 (omega arith))

-- ---- a line more

pub taken_more : (inputs : List ℕ) (next : Option ℕ) (lines : List Line) (steps : List Step) (i : ℕ) (x : Line) (s : Step) → i < length lines → i < length steps
    → x ≡ get_or lines i x → s ≡ get_or steps i s
    → is_taken_from inputs next (drop i lines) (drop i steps) ≡ is_taken_from inputs (taken_after inputs next x s.kind) (drop (i + 1) lines) (drop (i + 1) steps)
unfolding is_taken_from
taken_more inputs next lines steps i x s h k e f =
    ap (λ ls. is_taken_from inputs next ls (drop i steps)) (drop_is lines i x x h e)
    ∙ ap (is_taken_from inputs next (x ∷ drop (i + 1) lines)) (drop_is steps i s s k f)

-- all are taken where the next is past the last
abbrev pub is_end : List ℕ → Option ℕ → Bool
is_end inputs next = option_eq eqb next (Some (length inputs))

taken_none : (inputs : List ℕ) (next : Option ℕ) (steps : List Step) → is_taken_from inputs next [] steps ≡ is_end inputs next
unfolding is_taken_from
taken_none inputs (Some next) steps = refl
taken_none inputs None steps = refl

pub taken_end : (inputs : List ℕ) (next : Option ℕ) (lines : List Line) (steps : List Step) (i : ℕ) → length lines ≤ i → is_taken_from inputs next (drop i lines) (drop i steps) ≡ is_end inputs next
taken_end inputs next lines steps i h = ap (λ ls. is_taken_from inputs next ls (drop i steps)) (drop_all i lines h) ∙ taken_none inputs next (drop i steps)

-- ---- at most the greatest is below the end
pub most_below : (n top : ℕ) → 1 ≤ top → leb n (top - 1) ≡ ltb n top
most_below n top h =
    elim (cases_lt n top) [
      | inl l ↦ le-leb n (top - 1) (omega arith) ∙ sym (lt-ltb n top l)
      | inr l ↦ lt-leb n (top - 1) (omega arith) ∙ sym (le-ltb n top l)
    ]
