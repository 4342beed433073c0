-- The kinds of the lines of a circuit are kinds of its message space.
use Rattle.std.proofs.Common.{◌≡◌, ℕ, ◌%◌, ◌≤◌, Bool, true, false, cond, ◌&&◌, nat_le, List, [], ◌∷◌, ◌++◌, length, map, Some, None, refl, sym, subst, arith, inl, inr, ◌⊎◌, length-append}
use Rattle.std.specs.Prelude.{IsTrue, ◌==◌, unwrap_or}
use Rattle.std.specs.List.{AllByRecursion}
use Rattle.std.proofs.lemmas.Bool.{cases_order, and_parts, or_cases, leb-true, eqb-true}
use Rattle.std.proofs.lemmas.List.{get_or_append_left, get_or_past, get_or_push, append-nil}
use Rattle.rx_params.specs.Kinds.{is_form}
use Rattle.rx_params.specs.declared.kind.Kind.TheVariants.{Int as WholeNumber}
use Rattle.rx_language.specs.declared.form.Rule.{Rule}
use Rattle.rx_language.specs.declared.form.Rule.TheVariants.{GivesInt, GivesSint, GivesBit, OneNumber, TwoNumbers, TwoInts, OneOfAny, TwoAlike, NumberAndAmount, Compared, Chosen, CastInt, CastSint}
use Rattle.rx_language.specs.declared.kind.NameKind.{NameKind}
use Rattle.rx_language.specs.declared.kind.NameKind.TheVariants.{Int, Sint, Bit}
use Rattle.rx_language.specs.declared.line.Line.{Line}
use Rattle.rx_language.specs.declared.line.Step.{Step}
use Rattle.rx_language.specs.Words.{form}
use Rattle.rx_language.specs.Kinds.{bits_of, is_number, same_kind, are_numbers, are_ints, kind_by}
use Rattle.rx_language.specs.Programs.{Program, no_step, kind_at, place_of, asked, width_or, line_width, is_stated, step_after, steps_by, steps_of, AreLawful, IsProgram}
use Rattle.rx_language.proofs.Steps.{regrouped, by-push}
use Rattle.rx_meaning.specs.Kinds.{is_kind, AreKinds}
use Rattle.rx_meaning.specs.Operations.{HasBits}

-- ---- the kind that a rule gives

given_if : (space : ℕ) (test : Bool) (kind : NameKind) → IsTrue (is_kind space kind) → IsTrue (is_kind space (unwrap_or (cond test (Some kind) None) Bit))
given_if space true kind h = h
given_if space false kind h = refl

rule_kind : (space : ℕ) (rule : Rule) (width : ℕ) (kinds : List NameKind) → IsTrue (is_form space WholeNumber width) → AllByRecursion (λ kind. IsTrue (is_kind space kind)) kinds
    → IsTrue (is_kind space (unwrap_or (kind_by rule width kinds) Bit))
rule_kind space GivesInt width [] w h = w
rule_kind space GivesInt width (a ∷ kinds) w h = refl
rule_kind space GivesSint width [] w h = w
rule_kind space GivesSint width (a ∷ kinds) w h = refl
rule_kind space GivesBit width [] w h = refl
rule_kind space GivesBit width (a ∷ kinds) w h = refl
rule_kind space OneNumber width [] w h = refl
rule_kind space OneNumber width (a ∷ []) w h = given_if space (is_number a) a h.0
rule_kind space OneNumber width (a ∷ b ∷ kinds) w h = refl
rule_kind space TwoNumbers width [] w h = refl
rule_kind space TwoNumbers width (a ∷ []) w h = refl
rule_kind space TwoNumbers width (a ∷ b ∷ []) w h = given_if space (are_numbers a b) a h.0
rule_kind space TwoNumbers width (a ∷ b ∷ c ∷ kinds) w h = refl
rule_kind space TwoInts width [] w h = refl
rule_kind space TwoInts width (a ∷ []) w h = refl
rule_kind space TwoInts width (a ∷ b ∷ []) w h = given_if space (are_ints a b) a h.0
rule_kind space TwoInts width (a ∷ b ∷ c ∷ kinds) w h = refl
rule_kind space OneOfAny width [] w h = refl
rule_kind space OneOfAny width (a ∷ []) w h = h.0
rule_kind space OneOfAny width (a ∷ b ∷ kinds) w h = refl
rule_kind space TwoAlike width [] w h = refl
rule_kind space TwoAlike width (a ∷ []) w h = refl
rule_kind space TwoAlike width (a ∷ b ∷ []) w h = given_if space (same_kind a b) a h.0
rule_kind space TwoAlike width (a ∷ b ∷ c ∷ kinds) w h = refl
rule_kind space NumberAndAmount width [] w h = refl
rule_kind space NumberAndAmount width (a ∷ []) w h = refl
rule_kind space NumberAndAmount width (a ∷ b ∷ []) w h = given_if space (is_number a && same_kind b (Int (bits_of a))) a h.0
rule_kind space NumberAndAmount width (a ∷ b ∷ c ∷ kinds) w h = refl
rule_kind space Compared width [] w h = refl
rule_kind space Compared width (a ∷ []) w h = refl
rule_kind space Compared width (a ∷ b ∷ []) w h = given_if space (are_numbers a b) Bit refl
rule_kind space Compared width (a ∷ b ∷ c ∷ kinds) w h = refl
rule_kind space Chosen width [] w h = refl
rule_kind space Chosen width (a ∷ []) w h = refl
rule_kind space Chosen width (a ∷ b ∷ []) w h = refl
rule_kind space Chosen width (c ∷ a ∷ b ∷ []) w h = given_if space (same_kind c Bit && are_numbers a b) a h.1.0
rule_kind space Chosen width (a ∷ b ∷ c ∷ d ∷ kinds) w h = refl
rule_kind space CastInt width [] w h = refl
rule_kind space CastInt width (a ∷ []) w h = w
rule_kind space CastInt width (a ∷ b ∷ kinds) w h = refl
rule_kind space CastSint width [] w h = refl
rule_kind space CastSint width (a ∷ []) w h = w
rule_kind space CastSint width (a ∷ b ∷ kinds) w h = refl

-- ---- the kind of a line

wide_by : (space width stated_width : ℕ) (stated ranged : Bool) → IsTrue (is_form space WholeNumber width) → IsTrue (is_stated stated space stated_width && ranged)
    → IsTrue (is_form space WholeNumber (width_or stated stated_width width))
wide_by space width stated_width true ranged w h = (and_parts (is_form space WholeNumber stated_width) ranged h).0
wide_by space width stated_width false ranged w h = w

asked_kinds : (space : ℕ) (f : List ℕ → NameKind) → ((name : List ℕ) → IsTrue (is_kind space (f name))) → (names : List (List ℕ))
    → AllByRecursion (λ kind. IsTrue (is_kind space kind)) (map f names)
asked_kinds space f h [] = tt
asked_kinds space f h (name ∷ names) = (h name, asked_kinds space f h names)

line_kind : (space width : ℕ) (before : List Line) (steps : List Step) (line : Line) (ranged : Bool) → IsTrue (is_form space WholeNumber width) → AreKinds space steps
    → IsTrue (is_stated (form line.word).stated space line.width && ranged) → IsTrue (is_kind space (step_after width before steps line).kind)
line_kind space width before steps line ranged w h r =
    rule_kind space (form line.word).rule (line_width width line) (map (λ name. kind_at steps (place_of name before)) (asked line))
    (wide_by space width line.width (form line.word).stated ranged w r)
    (asked_kinds space (λ name. kind_at steps (place_of name before)) (λ name. h (place_of name before)) (asked line))

kinds_push : (space : ℕ) (steps : List Step) (step : Step) → AreKinds space steps → IsTrue (is_kind space step.kind) → AreKinds space (steps ++ step ∷ [])
kinds_push space steps step h k i =
    let P : Step → Type 0 = λ s. IsTrue (is_kind space s.kind) in
    elim (cases_order i (length steps)) [
      | inl e ↦ subst P (sym (get_or_push steps step no_step i (sym e))) k
      | inr o ↦ elim o [
        | inl l ↦ subst P (sym (get_or_append_left steps (step ∷ []) no_step i l)) (h i)
        | inr l ↦ subst P (sym (get_or_past (steps ++ step ∷ []) i no_step (omega (arith, length-append steps (step ∷ []))))) refl
      ]
    ]

kinds_from : (space width : ℕ) (before lines : List Line) → IsTrue (is_form space WholeNumber width) → AreKinds space (steps_by width before) → AreLawful space width before lines
    → AreKinds space (steps_by width (before ++ lines))
kinds_from space width before [] w h a = subst (λ (ls : List Line). AreKinds space (steps_by width ls)) (sym (append-nil before)) h
kinds_from space width before (line ∷ lines) w h a =
    let steps : List Step = steps_by width before in
    let one : IsTrue (is_kind space (step_after width before steps line).kind) = line_kind space width before steps line _ w h a.0.numbers in
    let more : AreKinds space (steps_by width (before ++ line ∷ [])) =
    subst (AreKinds space) (sym (by-push width before line)) (kinds_push space steps (step_after width before steps line) h one)
    in
    subst (λ (ls : List Line). AreKinds space (steps_by width ls)) (sym (regrouped before line lines)) (kinds_from space width (before ++ line ∷ []) lines w more a.1)

none_are : (space width : ℕ) → AreKinds space (steps_by width [])
unfolding steps_by
none_are space width i = refl

pub kinds_are : (p : Program) → IsProgram p → AreKinds p.space (steps_of p)
kinds_are p h = kinds_from p.space p.width [] p.lines h.width (none_are p.space p.width) h.lines

-- ---- what a kind of the space has

pub space_is : (p : Program) → IsProgram p → (p.space ≡ 2) ⊎ (p.space ≡ 3)
space_is p h =
    elim (or_cases (p.space == 2) (p.space == 3) h.space) [
      | inl e ↦ inl (eqb-true p.space 2 e)
      | inr e ↦ inr (eqb-true p.space 3 e)
    ]

pub space_some : (p : Program) → IsProgram p → 2 ≤ p.space
space_some p h = elim (space_is p h) [ inl e ↦ omega arith | inr e ↦ omega arith ]

bits_by : (space width : ℕ) → 2 ≤ space → IsTrue (is_form space WholeNumber width) → (space ≤ width) × (width ≤ 64)
bits_by space width s h =
    let a = and_parts (nat_le space width) (nat_le width 64 && (width % space == 0)) h in
    let b = and_parts (nat_le width 64) (width % space == 0) a.1 in
    (leb-true space width a.0, leb-true width 64 b.0)

pub kind_bits : (space : ℕ) (kind : NameKind) → 2 ≤ space → IsTrue (is_kind space kind) → HasBits kind
kind_bits space (Int width) s h = let b = bits_by space width s h in record { some = omega (arith, b.0); few = b.1 }
kind_bits space (Sint width) s h = let b = bits_by space width s h in record { some = omega (arith, b.0); few = b.1 }
kind_bits space Bit s h = record { some = omega arith; few = omega arith }

pub kinds_have_bits : (p : Program) → IsProgram p → (i : ℕ) → HasBits (kind_at (steps_of p) i)
kinds_have_bits p h i = kind_bits p.space (kind_at (steps_of p) i) (space_some p h) (kinds_are p h i)
