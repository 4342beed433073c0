-- A line after the lines before it.
use Rattle.std.proofs.Common.{◌≡◌, ◌^◌, ℕ, Bool, true, false, cond, ltb, ◌&&◌, List, [], ◌∷◌, length, Option, Some, None, Result, Ok, Err, refl, sym, ap, ◌∙◌}
use Rattle.std.specs.Prelude.{option_map}
use Rattle.std.proofs.lemmas.Option.{same_Some}
use Rattle.rx_text.specs.Lines.{four_of}
use Rattle.rx_text.specs.Names.{is_name, name_of}
use Rattle.rx_text.specs.Numerals.{numeral_of, held}
use Rattle.rx_text.specs.declared.numeral.Numeral.{Numeral}
use Rattle.rx_params.specs.declared.kind.Kind.{Kind}
use Rattle.rx_text.specs.declared.fault.LineCause.{LineCause}
use Rattle.rx_text.specs.declared.fault.LineCause.TheVariants.{Number, Again, Limit}
use Rattle.rx_circuit.specs.declared.reading.Spelled.{Spelled}
use Rattle.rx_circuit.specs.declared.values.ValueLine.{ValueLine}
use Rattle.rx_circuit.specs.Values.{is_width, has_name, kind_of, line_parts, spelled_line, line_after}
use Rattle.rx_circuit.specs.Reading.{held_line, ranged_line}

-- what a line is that is within its ranges
abbrev pub placed : List ValueLine → ValueLine → Result ValueLine LineCause
placed before v = cond (has_name v.name before) (Err Again) (cond (ltb (length before) 64) (Ok v) (Err Limit))

-- the cases of a test that chose Ok or Err
test_ok : (b : Bool) (x y : ValueLine) (d : LineCause) (then : Result ValueLine LineCause) → Ok y ≡ cond b (Ok x) (Err d) → (x ≡ y) × (cond b then (Err d) ≡ then)
test_ok true x y d then h = (cc, refl)
test_ok false x y d then h = absurd cc

test_err : (b : Bool) (x : ValueLine) (d e : LineCause) (then : Result ValueLine LineCause) → Err e ≡ cond b (Ok x) (Err d) → Err e ≡ cond b then (Err d)
test_err true x d e then h = absurd cc
test_err false x d e then h = h

pub after_err : (before : List ValueLine) (s : Option ValueLine) (spelled : Spelled) (e : LineCause) → Some spelled ≡ option_map held_line s
    → ((line : ValueLine) → spelled ≡ held_line line → Err e ≡ ranged_line line) → Err e ≡ line_after before s
after_err before None spelled e h k = absurd cc
after_err before (Some v) spelled e h k =
    let same : spelled ≡ held_line v = cc in
    test_err (is_width v.kind v.bits && ltb v.value (2 ^ v.bits)) v Number e (placed before v) (k v same)

pub after_ok : (before : List ValueLine) (s : Option ValueLine) (spelled : Spelled) (w : ValueLine) → Some spelled ≡ option_map held_line s
    → ((line : ValueLine) → spelled ≡ held_line line → Ok w ≡ ranged_line line) → line_after before s ≡ placed before w
after_ok before None spelled w h k = absurd cc
after_ok before (Some v) spelled w h k =
    let same : spelled ≡ held_line v = cc in
    let two = test_ok (is_width v.kind v.bits && ltb v.value (2 ^ v.bits)) v w Number (placed before v) (k v same) in
    two.1 ∙ ap (placed before) two.0

-- ---- the words of a line

pub spelled_of_four : (words : List (List ℕ)) (kind name bits value : List ℕ) → Some (kind, name, bits, value) ≡ four_of words
    → spelled_line words ≡ line_parts (kind_of kind) name (numeral_of bits) (numeral_of value)
spelled_of_four [] kind name bits value h = absurd cc
spelled_of_four (a ∷ []) kind name bits value h = absurd cc
spelled_of_four (a ∷ b ∷ []) kind name bits value h = absurd cc
spelled_of_four (a ∷ b ∷ c ∷ []) kind name bits value h = absurd cc
spelled_of_four (a ∷ b ∷ c ∷ d ∷ []) kind name bits value h =
    let same = same_Some (kind, name, bits, value) (a, b, c, d) h in
    sym (ap (λ (words : List ℕ × List ℕ × List ℕ × List ℕ). spelled_line (words.0 ∷ words.1 ∷ words.2 ∷ words.3 ∷ [])) same)
spelled_of_four (a ∷ b ∷ c ∷ d ∷ e ∷ words) kind name bits value h = absurd cc

name_none : (b : Bool) (name : List ℕ) → None ≡ cond b (Some name) None → b ≡ false
name_none true name h = absurd cc
name_none false name h = refl

name_some : (b : Bool) (name found : List ℕ) → Some found ≡ cond b (Some name) None → (b ≡ true) × (found ≡ name)
name_some true name found h = (refl, cc)
name_some false name found h = absurd cc

pub without_name : (kind : Option Kind) (name : List ℕ) (bits value : Option ℕ) → None ≡ name_of name → None ≡ option_map held_line (line_parts kind name bits value)
without_name None name bits value h = refl
without_name (Some kind) name None value h = refl
without_name (Some kind) name (Some bits) None h = refl
without_name (Some kind) name (Some bits) (Some value) h = rw (name_none (is_name name) name h) refl

pub with_all : (kind : Kind) (name found : List ℕ) (bits value : Option ℕ) (held_bits held_value : Numeral)
    → Some found ≡ name_of name → Some held_bits ≡ option_map held bits → Some held_value ≡ option_map held value
    → Some (record { kind = kind; name = found; bits = held_bits; value = held_value }) ≡ option_map held_line (line_parts (Some kind) name bits value)
with_all kind name found None value hb hv h k l = absurd cc
with_all kind name found (Some bits) None hb hv h k l = absurd cc
with_all kind name found (Some bits) (Some value) hb hv h k l =
    let n = name_some (is_name name) name found h in
    let is : is_name name ≡ true = n.0 in
    let same : found ≡ name = n.1 in
    let b : hb ≡ held bits = cc in
    let v : hv ≡ held value = cc in
    rw (is, same, b, v) refl
