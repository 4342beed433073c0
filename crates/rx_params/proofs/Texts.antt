-- Parameter texts: what is read is spelled so, and what is spelled so is read.
use Rattle.std.proofs.Common.{◌≡◌, ◌==◌, ◌<◌, ◌+◌, ◌^◌, ℕ, Bool, true, false, cond, not, ltb, List, [], ◌∷◌, length, Option, Some, None, Result, Ok, Err, refl, sym, ap, subst, ◌∙◌, arith}
use Rattle.std.specs.Prelude.{decimal, codes, zip, IfOk}
use Rattle.std.specs.List.{flat_map, list_all, join_with_byte, AllByRecursion}
use Rattle.std.specs.Str.{bytes_eq}
use Rattle.std.proofs.lemmas.Bool.{ltb-true, lt-ltb}
use Rattle.std.proofs.lemmas.List.Splits.{length-slice_split}
use Rattle.std.proofs.lemmas.Option.{same_Some}
use Rattle.std.proofs.lemmas.Slice.Eq.{bytes_eq-Decides}
use Rattle.rx_text.specs.declared.fault.LineCause.{LineCause}
use Rattle.rx_text.specs.declared.fault.LineCause.TheVariants.{Form, Number}
use Rattle.rx_text.specs.declared.fault.LineFault.{LineFault}
use Rattle.rx_text.specs.Faults.{fault_at}
use Rattle.rx_text.specs.Laws.{NumeralLaws, WordLaws, LineLaws}
use Rattle.rx_text.specs.Lines.{parts_of, words_of, line_of, two_of, IsWord}
use Rattle.rx_text.specs.Numerals.{numeral_of, numeral_cases, numeral_below}
use Rattle.rx_text.proofs.NumeralLemmas.{lacks_all}
use Rattle.rx_text.proofs.Splits.{line_text}
use Rattle.rx_params.specs.declared.params.Params.{Params}
use Rattle.rx_params.specs.Sets.{set_of}
use Rattle.rx_params.specs.Text.{field_names, fields_of, field_value, before_values, end_of_text, field_values_from, as_set, params_from, HasText, ParamsText}

-- ---- the end of a text

pub not_ended : (line : ℕ) (parts : List (List ℕ)) → (parts ≡ [] ∷ [] → ⊥) → end_of_text line parts ≡ Err (fault_at line Form)
not_ended line [] more = refl
not_ended line ([] ∷ []) more = absurd (more refl)
not_ended line ([] ∷ part ∷ parts) more = refl
not_ended line ((byte ∷ bytes) ∷ []) more = refl
not_ended line ((byte ∷ bytes) ∷ part ∷ parts) more = refl

-- ---- the line of a field

pub value_of_two : (name : List ℕ) (words : List (List ℕ)) (word number : List ℕ) → Some (word, number) ≡ two_of words → bytes_eq word name ≡ true → field_value name words ≡ numeral_below (2 ^ 32) number
value_of_two name [] word number h e = absurd cc
value_of_two name (a ∷ []) word number h e = absurd cc
value_of_two name (a ∷ b ∷ []) word number h e =
    let same = same_Some (word, number) (a, b) h in
    let first : word ≡ a = ap (λ (t : List ℕ × List ℕ). t.0) same in
    let second : number ≡ b = ap (λ (t : List ℕ × List ℕ). t.1) same in
    let named : bytes_eq a name ≡ true = rw first at e in
    rw (named, second) refl
value_of_two name (a ∷ b ∷ d ∷ words) word number h e = absurd cc

test_ok : (b : Bool) (r : Result ℕ LineCause) (d : LineCause) (v : ℕ) → cond b r (Err d) ≡ Ok v → (b ≡ true) × (r ≡ Ok v)
test_ok true r d v h = (refl, h)
test_ok false r d v h = absurd cc

cases_found : (end : ℕ) (o : Option ℕ) (v : ℕ) → numeral_cases end o ≡ Ok v → (o ≡ Some v) × (v < end)
cases_found end None v h = absurd cc
cases_found end (Some n) v h =
    let t = test_ok (ltb n end) (Ok n) Number v h in
    let same : n ≡ v = cc in
    (ap (λ (k : ℕ). Some k) same, omega (arith, ltb-true n end t.0))

field_found : (laws : NumeralLaws) (name : List ℕ) (words : List (List ℕ)) (v : ℕ) → field_value name words ≡ Ok v → (words ≡ name ∷ decimal v ∷ []) × (v < 2 ^ 32)
field_found laws name [] v h = absurd cc
field_found laws name (word ∷ []) v h = absurd cc
field_found laws name (word ∷ number ∷ []) v h =
    let t = test_ok (bytes_eq word name) (numeral_below (2 ^ 32) number) Form v h in
    let n = cases_found (2 ^ 32) (numeral_of number) v t.1 in
    let first : word ≡ name = (bytes_eq-Decides word name).0 t.0 in
    let second : number ≡ decimal v = laws.one_spelling number v (omega (arith, n.1)) n.0 in
    (cc, n.1)
field_found laws name (word ∷ number ∷ more ∷ words) v h = absurd cc

field_again : (laws : NumeralLaws) (name : List ℕ) (v : ℕ) → v < 2 ^ 32 → field_value name (name ∷ decimal v ∷ []) ≡ Ok v
field_again laws name v lt =
    let named = (bytes_eq-Decides name name).1 refl in
    let small = lt-ltb v (2 ^ 32) lt in
    rw (named, laws.read_back v (omega arith), small) refl

-- ---- the lines of the fields of some names

abbrev text_of : List (List ℕ) → List ℕ → List ℕ
text_of names values = flat_map (λ (field : List ℕ × ℕ). line_of (field.0 ∷ decimal field.1 ∷ [])) (zip names values)

abbrev AreSmall : List ℕ → Type 0
AreSmall values = AllByRecursion (λ v. v < 2 ^ 32) values

before_found : (r : Result ℕ LineCause) (line : ℕ) (rest : Result (List ℕ) LineFault) (values : List ℕ) → before_values r line rest ≡ Ok values
    → (v : ℕ) × (vs : List ℕ) × (r ≡ Ok v) × (rest ≡ Ok vs) × (v ∷ vs ≡ values)
before_found (Err cause) line rest values h = absurd cc
before_found (Ok v) line (Err fault) values h = absurd cc
before_found (Ok v) line (Ok vs) values h = (v, vs, refl, refl, cc)

end_found : (line : ℕ) (parts : List (List ℕ)) (values : List ℕ) → end_of_text line parts ≡ Ok values → (parts ≡ [] ∷ []) × (values ≡ [])
end_found line [] values h = absurd cc
end_found line ([] ∷ []) values h = (refl, cc)
end_found line ([] ∷ part ∷ parts) values h = absurd cc
end_found line ((byte ∷ bytes) ∷ []) values h = absurd cc
end_found line ((byte ∷ bytes) ∷ part ∷ parts) values h = absurd cc

record AreSpelled (names parts : List (List ℕ)) (values : List ℕ) : Type 0 where
  small : AreSmall values
  text : join_with_byte 10 parts ≡ text_of names values

fields_found : (numerals : NumeralLaws) (lines : LineLaws) (line : ℕ) (names parts : List (List ℕ)) (values : List ℕ) → field_values_from line names parts ≡ Ok values → AreSpelled names parts values
fields_found numerals lines line [] parts values h =
    let end = end_found line parts values h in
    rw (end.0, end.1) (record { small = tt; text = refl })
fields_found numerals lines line (name ∷ names) [] values h = absurd cc
fields_found numerals lines line (name ∷ names) (last ∷ []) values h = absurd cc
fields_found numerals lines line (name ∷ names) (part ∷ next ∷ parts) values h =
    let found = before_found (field_value name (words_of part)) line (field_values_from (line + 1) names (next ∷ parts)) values h in
    let v = found.0 in
    let vs = found.1 in
    let one = field_found numerals name (words_of part) v found.2 in
    let rest = fields_found numerals lines (line + 1) names (next ∷ parts) vs found.3 in
    let words : part ≡ join_with_byte 32 (name ∷ decimal v ∷ []) = sym (lines.whole_line part) ∙ ap (join_with_byte 32) one.0 in
    let all : AreSpelled (name ∷ names) (part ∷ next ∷ parts) (v ∷ vs) = record {
      small = (one.1, rest.small);
      text = line_text part (join_with_byte 32 (name ∷ decimal v ∷ [])) (join_with_byte 10 (next ∷ parts)) (text_of names vs) words rest.text;
    } in
    subst (λ (us : List ℕ). AreSpelled (name ∷ names) (part ∷ next ∷ parts) us) found.4 all

next_value : (line : ℕ) (name : List ℕ) (names : List (List ℕ)) (part : List ℕ) (rest : List (List ℕ)) → 0 < length rest
    → field_values_from line (name ∷ names) (part ∷ rest) ≡ before_values (field_value name (words_of part)) line (field_values_from (line + 1) names rest)
next_value line name names part [] some = absurd (omega arith)
next_value line name names part (next ∷ parts) some = refl

fields_again : (numerals : NumeralLaws) (texts : WordLaws) (lines : LineLaws) (line : ℕ) (names : List (List ℕ)) (values : List ℕ)
    → AllByRecursion IsWord names → AreSmall values → length names ≡ length values → field_values_from line names (parts_of (text_of names values)) ≡ Ok values
fields_again numerals texts lines line [] [] are small same = refl
fields_again numerals texts lines line [] (v ∷ values) are small same = absurd (omega arith)
fields_again numerals texts lines line (name ∷ names) [] are small same = absurd (omega arith)
fields_again numerals texts lines line (name ∷ names) (v ∷ values) are small same =
    let small_one : v < 2 ^ 64 = omega (arith, small.0) in
    let is_words : AllByRecursion IsWord (name ∷ decimal v ∷ []) = (are.0, (texts.number v small_one, tt)) in
    let text = join_with_byte 32 (name ∷ decimal v ∷ []) in
    let rest = parts_of (text_of names values) in
    let cut : parts_of (text_of (name ∷ names) (v ∷ values)) ≡ text ∷ rest = lines.first_line (name ∷ decimal v ∷ []) (text_of names values) is_words in
    let some : 0 < length rest = omega (arith, length-slice_split (λ b. b == 10) (text_of names values)) in
    let read : field_value name (words_of text) ≡ Ok v = ap (field_value name) (lines.words (name ∷ decimal v ∷ []) (omega arith) is_words) ∙ field_again numerals name v small.0 in
    let others = fields_again numerals texts lines (line + 1) names values are.1 small.1 (omega arith) in
    ap (field_values_from line (name ∷ names)) cut ∙ next_value line name names text rest some ∙ rw (read, others) refl

-- ---- the fields of a set

name_word : (name : List ℕ) → list_all (λ b. not (b == 32)) name ≡ true → list_all (λ b. not (b == 10)) name ≡ true → IsWord name
name_word name h k = (lacks_all (λ b. not (b == 32)) 32 refl name h, lacks_all (λ b. not (b == 10)) 10 refl name k)

names_are_words : AllByRecursion IsWord field_names
names_are_words = (
  name_word (codes "message_bits") refl refl,
  (
    name_word (codes "glwe_dim") refl refl,
    (
      name_word (codes "poly_size") refl refl,
      (
        name_word (codes "lwe_dim") refl refl,
        (
          name_word (codes "pbs_base_log") refl refl,
          (
            name_word (codes "pbs_level") refl refl,
            (
              name_word (codes "ks_base_log") refl refl,
              (
                name_word (codes "ks_level") refl refl,
                (
                  name_word (codes "glwe_bound") refl refl,
                  (name_word (codes "lwe_bound") refl refl, tt),
                ),
              ),
            ),
          ),
        ),
      ),
    ),
  ),
)

set_found : (r : Result (List ℕ) LineFault) (p : Params) → as_set r ≡ Ok p → r ≡ Ok (fields_of p)
set_found (Err fault) p h = absurd cc
set_found (Ok ([])) p h = absurd cc
set_found (Ok (v1 ∷ [])) p h = absurd cc
set_found (Ok (v1 ∷ v2 ∷ [])) p h = absurd cc
set_found (Ok (v1 ∷ v2 ∷ v3 ∷ [])) p h = absurd cc
set_found (Ok (v1 ∷ v2 ∷ v3 ∷ v4 ∷ [])) p h = absurd cc
set_found (Ok (v1 ∷ v2 ∷ v3 ∷ v4 ∷ v5 ∷ [])) p h = absurd cc
set_found (Ok (v1 ∷ v2 ∷ v3 ∷ v4 ∷ v5 ∷ v6 ∷ [])) p h = absurd cc
set_found (Ok (v1 ∷ v2 ∷ v3 ∷ v4 ∷ v5 ∷ v6 ∷ v7 ∷ [])) p h = absurd cc
set_found (Ok (v1 ∷ v2 ∷ v3 ∷ v4 ∷ v5 ∷ v6 ∷ v7 ∷ v8 ∷ [])) p h = absurd cc
set_found (Ok (v1 ∷ v2 ∷ v3 ∷ v4 ∷ v5 ∷ v6 ∷ v7 ∷ v8 ∷ v9 ∷ [])) p h = absurd cc
set_found (Ok (v1 ∷ v2 ∷ v3 ∷ v4 ∷ v5 ∷ v6 ∷ v7 ∷ v8 ∷ v9 ∷ v10 ∷ [])) p h = let same : set_of v1 v2 v3 v4 v5 v6 v7 v8 v9 v10 ≡ p = cc in ap (λ (q : Params). Ok (fields_of q)) same
set_found (Ok (v1 ∷ v2 ∷ v3 ∷ v4 ∷ v5 ∷ v6 ∷ v7 ∷ v8 ∷ v9 ∷ v10 ∷ v11 ∷ values)) p h = absurd cc

small_fields : (p : Params) → AreSmall (fields_of p) → HasText p
small_fields p h = record {
  message_bits = h.0;
  glwe_dim = h.1.0;
  poly_size = h.1.1.0;
  lwe_dim = h.1.1.1.0;
  pbs_base_log = h.1.1.1.1.0;
  pbs_level = h.1.1.1.1.1.0;
  ks_base_log = h.1.1.1.1.1.1.0;
  ks_level = h.1.1.1.1.1.1.1.0;
  glwe_bound = h.1.1.1.1.1.1.1.1.0;
  lwe_bound = h.1.1.1.1.1.1.1.1.1.0;
}

fields_small : (p : Params) → HasText p → AreSmall (fields_of p)
fields_small p h = (h.message_bits, (h.glwe_dim, (h.poly_size, (h.lwe_dim, (h.pbs_base_log, (h.pbs_level, (h.ks_base_log, (h.ks_level, (h.glwe_bound, (h.lwe_bound, tt))))))))))

set_spelled : (numerals : NumeralLaws) (lines : LineLaws) (bytes : List ℕ) (p : Params) → params_from bytes ≡ Ok p → ParamsText bytes p
unfolding params_from
set_spelled numerals lines bytes p h =
    let values = set_found (field_values_from 1 field_names (parts_of bytes)) p h in
    let spelled = fields_found numerals lines 1 field_names (parts_of bytes) (fields_of p) values in
    record { fits = small_fields p spelled.small; spelled = sym (lines.whole_text bytes) ∙ spelled.text }

pub set_again : (numerals : NumeralLaws) (texts : WordLaws) (lines : LineLaws) (bytes : List ℕ) (p : Params) → ParamsText bytes p → params_from bytes ≡ Ok p
unfolding params_from
set_again numerals texts lines bytes p text =
    ap (λ (bs : List ℕ). as_set (field_values_from 1 field_names (parts_of bs))) text.spelled
    ∙ ap as_set (fields_again numerals texts lines 1 field_names (fields_of p) names_are_words (fields_small p text.fits) refl)

pub found_by : (numerals : NumeralLaws) (lines : LineLaws) (bytes : List ℕ) (r : Result Params LineFault) → r ≡ params_from bytes → IfOk r (λ p. ParamsText bytes p)
found_by numerals lines bytes (Ok p) h = set_spelled numerals lines bytes p (sym h)
found_by numerals lines bytes (Err fault) h = tt
