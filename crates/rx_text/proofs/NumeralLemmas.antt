-- Numerals and their numbers.
use Rattle.std.proofs.Common.{◌≡◌, ◌==◌, ◌<◌, ◌≤◌, ◌^◌, ℕ, List, [], ◌∷◌, length, get_or, Bool, true, false, ◌&&◌, ◌||◌, not, Some, Err, IsTrue, refl, sym, ap, ◌∙◌, inl, inr, arith}
use Rattle.std.specs.Prelude.{decimal, option_map}
use Rattle.std.specs.Char.{is_ascii_digit}
use Rattle.std.specs.Str.{IsUtf8, all_ascii_digits}
use Rattle.std.specs.Str.Parse.{ParsesUnsigned, digits_value}
use Rattle.std.proofs.lemmas.Bool.{and_parts, and_from, or_left, or_right, true≢false, cases_lt, le-ltb, ne_eqb, eq-eqb}
use Rattle.std.proofs.lemmas.Option.{cond_some}
use Rattle.std.proofs.lemmas.Str.{IsUtf8-from_ascii}
use Rattle.std.proofs.lemmas.Str.Parse.{IsNumeralModel, numerals_by_value, tells_all_ascii_digits, parse_digits}
use Rattle.std.proofs.lemmas.Fmt.{IsAscii-from_digits, decimal_is_IsNumeral, decimal-digits_value, decimal_digit, first_decimal}
use Rattle.rx_text.specs.declared.numeral.Numeral.TheVariants.{Beyond}
use Rattle.std.specs.List.{list_all}
use Rattle.rx_text.specs.Lines.{Lacks, IsWord}
use Rattle.rx_text.specs.Names.{is_letter, is_name_byte, is_name}
use Rattle.rx_text.specs.Numerals.{is_numeral, numeral_of, held}

pub own : IsNumeralModel (λ ds. all_ascii_digits ds ≡ true) (digits_value 10)
own = numerals_by_value _ tells_all_ascii_digits

pub digits : (text : List ℕ) → is_numeral text ≡ true → (all_ascii_digits text ≡ true) × (0 < length text)
digits [] h = absurd cc
digits (first ∷ others) h = ((and_parts _ _ h).0, omega arith)

pub numeral_is_text : (text : List ℕ) → is_numeral text ≡ true → IsUtf8 text
numeral_is_text text h = IsUtf8-from_ascii text (IsAscii-from_digits text (own.to text (digits text h).0))

pub beyond : {E : Type 0} (text : List ℕ) (e : E) → ParsesUnsigned 64 10 text (Err e) → is_numeral text ≡ true → Some Beyond ≡ option_map held (numeral_of text)
beyond {E} text e h is =
    let read : ((0 < length text) × (digits_value 10 text < 2 ^ 64)) → ⊥ = parse_digits own 64 text (Err e) h (digits text is).0 in
    let large : 2 ^ 64 ≤ digits_value 10 text = elim (cases_lt (digits_value 10 text) (2 ^ 64)) [ inl lt ↦ absurd (read ((digits text is).1, lt)) | inr ge ↦ ge ] in
    rw (is, le-ltb _ _ large) refl

-- ---- one numeral for each number

leading : (text : List ℕ) → is_numeral text ≡ true → get_or text 0 0 ≡ 48 → length text ≡ 1
leading [] h zero_first = absurd cc
leading (first ∷ []) h zero_first = refl
leading (first ∷ second ∷ others) h zero_first =
    let once = (and_parts (all_ascii_digits (first ∷ second ∷ others)) (not (first == 48) || false) h).1 in
    let never : false ≡ true = rw (eq-eqb first 48 zero_first) at once in
    absurd cc

is_numeral_by : (text : List ℕ) → 0 < length text → all_ascii_digits text ≡ true → (get_or text 0 0 ≡ 48 → length text ≡ 1) → is_numeral text ≡ true
is_numeral_by [] some all once = absurd (omega arith)
is_numeral_by (first ∷ []) some all once = and_from _ _ all (or_right (not (first == 48)) true refl)
is_numeral_by (first ∷ second ∷ others) some all once =
    and_from _ _ all (rw (ne_eqb first 48 (λ e. absurd (omega (arith, once e)))) refl)

decimal_leading : (n : ℕ) → n < 2 ^ 64 → get_or (decimal n) 0 0 ≡ 48 → length (decimal n) ≡ 1
decimal_leading n lt h =
    elim (cases_lt 0 n) [
      | inl some ↦ absurd (omega (arith, first_decimal n some lt))
      | inr none ↦ ap length (decimal_digit n (omega arith))
    ]

pub decimal_is_numeral : (n : ℕ) → n < 2 ^ 64 → is_numeral (decimal n) ≡ true
decimal_is_numeral n lt =
    let d = decimal_is_IsNumeral n lt in
    is_numeral_by (decimal n) d.0.0 (own.from (decimal n) d.0.1) (decimal_leading n lt)

pub read_back : (n : ℕ) → n < 2 ^ 64 → numeral_of (decimal n) ≡ Some n
read_back n lt = rw (decimal_is_numeral n lt) (ap (λ (k : ℕ). Some k) (decimal_is_IsNumeral n lt).1)

pub one_spelling : (text : List ℕ) (n : ℕ) → n < 2 ^ 64 → numeral_of text ≡ Some n → text ≡ decimal n
one_spelling text n lt h =
    let found = cond_some (is_numeral text) (digits_value 10 text) n h in
    let ds = digits text found.0 in
    sym (decimal-digits_value own text ds.0 ds.1 (leading text found.0) (omega (arith, found.1))) ∙ ap decimal found.1

-- ---- words

pub lacks_all : (p : ℕ → Bool) (c : ℕ) → p c ≡ false → (xs : List ℕ) → list_all p xs ≡ true → Lacks c xs
lacks_all p c none [] h = tt
lacks_all p c none (x ∷ xs) h =
    let parts = and_parts (p x) (list_all p xs) h in
    ((λ e. true≢false (sym parts.0 ∙ ap p e ∙ none)), lacks_all p c none xs parts.1)

pub digits_all : (xs : List ℕ) → all_ascii_digits xs ≡ list_all is_ascii_digit xs
digits_all [] = refl
digits_all (x ∷ xs) = ap (λ (b : Bool). is_ascii_digit x && b) (digits_all xs)

pub number_is_word : (n : ℕ) → n < 2 ^ 64 → IsWord (decimal n)
number_is_word n lt =
    let all : list_all is_ascii_digit (decimal n) ≡ true = sym (digits_all (decimal n)) ∙ (digits (decimal n) (decimal_is_numeral n lt)).0 in
    (lacks_all is_ascii_digit 32 refl (decimal n) all, lacks_all is_ascii_digit 10 refl (decimal n) all)

letter_part : (c : ℕ) → is_letter c ≡ true → is_name_byte c ≡ true
letter_part c h = or_left _ _ h

name_bytes : (text : List ℕ) → IsTrue (is_name text) → list_all is_name_byte text ≡ true
name_bytes [] h = absurd cc
name_bytes (first ∷ others) h =
    let parts = and_parts _ _ h in
    and_from _ _ (letter_part first parts.0) (and_parts _ _ parts.1).0

pub name_is_word : (text : List ℕ) → IsTrue (is_name text) → IsWord text
name_is_word text h = (lacks_all is_name_byte 32 refl text (name_bytes text h), lacks_all is_name_byte 10 refl text (name_bytes text h))
