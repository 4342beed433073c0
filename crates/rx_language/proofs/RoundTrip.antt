-- What is read is spelled so, and what is spelled so is read.
use Rattle.std.proofs.Common.{◌≡◌, ◌==◌, ◌<◌, ◌≤◌, ◌^◌, ◌%◌, ℕ, Bool, true, false, not, ◌&&◌, ◌||◌, ltb, leb, List, [], ◌∷◌, ◌++◌, length, None, Result, Ok, Err, IsTrue, refl, sym, ap, subst, ◌∙◌, arith}
use Rattle.std.specs.Prelude.{decimal, codes}
use Rattle.std.specs.List.{list_all, join_with_byte, AllByRecursion}
use Rattle.std.specs.Str.{bytes_eq}
use Rattle.std.proofs.lemmas.Bool.{and_parts, ltb-true, leb-true, eqb-true}
use Rattle.std.proofs.lemmas.List.{append-nil}
use Rattle.std.proofs.lemmas.List.Splits.{length-slice_split}
use Rattle.std.proofs.lemmas.Slice.Eq.{bytes_eq-Decides}
use Rattle.std.proofs.Math.Pow.{pow_mono}
use Rattle.rx_text.specs.declared.fault.LineCause.{LineCause}
use Rattle.rx_text.specs.declared.fault.LineCause.TheVariants.{Form, Again, Limit}
use Rattle.rx_text.specs.declared.fault.LineFault.{LineFault}
use Rattle.rx_text.specs.declared.numeral.Numeral.{Numeral}
use Rattle.rx_text.specs.declared.numeral.Numeral.TheVariants.{Word as Held}
use Rattle.rx_text.specs.Laws.{NumeralLaws, WordLaws, LineLaws}
use Rattle.rx_text.specs.Lines.{parts_of, words_of, IsWord}
use Rattle.rx_text.specs.Names.{is_name}
use Rattle.rx_text.proofs.NumeralLemmas.{lacks_all}
use Rattle.rx_text.proofs.Splits.{line_text}
use Rattle.rx_params.specs.Kinds.{is_form}
use Rattle.rx_params.specs.declared.kind.Kind.TheVariants.{Int as WholeNumber}
use Rattle.rx_language.specs.declared.word.Word.{Word}
use Rattle.rx_language.specs.declared.word.Word.TheVariants.{In, Inw, Ins, Inbit, Const, Constw, Add, Sub, Mul, Div, Rem, Neg, And, Or, Xor, Not, Shl, Shr, Shlv, Shrv, Eq, Ne, Lt, Le, Gt, Ge, Select, Min, Max, Cast, Casts, Out}
use Rattle.rx_language.specs.declared.form.Tail.{Tail}
use Rattle.rx_language.specs.declared.form.Tail.TheVariants.{Nothing, Constant, Amount}
use Rattle.rx_language.specs.declared.line.Line.{Line}
use Rattle.rx_language.specs.declared.line.Step.{Step}
use Rattle.rx_language.specs.declared.error.ParseError.{ParseError}
use Rattle.rx_language.specs.declared.spelled.Spelled.{Spelled}
use Rattle.rx_language.specs.Words.{spelling, form}
use Rattle.rx_language.specs.Programs.{Program, program_of_fields, IsProgram, IsLawful, AreLawful, is_space, is_taken, has_room, is_ranged, is_stated, tail_end, width_or, line_width}
use Rattle.rx_language.specs.Texts.{header_words, stated_words, tail_words, line_words, lines_text, program_text, IsCircuit}
use Rattle.rx_language.specs.Reading.{◌>>=◌, tested, numeral_from, ends_with, spelled_from, header_from, number_in, ranged, ranged_header, header_told, header_by, step_from, new_from, line_after, lines_from, header_of, after_header, program_by, program_from, circuit_from, fault_of}
use Rattle.rx_language.specs.Laws.{CircuitLaws}
use Rattle.rx_language.specs.Answers.{Gives}
use Rattle.rx_language.proofs.Steps.{regrouped}
use Rattle.rx_language.proofs.Spellings.{bind_ok, ok_is, numeral_takes, numeral_again, line_takes, line_again}
use Rattle.rx_language.proofs.Taken.{tested_ok, number_ok, line_ranged, lawful_from}
use Rattle.rx_language.proofs.Lines.{goes_on, stops}

-- the laws of texts that the round trip stands on
pub record TextLaws : Type 0 where
  pub numerals : NumeralLaws
  pub texts : WordLaws
  pub lines : LineLaws

-- ---- a line that is taken
new_is : (before : List Line) (l line : Line) → new_from before l ≡ Ok line → l ≡ line
new_is before l line h =
    let n = tested_ok (not (is_taken before l)) Again (tested (has_room before l.word) Limit (Ok l)) line h in
    let room = tested_ok (has_room before l.word) Limit (Ok l) line n.1 in
    ok_is l line room.1

pub line_found : (laws : NumeralLaws) (space width : ℕ) (before : List Line) (words : List (List ℕ)) (line : Line) → line_after space width before words ≡ Ok line
    → (words ≡ line_words line) × IsLawful space width before line
unfolding line_after
line_found laws space width before words line h =
    let b0 = bind_ok (spelled_from words) (λ s. ranged space width s >>= λ l. step_from width before l >>= λ step. new_from before l) line h in
    let b1 = bind_ok (ranged space width b0.0) (λ l. step_from width before l >>= λ step. new_from before l) line b0.2 in
    let b2 = bind_ok (step_from width before b1.0) (λ step. new_from before b1.0) line b1.2 in
    let same = new_is before b1.0 line b2.2 in
    one_found laws space width before words b0.0 line b2.0 b0.1
    (subst (λ (l : Line). ranged space width b0.0 ≡ Ok l) same b1.1)
    (subst (λ (l : Line). step_from width before l ≡ Ok b2.0) same b2.1)
    (subst (λ (l : Line). new_from before l ≡ Ok line) same b2.2)
  where
    one_found : (laws : NumeralLaws) (space width : ℕ) (before : List Line) (words : List (List ℕ)) (s : Spelled) (line : Line) (step : Step) → spelled_from words ≡ Ok s
        → ranged space width s ≡ Ok line → step_from width before line ≡ Ok step → new_from before line ≡ Ok line
        → (words ≡ line_words line) × IsLawful space width before line
    one_found laws space width before words s line step spelled in_range known new =
        let r = line_ranged space width s line in_range in
        let t = line_takes laws words s line.width line.number spelled r.width_is r.number_is in (
          t.spelled ∙ sym (ap line_words r.same),
          lawful_from laws space width before words s line step spelled in_range known new,
        )

-- ---- numbers within their ranges fit 64 bits
form_bound : (space width : ℕ) → IsTrue (is_form space WholeNumber width) → width ≤ 64
form_bound space width h =
    let parts = and_parts (leb space width) (leb width 64 && (width % space == 0)) h in
    leb-true width 64 (and_parts (leb width 64) (width % space == 0) parts.1).0

stated_bound : (stated : Bool) (space n : ℕ) → IsTrue (is_stated stated space n) → n ≤ 64
stated_bound true space n h = form_bound space n h
stated_bound false space n h = omega (arith, eqb-true n 0 h)

stated_none : (stated : Bool) (space n : ℕ) → IsTrue (is_stated stated space n) → stated ≡ false → n ≡ 0
stated_none true space n h e = absurd cc
stated_none false space n h e = eqb-true n 0 h

width_bound : (stated : Bool) (n width : ℕ) → n ≤ 64 → width ≤ 64 → width_or stated n width ≤ 64
width_bound true n width a b = a
width_bound false n width a b = b

tail_bound : (tail : Tail) (width n : ℕ) → width ≤ 64 → n < tail_end tail width → n < 2 ^ 64
tail_bound Nothing width n most lt = omega arith
tail_bound Constant width n most lt = let up : 2 ^ width ≤ 2 ^ 64 = pow_mono most in omega arith
tail_bound Amount width n most lt = omega arith

tail_none : (tail : Tail) (width n : ℕ) → n < tail_end tail width → tail ≡ Nothing → n ≡ 0
tail_none Nothing width n lt e = omega arith
tail_none Constant width n lt e = absurd cc
tail_none Amount width n lt e = absurd cc

record NumbersFit (space width : ℕ) (line : Line) : Type 0 where
  stated : IsTrue (is_stated (form line.word).stated space line.width)
  below : IsTrue (ltb line.number (tail_end (form line.word).tail (line_width width line)))
  wide : line.width < 2 ^ 64
  large : line.number < 2 ^ 64
  none : (form line.word).stated ≡ false → line.width ≡ 0
  nothing : (form line.word).tail ≡ Nothing → line.number ≡ 0

numbers_fit : (space width : ℕ) (line : Line) → IsTrue (is_form space WholeNumber width) → IsTrue (is_ranged space width line) → NumbersFit space width line
numbers_fit space width line fits h =
    let parts = and_parts (is_stated (form line.word).stated space line.width) (ltb line.number (tail_end (form line.word).tail (line_width width line))) h in
    let small = stated_bound (form line.word).stated space line.width parts.0 in
    let lt = ltb-true line.number (tail_end (form line.word).tail (line_width width line)) parts.1 in
    let most = width_bound (form line.word).stated line.width width small (form_bound space width fits) in
    record {
      stated = parts.0;
      below = parts.1;
      wide = omega arith;
      large = tail_bound (form line.word).tail (line_width width line) line.number most lt;
      none = stated_none (form line.word).stated space line.width parts.0;
      nothing = tail_none (form line.word).tail (line_width width line) line.number lt;
    }

-- ---- a lawful line is taken again
pub line_read : (laws : NumeralLaws) (space width : ℕ) (before : List Line) (line : Line) → IsTrue (is_form space WholeNumber width) → IsLawful space width before line
    → line_after space width before (line_words line) ≡ Ok line
unfolding line_after ranged
line_read laws space width before line fits h =
    let n = numbers_fit space width line fits h.numbers in
    let s : Spelled = record { word = line.word; name = line.name; width = Held line.width; args = line.args; number = Held line.number } in
    let spelled : spelled_from (line_words line) ≡ Ok s = line_again laws s line.width line.number refl refl h.name h.args h.count n.wide n.large n.none n.nothing in
    let stated = n.stated in
    let below = n.below in
    let known = h.known in
    let kind = h.kind.1 in
    let new = h.new in
    let room = h.room in
    rw (spelled, stated, below, known, kind, new, room) refl

-- ---- the words of a line are words
all_append : {A : Type 0} (P : A → Type 0) (xs ys : List A) → AllByRecursion P xs → AllByRecursion P ys → AllByRecursion P (xs ++ ys)
all_append P [] ys h k = k
all_append P (x ∷ xs) ys h k = (h.0, all_append P xs ys h.1 k)

plain : (text : List ℕ) → list_all (λ b. not (b == 32)) text ≡ true → list_all (λ b. not (b == 10)) text ≡ true → IsWord text
plain text h k = (lacks_all (λ b. not (b == 32)) 32 refl text h, lacks_all (λ b. not (b == 10)) 10 refl text k)

spelling_is_word : (word : Word) → IsWord (spelling word)
spelling_is_word In = plain (codes "in") refl refl
spelling_is_word Inw = plain (codes "inw") refl refl
spelling_is_word Ins = plain (codes "ins") refl refl
spelling_is_word Inbit = plain (codes "inbit") refl refl
spelling_is_word Const = plain (codes "const") refl refl
spelling_is_word Constw = plain (codes "constw") refl refl
spelling_is_word Add = plain (codes "add") refl refl
spelling_is_word Sub = plain (codes "sub") refl refl
spelling_is_word Mul = plain (codes "mul") refl refl
spelling_is_word Div = plain (codes "div") refl refl
spelling_is_word Rem = plain (codes "rem") refl refl
spelling_is_word Neg = plain (codes "neg") refl refl
spelling_is_word And = plain (codes "and") refl refl
spelling_is_word Or = plain (codes "or") refl refl
spelling_is_word Xor = plain (codes "xor") refl refl
spelling_is_word Not = plain (codes "not") refl refl
spelling_is_word Shl = plain (codes "shl") refl refl
spelling_is_word Shr = plain (codes "shr") refl refl
spelling_is_word Shlv = plain (codes "shlv") refl refl
spelling_is_word Shrv = plain (codes "shrv") refl refl
spelling_is_word Eq = plain (codes "eq") refl refl
spelling_is_word Ne = plain (codes "ne") refl refl
spelling_is_word Lt = plain (codes "lt") refl refl
spelling_is_word Le = plain (codes "le") refl refl
spelling_is_word Gt = plain (codes "gt") refl refl
spelling_is_word Ge = plain (codes "ge") refl refl
spelling_is_word Select = plain (codes "select") refl refl
spelling_is_word Min = plain (codes "min") refl refl
spelling_is_word Max = plain (codes "max") refl refl
spelling_is_word Cast = plain (codes "cast") refl refl
spelling_is_word Casts = plain (codes "casts") refl refl
spelling_is_word Out = plain (codes "out") refl refl

stated_are_words : (laws : WordLaws) (stated : Bool) (n : ℕ) → n < 2 ^ 64 → AllByRecursion IsWord (stated_words stated n)
stated_are_words laws true n lt = (laws.number n lt, tt)
stated_are_words laws false n lt = tt

tail_are_words : (laws : WordLaws) (tail : Tail) (n : ℕ) → n < 2 ^ 64 → AllByRecursion IsWord (tail_words tail n)
tail_are_words laws Nothing n lt = tt
tail_are_words laws Constant n lt = (laws.number n lt, tt)
tail_are_words laws Amount n lt = (laws.number n lt, tt)

names_are_words : (laws : WordLaws) (names : List (List ℕ)) → IsTrue (list_all is_name names) → AllByRecursion IsWord names
names_are_words laws [] h = tt
names_are_words laws (name ∷ names) h =
    let parts = and_parts (is_name name) (list_all is_name names) h in
    (laws.name name parts.0, names_are_words laws names parts.1)

line_are_words : (laws : WordLaws) (space width : ℕ) (before : List Line) (line : Line) → IsTrue (is_form space WholeNumber width) → IsLawful space width before line
    → AllByRecursion IsWord (line_words line)
line_are_words laws space width before line fits h =
    let n = numbers_fit space width line fits h.numbers in
    let tail = tail_words (form line.word).tail line.number in
    let args = all_append IsWord line.args tail (names_are_words laws line.args h.args) (tail_are_words laws (form line.word).tail line.number n.large) in (
      spelling_is_word line.word,
      (
        laws.name line.name h.name,
        all_append IsWord (stated_words (form line.word).stated line.width) (line.args ++ tail) (stated_are_words laws (form line.word).stated line.width n.wide) args,
      ),
    )

-- ---- lines
pub record Reads (space width : ℕ) (before : List Line) (parts : List (List ℕ)) (all : List Line) : Type 0 where
  pub more : List Line
  pub whole : all ≡ before ++ more
  pub lawful : AreLawful space width before more
  pub text : join_with_byte 10 parts ≡ lines_text more

last_found : (space width : ℕ) (before : List Line) (part : List ℕ) (all : List Line) → lines_from space width before (part ∷ []) ≡ Ok all → (part ≡ []) × (before ≡ all)
last_found space width before [] all h = (refl, cc)
last_found space width before (byte ∷ bytes) all h = absurd cc

one_found : (space width : ℕ) (before : List Line) (part : List ℕ) (rest : List (List ℕ)) (all : List Line) (r : Result Line LineCause)
    → r ≡ line_after space width before (words_of part) → 0 < length rest → lines_from space width before (part ∷ rest) ≡ Ok all
    → (line : Line) × (line_after space width before (words_of part) ≡ Ok line) × (lines_from space width (before ++ line ∷ []) rest ≡ Ok all)
one_found space width before part rest all (Ok line) h some e = (line, sym h, sym (goes_on space width before part rest line some (sym h)) ∙ e)
one_found space width before part rest all (Err cause) h some e = let fault = stops space width before part rest cause some (sym h) in absurd cc

line_whole : (laws : LineLaws) (part : List ℕ) (words : List (List ℕ)) → words_of part ≡ words → part ≡ join_with_byte 32 words
line_whole laws part words h = sym (laws.whole_line part) ∙ ap (join_with_byte 32) h

lines_found : (laws : TextLaws) (space width : ℕ) (before : List Line) (parts : List (List ℕ)) (all : List Line) → 0 < length parts
    → lines_from space width before parts ≡ Ok all → Reads space width before parts all
lines_found laws space width before [] all some h = absurd (omega arith)
lines_found laws space width before (part ∷ []) all some h =
    let last = last_found space width before part all h in
    record { more = []; whole = sym last.1 ∙ sym (append-nil before); lawful = tt; text = last.0 }
lines_found laws space width before (part ∷ next ∷ parts) all some h =
    let one = one_found space width before part (next ∷ parts) all (line_after space width before (words_of part)) refl (omega arith) h in
    let line = one.0 in
    let found = line_found laws.numerals space width before (words_of part) line one.1 in
    let rest = lines_found laws space width (before ++ line ∷ []) (next ∷ parts) all (omega arith) one.2 in
    let words = line_whole laws.lines part (line_words line) found.0 in
    record {
      more = line ∷ rest.more;
      whole = rest.whole ∙ sym (regrouped before line rest.more);
      lawful = (found.1, rest.lawful);
      text = line_text part (join_with_byte 32 (line_words line)) (join_with_byte 10 (next ∷ parts)) (lines_text rest.more) words rest.text;
    }

lines_read : (laws : TextLaws) (space width : ℕ) (before lines : List Line) → IsTrue (is_form space WholeNumber width) → AreLawful space width before lines
    → lines_from space width before (parts_of (lines_text lines)) ≡ Ok (before ++ lines)
lines_read laws space width before [] fits h = ap (λ (ls : List Line). Ok ls) (sym (append-nil before))
lines_read laws space width before (line ∷ lines) fits h =
    let are_words = line_are_words laws.texts space width before line fits h.0 in
    let text = join_with_byte 32 (line_words line) in
    let rest = parts_of (lines_text lines) in
    let cut : parts_of (lines_text (line ∷ lines)) ≡ text ∷ rest = laws.lines.first_line (line_words line) (lines_text lines) are_words in
    let words : words_of text ≡ line_words line = laws.lines.words (line_words line) (omega arith) are_words in
    let after : line_after space width before (words_of text) ≡ Ok line =
    ap (line_after space width before) words ∙ line_read laws.numerals space width before line fits h.0 in
    let some : 0 < length rest = omega (arith, length-slice_split (λ b. b == 10) (lines_text lines)) in
    ap (lines_from space width before) cut ∙ goes_on space width before text rest line some after
    ∙ lines_read laws space width (before ++ line ∷ []) lines fits h.1
    ∙ ap (λ (ls : List Line). Ok ls) (sym (regrouped before line lines))

-- ---- line 1
record HeaderFound (words : List (List ℕ)) (space width : ℕ) : Type 0 where
  spelled : words ≡ header_words space width
  is_space : IsTrue (is_space space)
  is_width : IsTrue (is_form space WholeNumber width)

ended : {A : Type 0} (left : List (List ℕ)) (x y : A) → ends_with left x ≡ Ok y → (left ≡ []) × (x ≡ y)
ended [] x y h = (refl, ok_is x y h)
ended (word ∷ left) x y h = absurd cc

abbrev Words : Type 0
Words = List (List ℕ)

header_parts : (laws : NumeralLaws) (first : List ℕ) (words rest left last : Words) (s1 w1 s w : Numeral) (space width : ℕ) → bytes_eq first (codes "bits") ≡ true → words ≡ rest
    → numeral_from rest ≡ Ok (s1, left) → numeral_from left ≡ Ok (w1, last) → ends_with {A = Numeral × Numeral} last (s1, w1) ≡ Ok (s, w) → s ≡ Held space → w ≡ Held width
    → first ∷ words ≡ header_words space width
header_parts laws first words rest left last s1 w1 s w space width bits same h1 h2 h3 hs hw =
    let end = ended last (s1, w1) (s, w) h3 in
    let s_is : s1 ≡ Held space = ap (λ (p : Numeral × Numeral). p.0) end.1 ∙ hs in
    let w_is : w1 ≡ Held width = ap (λ (p : Numeral × Numeral). p.1) end.1 ∙ hw in
    let t1 = numeral_takes laws rest space left (subst (λ (k : Numeral). numeral_from rest ≡ Ok (k, left)) s_is h1) in
    let t2 = numeral_takes laws left width last (subst (λ (k : Numeral). numeral_from left ≡ Ok (k, last)) w_is h2) in
    let tail : left ≡ decimal width ∷ [] = t2.0 ∙ ap (λ (w : Words). decimal width ∷ w) end.0 in
    let all : words ≡ decimal space ∷ decimal width ∷ [] = same ∙ t1.0 ∙ ap (λ (w : Words). decimal space ∷ w) tail in
    ap (λ (text : List ℕ). text ∷ words) ((bytes_eq-Decides first (codes "bits")).0 bits) ∙ ap (λ (w : Words). codes "bits" ∷ w) all

header_spelled : (laws : NumeralLaws) (words : Words) (s w : Numeral) (space width : ℕ) → header_from words ≡ Ok (s, w) → s ≡ Held space → w ≡ Held width
    → words ≡ header_words space width
unfolding header_from
header_spelled laws [] s w space width h hs hw = absurd cc
header_spelled laws (first ∷ words) s w space width h hs hw =
    let b0 = bind_ok (tested (bytes_eq first (codes "bits")) Form (Ok (first, words)))
    (λ bits. numeral_from bits.1 >>= λ space. numeral_from space.1 >>= λ width. ends_with width.1 (space.0, width.0)) (s, w) h in
    let bits = tested_ok (bytes_eq first (codes "bits")) Form (Ok (first, words)) b0.0 b0.1 in
    let rest : words ≡ b0.0.1 = ap (λ (p : List ℕ × Words). p.1) (ok_is (first, words) b0.0 bits.1) in
    let b1 = bind_ok (numeral_from b0.0.1) (λ space. numeral_from space.1 >>= λ width. ends_with width.1 (space.0, width.0)) (s, w) b0.2 in
    let b2 = bind_ok (numeral_from b1.0.1) (λ width. ends_with width.1 (b1.0.0, width.0)) (s, w) b1.2 in
    header_parts laws first words b0.0.1 b1.0.1 b2.0.1 b1.0.0 b2.0.0 s w space width bits.0 rest b1.1 b2.1 b2.2 hs hw

space_bound : (space : ℕ) → IsTrue (is_space space) → space < 4
space_bound space h = space_cases (space == 2) (space == 3) refl refl h
  where
    space_cases : (two three : Bool) → two ≡ (space == 2) → three ≡ (space == 3) → IsTrue (two || three) → space < 4
    space_cases true three e k h = omega (arith, eqb-true space 2 (sym e))
    space_cases false true e k h = omega (arith, eqb-true space 3 (sym k))
    space_cases false false e k h = absurd cc

header_found : (laws : NumeralLaws) (words : List (List ℕ)) (space width : ℕ) → header_by words ≡ Ok (space, width) → HeaderFound words space width
unfolding header_from ranged_header
header_found laws words space width h =
    let b0 = bind_ok (header_from words) ranged_header (space, width) h in
    let r0 = bind_ok (number_in is_space b0.0.0) (λ s. number_in (λ n. is_form s WholeNumber n) b0.0.1 >>= λ w. Ok (s, w)) (space, width) b0.2 in
    let r1 = bind_ok (number_in (λ n. is_form r0.0 WholeNumber n) b0.0.1) (λ w. Ok (r0.0, w)) (space, width) r0.2 in
    let n0 = number_ok is_space b0.0.0 r0.0 r0.1 in
    let n1 = number_ok (λ n. is_form r0.0 WholeNumber n) b0.0.1 r1.0 r1.1 in
    let pair : ◌≡◌ {A = ℕ × ℕ} (r0.0, r1.0) (space, width) = ok_is (r0.0, r1.0) (space, width) r1.2 in
    let spelled = header_spelled laws words b0.0.0 b0.0.1 r0.0 r1.0 b0.1 n0.0 n1.0 in
    let one : HeaderFound words r0.0 r1.0 = record { spelled = spelled; is_space = n0.1; is_width = n1.1 } in
    subst (λ (h : ℕ × ℕ). HeaderFound words h.0 h.1) pair one

header_read : (laws : NumeralLaws) (space width : ℕ) → IsTrue (is_space space) → IsTrue (is_form space WholeNumber width) → header_by (header_words space width) ≡ Ok (space, width)
unfolding header_from ranged_header
header_read laws space width s w =
    let small : width < 2 ^ 64 = omega (arith, form_bound space width w) in
    let few : space < 2 ^ 64 = omega (arith, space_bound space s) in
    rw (numeral_again laws space (decimal width ∷ []) few, numeral_again laws width [] small, s, w) refl

-- ---- the whole text
abbrev IsFound : List (List ℕ) → Program → Type 0
IsFound parts p = IsProgram p × (join_with_byte 10 parts ≡ program_text p)

lines_cases : (laws : TextLaws) (part next : List ℕ) (parts : List (List ℕ)) (p : Program) (space width : ℕ) (r : Result (List Line) LineFault)
    → r ≡ lines_from space width [] (next ∷ parts) → header_by (words_of part) ≡ Ok (space, width) → program_by space width r ≡ Ok p
    → IsFound (part ∷ next ∷ parts) p
lines_cases laws part next parts p space width (Err fault) e header h = absurd cc
lines_cases laws part next parts p space width (Ok lines) e header h =
    let made : program_of_fields space width lines ≡ p = cc in
    let head = header_found laws.numerals (words_of part) space width header in
    let reads = lines_found laws space width [] (next ∷ parts) lines (omega arith) (sym e) in
    let more : reads.more ≡ lines = sym reads.whole in
    let words = line_whole laws.lines part (header_words space width) head.spelled in
    let text = line_text part (join_with_byte 32 (header_words space width)) (join_with_byte 10 (next ∷ parts)) (lines_text reads.more) words reads.text in
    let one : IsFound (part ∷ next ∷ parts) (program_of_fields space width reads.more) =
    (record { space = head.is_space; width = head.is_width; lines = reads.lawful }, text) in
    subst (IsFound (part ∷ next ∷ parts)) (ap (program_of_fields space width) more ∙ made) one

header_cases : (laws : TextLaws) (part next : List ℕ) (parts : List (List ℕ)) (p : Program) (r : Result (ℕ × ℕ) LineCause) → r ≡ header_by (words_of part)
    → program_from (header_told r) (next ∷ parts) ≡ Ok p → IsFound (part ∷ next ∷ parts) p
header_cases laws part next parts p (Err cause) e h = absurd cc
header_cases laws part next parts p (Ok header) e h =
    lines_cases laws part next parts p header.0 header.1 (lines_from header.0 header.1 [] (next ∷ parts)) refl (sym e) h

program_found : (laws : TextLaws) (parts : List (List ℕ)) (p : Program) → program_from (header_of parts) (after_header parts) ≡ Ok p → IsFound parts p
program_found laws [] p h = absurd cc
program_found laws (part ∷ []) p h = absurd cc
program_found laws (part ∷ next ∷ parts) p h = header_cases laws part next parts p (header_by (words_of part)) refl h

program_read : (part : List ℕ) (rest : List (List ℕ)) (space width : ℕ) (lines : List Line) → 0 < length rest → header_by (words_of part) ≡ Ok (space, width)
    → lines_from space width [] rest ≡ Ok lines → program_from (header_of (part ∷ rest)) (after_header (part ∷ rest)) ≡ Ok (program_of_fields space width lines)
program_read part [] space width lines some h k = absurd (omega arith)
program_read part (next ∷ parts) space width lines some h k = rw (h, k) refl

pub circuit_found : (laws : TextLaws) (bytes : List ℕ) (p : Program) → circuit_from bytes ≡ Ok p → IsCircuit bytes p
unfolding circuit_from
circuit_found laws bytes p h =
    let found = program_found laws (parts_of bytes) p h in
    record { fits = found.0; spelled = sym (laws.lines.whole_text bytes) ∙ found.1 }

pub circuit_read : (laws : TextLaws) (bytes : List ℕ) (p : Program) → IsCircuit bytes p → circuit_from bytes ≡ Ok p
unfolding circuit_from
circuit_read laws bytes p h =
    let s = p.space in
    let w = p.width in
    let few : s < 2 ^ 64 = omega (arith, space_bound s h.fits.space) in
    let small : w < 2 ^ 64 = omega (arith, form_bound s w h.fits.width) in
    let are_words : AllByRecursion IsWord (header_words s w) = (plain (codes "bits") refl refl, (laws.texts.number s few, (laws.texts.number w small, tt))) in
    let text = join_with_byte 32 (header_words s w) in
    let rest = parts_of (lines_text p.lines) in
    let cut : parts_of (program_text p) ≡ text ∷ rest = laws.lines.first_line (header_words s w) (lines_text p.lines) are_words in
    let header : header_by (words_of text) ≡ Ok (s, w) =
    ap header_by (laws.lines.words (header_words s w) (omega arith) are_words) ∙ header_read laws.numerals s w h.fits.space h.fits.width in
    let lines = lines_read laws s w [] p.lines h.fits.width h.fits.lines in
    let some : 0 < length rest = omega (arith, length-slice_split (λ b. b == 10) (lines_text p.lines)) in
    ap (λ (bytes : List ℕ). program_from (header_of (parts_of bytes)) (after_header (parts_of bytes))) h.spelled
    ∙ ap (λ (parts : List (List ℕ)). program_from (header_of parts) (after_header parts)) cut
    ∙ program_read text rest s w p.lines some header lines

-- ---- what a reading answers
pub only_by : (laws : TextLaws) (bytes : List ℕ) (r : Result Program ParseError) → Gives r (circuit_from bytes) → (p : Program) → IsCircuit bytes p → Gives r (Ok p)
only_by laws bytes r h p text = subst (λ (read : Result Program LineFault). Gives r read) (circuit_read laws bytes p text) h

-- ---- one text for a circuit, and one circuit for a text
told_cases : (laws : TextLaws) (bytes : List ℕ) (r : Result Program LineFault) → r ≡ circuit_from bytes → fault_of r ≡ None → (p : Program) × IsCircuit bytes p
told_cases laws bytes (Ok p) e h = (p, circuit_found laws bytes p (sym e))
told_cases laws bytes (Err fault) e h = absurd cc

read_is : (a b : Program) (r : Result Program LineFault) → r ≡ Ok a → r ≡ Ok b → a ≡ b
read_is a b r h k = cc

pub laws_hold : TextLaws → CircuitLaws
laws_hold laws = record {
  has_text = λ p h. record { fits = h; spelled = refl };
  one_text = λ a b p h k. h.spelled ∙ sym k.spelled;
  one_circuit = λ bytes p q h k. read_is p q (circuit_from bytes) (circuit_read laws bytes p h) (circuit_read laws bytes q k);
  good = λ bytes p h. ap (λ (r : Result Program LineFault). fault_of r) (circuit_read laws bytes p h);
  lawful = λ bytes h. told_cases laws bytes (circuit_from bytes) refl h;
}
