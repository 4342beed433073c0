-- What is read is spelled so, and what is spelled so is read.
use Rattle.std.proofs.Common.{◌≡◌, ◌==◌, ◌<◌, ◌≤◌, ◌^◌, ℕ, Bool, true, false, cond, not, ltb, ◌&&◌, List, [], ◌∷◌, ◌++◌, length, Option, Some, None, Result, Ok, Err, IsTrue, refl, sym, ap, subst, ◌∙◌, append_assoc, arith}
use Rattle.std.specs.Prelude.{decimal, codes}
use Rattle.std.specs.List.{join_with_byte, AllByRecursion}
use Rattle.std.specs.Str.{bytes_eq}
use Rattle.std.specs.Cmp.Lexicographic.{nat_list_eq_equiv}
use Rattle.std.proofs.lemmas.Bool.{and_parts, or_parts, or_from, and_from, ltb-true, lt-ltb, leb-true, eqb-true}
use Rattle.std.proofs.lemmas.List.{append-nil, length-append}
use Rattle.std.proofs.lemmas.List.Folds.{list_any-append}
use Rattle.std.proofs.lemmas.Slice.Eq.{bytes_eq-Decides}
use Rattle.std.proofs.lemmas.List.Splits.{length-slice_split}
use Rattle.std.proofs.lemmas.Option.{cond_some}
use Rattle.std.proofs.Math.Pow.{pow_mono}
use Rattle.rx_text.specs.declared.fault.LineCause.{LineCause}
use Rattle.rx_text.specs.declared.fault.LineCause.TheVariants.{Number, Again, Limit}
use Rattle.rx_text.specs.declared.fault.LineFault.{LineFault}
use Rattle.rx_text.specs.Laws.{NumeralLaws, WordLaws, LineLaws}
use Rattle.rx_text.specs.Lines.{parts_of, words_of, IsWord}
use Rattle.rx_text.specs.Names.{is_name}
use Rattle.rx_text.specs.Numerals.{numeral_of}
use Rattle.rx_text.proofs.NumeralLemmas.{lacks_all}
use Rattle.rx_text.proofs.Splits.{line_text}
use Rattle.rx_params.specs.declared.kind.Kind.{Kind}
use Rattle.rx_params.specs.declared.kind.Kind.TheVariants.{Int, Bit}
use Rattle.rx_circuit.specs.declared.values.ValueLine.{ValueLine}
use Rattle.rx_circuit.proofs.Loop.{goes_on, stops}
use Rattle.rx_language.specs.declared.error.ParseError.{ParseError}
use Rattle.rx_language.specs.Answers.{Gives}
use Rattle.rx_circuit.specs.Values.{kind_word, values_text, is_width, has_name, IsValueLine, NamesOnce, AreValues, ValuesText, kind_of, line_parts, spelled_line, line_after, lines_from, values_from}

-- the laws of texts that the round trip stands on
pub record TextLaws : Type 0 where
  pub numerals : NumeralLaws
  pub texts : WordLaws
  pub lines : LineLaws

-- ---- kinds

kind_is_word : (kind : Kind) → IsWord (kind_word kind)
kind_is_word Int = (lacks_all (λ b. not (b == 32)) 32 refl (codes "int") refl, lacks_all (λ b. not (b == 10)) 10 refl (codes "int") refl)
kind_is_word Bit = (lacks_all (λ b. not (b == 32)) 32 refl (codes "bit") refl, lacks_all (λ b. not (b == 10)) 10 refl (codes "bit") refl)

kind_back : (kind : Kind) → kind_of (kind_word kind) ≡ Some kind
kind_back Int = refl
kind_back Bit = refl

kind_cases : (word : List ℕ) (kind : Kind) (int bit : Bool) → int ≡ bytes_eq word (codes "int") → bit ≡ bytes_eq word (codes "bit")
    → cond int (Some Int) (cond bit (Some Bit) None) ≡ Some kind → word ≡ kind_word kind
kind_cases word Int true bit h k e = (bytes_eq-Decides word (codes "int")).0 (sym h)
kind_cases word Bit true bit h k e = absurd cc
kind_cases word Int false true h k e = absurd cc
kind_cases word Bit false true h k e = (bytes_eq-Decides word (codes "bit")).0 (sym k)
kind_cases word kind false false h k e = absurd cc

kind_found : (word : List ℕ) (kind : Kind) → kind_of word ≡ Some kind → word ≡ kind_word kind
kind_found word kind e = kind_cases word kind (bytes_eq word (codes "int")) (bytes_eq word (codes "bit")) refl refl e

-- ---- ranges

width_bound : (kind : Kind) (bits : ℕ) → IsTrue (is_width kind bits) → bits ≤ 64
width_bound Int bits h = leb-true bits 64 (and_parts _ _ h).1
width_bound Bit bits h = omega (arith, eqb-true bits 1 h)

value_bound : (kind : Kind) (bits value : ℕ) → IsTrue (is_width kind bits) → value < 2 ^ bits → value < 2 ^ 64
value_bound kind bits value h lt = let most : 2 ^ bits ≤ 2 ^ 64 = pow_mono (width_bound kind bits h) in omega arith

-- ---- a line

abbrev line_words : ValueLine → List (List ℕ)
line_words v = kind_word v.kind ∷ v.name ∷ decimal v.bits ∷ decimal v.value ∷ []

record IsSpelledBy (k : Option Kind) (n : List ℕ) (b x : Option ℕ) (v : ValueLine) : Type 0 where
  kind : k ≡ Some v.kind
  name : n ≡ v.name
  bits : b ≡ Some v.bits
  value : x ≡ Some v.value
  is_name : IsTrue (is_name v.name)

parts_found : (kind : Option Kind) (name : List ℕ) (bits value : Option ℕ) (v : ValueLine) → line_parts kind name bits value ≡ Some v → IsSpelledBy kind name bits value v
parts_found None name bits value v h = absurd cc
parts_found (Some kind) name None value v h = absurd cc
parts_found (Some kind) name (Some bits) None v h = absurd cc
parts_found (Some kind) name (Some bits) (Some value) v h =
    let w : ValueLine = record { kind = kind; name = name; bits = bits; value = value } in
    let found = cond_some (is_name name) w v h in
    record {
      kind = ap (λ (u : ValueLine). Some u.kind) found.1;
      name = ap (λ (u : ValueLine). u.name) found.1;
      bits = ap (λ (u : ValueLine). Some u.bits) found.1;
      value = ap (λ (u : ValueLine). Some u.value) found.1;
      is_name = subst (λ (u : ValueLine). IsTrue (is_name u.name)) found.1 found.0;
    }

spelled_found : (laws : NumeralLaws) (words : List (List ℕ)) (v : ValueLine) → spelled_line words ≡ Some v → v.bits < 2 ^ 64 → v.value < 2 ^ 64
    → IsTrue (is_name v.name) × (words ≡ line_words v)
spelled_found laws [] v h b x = absurd cc
spelled_found laws (kind ∷ []) v h b x = absurd cc
spelled_found laws (kind ∷ name ∷ []) v h b x = absurd cc
spelled_found laws (kind ∷ name ∷ bits ∷ []) v h b x = absurd cc
spelled_found laws (kind ∷ name ∷ bits ∷ value ∷ []) v h b x =
    let p = parts_found (kind_of kind) name (numeral_of bits) (numeral_of value) v h in
    let e0 = kind_found kind v.kind p.kind in
    let e1 = p.name in
    let e2 = laws.one_spelling bits v.bits b p.bits in
    let e3 = laws.one_spelling value v.value x p.value in
    (p.is_name, cc)
spelled_found laws (kind ∷ name ∷ bits ∷ value ∷ more ∷ words) v h b x = absurd cc

spelled_again : (laws : NumeralLaws) (v : ValueLine) → IsValueLine v → spelled_line (line_words v) ≡ Some v
spelled_again laws v fits =
    let b : v.bits < 2 ^ 64 = omega (arith, width_bound v.kind v.bits fits.width) in
    let x : v.value < 2 ^ 64 = value_bound v.kind v.bits v.value fits.width fits.value in
    let name = fits.name in
    rw (kind_back v.kind, laws.read_back v.bits b, laws.read_back v.value x, name) refl

line_is_words : (laws : WordLaws) (v : ValueLine) → IsValueLine v → AllByRecursion IsWord (line_words v)
line_is_words laws v fits =
    let b : v.bits < 2 ^ 64 = omega (arith, width_bound v.kind v.bits fits.width) in
    let x : v.value < 2 ^ 64 = value_bound v.kind v.bits v.value fits.width fits.value in
    (kind_is_word v.kind, (laws.name v.name fits.name, (laws.number v.bits b, (laws.number v.value x, tt))))

-- ---- a line after the lines before it

record IsFollowedBy (before : List ValueLine) (spelled : Option ValueLine) (v : ValueLine) : Type 0 where
  is : spelled ≡ Some v
  width : IsTrue (is_width v.kind v.bits)
  value : v.value < 2 ^ v.bits
  new : has_name v.name before ≡ false
  room : length before < 64

tests_ok : (range taken room : Bool) (w v : ValueLine) → cond range (cond taken (Err Again) (cond room (Ok w) (Err Limit))) (Err Number) ≡ Ok v
    → (range ≡ true) × (taken ≡ false) × (room ≡ true) × (w ≡ v)
tests_ok false taken room w v h = absurd cc
tests_ok true true room w v h = absurd cc
tests_ok true false false w v h = absurd cc
tests_ok true false true w v h = (refl, refl, refl, cc)

after_found : (before : List ValueLine) (spelled : Option ValueLine) (v : ValueLine) → line_after before spelled ≡ Ok v → IsFollowedBy before spelled v
after_found before None v h = absurd cc
after_found before (Some w) v h =
    let t = tests_ok (is_width w.kind w.bits && ltb w.value (2 ^ w.bits)) (has_name w.name before) (ltb (length before) 64) w v h in
    let range = and_parts (is_width w.kind w.bits) (ltb w.value (2 ^ w.bits)) t.0 in
    let one : IsFollowedBy before (Some w) w = record { is = refl; width = range.0; value = ltb-true _ _ range.1; new = t.1; room = ltb-true _ _ t.2 } in
    subst (λ (u : ValueLine). IsFollowedBy before (Some w) u) t.3 one

after_again : (before : List ValueLine) (v : ValueLine) → IsValueLine v → has_name v.name before ≡ false → length before < 64 → line_after before (Some v) ≡ Ok v
after_again before v fits new room =
    let range = and_from (is_width v.kind v.bits) (ltb v.value (2 ^ v.bits)) fits.width (lt-ltb _ _ fits.value) in
    let free = lt-ltb (length before) 64 room in
    rw (range, new, free) refl

-- ---- names that stand once

bytes_eq_flip : (xs ys : List ℕ) → bytes_eq xs ys ≡ bytes_eq ys xs
bytes_eq_flip xs ys = nat_list_eq_equiv.symm xs ys

once_before : (before : List ValueLine) (v : ValueLine) (lines : List ValueLine) → NamesOnce (before ++ v ∷ lines) → has_name v.name before ≡ false
once_before [] v lines h = refl
once_before (b ∷ before) v lines h =
    let apart = sym (list_any-append (λ (u : ValueLine). bytes_eq u.name b.name) before (v ∷ lines)) ∙ h.0 in
    let here = (or_parts (bytes_eq v.name b.name) (has_name b.name lines) (or_parts (has_name b.name before) (has_name b.name (v ∷ lines)) apart).1).0 in
    or_from _ _ (bytes_eq_flip b.name v.name ∙ here) (once_before before v lines h.1)

once_push : (before : List ValueLine) (v : ValueLine) → NamesOnce before → has_name v.name before ≡ false → NamesOnce (before ++ v ∷ [])
once_push [] v h new = (refl, tt)
once_push (b ∷ before) v h new =
    let parts = or_parts (bytes_eq b.name v.name) (has_name v.name before) new in
    let last = or_from (bytes_eq v.name b.name) false (bytes_eq_flip v.name b.name ∙ parts.0) refl in
    (list_any-append (λ (u : ValueLine). bytes_eq u.name b.name) before (v ∷ []) ∙ or_from _ _ h.0 last, once_push before v h.1 parts.1)

-- ---- lines

each_push : (before : List ValueLine) (v : ValueLine) → AllByRecursion IsValueLine before → IsValueLine v → AllByRecursion IsValueLine (before ++ v ∷ [])
each_push [] v h one = (one, tt)
each_push (b ∷ before) v h one = (h.0, each_push before v h.1 one)

each_at : (before : List ValueLine) (v : ValueLine) (lines : List ValueLine) → AllByRecursion IsValueLine (before ++ v ∷ lines) → IsValueLine v
each_at [] v lines h = h.0
each_at (b ∷ before) v lines h = each_at before v lines h.1

pub record Reads (before : List ValueLine) (parts : List (List ℕ)) (all : List ValueLine) : Type 0 where
  pub more : List ValueLine
  pub whole : all ≡ before ++ more
  pub fits : AreValues all
  pub text : join_with_byte 10 parts ≡ values_text more

last_found : (before : List ValueLine) (part : List ℕ) (all : List ValueLine) → lines_from before (part ∷ []) ≡ Ok all → (part ≡ []) × (before ≡ all)
last_found before [] all h = (refl, cc)
last_found before (byte ∷ bytes) all h = absurd cc

one_found : (before : List ValueLine) (part : List ℕ) (rest : List (List ℕ)) (all : List ValueLine) (r : Result ValueLine LineCause) → r ≡ line_after before (spelled_line (words_of part)) → 0 < length rest
    → lines_from before (part ∷ rest) ≡ Ok all → (v : ValueLine) × (line_after before (spelled_line (words_of part)) ≡ Ok v) × (lines_from (before ++ v ∷ []) rest ≡ Ok all)
one_found before part rest all (Ok v) h some e = (v, sym h, sym (goes_on before part rest v some h) ∙ e)
one_found before part rest all (Err cause) h some e = let fault = stops before part rest cause some h in absurd cc

line_whole : (laws : LineLaws) (part : List ℕ) (words : List (List ℕ)) → words_of part ≡ words → part ≡ join_with_byte 32 words
line_whole laws part words h = sym (laws.whole_line part) ∙ ap (join_with_byte 32) h

one_more : (all before : List ValueLine) (v : ValueLine) (more : List ValueLine) → all ≡ (before ++ v ∷ []) ++ more → all ≡ before ++ v ∷ more
one_more all before v more h = h ∙ append_assoc before (v ∷ []) more

pub lines_found : (laws : TextLaws) (before : List ValueLine) (parts : List (List ℕ)) (all : List ValueLine) → 0 < length parts → AreValues before → lines_from before parts ≡ Ok all → Reads before parts all
lines_found laws before [] all some fits h = absurd (omega arith)
lines_found laws before (part ∷ []) all some fits h =
    let last = last_found before part all h in
    record { more = []; whole = sym last.1 ∙ sym (append-nil before); fits = subst AreValues last.1 fits; text = last.0 }
lines_found laws before (part ∷ next ∷ parts) all some fits h =
    let one = one_found before part (next ∷ parts) all (line_after before (spelled_line (words_of part))) refl (omega arith) h in
    let v = one.0 in
    let follows = after_found before (spelled_line (words_of part)) v one.1 in
    let bits = width_bound v.kind v.bits follows.width in
    let value = value_bound v.kind v.bits v.value follows.width follows.value in
    let spelled = spelled_found laws.numerals (words_of part) v follows.is (omega arith) value in
    let line : IsValueLine v = record { name = spelled.0; width = follows.width; value = follows.value } in
    let longer : AreValues (before ++ v ∷ []) = record {
      each = each_push before v fits.each line;
      once = once_push before v fits.once follows.new;
      count = omega (arith, length-append before (v ∷ []), follows.room);
    } in
    let rest = lines_found laws (before ++ v ∷ []) (next ∷ parts) all (omega arith) longer one.2 in
    let words = line_whole laws.lines part (line_words v) spelled.1 in
    record {
      more = v ∷ rest.more;
      whole = one_more all before v rest.more rest.whole;
      fits = rest.fits;
      text = line_text part (join_with_byte 32 (line_words v)) (join_with_byte 10 (next ∷ parts)) (values_text rest.more) words rest.text;
    }

pub lines_again : (laws : TextLaws) (before lines : List ValueLine) → AreValues (before ++ lines) → lines_from before (parts_of (values_text lines)) ≡ Ok (before ++ lines)
lines_again laws before [] fits = ap (λ (vs : List ValueLine). Ok vs) (sym (append-nil before))
lines_again laws before (v ∷ lines) fits =
    let line = each_at before v lines fits.each in
    let is_words = line_is_words laws.texts v line in
    let text = join_with_byte 32 (line_words v) in
    let rest = parts_of (values_text lines) in
    let cut : parts_of (values_text (v ∷ lines)) ≡ text ∷ rest = laws.lines.first_line (line_words v) (values_text lines) is_words in
    let words : words_of text ≡ line_words v = laws.lines.words (line_words v) (omega arith) is_words in
    let spelled : spelled_line (words_of text) ≡ Some v = ap spelled_line words ∙ spelled_again laws.numerals v line in
    let room : length before < 64 = omega (arith, fits.count, length-append before (v ∷ lines)) in
    let after : line_after before (spelled_line (words_of text)) ≡ Ok v = ap (line_after before) spelled ∙ after_again before v line (once_before before v lines fits.once) room in
    let some : 0 < length rest = omega (arith, length-slice_split (λ b. b == 10) (values_text lines)) in
    let regrouped : before ++ v ∷ lines ≡ (before ++ v ∷ []) ++ lines = sym (append_assoc before (v ∷ []) lines) in
    ap (lines_from before) cut ∙ goes_on before text rest v some (sym after)
    ∙ lines_again laws (before ++ v ∷ []) lines (subst AreValues regrouped fits)
    ∙ ap (λ (vs : List ValueLine). Ok vs) (sym regrouped)

-- ---- all lines

pub values_found : (laws : TextLaws) (bytes : List ℕ) (all : List ValueLine) → values_from bytes ≡ Ok all → ValuesText bytes all
unfolding values_from
values_found laws bytes all h =
    let none : AreValues [] = record { each = tt; once = tt; count = omega arith } in
    let some : 0 < length (parts_of bytes) = omega (arith, length-slice_split (λ b. b == 10) bytes) in
    let reads = lines_found laws [] (parts_of bytes) all some none h in
    record { fits = reads.fits; spelled = sym (laws.lines.whole_text bytes) ∙ reads.text ∙ ap values_text (sym reads.whole) }

pub values_again : (laws : TextLaws) (bytes : List ℕ) (all : List ValueLine) → ValuesText bytes all → values_from bytes ≡ Ok all
unfolding values_from
values_again laws bytes all h = ap (λ (text : List ℕ). lines_from [] (parts_of text)) h.spelled ∙ lines_again laws [] all h.fits

-- ---- what a reading answers

pub only_by : (laws : TextLaws) (bytes : List ℕ) (r : Result (List ValueLine) ParseError) → Gives r (values_from bytes) → (all : List ValueLine) → ValuesText bytes all → Gives r (Ok all)
only_by laws bytes r h all text = subst (λ (read : Result (List ValueLine) LineFault). Gives r read) (values_again laws bytes all text) h
