-- A line that is taken after the lines before it is lawful after them.
use Rattle.std.proofs.Common.{◌≡◌, ℕ, Bool, true, false, cond, not, ltb, List, length, map, Option, Some, None, is_some, ok_or, Result, Ok, Err, IsTrue, refl, sym, ap, subst, ◌∙◌}
use Rattle.std.specs.List.{list_all}
use Rattle.std.proofs.lemmas.Bool.{and_from}
use Rattle.rx_text.specs.Laws.{NumeralLaws}
use Rattle.rx_text.specs.Names.{is_name}
use Rattle.rx_text.specs.declared.fault.LineCause.{LineCause}
use Rattle.rx_text.specs.declared.fault.LineCause.TheVariants.{Number, Unknown, Kind, Again, Limit}
use Rattle.rx_text.specs.declared.numeral.Numeral.{Numeral}
use Rattle.rx_text.specs.declared.numeral.Numeral.TheVariants.{Word as Held, Beyond}
use Rattle.rx_language.specs.declared.kind.NameKind.{NameKind}
use Rattle.rx_language.specs.declared.line.Line.{Line}
use Rattle.rx_language.specs.declared.line.Step.{Step}
use Rattle.rx_language.specs.declared.spelled.Spelled.{Spelled}
use Rattle.rx_language.specs.Words.{form}
use Rattle.rx_language.specs.Kinds.{kind_by}
use Rattle.rx_language.specs.Programs.{IsLawful, asked, is_defined, is_taken, has_room, is_ranged, is_stated, tail_end, width_or, line_width, kind_after, step_after, steps_by, place_of, kind_at}
use Rattle.rx_language.specs.Reading.{◌>>=◌, tested, spelled_from, number_in, ranged, step_from, new_from}
use Rattle.rx_language.specs.Drafts.{all_found}
use Rattle.rx_language.proofs.Spellings.{bind_ok, ok_is, line_takes}

-- ---- tests
pub tested_ok : {A : Type 0} (holds : Bool) (cause : LineCause) (next : Result A LineCause) (x : A) → tested holds cause next ≡ Ok x → (holds ≡ true) × (next ≡ Ok x)
tested_ok true cause next x h = (refl, h)
tested_ok false cause next x h = absurd cc

pub number_ok : (is_fit : ℕ → Bool) (n : Numeral) (m : ℕ) → number_in is_fit n ≡ Ok m → (n ≡ Held m) × IsTrue (is_fit m)
number_ok is_fit Beyond m h = absurd cc
number_ok is_fit (Held n) m h = number_cases is_fit n m (is_fit n) refl h
  where
    number_cases : (is_fit : ℕ → Bool) (n m : ℕ) (b : Bool) → b ≡ is_fit n → cond b (Ok n) (Err Number) ≡ Ok m → (Held n ≡ Held m) × IsTrue (is_fit m)
    number_cases is_fit n m true e k =
        let same : n ≡ m = ok_is n m k in
        (ap (λ (i : ℕ). Held i) same, subst (λ (i : ℕ). IsTrue (is_fit i)) same (subst (λ (b : Bool). IsTrue b) e refl))
    number_cases is_fit n m false e k = absurd cc

-- ---- the numerals of a line
pub record LineRanged (space width : ℕ) (s : Spelled) (line : Line) : Type 0 where
  pub width_is : s.width ≡ Held line.width
  pub number_is : s.number ≡ Held line.number
  pub same : line ≡ record { word = s.word; name = s.name; args = s.args; number = line.number; width = line.width }
  pub numbers : IsTrue (is_ranged space width line)

pub line_ranged : (space width : ℕ) (s : Spelled) (line : Line) → ranged space width s ≡ Ok line → LineRanged space width s line
unfolding ranged
line_ranged space width s line h =
    let b0 = bind_ok (number_in (λ n. is_stated (form s.word).stated space n) s.width) (λ stated. number_in (λ n. ltb n (tail_end (form s.word).tail (width_or (form s.word).stated stated width))) s.number
    >>= λ number. Ok (record { word = s.word; name = s.name; args = s.args; number = number; width = stated })) line h in
    let b1 = bind_ok (number_in (λ n. ltb n (tail_end (form s.word).tail (width_or (form s.word).stated b0.0 width))) s.number)
    (λ number. Ok (record { word = s.word; name = s.name; args = s.args; number = number; width = b0.0 })) line b0.2 in
    let w = number_ok (λ n. is_stated (form s.word).stated space n) s.width b0.0 b0.1 in
    let n = number_ok (λ n. ltb n (tail_end (form s.word).tail (width_or (form s.word).stated b0.0 width))) s.number b1.0 b1.1 in
    let made : Line = record { word = s.word; name = s.name; args = s.args; number = b1.0; width = b0.0 } in
    let one : LineRanged space width s made = record { width_is = w.0; number_is = n.0; same = refl; numbers = and_from _ _ w.1 n.1 } in
    subst (λ (l : Line). LineRanged space width s l) (ok_is made line b1.2) one

-- ---- what is known of a line
found_then_ok : (width : ℕ) (lines : List Line) (line : Line) (sources : List ℕ) (kinds : List NameKind) → all_found width lines (asked line) ≡ Ok (sources, kinds)
    → (list_all (is_defined lines) (asked line) ≡ true) × (sources ≡ map (λ name. place_of name lines) (asked line))
    × (kinds ≡ map (λ name. kind_at (steps_by width lines) (place_of name lines)) (asked line))
found_then_ok width lines line sources kinds h =
    let places = map (λ name. place_of name lines) (asked line) in
    let of = map (λ name. kind_at (steps_by width lines) (place_of name lines)) (asked line) in
    let t = tested_ok (list_all (is_defined lines) (asked line)) Unknown (Ok (places, of)) (sources, kinds) h in
    let pair : ◌≡◌ {A = List ℕ × List NameKind} (places, of) (sources, kinds) = ok_is (places, of) (sources, kinds) t.1 in
    (t.0, sym (ap (λ (p : List ℕ × List NameKind). p.0) pair), sym (ap (λ (p : List ℕ × List NameKind). p.1) pair))

pub step_is : (width : ℕ) (lines : List Line) (line : Line) (sources : List ℕ) (kinds : List NameKind) (kind : NameKind) → all_found width lines (asked line) ≡ Ok (sources, kinds)
    → Some kind ≡ kind_by (form line.word).rule (line_width width line) kinds → step_from width lines line ≡ Ok (record { kind = kind; sources = sources })
step_is width lines line sources kinds kind h k =
    let found = found_then_ok width lines line sources kinds h in
    let all : list_all (is_defined lines) (asked line) ≡ true = found.0 in
    let places : sources ≡ map (λ name. place_of name lines) (asked line) = found.1 in
    let kind_is : kind_after width lines (steps_by width lines) line ≡ Some kind =
    ap (kind_by (form line.word).rule (line_width width line)) (sym found.2) ∙ sym k in
    rw (all, kind_is, places) refl

pub no_step_is : (width : ℕ) (lines : List Line) (line : Line) (sources : List ℕ) (kinds : List NameKind) (r : Option NameKind) (e : LineCause)
    → all_found width lines (asked line) ≡ Ok (sources, kinds) → Err e ≡ ok_or r Kind → r ≡ kind_by (form line.word).rule (line_width width line) kinds
    → step_from width lines line ≡ Err e
no_step_is width lines line sources kinds (Some kind) e h k r_is = absurd cc
no_step_is width lines line sources kinds None e h k r_is =
    let found = found_then_ok width lines line sources kinds h in
    let all : list_all (is_defined lines) (asked line) ≡ true = found.0 in
    let kind_is : kind_after width lines (steps_by width lines) line ≡ None =
    ap (kind_by (form line.word).rule (line_width width line)) (sym found.2) ∙ sym r_is in
    let same : Kind ≡ e = cc in
    rw (all, kind_is) (ap (λ (c : LineCause). Err c) same)

-- ---- a lawful line
some_of : {A : Type 0} (o : Option A) → is_some o ≡ true → (x : A) × (o ≡ Some x)
some_of (Some x) h = (x, refl)
some_of None h = absurd cc

not_true : (b : Bool) → not b ≡ true → b ≡ false
not_true true h = absurd cc
not_true false h = refl

pub lawful_from : (laws : NumeralLaws) (space width : ℕ) (before : List Line) (words : List (List ℕ)) (s : Spelled) (line : Line) (step : Step) → spelled_from words ≡ Ok s
    → ranged space width s ≡ Ok line → step_from width before line ≡ Ok step → new_from before line ≡ Ok line
    → IsLawful space width before line
lawful_from laws space width before words s line step spelled in_range known new =
    let r = line_ranged space width s line in_range in
    let t = line_takes laws words s line.width line.number spelled r.width_is r.number_is in
    let k = tested_ok (list_all (is_defined before) (asked line)) Unknown (tested (is_some (kind_after width before (steps_by width before) line)) Kind (Ok (step_after width before (steps_by width before) line))) step known in
    let of = tested_ok (is_some (kind_after width before (steps_by width before) line)) Kind (Ok (step_after width before (steps_by width before) line)) step k.1 in
    let n = tested_ok (not (is_taken before line)) Again (tested (has_room before line.word) Limit (Ok line)) line new in
    let room = tested_ok (has_room before line.word) Limit (Ok line) line n.1 in
    let made : Line = record { word = s.word; name = s.name; args = s.args; number = line.number; width = line.width } in
    record {
      name = subst (λ (l : Line). IsTrue (is_name l.name)) (sym r.same) t.name;
      args = subst (λ (l : Line). IsTrue (list_all is_name l.args)) (sym r.same) t.args;
      count = subst (λ (l : Line). length l.args ≡ (form l.word).args) (sym r.same) t.count;
      numbers = r.numbers;
      known = k.0;
      kind = some_of (kind_after width before (steps_by width before) line) of.0;
      new = not_true (is_taken before line) n.0;
      room = room.0;
    }
