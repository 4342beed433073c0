-- What is read of a line is spelled so, and what is spelled so is read, whatever words follow.
use Rattle.std.proofs.Common.{◌≡◌, ◌<◌, ◌^◌, ℕ, suc, zero, Bool, true, false, cond, ltb, List, [], ◌∷◌, ◌++◌, length, Option, Some, None, Result, Ok, Err, IsTrue, find, refl, sym, ap, subst, ◌∙◌, append_assoc, arith}
use Rattle.std.specs.Prelude.{decimal, option_map}
use Rattle.std.specs.List.{list_all}
use Rattle.std.specs.Str.{bytes_eq}
use Rattle.std.proofs.lemmas.Bool.{and_parts, and_from, ltb-true, lt-ltb}
use Rattle.std.proofs.lemmas.List.{append-nil}
use Rattle.std.proofs.lemmas.Slice.Eq.{bytes_eq-Decides}
use Rattle.rx_text.specs.Laws.{NumeralLaws}
use Rattle.rx_text.specs.Names.{is_name, name_of}
use Rattle.rx_text.specs.Numerals.{numeral_of, held}
use Rattle.rx_text.specs.declared.fault.LineCause.{LineCause}
use Rattle.rx_text.specs.declared.numeral.Numeral.{Numeral}
use Rattle.rx_text.specs.declared.numeral.Numeral.TheVariants.{Word as Held, Beyond}
use Rattle.rx_language.specs.declared.word.Word.{Word}
use Rattle.rx_language.specs.declared.word.Word.TheVariants.{In, Inw, Ins, Inbit, Const, Constw, Add, Sub, Mul, Div, Rem, Neg, And, Or, Xor, Not, Shl, Shr, Shlv, Shrv, Eq, Ne, Lt, Le, Gt, Ge, Select, Min, Max, Cast, Casts, Out}
use Rattle.rx_language.specs.declared.form.Tail.{Tail}
use Rattle.rx_language.specs.declared.form.Tail.TheVariants.{Nothing, Constant, Amount}
use Rattle.rx_language.specs.declared.spelled.Spelled.{Spelled}
use Rattle.rx_language.specs.Words.{spelling, every_word, word_of, form}
use Rattle.rx_language.specs.Texts.{stated_words, tail_words}
use Rattle.rx_language.specs.Reading.{◌>>=◌, formed, word_from, first_from, name_from, numeral_from, names_from, width_from, tail_from, ends_with, spelled_from}

abbrev Words : Type 0
Words = List (List ℕ)

-- the value of a step that did not fail
pub bind_ok : {A B : Type 0} (r : Result A LineCause) (f : A → Result B LineCause) (y : B) → (r >>= f) ≡ Ok y → (x : A) × (r ≡ Ok x) × (f x ≡ Ok y)
bind_ok (Ok x) f y e = (x, refl, e)
bind_ok (Err d) f y e = absurd cc

abbrev done : {A : Type 0} → A → Result A LineCause
done x = Ok x

pub ok_is : {A : Type 0} (x y : A) → done x ≡ done y → x ≡ y
ok_is x y e = cc

formed_ok : {A : Type 0} (o : Option A) (x : A) → formed o ≡ Ok x → o ≡ Some x
formed_ok (Some y) x e = cc
formed_ok None x e = absurd cc

-- a word that passes a test
abbrev through : {A : Type 0} → (List ℕ → Option A) → Words → Result (A × Words) LineCause
through test words = word_from words >>= λ text. formed (test text.0) >>= λ x. Ok (x, text.1)

through_takes : {A : Type 0} (test : List ℕ → Option A) (words : Words) (x : A) (left : Words) → through test words ≡ Ok (x, left)
    → (text : List ℕ) × (words ≡ text ∷ left) × (test text ≡ Some x)
through_takes test [] x left h = absurd cc
through_takes {A} test (text ∷ words) x left h =
    let b = bind_ok (formed (test text)) (λ y. Ok (y, words)) (x, left) h in
    let pair : ◌≡◌ {A = A × Words} (b.0, words) (x, left) = ok_is (b.0, words) (x, left) b.2 in
    let first : b.0 ≡ x = ap (λ (p : A × Words). p.0) pair in
    let rest : words ≡ left = ap (λ (p : A × Words). p.1) pair in
    (text, ap (λ (w : Words). text ∷ w) rest, formed_ok (test text) b.0 b.1 ∙ ap (λ (y : A). Some y) first)

through_again : {A : Type 0} (test : List ℕ → Option A) (text : List ℕ) (x : A) (left : Words) → test text ≡ Some x → through test (text ∷ left) ≡ Ok (x, left)
through_again test text x left h = rw h refl

-- ---- the first word
word_is : (v w : Word) → Some v ≡ Some w → v ≡ w
word_is v w k = cc

found_spells : (text : List ℕ) (words : List Word) (word : Word) → find (λ w. bytes_eq text (spelling w)) words ≡ Some word → text ≡ spelling word
found_spells text [] word h = absurd cc
found_spells text (w ∷ words) word h =
    found_first text w word (find (λ v. bytes_eq text (spelling v)) words) (bytes_eq text (spelling w)) refl h (found_spells text words word)
  where
    found_first : (text : List ℕ) (w word : Word) (rest : Option Word) (same : Bool) → same ≡ bytes_eq text (spelling w) → cond same (Some w) rest ≡ Some word
        → (rest ≡ Some word → text ≡ spelling word) → text ≡ spelling word
    found_first text w word rest true e k next = (bytes_eq-Decides text (spelling w)).0 (sym e) ∙ ap spelling (word_is w word k)
    found_first text w word rest false e k next = next k

word_back : (word : Word) → word_of (spelling word) ≡ Some word
word_back In = refl
word_back Inw = refl
word_back Ins = refl
word_back Inbit = refl
word_back Const = refl
word_back Constw = refl
word_back Add = refl
word_back Sub = refl
word_back Mul = refl
word_back Div = refl
word_back Rem = refl
word_back Neg = refl
word_back And = refl
word_back Or = refl
word_back Xor = refl
word_back Not = refl
word_back Shl = refl
word_back Shr = refl
word_back Shlv = refl
word_back Shrv = refl
word_back Eq = refl
word_back Ne = refl
word_back Lt = refl
word_back Le = refl
word_back Gt = refl
word_back Ge = refl
word_back Select = refl
word_back Min = refl
word_back Max = refl
word_back Cast = refl
word_back Casts = refl
word_back Out = refl

pub first_takes : (words : Words) (word : Word) (left : Words) → first_from words ≡ Ok (word, left) → words ≡ spelling word ∷ left
unfolding first_from
first_takes words word left h =
    let t = through_takes word_of words word left h in
    t.1 ∙ ap (λ (text : List ℕ). text ∷ left) (found_spells t.0 every_word word t.2)

pub first_again : (word : Word) (left : Words) → first_from (spelling word ∷ left) ≡ Ok (word, left)
unfolding first_from
first_again word left = through_again word_of (spelling word) word left (word_back word)

-- ---- a name
named : (text name : List ℕ) (b : Bool) → b ≡ is_name text → cond b (Some text) None ≡ Some name → (text ≡ name) × IsTrue (is_name text)
named text name true e h = (cc, subst (λ (b : Bool). IsTrue b) e refl)
named text name false e h = absurd cc

pub name_takes : (words : Words) (name : List ℕ) (left : Words) → name_from words ≡ Ok (name, left) → (words ≡ name ∷ left) × IsTrue (is_name name)
unfolding name_from
name_takes words name left h =
    let t = through_takes name_of words name left h in
    let n = named t.0 name (is_name t.0) refl t.2 in
    (t.1 ∙ ap (λ (text : List ℕ). text ∷ left) n.0, subst (λ (text : List ℕ). IsTrue (is_name text)) n.0 n.1)

pub name_again : (name : List ℕ) (left : Words) → IsTrue (is_name name) → name_from (name ∷ left) ≡ Ok (name, left)
unfolding name_from
name_again name left is = through_again name_of name name left (rw is refl)

-- ---- a numeral
held_is : (m n : ℕ) (b : Bool) → b ≡ ltb m (2 ^ 64) → cond b (Held m) Beyond ≡ Held n → (m ≡ n) × (m < 2 ^ 64)
held_is m n true e h = (cc, ltb-true m (2 ^ 64) (sym e))
held_is m n false e h = absurd cc

held_of : (o : Option ℕ) (n : ℕ) → option_map held o ≡ Some (Held n) → (o ≡ Some n) × (n < 2 ^ 64)
held_of None n h = absurd cc
held_of (Some m) n h =
    let same : held m ≡ Held n = cc in
    let is = held_is m n (ltb m (2 ^ 64)) refl same in
    (ap (λ (k : ℕ). Some k) is.0, subst (λ (k : ℕ). k < 2 ^ 64) is.0 is.1)

pub numeral_takes : (laws : NumeralLaws) (words : Words) (n : ℕ) (left : Words) → numeral_from words ≡ Ok (Held n, left) → (words ≡ decimal n ∷ left) × (n < 2 ^ 64)
unfolding numeral_from
numeral_takes laws words n left h =
    let t = through_takes (λ text. option_map held (numeral_of text)) words (Held n) left h in
    let is = held_of (numeral_of t.0) n t.2 in
    (t.1 ∙ ap (λ (text : List ℕ). text ∷ left) (laws.one_spelling t.0 n is.1 is.0), is.1)

pub numeral_again : (laws : NumeralLaws) (n : ℕ) (left : Words) → n < 2 ^ 64 → numeral_from (decimal n ∷ left) ≡ Ok (Held n, left)
unfolding numeral_from
numeral_again laws n left lt =
    through_again (λ text. option_map held (numeral_of text)) (decimal n) (Held n) left (rw (laws.read_back n lt, lt-ltb n (2 ^ 64) lt) refl)

-- ---- a width, and the numeral at the end
pub width_takes : (laws : NumeralLaws) (stated : Bool) (words : Words) (n : ℕ) (left : Words) → width_from stated words ≡ Ok (Held n, left)
    → words ≡ stated_words stated n ++ left
width_takes laws true words n left h = (numeral_takes laws words n left h).0
width_takes laws false words n left h = ap (λ (p : Numeral × Words). p.1) (ok_is (Held 0, words) (Held n, left) h)

pub width_again : (laws : NumeralLaws) (stated : Bool) (n : ℕ) (left : Words) → n < 2 ^ 64 → (stated ≡ false → n ≡ 0)
    → width_from stated (stated_words stated n ++ left) ≡ Ok (Held n, left)
width_again laws true n left lt none = numeral_again laws n left lt
width_again laws false n left lt none = ap (λ (k : ℕ). Ok (Held k, left)) (sym (none refl))

pub tail_takes : (laws : NumeralLaws) (tail : Tail) (words : Words) (n : ℕ) (left : Words) → tail_from tail words ≡ Ok (Held n, left)
    → words ≡ tail_words tail n ++ left
tail_takes laws Nothing words n left h = ap (λ (p : Numeral × Words). p.1) (ok_is (Held 0, words) (Held n, left) h)
tail_takes laws Constant words n left h = (numeral_takes laws words n left h).0
tail_takes laws Amount words n left h = (numeral_takes laws words n left h).0

pub tail_again : (laws : NumeralLaws) (tail : Tail) (n : ℕ) (left : Words) → n < 2 ^ 64 → (tail ≡ Nothing → n ≡ 0)
    → tail_from tail (tail_words tail n ++ left) ≡ Ok (Held n, left)
tail_again laws Nothing n left lt none = ap (λ (k : ℕ). Ok (Held k, left)) (sym (none refl))
tail_again laws Constant n left lt none = numeral_again laws n left lt
tail_again laws Amount n left lt none = numeral_again laws n left lt

-- ---- names
pub record NamesTaken (count : ℕ) (before words args left : Words) : Type 0 where
  pub more : Words
  pub whole : args ≡ before ++ more
  pub spelled : words ≡ more ++ left
  pub many : length more ≡ count
  pub names : IsTrue (list_all is_name more)

pub names_takes : (count : ℕ) (before words args left : Words) → names_from count before words ≡ Ok (args, left) → NamesTaken count before words args left
names_takes zero before words args left h =
    let pair : ◌≡◌ {A = Words × Words} (before, words) (args, left) = ok_is (before, words) (args, left) h in
    record {
      more = [];
      whole = sym (ap (λ (p : Words × Words). p.0) pair) ∙ sym (append-nil before);
      spelled = ap (λ (p : Words × Words). p.1) pair;
      many = refl;
      names = refl;
    }
names_takes (suc count) before words args left h =
    let b = bind_ok (name_from words) (λ name. names_from count (before ++ name.0 ∷ []) name.1) (args, left) h in
    let name = b.0.0 in
    let taken = name_takes words name b.0.1 b.1 in
    let rest = names_takes count (before ++ name ∷ []) b.0.1 args left b.2 in
    record {
      more = name ∷ rest.more;
      whole = rest.whole ∙ append_assoc before (name ∷ []) rest.more;
      spelled = taken.0 ∙ ap (λ (w : Words). name ∷ w) rest.spelled;
      many = omega (arith, rest.many);
      names = and_from _ _ taken.1 rest.names;
    }

pub names_again : (args before left : Words) → IsTrue (list_all is_name args) → names_from (length args) before (args ++ left) ≡ Ok (before ++ args, left)
names_again [] before left h = ap (λ (b : Words). Ok (b, left)) (sym (append-nil before))
names_again (name ∷ args) before left h =
    let parts = and_parts (is_name name) (list_all is_name args) h in
    let one = name_again name (args ++ left) parts.0 in
    ap (λ (r : Result (List ℕ × Words) LineCause). r >>= λ x. names_from (length args) (before ++ x.0 ∷ []) x.1) one
    ∙ names_again args (before ++ name ∷ []) left parts.1
    ∙ ap (λ (b : Words). Ok (b, left)) (append_assoc before (name ∷ []) args)

-- ---- a line
pub record LineTaken (words : Words) (s : Spelled) (width number : ℕ) : Type 0 where
  pub spelled : words ≡ spelling s.word ∷ s.name ∷ (stated_words (form s.word).stated width ++ (s.args ++ tail_words (form s.word).tail number))
  pub name : IsTrue (is_name s.name)
  pub args : IsTrue (list_all is_name s.args)
  pub count : length s.args ≡ (form s.word).args

abbrev parts : Word → List ℕ → Numeral → Words → Numeral → Spelled
parts word name width args number = record { word = word; name = name; width = width; args = args; number = number }

ends_ok : (left : Words) (s t : Spelled) → ends_with left s ≡ Ok t → (left ≡ []) × (s ≡ t)
ends_ok [] s t h = (refl, cc)
ends_ok (word ∷ left) s t h = absurd cc

line_cases : (laws : NumeralLaws) (words : Words) (word : Word) (l0 : Words) (name : List ℕ) (l1 : Words) (w : Numeral) (l2 args l3 : Words) (n : Numeral) (l4 : Words)
    (s : Spelled) (width number : ℕ) → first_from words ≡ Ok (word, l0) → name_from l0 ≡ Ok (name, l1) → width_from (form word).stated l1 ≡ Ok (w, l2)
    → names_from (form word).args [] l2 ≡ Ok (args, l3) → tail_from (form word).tail l3 ≡ Ok (n, l4) → ends_with l4 (parts word name w args n) ≡ Ok s
    → s.width ≡ Held width → s.number ≡ Held number → LineTaken words s width number
line_cases laws words word l0 name l1 w l2 args l3 n l4 s width number h0 h1 h2 h3 h4 h5 hw hn =
    let end = ends_ok l4 (parts word name w args n) s h5 in
    let w_is : w ≡ Held width = ap (λ (s : Spelled). s.width) end.1 ∙ hw in
    let n_is : n ≡ Held number = ap (λ (s : Spelled). s.number) end.1 ∙ hn in
    let t0 = first_takes words word l0 h0 in
    let t1 = name_takes l0 name l1 h1 in
    let t2 = width_takes laws (form word).stated l1 width l2 (subst (λ (k : Numeral). width_from (form word).stated l1 ≡ Ok (k, l2)) w_is h2) in
    let t3 = names_takes (form word).args [] l2 args l3 h3 in
    let t4 = tail_takes laws (form word).tail l3 number l4 (subst (λ (k : Numeral). tail_from (form word).tail l3 ≡ Ok (k, l4)) n_is h4) in
    let tail = tail_words (form word).tail number in
    let last : l3 ≡ tail = t4 ∙ ap (λ (w : Words). tail ++ w) end.0 ∙ append-nil tail in
    let named : l2 ≡ args ++ tail = t3.spelled ∙ ap (λ (m : Words). m ++ l3) (sym t3.whole) ∙ ap (λ (w : Words). args ++ w) last in
    let spelled = t0 ∙ ap (λ (w : Words). spelling word ∷ w) (t1.0 ∙ ap (λ (w : Words). name ∷ w)
    (t2 ∙ ap (λ (w : Words). stated_words (form word).stated width ++ w) named)) in
    let one : LineTaken words (parts word name w args n) width number = record {
      spelled = spelled;
      name = t1.1;
      args = subst (λ (m : Words). IsTrue (list_all is_name m)) (sym t3.whole) t3.names;
      count = ap length t3.whole ∙ t3.many;
    } in
    subst (λ (s : Spelled). LineTaken words s width number) end.1 one

pub line_takes : (laws : NumeralLaws) (words : Words) (s : Spelled) (width number : ℕ) → spelled_from words ≡ Ok s → s.width ≡ Held width → s.number ≡ Held number
    → LineTaken words s width number
unfolding spelled_from
line_takes laws words s width number h w n =
    let b0 = bind_ok (first_from words) (λ word. name_from word.1 >>= λ name. width_from (form word.0).stated name.1 >>= λ width. names_from (form word.0).args [] width.1
    >>= λ args. tail_from (form word.0).tail args.1 >>= λ number. ends_with number.1 (parts word.0 name.0 width.0 args.0 number.0)) s h in
    after_first laws words b0.0.0 b0.0.1 s width number b0.1 b0.2 w n
  where
    after_first : (laws : NumeralLaws) (words : Words) (word : Word) (l0 : Words) (s : Spelled) (width number : ℕ) → first_from words ≡ Ok (word, l0)
        → (name_from l0 >>= λ name. width_from (form word).stated name.1 >>= λ width. names_from (form word).args [] width.1
        >>= λ args. tail_from (form word).tail args.1 >>= λ number. ends_with number.1 (parts word name.0 width.0 args.0 number.0)) ≡ Ok s
        → s.width ≡ Held width → s.number ≡ Held number → LineTaken words s width number
    after_first laws words word l0 s width number h0 h w n =
        let b1 = bind_ok (name_from l0) (λ name. width_from (form word).stated name.1 >>= λ width. names_from (form word).args [] width.1
        >>= λ args. tail_from (form word).tail args.1 >>= λ number. ends_with number.1 (parts word name.0 width.0 args.0 number.0)) s h in
        let b2 = bind_ok (width_from (form word).stated b1.0.1) (λ width. names_from (form word).args [] width.1
        >>= λ args. tail_from (form word).tail args.1 >>= λ number. ends_with number.1 (parts word b1.0.0 width.0 args.0 number.0)) s b1.2 in
        let b3 = bind_ok (names_from (form word).args [] b2.0.1)
        (λ args. tail_from (form word).tail args.1 >>= λ number. ends_with number.1 (parts word b1.0.0 b2.0.0 args.0 number.0)) s b2.2 in
        let b4 = bind_ok (tail_from (form word).tail b3.0.1) (λ number. ends_with number.1 (parts word b1.0.0 b2.0.0 b3.0.0 number.0)) s b3.2 in
        line_cases laws words word l0 b1.0.0 b1.0.1 b2.0.0 b2.0.1 b3.0.0 b3.0.1 b4.0.0 b4.0.1 s width number h0 b1.1 b2.1 b3.1 b4.1 b4.2 w n

pub line_again : (laws : NumeralLaws) (s : Spelled) (width number : ℕ) → s.width ≡ Held width → s.number ≡ Held number → IsTrue (is_name s.name)
    → IsTrue (list_all is_name s.args) → length s.args ≡ (form s.word).args → width < 2 ^ 64 → number < 2 ^ 64 → ((form s.word).stated ≡ false → width ≡ 0)
    → ((form s.word).tail ≡ Nothing → number ≡ 0)
    → spelled_from (spelling s.word ∷ s.name ∷ (stated_words (form s.word).stated width ++ (s.args ++ tail_words (form s.word).tail number))) ≡ Ok s
unfolding spelled_from
line_again laws s width number w n name args count wide large none nothing =
    let tail = tail_words (form s.word).tail number in
    let l2 = s.args ++ tail in
    let l1 = stated_words (form s.word).stated width ++ l2 in
    let last : tail_from (form s.word).tail tail ≡ Ok (Held number, []) =
    ap (tail_from (form s.word).tail) (sym (append-nil tail)) ∙ tail_again laws (form s.word).tail number [] large nothing in
    let all : names_from (form s.word).args [] l2 ≡ Ok (s.args, tail) =
    ap (λ (k : ℕ). names_from k [] l2) (sym count) ∙ names_again s.args [] tail args in
    let same : parts s.word s.name (Held width) s.args (Held number) ≡ s =
    ap (λ (k : Numeral). parts s.word s.name k s.args (Held number)) (sym w) ∙ ap (λ (k : Numeral). parts s.word s.name s.width s.args k) (sym n) in
    rw (first_again s.word (s.name ∷ l1), name_again s.name l1 name, width_again laws (form s.word).stated width l2 wide none, all, last)
    (ap (λ (s : Spelled). Ok s) same)
