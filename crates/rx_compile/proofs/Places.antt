-- The line at a place of a program, and what is known of it by the lines before.
use Rattle.std.proofs.Common.{◌≡◌, ℕ, suc, ◌+◌, ◌<◌, ◌≤◌, List, [], ◌∷◌, ◌++◌, length, get_or, map, take, drop, Some, Option, unwrap_or, refl, sym, ap, subst, ◌∙◌, arith, length-append, lit≤}
use Rattle.std.specs.Prelude.{IsTrue}
use Rattle.std.specs.List.{AllByRecursion, list_all}
use Rattle.std.proofs.lemmas.Bool.{and_parts, ltb-true}
use Rattle.std.proofs.lemmas.List.{get_or_append_left, get_or_push, take-append-drop, length-take}
use Rattle.rx_language.specs.declared.word.Word.{Word}
use Rattle.rx_language.specs.declared.word.Word.TheVariants.{In, Inw, Ins, Inbit, Const, Constw, Add, Sub, Mul, Div, Rem, Neg, And, Or, Xor, Not, Shl, Shr, Shlv, Shrv, Eq, Ne, Lt, Le, Gt, Ge, Select, Min, Max, Cast, Casts, Out}
use Rattle.rx_language.specs.declared.form.Tail.TheVariants.{Nothing}
use Rattle.rx_language.specs.declared.kind.NameKind.{NameKind}
use Rattle.rx_language.specs.declared.kind.NameKind.TheVariants.{Bit}
use Rattle.rx_language.specs.declared.line.Line.{Line}
use Rattle.rx_language.specs.declared.line.Step.{Step}
use Rattle.rx_language.specs.Words.{form}
use Rattle.rx_language.specs.Kinds.{kind_by}
use Rattle.rx_language.specs.Programs.{Program, no_step, kind_at, place_of, is_defined, asked, line_width, kind_after, step_after, steps_from, steps_by, steps_of, IsLawful, AreLawful, IsProgram}
use Rattle.rx_language.proofs.Steps.{by-append, length-by, lawful-at}
use Rattle.rx_meaning.proofs.Walks.{drop_is}
use Rattle.rx_compile.specs.States.{no_line, line_at, step_at}

-- ---- lists in two parts

pub take_is : {A : Type 0} → (k : ℕ) (xs : List A) → k ≤ length xs → length (take k xs) ≡ k
take_is k xs h = omega (arith, length-take k xs)

pub parted : {A : Type 0} → (xs : List A) (k : ℕ) (d : A) → k < length xs → xs ≡ take k xs ++ get_or xs k d ∷ drop (k + 1) xs
parted xs k d h = sym (take-append-drop k xs) ∙ ap (λ ys. take k xs ++ ys) (drop_is xs k (get_or xs k d) d h refl)

-- ---- steps

pub from_keeps : (width : ℕ) (before : List Line) (steps : List Step) (xs : List Line) (i : ℕ) (d : Step) → i < length steps → get_or (steps_from width before steps xs) i d ≡ get_or steps i d
from_keeps width before steps [] i d h = refl
from_keeps width before steps (x ∷ xs) i d h =
    let s : Step = step_after width before steps x in
    from_keeps width (before ++ x ∷ []) (steps ++ s ∷ []) xs i d (omega (arith, length-append steps (s ∷ []))) ∙ get_or_append_left steps (s ∷ []) d i h

module _ (p : Program) (k : ℕ) (h : k < length p.lines) where
  before : List Line
  before = take k p.lines

  known : List Step
  known = steps_by p.width before

  here : Step
  here = step_after p.width before known (line_at p k)

  lines_are : p.lines ≡ before ++ line_at p k ∷ drop (k + 1) p.lines
  unfolding before
  lines_are = parted p.lines k no_line h

  before_count : length before ≡ k
  unfolding before
  before_count = take_is k p.lines (omega arith)

  known_count : length known ≡ k
  unfolding known
  known_count = length-by p.width before ∙ before_count

  steps_are : steps_of p ≡ steps_from p.width (before ++ line_at p k ∷ []) (known ++ here ∷ []) (drop (k + 1) p.lines)
  unfolding known here
  steps_are = ap (steps_by p.width) lines_are ∙ by-append p.width before (line_at p k ∷ drop (k + 1) p.lines)

  step_is : step_at p k ≡ here
  step_is =
      ap (λ steps. get_or steps k no_step) steps_are
      ∙ from_keeps p.width (before ++ line_at p k ∷ []) (known ++ here ∷ []) (drop (k + 1) p.lines) k no_step (omega (arith, length-append known (here ∷ []), known_count))
      ∙ get_or_push known here no_step k known_count

  earlier_kind : (i : ℕ) → i < k → kind_at (steps_of p) i ≡ kind_at known i
  earlier_kind i l =
      ap (λ (s : Step). s.kind)
      (ap (λ steps. get_or steps i no_step) steps_are
      ∙ from_keeps p.width (before ++ line_at p k ∷ []) (known ++ here ∷ []) (drop (k + 1) p.lines) i no_step (omega (arith, length-append known (here ∷ []), known_count))
      ∙ get_or_append_left known (here ∷ []) no_step i (omega (arith, known_count)))

-- ---- names that are defined before

kinds_same : (f g : ℕ → NameKind) (before : List Line) (k : ℕ) → length before ≡ k → ((i : ℕ) → i < k → f i ≡ g i) → (names : List (List ℕ)) → IsTrue (list_all (is_defined before) names)
    → map f (map (λ name. place_of name before) names) ≡ map (λ name. g (place_of name before)) names
kinds_same f g before k e h [] a = refl
kinds_same f g before k e h (name ∷ names) a =
    let t = and_parts (is_defined before name) (list_all (is_defined before) names) a in
    let l : place_of name before < length before = ltb-true (place_of name before) (length before) t.0 in
    ap (λ x. x ∷ map f (map (λ name. place_of name before) names)) (h (place_of name before) (omega (arith, l, e)))
    ∙ ap (λ ys. g (place_of name before) ∷ ys) (kinds_same f g before k e h names t.1)

places_before : (before : List Line) (k : ℕ) → length before ≡ k → (names : List (List ℕ)) → IsTrue (list_all (is_defined before) names)
    → AllByRecursion (λ place. place < k) (map (λ name. place_of name before) names)
places_before before k e [] a = tt
places_before before k e (name ∷ names) a =
    let t = and_parts (is_defined before name) (list_all (is_defined before) names) a in
    let l : place_of name before < length before = ltb-true (place_of name before) (length before) t.0 in
    (omega (arith, l, e), places_before before k e names t.1)

map_count : {A B : Type 0} → (f : A → B) (xs : List A) → length (map f xs) ≡ length xs
map_count f [] = refl
map_count f (x ∷ xs) = ap suc (map_count f xs)

some_or : (o : Option NameKind) (kind : NameKind) → o ≡ Some kind → o ≡ Some (unwrap_or o Bit)
some_or o kind e = e ∙ ap (λ (x : NameKind). Some x) (sym (ap (λ o. unwrap_or o Bit) e))

-- ---- what is known of a line

pub record IsKnownAt (p : Program) (k : ℕ) : Type 0 where
  pub lawful : IsLawful p.space p.width (take k p.lines) (line_at p k)
  pub kind : kind_by (form (line_at p k).word).rule (line_width p.width (line_at p k)) (map (kind_at (steps_of p)) (step_at p k).sources) ≡ Some (step_at p k).kind
  pub count : length (step_at p k).sources ≡ length (asked (line_at p k))
  pub earlier : AllByRecursion (λ place. place < k) (step_at p k).sources

pub known_at : (p : Program) (k : ℕ) → IsProgram p → k < length p.lines → IsKnownAt p k
unfolding before known here
known_at p k h l =
    let line : Line = line_at p k in
    let b : List Line = take k p.lines in
    let steps : List Step = steps_by p.width b in
    let lawful : IsLawful p.space p.width b line =
    lawful-at p.space p.width [] b line (drop (k + 1) p.lines) (subst (AreLawful p.space p.width []) (parted p.lines k no_line l) h.lines)
    in
    let e : step_at p k ≡ step_after p.width b steps line = step_is p k l in
    let sources : (step_at p k).sources ≡ map (λ name. place_of name b) (asked line) = ap (λ (s : Step). s.sources) e in
    let n : length b ≡ k = take_is k p.lines (omega arith) in
    record {
      lawful = lawful;
      kind =
          ap (λ places. kind_by (form line.word).rule (line_width p.width line) (map (kind_at (steps_of p)) places)) sources
          ∙ ap (kind_by (form line.word).rule (line_width p.width line))
          (kinds_same (kind_at (steps_of p)) (kind_at steps) b k n (earlier_kind p k l) (asked line) lawful.known)
          ∙ some_or (kind_after p.width b steps line) lawful.kind.0 lawful.kind.1
          ∙ ap (λ (s : Step). Some s.kind) (sym e);
      count = ap length sources ∙ map_count (λ name. place_of name b) (asked line);
      earlier = subst (AllByRecursion (λ place. place < k)) (sym sources) (places_before b k n (asked line) lawful.known);
    }

-- ---- words

pub args_few : (word : Word) → (form word).args ≤ 3
args_few In = lit≤ tt
args_few Inw = lit≤ tt
args_few Ins = lit≤ tt
args_few Inbit = lit≤ tt
args_few Const = lit≤ tt
args_few Constw = lit≤ tt
args_few Add = lit≤ tt
args_few Sub = lit≤ tt
args_few Mul = lit≤ tt
args_few Div = lit≤ tt
args_few Rem = lit≤ tt
args_few Neg = lit≤ tt
args_few And = lit≤ tt
args_few Or = lit≤ tt
args_few Xor = lit≤ tt
args_few Not = lit≤ tt
args_few Shl = lit≤ tt
args_few Shr = lit≤ tt
args_few Shlv = lit≤ tt
args_few Shrv = lit≤ tt
args_few Eq = lit≤ tt
args_few Ne = lit≤ tt
args_few Lt = lit≤ tt
args_few Le = lit≤ tt
args_few Gt = lit≤ tt
args_few Ge = lit≤ tt
args_few Select = lit≤ tt
args_few Min = lit≤ tt
args_few Max = lit≤ tt
args_few Cast = lit≤ tt
args_few Casts = lit≤ tt
args_few Out = lit≤ tt

-- a word of two arguments or three has no numeral
pub bare_word : (word : Word) → 2 ≤ (form word).args → (form word).tail ≡ Nothing
bare_word In h = absurd (omega arith)
bare_word Inw h = absurd (omega arith)
bare_word Ins h = absurd (omega arith)
bare_word Inbit h = absurd (omega arith)
bare_word Const h = absurd (omega arith)
bare_word Constw h = absurd (omega arith)
bare_word Add h = refl
bare_word Sub h = refl
bare_word Mul h = refl
bare_word Div h = refl
bare_word Rem h = refl
bare_word Neg h = absurd (omega arith)
bare_word And h = refl
bare_word Or h = refl
bare_word Xor h = refl
bare_word Not h = absurd (omega arith)
bare_word Shl h = absurd (omega arith)
bare_word Shr h = absurd (omega arith)
bare_word Shlv h = refl
bare_word Shrv h = refl
bare_word Eq h = refl
bare_word Ne h = refl
bare_word Lt h = refl
bare_word Le h = refl
bare_word Gt h = refl
bare_word Ge h = refl
bare_word Select h = refl
bare_word Min h = refl
bare_word Max h = refl
bare_word Cast h = absurd (omega arith)
bare_word Casts h = absurd (omega arith)
bare_word Out h = absurd (omega arith)
