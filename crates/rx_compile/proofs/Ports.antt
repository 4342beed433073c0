-- The inputs and the outputs among the lines of a program, before and after a place.
use Rattle.std.proofs.Common.{◌≡◌, ℕ, suc, ◌+◌, ◌<◌, ◌≤◌, Bool, true, false, cond, not, ◌||◌, ltb, List, [], ◌∷◌, ◌++◌, length, take, drop, refl, sym, ap, ◌∙◌, arith, append-nil}
use Rattle.std.specs.Prelude.{nat_lt, count_by, if◌then◌else◌}
use Rattle.std.specs.List.{list_any, position_or_len}
use Rattle.std.proofs.lemmas.Bool.{ltb-false, le-ltb}
use Rattle.std.proofs.lemmas.List.{take_more}
use Rattle.std.proofs.lemmas.List.Recursion.{is_count_by}
use Rattle.rx_language.specs.declared.word.Word.{Word}
use Rattle.rx_language.specs.declared.word.Word.TheVariants.{In, Inw, Ins, Inbit, Const, Constw, Add, Sub, Mul, Div, Rem, Neg, And, Or, Xor, Not, Shl, Shr, Shlv, Shrv, Eq, Ne, Lt, Le, Gt, Ge, Select, Min, Max, Cast, Casts, Out}
use Rattle.rx_language.specs.declared.line.Line.{Line}
use Rattle.rx_language.specs.declared.line.Step.{Step}
use Rattle.rx_language.specs.Words.{is_input, is_output}
use Rattle.rx_language.specs.Programs.{Program, Port, no_step, ports_in, steps_of}
use Rattle.rx_language.proofs.Steps.{length-by}
use Rattle.rx_meaning.specs.Values.{next_after}
use Rattle.rx_compile.specs.States.{no_line, line_at, step_at}
use Rattle.rx_compile.proofs.Places.{take_is, parted}
use Rattle.rx_compile.proofs.LineValues.{next_at}

-- no input is an output
pub inner_input : (word : Word) → is_input word ≡ true → is_output word ≡ false
inner_input In h = refl
inner_input Inw h = refl
inner_input Ins h = refl
inner_input Inbit h = refl
inner_input Const h = refl
inner_input Constw h = refl
inner_input Add h = refl
inner_input Sub h = refl
inner_input Mul h = refl
inner_input Div h = refl
inner_input Rem h = refl
inner_input Neg h = refl
inner_input And h = refl
inner_input Or h = refl
inner_input Xor h = refl
inner_input Not h = refl
inner_input Shl h = refl
inner_input Shr h = refl
inner_input Shlv h = refl
inner_input Shrv h = refl
inner_input Eq h = refl
inner_input Ne h = refl
inner_input Lt h = refl
inner_input Le h = refl
inner_input Gt h = refl
inner_input Ge h = refl
inner_input Select h = refl
inner_input Min h = refl
inner_input Max h = refl
inner_input Cast h = refl
inner_input Casts h = refl
inner_input Out h = absurd cc

-- ---- ports in two parts

abbrev pub port_of : Line → Step → Port
port_of line step = record { name = line.name; kind = step.kind }

-- the port of a line, where it is one
abbrev pub port_if : (Word → Bool) → Line → Step → List Port
port_if wanted line step = if wanted line.word then port_of line step ∷ [] else []

one_more : (b : Bool) (port : Port) (ports : List Port) → (if b then port ∷ ports else ports) ≡ (if b then port ∷ [] else []) ++ ports
one_more true port ports = refl
one_more false port ports = refl

pub ports-cons : (wanted : Word → Bool) (line : Line) (lines : List Line) (step : Step) (steps : List Step)
    → ports_in wanted (line ∷ lines) (step ∷ steps) ≡ port_if wanted line step ++ ports_in wanted lines steps
ports-cons wanted line lines step steps = one_more (wanted line.word) (port_of line step) (ports_in wanted lines steps)

if_append : (b : Bool) (port : Port) (xs ys : List Port) → (if b then port ∷ (xs ++ ys) else xs ++ ys) ≡ (if b then port ∷ xs else xs) ++ ys
if_append true port xs ys = refl
if_append false port xs ys = refl

pub ports-append : (wanted : Word → Bool) (lines more : List Line) (steps others : List Step) → length lines ≡ length steps
    → ports_in wanted (lines ++ more) (steps ++ others) ≡ ports_in wanted lines steps ++ ports_in wanted more others
ports-append wanted [] more [] others h = refl
ports-append wanted [] more (step ∷ steps) others h = absurd (omega arith)
ports-append wanted (line ∷ lines) more [] others h = absurd (omega arith)
ports-append wanted (line ∷ lines) more (step ∷ steps) others h =
    ap (λ ports. if wanted line.word then port_of line step ∷ ports else ports) (ports-append wanted lines more steps others (omega arith))
    ∙ if_append (wanted line.word) (port_of line step) (ports_in wanted lines steps) (ports_in wanted more others)

module _ (p : Program) (k : ℕ) (h : k < length p.lines) where
  steps_count : k < length (steps_of p)
  steps_count = omega (arith, length-by p.width p.lines)

  pub first_lines : length (take k p.lines) ≡ length (take k (steps_of p))
  first_lines = take_is k p.lines (omega arith) ∙ sym (take_is k (steps_of p) (omega (arith, steps_count)))

  -- all ports: those before, that of the line, those after
  pub ports_parted : (wanted : Word → Bool)
      → ports_in wanted p.lines (steps_of p)
      ≡ ports_in wanted (take k p.lines) (take k (steps_of p)) ++ (port_if wanted (line_at p k) (step_at p k) ++ ports_in wanted (drop (k + 1) p.lines) (drop (k + 1) (steps_of p)))
  ports_parted wanted =
      ap (λ lines. ports_in wanted lines (steps_of p)) (parted p.lines k no_line h)
      ∙ ap (ports_in wanted (take k p.lines ++ line_at p k ∷ drop (k + 1) p.lines)) (parted (steps_of p) k no_step steps_count)
      ∙ ports-append wanted (take k p.lines) (line_at p k ∷ drop (k + 1) p.lines) (take k (steps_of p)) (step_at p k ∷ drop (k + 1) (steps_of p)) first_lines
      ∙ ap (λ ports. ports_in wanted (take k p.lines) (take k (steps_of p)) ++ ports)
      (ports-cons wanted (line_at p k) (drop (k + 1) p.lines) (step_at p k) (drop (k + 1) (steps_of p)))

  -- one line more
  pub ports_more : (wanted : Word → Bool)
      → ports_in wanted (take (k + 1) p.lines) (take (k + 1) (steps_of p)) ≡ ports_in wanted (take k p.lines) (take k (steps_of p)) ++ port_if wanted (line_at p k) (step_at p k)
  ports_more wanted =
      ap (λ lines. ports_in wanted lines (take (k + 1) (steps_of p))) (take_more p.lines k no_line h)
      ∙ ap (ports_in wanted (take k p.lines ++ line_at p k ∷ [])) (take_more (steps_of p) k no_step steps_count)
      ∙ ports-append wanted (take k p.lines) (line_at p k ∷ []) (take k (steps_of p)) (step_at p k ∷ []) first_lines
      ∙ ap (λ ports. ports_in wanted (take k p.lines) (take k (steps_of p)) ++ ports)
      (ports-cons wanted (line_at p k) [] (step_at p k) [] ∙ append-nil (port_if wanted (line_at p k) (step_at p k)))

-- ---- how many there are

next_is : (b : Bool) (next n : ℕ) (port : Port) (ports : List Port) → n ≡ (if b then next + 1 else next) + length ports → n ≡ next + length (if b then port ∷ ports else ports)
next_is true next n port ports e = omega (arith, e)
next_is false next n port ports e = e

pub next_count : (next : ℕ) (lines : List Line) (steps : List Step) → length lines ≡ length steps → next_at next lines ≡ next + length (ports_in is_input lines steps)
next_count next [] steps h = omega arith
next_count next (line ∷ lines) [] h = absurd (omega arith)
next_count next (line ∷ lines) (step ∷ steps) h =
    next_is (is_input line.word) next (next_at (next_after next line) lines) (port_of line step) (ports_in is_input lines steps)
    (next_count (next_after next line) lines steps (omega arith))

-- ---- names that are new

missing_cons : (passes : Bool) (n len : ℕ) → ltb (cond (not passes) (1 + n) 0) (suc len) ≡ false → (passes ≡ false) × (ltb n len ≡ false)
missing_cons true n len h = let b : suc len ≤ 0 = ltb-false 0 (suc len) h in absurd (omega arith)
missing_cons false n len h = let b : suc len ≤ 1 + n = ltb-false (1 + n) (suc len) h in (refl, le-ltb n len (omega arith))

either_not : (a b : Bool) → a ≡ false → b ≡ false → (a || b) ≡ false
either_not a b e f = ap (λ x. x || b) e ∙ f

pub missing : {X : Type 0} → (p : X → Bool) (xs : List X) → nat_lt (position_or_len p xs) (length xs) ≡ false → list_any p xs ≡ false
missing p [] h = refl
missing p (x ∷ xs) h =
    let m = missing_cons (p x) (position_or_len p xs) (length xs) h in
    either_not (p x) (list_any p xs) m.0 (missing p xs m.1)

-- ---- as many ports as lines of such words

abbrev count_lines : (Word → Bool) → List Line → ℕ
count_lines wanted [] = 0
count_lines wanted (line ∷ lines) = cond (wanted line.word) (1 + count_lines wanted lines) (count_lines wanted lines)

count_if : (b : Bool) (n : ℕ) (port : Port) (ports : List Port) → length ports ≡ n → length (if b then port ∷ ports else ports) ≡ cond b (1 + n) n
count_if true n port ports e = omega (arith, e)
count_if false n port ports e = e

counted : (wanted : Word → Bool) (lines : List Line) (steps : List Step) → length lines ≡ length steps → length (ports_in wanted lines steps) ≡ count_lines wanted lines
counted wanted [] steps h = refl
counted wanted (line ∷ lines) [] h = absurd (omega arith)
counted wanted (line ∷ lines) (step ∷ steps) h =
    count_if (wanted line.word) (count_lines wanted lines) (port_of line step) (ports_in wanted lines steps) (counted wanted lines steps (omega arith))

pub ports_count : (wanted : Word → Bool) (lines : List Line) (steps : List Step) → length lines ≡ length steps
    → length (ports_in wanted lines steps) ≡ count_by (λ (line : Line). wanted line.word) lines
ports_count wanted lines steps h =
    counted wanted lines steps h ∙ is_count_by (count_lines wanted) (λ (line : Line). wanted line.word) refl (λ x xs. refl) lines
