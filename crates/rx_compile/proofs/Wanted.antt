-- What the planner of a line wants, by what the lines before hold, and what the line's plan is by what it promises.
use Rattle.std.proofs.Common.{◌≡◌, ℕ, suc, ◌+◌, ◌<◌, ◌≤◌, Bool, false, List, [], ◌∷◌, length, get_or, map, Some, refl, sym, ap, subst, ◌∙◌, arith}
use Rattle.std.specs.Prelude.{IsTrue, nat_lt, if◌then◌else◌}
use Rattle.std.proofs.lemmas.Bool.{and_parts, ltb-true}
use Rattle.rx_costs.specs.declared.table.Cost.{Cost}
use Rattle.rx_net.specs.declared.net.Net.{Net}
use Rattle.rx_net.specs.Cells.{depth}
use Rattle.rx_plan.specs.Planned.{Each, EachOf, HasRoom}
use Rattle.rx_language.specs.declared.word.Word.{Word}
use Rattle.rx_language.specs.declared.form.Tail.{Tail}
use Rattle.rx_language.specs.declared.kind.NameKind.{NameKind}
use Rattle.rx_language.specs.declared.line.Line.{Line}
use Rattle.rx_language.specs.Words.{form, is_input, is_output}
use Rattle.rx_language.specs.Kinds.{kind_by}
use Rattle.rx_language.specs.Programs.{Program, kind_at, steps_of, line_width, tail_end, is_stated, inputs_of, IsProgram}
use Rattle.rx_meaning.specs.Operations.{given_by}
use Rattle.rx_meaning.specs.Values.{AreWithin, absent}
use Rattle.rx_meaning.specs.Kinds.{is_kind}
use Rattle.rx_meaning.specs.Costs.{none, cost_by}
use Rattle.rx_meaning.specs.Bounds.{jobs_of}
use Rattle.rx_meaning.proofs.LineKinds.{kinds_are}
use Rattle.rx_compile.specs.Realized.{operand, Realizes, RealizesOne, RealizesTwo, RealizesThree}
use Rattle.rx_compile.specs.Arms.{Takes, IsArgument}
use Rattle.rx_compile.specs.States.{line_at, step_at, source_at, costs, depths, digits_for, HoldsLine, IsNext, Plans}
use Rattle.rx_compile.proofs.Places.{IsKnownAt, known_at, bare_word}
use Rattle.rx_compile.proofs.Steps.{source_early}
use Rattle.rx_compile.proofs.LineValues.{value_at, value_by, given_number, value_none, value_one, value_two, value_three, cost_none, cost_alone, cost_first, depth_under, under_first, under_second, under_third}
use Rattle.rx_compile.proofs.Held.{jobs_left, jobs_next, planned}

-- ---- lists of so many

pub none_of : (xs : List ℕ) → length xs ≡ 0 → xs ≡ []
none_of [] h = refl
none_of (x ∷ xs) h = absurd (omega arith)

pub one_of : (xs : List ℕ) → length xs ≡ 1 → xs ≡ get_or xs 0 0 ∷ []
one_of [] h = absurd (omega arith)
one_of (x ∷ xs) h = ap (λ ys. x ∷ ys) (none_of xs (omega arith))

pub two_of : (xs : List ℕ) → length xs ≡ 2 → xs ≡ get_or xs 0 0 ∷ get_or xs 1 0 ∷ []
two_of [] h = absurd (omega arith)
two_of (x ∷ xs) h = ap (λ ys. x ∷ ys) (one_of xs (omega arith))

pub three_of : (xs : List ℕ) → length xs ≡ 3 → xs ≡ get_or xs 0 0 ∷ get_or xs 1 0 ∷ get_or xs 2 0 ∷ []
three_of [] h = absurd (omega arith)
three_of (x ∷ xs) h = ap (λ ys. x ∷ ys) (two_of xs (omega arith))

-- ---- what a line takes

asked_plain : (out : Bool) (name : List ℕ) (args : List (List ℕ)) → out ≡ false → length (if out then name ∷ [] else args) ≡ length args
asked_plain out name args e = ap (λ (out : Bool). length (if out then name ∷ [] else args)) e

module _ (p : Program) (k : ℕ) (lawful : IsProgram p) (there : k < length p.lines) where
  is_known : IsKnownAt p k
  is_known = known_at p k lawful there

  args_count : is_output (line_at p k).word ≡ false → length (step_at p k).sources ≡ (form (line_at p k).word).args
  args_count inner =
      is_known.count
      ∙ asked_plain (is_output (line_at p k).word) (line_at p k).name (line_at p k).args inner
      ∙ is_known.lawful.count

  pub args_are : is_output (line_at p k).word ≡ false → length (step_at p k).sources ≡ (form (line_at p k).word).args
  args_are inner = args_count inner

  pub kinds_give : (sources : List ℕ) → (step_at p k).sources ≡ sources
      → kind_by (form (line_at p k).word).rule (line_width p.width (line_at p k)) (map (kind_at (steps_of p)) sources) ≡ Some (step_at p k).kind
  kinds_give sources e =
      ap (λ places. kind_by (form (line_at p k).word).rule (line_width p.width (line_at p k)) (map (kind_at (steps_of p)) places)) (sym e)
      ∙ is_known.kind

  numeral_in : (line_at p k).number < tail_end (form (line_at p k).word).tail (line_width p.width (line_at p k))
  numeral_in =
      let line : Line = line_at p k in
      ltb-true line.number (tail_end (form line.word).tail (line_width p.width line))
      (and_parts (is_stated (form line.word).stated p.space line.width) (nat_lt line.number (tail_end (form line.word).tail (line_width p.width line))) is_known.lawful.numbers).1

  no_numeral : 2 ≤ (form (line_at p k).word).args → (line_at p k).number ≡ 0
  no_numeral two =
      let e : tail_end (form (line_at p k).word).tail (line_width p.width (line_at p k)) ≡ 1 = ap (λ (t : Tail). tail_end t (line_width p.width (line_at p k))) (bare_word (line_at p k).word two) in
      omega (arith, e, numeral_in)

  pub takes : is_input (line_at p k).word ≡ false → is_output (line_at p k).word ≡ false → (sources : List ℕ) → (step_at p k).sources ≡ sources
      → Takes (line_at p k).word (line_at p k).number (map (kind_at (steps_of p)) sources) (step_at p k).kind
  takes plain inner sources e = record {
    width = line_width p.width (line_at p k);
    plain = plain;
    count = map_length sources ∙ sym (ap length e) ∙ args_count inner;
    numeral = numeral_in;
    gives = kinds_give sources e;
  }
    where
      map_length : (xs : List ℕ) → length (map (kind_at (steps_of p)) xs) ≡ length xs
      map_length [] = refl
      map_length (x ∷ xs) = ap suc (map_length xs)

  -- the same of a word without a numeral
  pub takes_bare : is_input (line_at p k).word ≡ false → is_output (line_at p k).word ≡ false → (sources : List ℕ) → (step_at p k).sources ≡ sources → 2 ≤ length sources
      → Takes (line_at p k).word 0 (map (kind_at (steps_of p)) sources) (step_at p k).kind
  takes_bare plain inner sources e two =
      let n : 2 ≤ (form (line_at p k).word).args = omega (arith, ap length e, args_count inner) in
      subst (λ (n : ℕ). Takes (line_at p k).word n (map (kind_at (steps_of p)) sources) (step_at p k).kind) (no_numeral n) (takes plain inner sources e)

  pub number_none : is_output (line_at p k).word ≡ false → 2 ≤ length (step_at p k).sources → (line_at p k).number ≡ 0
  number_none inner two = no_numeral (omega (arith, args_count inner))

-- ---- what the lines before hold

module _ (p : Program) (k : ℕ) (old : Net) (names : List (List ℕ)) (next : IsNext p old names k) (lawful : IsProgram p) where
  pub kind_holds : (i : ℕ) → IsTrue (is_kind old.space (kind_at (steps_of p) i))
  kind_holds i = subst (λ (s : ℕ). IsTrue (is_kind s (kind_at (steps_of p) i))) (sym next.holds.space_is) (kinds_are p lawful i)

  source_held : (i : ℕ) → i < length (step_at p k).sources → HoldsLine p old (source_at p k i) (get_or names (source_at p k i) [])
  source_held i h =
      let l : source_at p k i < k = source_early p k i lawful next.there h in
      next.holds.lines (source_at p k i) (omega (arith, next.count))

  pub argument_is : (i : ℕ) → i < length (step_at p k).sources → IsArgument old (kind_at (steps_of p) (source_at p k i)) (get_or names (source_at p k i) [])
  argument_is i h = record { kind_is = kind_holds (source_at p k i); form = (source_held i h).form }

  pub room_is : (cost : Cost) → cost ≡ get_or (costs p) k none → HasRoom old cost.jobs
  room_is cost e =
      let j : cost.jobs ≡ (get_or (costs p) k none).jobs = ap (λ (cost : Cost). cost.jobs) e in
      let n : length names ≡ k = next.count in
      let h = next.holds.jobs_in in
      let h' = subst (λ (n : ℕ). length old.jobs + jobs_left p n ≤ jobs_of p) n h in
      omega (arith, j, h', jobs_next p k next.there, next.few)

  -- the values of arguments
  value_held : (i : ℕ) → i < length (step_at p k).sources → (xs : List ℕ) → AreWithin (inputs_of p) xs
      → value_at p xs (source_at p k i) ≡ operand old (kind_at (steps_of p) (source_at p k i)) (get_or names (source_at p k i) []) (digits_for p xs)
  value_held i h xs w = sym ((source_held i h).value_is xs w)

  depth_held : (i : ℕ) → i < length (step_at p k).sources → get_or (depths p) (source_at p k i) 0 ≤ depth_under p k
      → Each (get_or names (source_at p k i) []) (λ o. depth old o ≤ depth_under p k)
  depth_held i h l j q =
      let s : depth old (get_or (get_or names (source_at p k i) []) j 0) ≤ get_or (depths p) (source_at p k i) 0 = (source_held i h).shallow j q in
      omega arith

  -- the cost, in the space of the net
  cost_in : (word : Word) (kind first : NameKind) (cost : Cost) → cost ≡ cost_by word p.space kind first → cost_by word old.space kind first ≡ cost
  cost_in word kind first cost e = ap (λ s. cost_by word s kind first) next.holds.space_is ∙ sym e

  abbrev word : Word
  word = (line_at p k).word

  abbrev kind : NameKind
  kind = (step_at p k).kind

  abbrev kind_of : ℕ → NameKind
  kind_of i = kind_at (steps_of p) (source_at p k i)

  abbrev cells_of : ℕ → List ℕ
  cells_of i = get_or names (source_at p k i) []

  early : (i : ℕ) → i < length (step_at p k).sources → source_at p k i < k
  early i h = source_early p k i lawful next.there h

  pub cost_own : length (step_at p k).sources ≡ 0 → is_output (line_at p k).word ≡ false
      → cost_by (line_at p k).word old.space (step_at p k).kind (step_at p k).kind ≡ get_or (costs p) k none
  cost_own n inner =
      let a : (form (line_at p k).word).args ≡ 0 = sym (args_are p k lawful next.there inner) ∙ n in
      cost_alone word a old.space kind kind (kind_at (steps_of p) (length (steps_of p)))
      ∙ cost_in word kind (kind_at (steps_of p) (length (steps_of p))) (get_or (costs p) k none) (cost_none p k next.there (none_of (step_at p k).sources n))

  pub cost_given : (rest : List ℕ) → (step_at p k).sources ≡ source_at p k 0 ∷ rest
      → cost_by (line_at p k).word old.space (step_at p k).kind (kind_at (steps_of p) (source_at p k 0)) ≡ get_or (costs p) k none
  cost_given rest s = cost_in word kind (kind_of 0) (get_or (costs p) k none) (cost_first p k (source_at p k 0) rest next.there s)

  pub planned_one : (new : Net) (cells : List ℕ) → length (step_at p k).sources ≡ 1 → is_input (line_at p k).word ≡ false
      → RealizesOne (line_at p k).word (line_at p k).number old new (step_at p k).kind cells (kind_at (steps_of p) (source_at p k 0)) (get_or names (source_at p k 0) [])
      → Plans p k old new cells
  planned_one new cells n plain r =
      let s : (step_at p k).sources ≡ source_at p k 0 ∷ [] = one_of (step_at p k).sources n in
      let z : 0 < length (step_at p k).sources = omega (arith, n) in
      planned p k old new names next lawful cells (cost_by word old.space kind (kind_of 0)) (Each (cells_of 0))
      (λ inputs. given_by word (line_at p k).number (operand old (kind_of 0) (cells_of 0) inputs) absent absent) r
      (cost_in word kind (kind_of 0) (get_or (costs p) k none) (cost_first p k (source_at p k 0) [] next.there s))
      (depth_held 0 z (under_first p k (source_at p k 0) [] s))
      (λ xs w. value_one p xs k next.there (source_at p k 0) s (early 0 z)
      ∙ ap (λ n. value_by p k n (value_at p xs (source_at p k 0)) absent absent) (given_number p xs k plain)
      ∙ ap (λ o. value_by p k (line_at p k).number o absent absent) (value_held 0 z xs w))

  pub planned_none : (new : Net) (cells : List ℕ) (cost : Cost) → cost ≡ get_or (costs p) k none → length (step_at p k).sources ≡ 0 → is_input (line_at p k).word ≡ false
      → Realizes old new (step_at p k).kind cells cost (λ _. Unit {0}) (λ inputs. given_by (line_at p k).word (line_at p k).number absent absent absent)
      → Plans p k old new cells
  planned_none new cells cost e n plain r =
      let s : (step_at p k).sources ≡ [] = none_of (step_at p k).sources n in
      planned p k old new names next lawful cells cost (λ _. Unit {0}) (λ inputs. given_by word (line_at p k).number absent absent absent) r e tt
      (λ xs w. value_none p xs k next.there s
      ∙ ap (λ n. value_by p k n absent absent absent) (given_number p xs k plain))

  pub planned_two : (new : Net) (cells : List ℕ) → length (step_at p k).sources ≡ 2 → is_input (line_at p k).word ≡ false → is_output (line_at p k).word ≡ false
      → RealizesTwo (line_at p k).word old new (step_at p k).kind cells (kind_at (steps_of p) (source_at p k 0)) (get_or names (source_at p k 0) []) (kind_at (steps_of p) (source_at p k 1)) (get_or names (source_at p k 1) [])
      → Plans p k old new cells
  planned_two new cells n plain inner r =
      let a : ℕ = source_at p k 0 in
      let b : ℕ = source_at p k 1 in
      let s : (step_at p k).sources ≡ a ∷ b ∷ [] = two_of (step_at p k).sources n in
      let z : 0 < length (step_at p k).sources = omega (arith, n) in
      let y : 1 < length (step_at p k).sources = omega (arith, n) in
      planned p k old new names next lawful cells (cost_by word old.space kind (kind_of 0)) (EachOf (cells_of 0) (cells_of 1))
      (λ inputs. given_by word 0 (operand old (kind_of 0) (cells_of 0) inputs) (operand old (kind_of 1) (cells_of 1) inputs) absent) r
      (cost_in word kind (kind_of 0) (get_or (costs p) k none) (cost_first p k a (b ∷ []) next.there s))
      (depth_held 0 z (under_first p k a (b ∷ []) s), depth_held 1 y (under_second p k a b [] s))
      (λ xs w. value_two p xs k next.there a b s (early 0 z) (early 1 y)
      ∙ ap (λ n. value_by p k n (value_at p xs a) (value_at p xs b) absent)
      (given_number p xs k plain ∙ number_none p k lawful next.there inner (omega (arith, n)))
      ∙ ap (λ o. value_by p k 0 o (value_at p xs b) absent) (value_held 0 z xs w)
      ∙ ap (λ o. value_by p k 0 (operand old (kind_of 0) (cells_of 0) (digits_for p xs)) o absent) (value_held 1 y xs w))

  pub planned_three : (new : Net) (cells : List ℕ) → length (step_at p k).sources ≡ 3 → is_input (line_at p k).word ≡ false → is_output (line_at p k).word ≡ false
      → RealizesThree (line_at p k).word old new (step_at p k).kind cells (kind_at (steps_of p) (source_at p k 0)) (get_or names (source_at p k 0) []) (kind_at (steps_of p) (source_at p k 1)) (get_or names (source_at p k 1) []) (kind_at (steps_of p) (source_at p k 2)) (get_or names (source_at p k 2) [])
      → Plans p k old new cells
  planned_three new cells n plain inner r =
      let a : ℕ = source_at p k 0 in
      let b : ℕ = source_at p k 1 in
      let c : ℕ = source_at p k 2 in
      let s : (step_at p k).sources ≡ a ∷ b ∷ c ∷ [] = three_of (step_at p k).sources n in
      let z : 0 < length (step_at p k).sources = omega (arith, n) in
      let y : 1 < length (step_at p k).sources = omega (arith, n) in
      let x : 2 < length (step_at p k).sources = omega (arith, n) in
      planned p k old new names next lawful cells (cost_by word old.space kind (kind_of 0)) (λ P. Each (cells_of 0) P × Each (cells_of 1) P × Each (cells_of 2) P)
      (λ inputs. given_by word 0 (operand old (kind_of 0) (cells_of 0) inputs) (operand old (kind_of 1) (cells_of 1) inputs) (operand old (kind_of 2) (cells_of 2) inputs)) r
      (cost_in word kind (kind_of 0) (get_or (costs p) k none) (cost_first p k a (b ∷ c ∷ []) next.there s))
      (depth_held 0 z (under_first p k a (b ∷ c ∷ []) s), depth_held 1 y (under_second p k a b (c ∷ []) s), depth_held 2 x (under_third p k a b c [] s))
      (λ xs w. value_three p xs k next.there a b c s (early 0 z) (early 1 y) (early 2 x)
      ∙ ap (λ n. value_by p k n (value_at p xs a) (value_at p xs b) (value_at p xs c))
      (given_number p xs k plain ∙ number_none p k lawful next.there inner (omega (arith, n)))
      ∙ ap (λ o. value_by p k 0 o (value_at p xs b) (value_at p xs c)) (value_held 0 z xs w)
      ∙ ap (λ o. value_by p k 0 (operand old (kind_of 0) (cells_of 0) (digits_for p xs)) o (value_at p xs c)) (value_held 1 y xs w)
      ∙ ap (λ o. value_by p k 0 (operand old (kind_of 0) (cells_of 0) (digits_for p xs)) (operand old (kind_of 1) (cells_of 1) (digits_for p xs)) o) (value_held 2 x xs w))
