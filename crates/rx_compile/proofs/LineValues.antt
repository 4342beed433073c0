-- The value and the bounds of the line at a place, by those of the lines of its arguments.
use Rattle.std.proofs.Common.{◌≡◌, ℕ, zero, suc, ◌+◌, ◌^◌, ◌<◌, ◌≤◌, max, Bool, true, false, List, [], ◌∷◌, ◌++◌, length, get_or, take, refl, sym, ap, subst, ◌∙◌, arith, append-nil}
use Rattle.std.specs.Prelude.{if◌then◌else◌}
use Rattle.std.specs.List.{AllByRecursion}
use Rattle.std.proofs.lemmas.List.{get_or_past, get_or-take}
use Rattle.rx_residue.specs.Residues.{residue}
use Rattle.rx_residue.proofs.Turns.{residue_below}
use Rattle.rx_costs.specs.declared.table.Cost.{Cost}
use Rattle.rx_language.specs.declared.word.Word.{Word}
use Rattle.rx_language.specs.declared.line.Line.{Line}
use Rattle.rx_language.specs.declared.line.Step.{Step}
use Rattle.rx_language.specs.declared.word.Word.TheVariants.{In, Inw, Ins, Inbit, Const, Constw, Add, Sub, Mul, Div, Rem, Neg, And, Or, Xor, Not, Shl, Shr, Shlv, Shrv, Eq, Ne, Lt, Le, Gt, Ge, Select, Min, Max, Cast, Casts, Out}
use Rattle.rx_language.specs.declared.kind.NameKind.{NameKind}
use Rattle.rx_language.specs.Words.{form, is_input}
use Rattle.rx_language.specs.Kinds.{bits_of}
use Rattle.rx_language.specs.Programs.{Program, no_step, kind_at, steps_of}
use Rattle.rx_language.proofs.Steps.{regrouped, length-by}
use Rattle.rx_meaning.specs.declared.operand.Operand.{Operand}
use Rattle.rx_meaning.specs.Operations.{given_by}
use Rattle.rx_meaning.specs.Values.{absent, argument, value_after, given_to, next_after, values_from, line_values}
use Rattle.rx_meaning.specs.Costs.{none, cost_by}
use Rattle.rx_meaning.specs.Bounds.{cost_of, costs_of, greatest, greatest_at, depth_after, depths_from, depth_of}
use Rattle.rx_compile.specs.States.{no_line, line_at, step_at, costs, depths}

-- the number of the next input after these lines
abbrev pub next_at : ℕ → List Line → ℕ
next_at next [] = next
next_at next (line ∷ lines) = next_at (next_after next line) lines

-- ---- values

values_at : (xs : List ℕ) (before : List Operand) (next : ℕ) (lines : List Line) (steps : List Step) (k : ℕ) → k < length lines → k < length steps
    → get_or (values_from xs before next lines steps) k absent
    ≡ value_after (before ++ take k (values_from xs before next lines steps)) (given_to xs (next_at next (take k lines)) (get_or lines k no_line)) (get_or lines k no_line) (get_or steps k no_step)
unfolding values_from
values_at xs before next [] steps k h l = absurd (omega arith)
values_at xs before next (line ∷ lines) [] k h l = absurd (omega arith)
values_at xs before next (line ∷ lines) (step ∷ steps) zero h l = ap (λ b. value_after b (given_to xs next line) line step) (sym (append-nil before))
values_at xs before next (line ∷ lines) (step ∷ steps) (suc k) h l =
    let v : Operand = value_after before (given_to xs next line) line step in
    let rest : List Operand = values_from xs (before ++ v ∷ []) (next_after next line) lines steps in
    values_at xs (before ++ v ∷ []) (next_after next line) lines steps k (omega arith) (omega arith)
    ∙ ap (λ b. value_after b (given_to xs (next_at (next_after next line) (take k lines)) (get_or lines k no_line)) (get_or lines k no_line) (get_or steps k no_step))
    (sym (regrouped before v (take k rest)))

values_many : (xs : List ℕ) (before : List Operand) (next : ℕ) (lines : List Line) (steps : List Step) → length steps ≡ length lines → length (values_from xs before next lines steps) ≡ length lines
unfolding values_from
values_many xs before next [] steps h = refl
values_many xs before next (line ∷ lines) [] h = absurd (omega arith)
values_many xs before next (line ∷ lines) (step ∷ steps) h =
    ap suc (values_many xs (before ++ value_after before (given_to xs next line) line step ∷ []) (next_after next line) lines steps (omega arith))

pub values_count : (p : Program) (xs : List ℕ) → length (line_values p xs) ≡ length p.lines
values_count p xs = values_many xs [] 0 p.lines (steps_of p) (length-by p.width p.lines)

-- what is given to the line at a place
abbrev pub given_at : Program → List ℕ → ℕ → ℕ
given_at p xs k = given_to xs (next_at 0 (take k p.lines)) (line_at p k)

-- the value of the line at a place, of what is given to it and of these arguments
abbrev pub value_by : Program → ℕ → ℕ → Operand → Operand → Operand → Operand
value_by p k given a b c = record {
  kind = (step_at p k).kind;
  value = residue (bits_of (step_at p k).kind) (given_by (line_at p k).word given a b c);
}

abbrev pub value_of : Program → List ℕ → ℕ → Operand → Operand → Operand → Operand
value_of p xs k a b c = value_by p k (given_at p xs k) a b c

-- the value of an earlier line
abbrev pub value_at : Program → List ℕ → ℕ → Operand
value_at p xs k = get_or (line_values p xs) k absent

module _ (p : Program) (xs : List ℕ) (k : ℕ) (h : k < length p.lines) where
  so_far : List Operand
  so_far = take k (line_values p xs)

  value_is : value_at p xs k ≡ value_of p xs k (argument so_far (step_at p k).sources 0) (argument so_far (step_at p k).sources 1) (argument so_far (step_at p k).sources 2)
  unfolding so_far
  value_is = values_at xs [] 0 p.lines (steps_of p) k h (omega (arith, length-by p.width p.lines))

  pub value_below : (value_at p xs k).value < 2 ^ bits_of (step_at p k).kind
  value_below =
      let a : Operand = argument so_far (step_at p k).sources 0 in
      let b : Operand = argument so_far (step_at p k).sources 1 in
      let c : Operand = argument so_far (step_at p k).sources 2 in
      subst (λ (o : Operand). o.value < 2 ^ bits_of (step_at p k).kind) (sym value_is)
      (residue_below (bits_of (step_at p k).kind) (given_by (line_at p k).word (given_at p xs k) a b c))

  lacking : get_or so_far (length so_far) absent ≡ absent
  lacking = get_or_past so_far (length so_far) absent (omega arith)

  earlier : (i : ℕ) → i < k → get_or so_far i absent ≡ value_at p xs i
  unfolding so_far
  earlier i l = get_or-take k (line_values p xs) i absent l

  over : (sources : List ℕ) → (step_at p k).sources ≡ sources → value_at p xs k ≡ value_of p xs k (argument so_far sources 0) (argument so_far sources 1) (argument so_far sources 2)
  over sources e = value_is ∙ ap (λ places. value_of p xs k (argument so_far places 0) (argument so_far places 1) (argument so_far places 2)) e

  pub value_none : (step_at p k).sources ≡ [] → value_at p xs k ≡ value_of p xs k absent absent absent
  value_none e = over [] e ∙ ap (λ o. value_of p xs k o o o) lacking

  pub value_one : (a : ℕ) → (step_at p k).sources ≡ a ∷ [] → a < k → value_at p xs k ≡ value_of p xs k (value_at p xs a) absent absent
  value_one a e f =
      over (a ∷ []) e
      ∙ ap (λ o. value_of p xs k (get_or so_far a absent) o o) lacking
      ∙ ap (λ o. value_of p xs k o absent absent) (earlier a f)

  pub value_two : (a b : ℕ) → (step_at p k).sources ≡ a ∷ b ∷ [] → a < k → b < k → value_at p xs k ≡ value_of p xs k (value_at p xs a) (value_at p xs b) absent
  value_two a b e f g =
      over (a ∷ b ∷ []) e
      ∙ ap (λ o. value_of p xs k (get_or so_far a absent) (get_or so_far b absent) o) lacking
      ∙ ap (λ o. value_of p xs k o (get_or so_far b absent) absent) (earlier a f)
      ∙ ap (λ o. value_of p xs k (value_at p xs a) o absent) (earlier b g)

  pub value_three : (a b c : ℕ) → (step_at p k).sources ≡ a ∷ b ∷ c ∷ [] → a < k → b < k → c < k → value_at p xs k ≡ value_of p xs k (value_at p xs a) (value_at p xs b) (value_at p xs c)
  value_three a b c e f g i =
      over (a ∷ b ∷ c ∷ []) e
      ∙ ap (λ o. value_of p xs k o (get_or so_far b absent) (get_or so_far c absent)) (earlier a f)
      ∙ ap (λ o. value_of p xs k (value_at p xs a) o (get_or so_far c absent)) (earlier b g)
      ∙ ap (λ o. value_of p xs k (value_at p xs a) (value_at p xs b) o) (earlier c i)

-- the numeral is what is given to a line that is no input
pub given_number : (p : Program) (xs : List ℕ) (k : ℕ) → is_input (line_at p k).word ≡ false → given_at p xs k ≡ (line_at p k).number
given_number p xs k e = ap (λ (b : Bool). if b then get_or xs (next_at 0 (take k p.lines)) 0 else (line_at p k).number) e

pub given_input : (p : Program) (xs : List ℕ) (k : ℕ) → is_input (line_at p k).word ≡ true → given_at p xs k ≡ get_or xs (next_at 0 (take k p.lines)) 0
given_input p xs k e = ap (λ (b : Bool). if b then get_or xs (next_at 0 (take k p.lines)) 0 else (line_at p k).number) e

-- ---- costs

costs_at : (space : ℕ) (all : List Step) (lines : List Line) (steps : List Step) (k : ℕ) → k < length lines → k < length steps
    → get_or (costs_of space all lines steps) k none ≡ cost_of space all (get_or lines k no_line) (get_or steps k no_step)
unfolding costs_of
costs_at space all [] steps k h l = absurd (omega arith)
costs_at space all (line ∷ lines) [] k h l = absurd (omega arith)
costs_at space all (line ∷ lines) (step ∷ steps) zero h l = refl
costs_at space all (line ∷ lines) (step ∷ steps) (suc k) h l = costs_at space all lines steps k (omega arith) (omega arith)

costs_many : (space : ℕ) (all : List Step) (lines : List Line) (steps : List Step) → length steps ≡ length lines → length (costs_of space all lines steps) ≡ length lines
unfolding costs_of
costs_many space all [] steps h = refl
costs_many space all (line ∷ lines) [] h = absurd (omega arith)
costs_many space all (line ∷ lines) (step ∷ steps) h = ap suc (costs_many space all lines steps (omega arith))

pub costs_count : (p : Program) → length (costs p) ≡ length p.lines
costs_count p = costs_many p.space (steps_of p) p.lines (steps_of p) (length-by p.width p.lines)

pub cost_is : (p : Program) (k : ℕ) → k < length p.lines → get_or (costs p) k none ≡ cost_of p.space (steps_of p) (line_at p k) (step_at p k)
cost_is p k h = costs_at p.space (steps_of p) p.lines (steps_of p) k h (omega (arith, length-by p.width p.lines))

-- the cost by the kind of the first argument
pub cost_none : (p : Program) (k : ℕ) → k < length p.lines → (step_at p k).sources ≡ []
    → get_or (costs p) k none ≡ cost_by (line_at p k).word p.space (step_at p k).kind (kind_at (steps_of p) (length (steps_of p)))
cost_none p k h e =
    cost_is p k h
    ∙ ap (λ (sources : List ℕ). cost_by (line_at p k).word p.space (step_at p k).kind (kind_at (steps_of p) (get_or sources 0 (length (steps_of p))))) e

pub cost_first : (p : Program) (k a : ℕ) (rest : List ℕ) → k < length p.lines → (step_at p k).sources ≡ a ∷ rest
    → get_or (costs p) k none ≡ cost_by (line_at p k).word p.space (step_at p k).kind (kind_at (steps_of p) a)
cost_first p k a rest h e =
    cost_is p k h
    ∙ ap (λ (sources : List ℕ). cost_by (line_at p k).word p.space (step_at p k).kind (kind_at (steps_of p) (get_or sources 0 (length (steps_of p))))) e

-- ---- depths

depths_at : (before : List ℕ) (given : List Cost) (steps : List Step) (k : ℕ) → k < length given → k < length steps
    → get_or (depths_from before given steps) k 0 ≡ depth_after (before ++ take k (depths_from before given steps)) (get_or given k none) (get_or steps k no_step)
unfolding depths_from
depths_at before [] steps k h l = absurd (omega arith)
depths_at before (cost ∷ given) [] k h l = absurd (omega arith)
depths_at before (cost ∷ given) (step ∷ steps) zero h l = ap (λ b. depth_after b cost step) (sym (append-nil before))
depths_at before (cost ∷ given) (step ∷ steps) (suc k) h l =
    let d : ℕ = depth_after before cost step in
    let rest : List ℕ = depths_from (before ++ d ∷ []) given steps in
    depths_at (before ++ d ∷ []) given steps k (omega arith) (omega arith)
    ∙ ap (λ b. depth_after b (get_or given k none) (get_or steps k no_step)) (sym (regrouped before d (take k rest)))

pub depth_is : (p : Program) (k : ℕ) → k < length p.lines → get_or (depths p) k 0 ≡ (get_or (costs p) k none).depth + greatest_at (take k (depths p)) (step_at p k).sources
depth_is p k h = depths_at [] (costs p) (steps_of p) k (omega (arith, costs_count p)) (omega (arith, length-by p.width p.lines))

-- places before are among the first
greatest_early : (numbers : List ℕ) (k : ℕ) (places : List ℕ) → AllByRecursion (λ place. place < k) places → greatest_at (take k numbers) places ≡ greatest_at numbers places
unfolding greatest
greatest_early numbers k [] h = refl
greatest_early numbers k (place ∷ places) h =
    ap (λ n. max n (greatest_at (take k numbers) places)) (get_or-take k numbers place 0 h.0)
    ∙ ap (max (get_or numbers place 0)) (greatest_early numbers k places h.1)

-- the greatest depth of the arguments of the line at a place
abbrev pub depth_under : Program → ℕ → ℕ
depth_under p k = greatest_at (depths p) (step_at p k).sources

pub depth_line : (p : Program) (k : ℕ) → k < length p.lines → AllByRecursion (λ place. place < k) (step_at p k).sources
    → get_or (depths p) k 0 ≡ depth_under p k + (get_or (costs p) k none).depth
depth_line p k h e =
    let d : greatest_at (take k (depths p)) (step_at p k).sources ≡ depth_under p k = greatest_early (depths p) k (step_at p k).sources e in
    omega (arith, depth_is p k h, d)

pub below_greatest : (numbers : List ℕ) (k : ℕ) → get_or numbers k 0 ≤ greatest numbers
unfolding greatest
below_greatest [] k = omega arith
below_greatest (x ∷ numbers) zero = omega arith
below_greatest (x ∷ numbers) (suc k) = let i : get_or numbers k 0 ≤ greatest numbers = below_greatest numbers k in omega arith

pub depth_small : (p : Program) (k : ℕ) → get_or (depths p) k 0 ≤ depth_of p
depth_small p k = below_greatest (depths p) k

-- the depth of an argument
pub under_first : (p : Program) (k a : ℕ) (rest : List ℕ) → (step_at p k).sources ≡ a ∷ rest → get_or (depths p) a 0 ≤ depth_under p k
unfolding greatest
under_first p k a rest e =
    let g : depth_under p k ≡ max (get_or (depths p) a 0) (greatest_at (depths p) rest) = ap (greatest_at (depths p)) e in
    omega arith

pub under_second : (p : Program) (k a b : ℕ) (rest : List ℕ) → (step_at p k).sources ≡ a ∷ b ∷ rest → get_or (depths p) b 0 ≤ depth_under p k
unfolding greatest
under_second p k a b rest e =
    let g : depth_under p k ≡ max (get_or (depths p) a 0) (max (get_or (depths p) b 0) (greatest_at (depths p) rest)) = ap (greatest_at (depths p)) e in
    omega arith

pub under_third : (p : Program) (k a b c : ℕ) (rest : List ℕ) → (step_at p k).sources ≡ a ∷ b ∷ c ∷ rest → get_or (depths p) c 0 ≤ depth_under p k
unfolding greatest
under_third p k a b c rest e =
    let g : depth_under p k ≡ max (get_or (depths p) a 0) (max (get_or (depths p) b 0) (max (get_or (depths p) c 0) (greatest_at (depths p) rest))) = ap (greatest_at (depths p)) e in
    omega arith

-- a line without arguments costs the same whatever stands for its first
pub cost_alone : (word : Word) → (form word).args ≡ 0 → (space : ℕ) (kind f g : NameKind) → cost_by word space kind f ≡ cost_by word space kind g
unfolding cost_by
cost_alone In h space kind f g = refl
cost_alone Inw h space kind f g = refl
cost_alone Ins h space kind f g = refl
cost_alone Inbit h space kind f g = refl
cost_alone Const h space kind f g = refl
cost_alone Constw h space kind f g = refl
cost_alone Add h space kind f g = absurd (omega arith)
cost_alone Sub h space kind f g = absurd (omega arith)
cost_alone Mul h space kind f g = absurd (omega arith)
cost_alone Div h space kind f g = absurd (omega arith)
cost_alone Rem h space kind f g = absurd (omega arith)
cost_alone Neg h space kind f g = absurd (omega arith)
cost_alone And h space kind f g = absurd (omega arith)
cost_alone Or h space kind f g = absurd (omega arith)
cost_alone Xor h space kind f g = absurd (omega arith)
cost_alone Not h space kind f g = absurd (omega arith)
cost_alone Shl h space kind f g = absurd (omega arith)
cost_alone Shr h space kind f g = absurd (omega arith)
cost_alone Shlv h space kind f g = absurd (omega arith)
cost_alone Shrv h space kind f g = absurd (omega arith)
cost_alone Eq h space kind f g = absurd (omega arith)
cost_alone Ne h space kind f g = absurd (omega arith)
cost_alone Lt h space kind f g = absurd (omega arith)
cost_alone Le h space kind f g = absurd (omega arith)
cost_alone Gt h space kind f g = absurd (omega arith)
cost_alone Ge h space kind f g = absurd (omega arith)
cost_alone Select h space kind f g = absurd (omega arith)
cost_alone Min h space kind f g = absurd (omega arith)
cost_alone Max h space kind f g = absurd (omega arith)
cost_alone Cast h space kind f g = absurd (omega arith)
cost_alone Casts h space kind f g = absurd (omega arith)
cost_alone Out h space kind f g = refl
