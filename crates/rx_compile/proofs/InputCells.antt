-- The cells of an input hold what is given to its line, and those of an output what its argument holds.
use Rattle.std.proofs.Common.{◌≡◌, ℕ, ◌+◌, ◌*◌, ◌%◌, ◌^◌, ◌<◌, ◌≤◌, pos, Bool, true, false, List, [], ◌∷◌, ◌++◌, length, get_or, map, take, drop, Option, Some, refl, sym, ap, subst, ◌∙◌, arith}
use Rattle.std.specs.Prelude.{if◌then◌else◌}
use Rattle.std.specs.List.{range_with_len}
use Rattle.std.proofs.lemmas.List.FromFn.{length-range_with_len, get_or-range_with_len}
use Rattle.std.proofs.Math.Nat.{mod-eq_of_lt}
use Rattle.rx_params.specs.Kinds.{greatest, block_count, digit_at}
use Rattle.rx_residue.specs.Residues.{residue}
use Rattle.rx_residue.proofs.Turns.{residue_same}
use Rattle.rx_net.specs.declared.net.NetInput.{NetInput}
use Rattle.rx_net.specs.declared.net.Net.{Net}
use Rattle.rx_net.specs.Cells.{input_cells, cell_count, given, value, degree, noise, depth, values_after, depths_after, job_value, one_deeper}
use Rattle.rx_net.proofs.Laid.{laid_before}
use Rattle.rx_net.proofs.Inputs.{length-given, given_degree, given_noise}
use Rattle.rx_net.proofs.Grows.{extends_same}
use Rattle.rx_plan.specs.Values.{number, number_held, cell_value}
use Rattle.rx_plan.specs.Planned.{IsCell}
use Rattle.rx_plan.proofs.Numbers.{number_same, number_held-is, digits_number, pow_pow}
use Rattle.rx_language.specs.declared.word.Word.{Word}
use Rattle.rx_language.specs.declared.word.Word.TheVariants.{In, Inw, Ins, Inbit, Const, Constw, Add, Sub, Mul, Div, Rem, Neg, And, Or, Xor, Not, Shl, Shr, Shlv, Shrv, Eq, Ne, Lt, Le, Gt, Ge, Select, Min, Max, Cast, Casts, Out}
use Rattle.rx_language.specs.declared.kind.NameKind.{NameKind}
use Rattle.rx_language.specs.Words.{form, is_input, is_output}
use Rattle.rx_language.specs.Kinds.{bits_of, kind_by}
use Rattle.rx_language.specs.Programs.{Program, Port, kind_at, ports_in, line_width, steps_of, inputs_of, IsProgram}
use Rattle.rx_meaning.specs.declared.operand.Operand.{Operand}
use Rattle.rx_meaning.specs.Operations.{given_by}
use Rattle.rx_meaning.specs.Values.{AreWithin, absent, line_values}
use Rattle.rx_meaning.proofs.LineKinds.{kinds_are, space_is}
use Rattle.rx_compile.specs.Compiled.{file_kind, net_input, input_digits}
use Rattle.rx_compile.specs.Realized.{HasForm}
use Rattle.rx_compile.specs.States.{line_at, step_at, source_at, first_cell, depths, digits_for, HoldsLine, IsNext, Plans}
use Rattle.rx_compile.proofs.Places.{known_at}
use Rattle.rx_compile.proofs.Steps.{source_early}
use Rattle.rx_compile.proofs.LineValues.{value_at, next_at, given_at, given_input, value_none, value_one, depth_under, depth_line, under_first, value_below}
use Rattle.rx_compile.proofs.Ports.{inner_input, port_of, ports_parted, first_lines, next_count}
use Rattle.rx_compile.proofs.PortDigits.{blocks, nets, digits_at, digits_many, input_within, cells_among, given_among, blocks_hold}
use Rattle.rx_compile.proofs.Wanted.{none_of, one_of, args_are, kinds_give}

-- ---- a line that is given a value

pub given_word : (word : Word) → is_input word ≡ true → (given : ℕ) (a b c : Operand) → given_by word given a b c ≡ pos given
unfolding given_by
given_word In h given a b c = refl
given_word Inw h given a b c = refl
given_word Ins h given a b c = refl
given_word Inbit h given a b c = refl
given_word Const h given a b c = absurd cc
given_word Constw h given a b c = absurd cc
given_word Add h given a b c = absurd cc
given_word Sub h given a b c = absurd cc
given_word Mul h given a b c = absurd cc
given_word Div h given a b c = absurd cc
given_word Rem h given a b c = absurd cc
given_word Neg h given a b c = absurd cc
given_word And h given a b c = absurd cc
given_word Or h given a b c = absurd cc
given_word Xor h given a b c = absurd cc
given_word Not h given a b c = absurd cc
given_word Shl h given a b c = absurd cc
given_word Shr h given a b c = absurd cc
given_word Shlv h given a b c = absurd cc
given_word Shrv h given a b c = absurd cc
given_word Eq h given a b c = absurd cc
given_word Ne h given a b c = absurd cc
given_word Lt h given a b c = absurd cc
given_word Le h given a b c = absurd cc
given_word Gt h given a b c = absurd cc
given_word Ge h given a b c = absurd cc
given_word Select h given a b c = absurd cc
given_word Min h given a b c = absurd cc
given_word Max h given a b c = absurd cc
given_word Cast h given a b c = absurd cc
given_word Casts h given a b c = absurd cc
given_word Out h given a b c = absurd cc

pub out_word : (word : Word) → is_output word ≡ true → (given : ℕ) (a b c : Operand) → given_by word given a b c ≡ pos a.value
unfolding given_by
out_word In h given a b c = absurd cc
out_word Inw h given a b c = absurd cc
out_word Ins h given a b c = absurd cc
out_word Inbit h given a b c = absurd cc
out_word Const h given a b c = absurd cc
out_word Constw h given a b c = absurd cc
out_word Add h given a b c = absurd cc
out_word Sub h given a b c = absurd cc
out_word Mul h given a b c = absurd cc
out_word Div h given a b c = absurd cc
out_word Rem h given a b c = absurd cc
out_word Neg h given a b c = absurd cc
out_word And h given a b c = absurd cc
out_word Or h given a b c = absurd cc
out_word Xor h given a b c = absurd cc
out_word Not h given a b c = absurd cc
out_word Shl h given a b c = absurd cc
out_word Shr h given a b c = absurd cc
out_word Shlv h given a b c = absurd cc
out_word Shrv h given a b c = absurd cc
out_word Eq h given a b c = absurd cc
out_word Ne h given a b c = absurd cc
out_word Lt h given a b c = absurd cc
out_word Le h given a b c = absurd cc
out_word Gt h given a b c = absurd cc
out_word Ge h given a b c = absurd cc
out_word Select h given a b c = absurd cc
out_word Min h given a b c = absurd cc
out_word Max h given a b c = absurd cc
out_word Cast h given a b c = absurd cc
out_word Casts h given a b c = absurd cc
out_word Out h given a b c = refl

pub input_args : (word : Word) → is_input word ≡ true → (form word).args ≡ 0
input_args In h = refl
input_args Inw h = refl
input_args Ins h = refl
input_args Inbit h = refl
input_args Const h = absurd cc
input_args Constw h = absurd cc
input_args Add h = absurd cc
input_args Sub h = absurd cc
input_args Mul h = absurd cc
input_args Div h = absurd cc
input_args Rem h = absurd cc
input_args Neg h = absurd cc
input_args And h = absurd cc
input_args Or h = absurd cc
input_args Xor h = absurd cc
input_args Not h = absurd cc
input_args Shl h = absurd cc
input_args Shr h = absurd cc
input_args Shlv h = absurd cc
input_args Shrv h = absurd cc
input_args Eq h = absurd cc
input_args Ne h = absurd cc
input_args Lt h = absurd cc
input_args Le h = absurd cc
input_args Gt h = absurd cc
input_args Ge h = absurd cc
input_args Select h = absurd cc
input_args Min h = absurd cc
input_args Max h = absurd cc
input_args Cast h = absurd cc
input_args Casts h = absurd cc
input_args Out h = absurd cc

out_plain : (word : Word) → is_output word ≡ true → is_input word ≡ false
out_plain In h = absurd cc
out_plain Inw h = absurd cc
out_plain Ins h = absurd cc
out_plain Inbit h = absurd cc
out_plain Const h = absurd cc
out_plain Constw h = absurd cc
out_plain Add h = absurd cc
out_plain Sub h = absurd cc
out_plain Mul h = absurd cc
out_plain Div h = absurd cc
out_plain Rem h = absurd cc
out_plain Neg h = absurd cc
out_plain And h = absurd cc
out_plain Or h = absurd cc
out_plain Xor h = absurd cc
out_plain Not h = absurd cc
out_plain Shl h = absurd cc
out_plain Shr h = absurd cc
out_plain Shlv h = absurd cc
out_plain Shrv h = absurd cc
out_plain Eq h = absurd cc
out_plain Ne h = absurd cc
out_plain Lt h = absurd cc
out_plain Le h = absurd cc
out_plain Gt h = absurd cc
out_plain Ge h = absurd cc
out_plain Select h = absurd cc
out_plain Min h = absurd cc
out_plain Max h = absurd cc
out_plain Cast h = absurd cc
out_plain Casts h = absurd cc
out_plain Out h = refl

out_kind : (word : Word) → is_output word ≡ true → (width : ℕ) (kind : NameKind) → kind_by (form word).rule width (kind ∷ []) ≡ Some kind
out_kind In h width kind = absurd cc
out_kind Inw h width kind = absurd cc
out_kind Ins h width kind = absurd cc
out_kind Inbit h width kind = absurd cc
out_kind Const h width kind = absurd cc
out_kind Constw h width kind = absurd cc
out_kind Add h width kind = absurd cc
out_kind Sub h width kind = absurd cc
out_kind Mul h width kind = absurd cc
out_kind Div h width kind = absurd cc
out_kind Rem h width kind = absurd cc
out_kind Neg h width kind = absurd cc
out_kind And h width kind = absurd cc
out_kind Or h width kind = absurd cc
out_kind Xor h width kind = absurd cc
out_kind Not h width kind = absurd cc
out_kind Shl h width kind = absurd cc
out_kind Shr h width kind = absurd cc
out_kind Shlv h width kind = absurd cc
out_kind Shrv h width kind = absurd cc
out_kind Eq h width kind = absurd cc
out_kind Ne h width kind = absurd cc
out_kind Lt h width kind = absurd cc
out_kind Le h width kind = absurd cc
out_kind Gt h width kind = absurd cc
out_kind Ge h width kind = absurd cc
out_kind Select h width kind = absurd cc
out_kind Min h width kind = absurd cc
out_kind Max h width kind = absurd cc
out_kind Cast h width kind = absurd cc
out_kind Casts h width kind = absurd cc
out_kind Out h width kind = refl

-- ---- the cells of an input

-- of an input cell
module _ (net : Net) (c : ℕ) (there : c < input_cells net.space net.inputs) where
  value_given : (xs : List ℕ) → length xs ≡ input_cells net.space net.inputs → value net xs c ≡ get_or xs c 0
  unfolding value values_after
  value_given xs e = laid_before job_value xs net.jobs 0 c (omega (arith, e))

  degree_given : degree net c ≡ get_or (given net.space (λ i. i.degree) net.inputs) c 0
  unfolding degree
  degree_given = given_degree net.space net.inputs net.jobs c there

  noise_given : noise net c ≡ get_or (given net.space (λ i. i.noise) net.inputs) c 0
  unfolding noise
  noise_given = given_noise net.space net.inputs net.jobs c there

  pub depth_given : depth net c ≡ get_or (given net.space (λ i. 0) net.inputs) c 0
  unfolding depth depths_after
  depth_given = laid_before one_deeper (given net.space (λ i. 0) net.inputs) net.jobs 0 c (omega (arith, length-given net.space (λ i. 0) net.inputs))

module _ (p : Program) (k : ℕ) (net : Net) (names : List (List ℕ)) (next : IsNext p net names k) (lawful : IsProgram p) (is : is_input (line_at p k).word ≡ true) where
  abbrev port : Port
  port = port_of (line_at p k) (step_at p k)

  abbrev before : List Port
  before = ports_in is_input (take k p.lines) (take k (steps_of p))

  abbrev after : List Port
  after = ports_in is_input (drop (k + 1) p.lines) (drop (k + 1) (steps_of p))

  inputs_parted : inputs_of p ≡ before ++ port ∷ after
  inputs_parted =
      ports_parted p k next.there is_input
      ∙ ap (λ (b : Bool). ports_in is_input (take k p.lines) (take k (steps_of p))
      ++ ((if b then port_of (line_at p k) (step_at p k) ∷ [] else []) ++ ports_in is_input (drop (k + 1) p.lines) (drop (k + 1) (steps_of p)))) is

  abbrev count : ℕ
  count = blocks p.space port

  nets_are : net.inputs ≡ nets p.space (before ++ port ∷ after)
  nets_are = next.holds.inputs_are ∙ ap (map (net_input p.space)) inputs_parted

  first_is : first_cell p k ≡ input_cells p.space (nets p.space before)
  first_is = refl

  cells_all : input_cells net.space net.inputs ≡ input_cells p.space (nets p.space (before ++ port ∷ after))
  cells_all = ap (λ s. input_cells s net.inputs) next.holds.space_is ∙ ap (input_cells p.space) nets_are

  pub input_room : first_cell p k + block_count (file_kind (step_at p k).kind) p.space (bits_of (step_at p k).kind) ≤ input_cells net.space net.inputs
  input_room = omega (arith, first_is, cells_all, cells_among p.space before port after)

  there : (i : ℕ) → i < count → first_cell p k + i < input_cells net.space net.inputs
  there i h = omega (arith, input_room)

  given_is : (number : NetInput → ℕ) (i : ℕ) → i < count → get_or (given net.space number net.inputs) (first_cell p k + i) 0 ≡ number (net_input p.space port)
  given_is number i h =
      ap (λ s. get_or (given s number net.inputs) (first_cell p k + i) 0) next.holds.space_is
      ∙ ap (λ is. get_or (given p.space number is) (first_cell p k + i) 0) nets_are
      ∙ ap (λ c. get_or (given p.space number (nets p.space (before ++ port ∷ after))) (c + i) 0) first_is
      ∙ given_among p.space number before port after i h

  cell_is : (i : ℕ) → i < count → IsCell net (greatest (file_kind (step_at p k).kind) net.space) (first_cell p k + i)
  unfolding cell_count
  cell_is i h =
      let t : first_cell p k + i < input_cells net.space net.inputs = there i h in
      let d : degree net (first_cell p k + i) ≡ greatest (file_kind (step_at p k).kind) p.space = degree_given net (first_cell p k + i) t ∙ given_is (λ i. i.degree) i h in
      let e : greatest (file_kind (step_at p k).kind) p.space ≡ greatest (file_kind (step_at p k).kind) net.space = ap (greatest (file_kind (step_at p k).kind)) (sym next.holds.space_is) in
      record {
        there = omega (arith, t);
        degree_in = omega (arith, d, e);
        noise_is = noise_given net (first_cell p k + i) t ∙ given_is (λ i. i.noise) i h;
      }

  depth_none : (i : ℕ) → i < count → depth net (first_cell p k + i) ≡ 0
  depth_none i h = depth_given net (first_cell p k + i) (there i h) ∙ given_is (λ i. 0) i h

  -- ---- the value

  abbrev input : List ℕ → ℕ
  input xs = get_or xs (length before) 0

  next_is : next_at 0 (take k p.lines) ≡ length before
  next_is = next_count 0 (take k p.lines) (take k (steps_of p)) (first_lines p k next.there) ∙ (omega arith)

  input_small : (xs : List ℕ) → AreWithin (inputs_of p) xs → input xs < 2 ^ bits_of (step_at p k).kind
  input_small xs w = input_within before port after xs (subst (λ ports. AreWithin ports xs) inputs_parted w)

  cell_holds : (xs : List ℕ) → AreWithin (inputs_of p) xs → (i : ℕ) → i < count → value net (digits_for p xs) (first_cell p k + i) ≡ digit_at p.space (input xs) i
  cell_holds xs w i h =
      let w' : AreWithin (before ++ port ∷ after) xs = subst (λ ports. AreWithin ports xs) inputs_parted w in
      let d : digits_for p xs ≡ input_digits p.space (before ++ port ∷ after) xs = ap (λ ports. input_digits p.space ports xs) inputs_parted in
      let n : length (digits_for p xs) ≡ input_cells net.space net.inputs = ap length d ∙ digits_many p.space (before ++ port ∷ after) xs w' ∙ sym cells_all in
      value_given net (first_cell p k + i) (there i h) (digits_for p xs) n
      ∙ ap (λ ds. get_or ds (first_cell p k + i) 0) d
      ∙ ap (λ c. get_or (input_digits p.space (before ++ port ∷ after) xs) (c + i) 0) first_is
      ∙ digits_at p.space before port after xs i w' h

  abbrev cells : List ℕ
  cells = range_with_len (first_cell p k) count

  cell_at : (i : ℕ) → i < count → get_or cells i 0 ≡ first_cell p k + i
  cell_at i h = get_or-range_with_len (first_cell p k) count i 0 h

  cells_count : length cells ≡ count
  cells_count = length-range_with_len (first_cell p k) count

  number_is : (xs : List ℕ) → AreWithin (inputs_of p) xs → number_held net cells (digits_for p xs) ≡ input xs
  number_is xs w =
      let x : ℕ = input xs in
      let small : x < 2 ^ (p.space * count) = small_in xs w in
      number_held-is net cells (digits_for p xs)
      ∙ ap (λ s. number (2 ^ s) (length cells) (cell_value net cells (digits_for p xs))) next.holds.space_is
      ∙ ap (λ n. number (2 ^ p.space) n (cell_value net cells (digits_for p xs))) cells_count
      ∙ number_same (2 ^ p.space) count (cell_value net cells (digits_for p xs)) (digit_at p.space x)
      (λ i q. ap (value net (digits_for p xs)) (cell_at i q) ∙ cell_holds xs w i q)
      ∙ digits_number p.space count x
      ∙ ap (λ n. x % n) (pow_pow p.space count)
      ∙ mod-eq_of_lt small
    where
      small_in : (xs : List ℕ) → AreWithin (inputs_of p) xs → input xs < 2 ^ (p.space * count)
      small_in xs w = blocks_hold p.space (step_at p k).kind (input xs) (space_is p lawful) (kinds_are p lawful k) (input_small xs w)

  -- the line has no arguments, and its value is what is given
  no_sources : (step_at p k).sources ≡ []
  no_sources =
      let known = known_at p k lawful next.there in
      let inner : is_output (line_at p k).word ≡ false = inner_input (line_at p k).word is in
      none_of (step_at p k).sources (args_are p k lawful next.there inner ∙ input_args (line_at p k).word is)

  line_value : (xs : List ℕ) → AreWithin (inputs_of p) xs → get_or (line_values p xs) k absent ≡ record { kind = (step_at p k).kind; value = input xs }
  line_value xs w =
      let kind : NameKind = (step_at p k).kind in
      let g : given_at p xs k ≡ input xs = given_input p xs k is ∙ ap (λ j. get_or xs j 0) next_is in
      value_none p xs k next.there no_sources
      ∙ ap (λ z. record { kind = kind; value = residue (bits_of kind) z }) (given_word (line_at p k).word is (given_at p xs k) absent absent absent ∙ ap (λ n. pos n) g)
      ∙ ap (λ n. record { kind = kind; value = n }) (residue_same (bits_of kind) (input xs) (input_small xs w))

  pub input_plans : Plans p k net net (range_with_len (first_cell p k) (block_count (file_kind (step_at p k).kind) p.space (bits_of (step_at p k).kind)))
  input_plans = record {
    extends = extends_same net;
    jobs_in = omega arith;
    line = record {
      form = record {
        count = cells_count ∙ ap (λ s. block_count (file_kind (step_at p k).kind) s (bits_of (step_at p k).kind)) (sym next.holds.space_is);
        cells_are = λ i q.
            let h : i < count = omega (arith, cells_count) in
            subst (IsCell net (greatest (file_kind (step_at p k).kind) net.space)) (sym (cell_at i h)) (cell_is i h);
      };
      value_is = λ xs w.
          ap (λ (n : ℕ). record { kind = (step_at p k).kind; value = n }) (number_is xs w) ∙ sym (line_value xs w);
      shallow = λ i q.
          let h : i < count = omega (arith, cells_count) in
          let d : depth net (get_or cells i 0) ≡ 0 = ap (depth net) (cell_at i h) ∙ depth_none i h in
          omega arith;
    };
    shallow = λ c x y. absurd (omega arith);
  }

-- ---- the cells of an output

some_same : (a b : NameKind) (o : Option NameKind) → o ≡ Some a → o ≡ Some b → a ≡ b
some_same a b o e f = cc

one_asked : (out : Bool) (name : List ℕ) (args : List (List ℕ)) → out ≡ true → length (if out then name ∷ [] else args) ≡ 1
one_asked out name args e = ap (λ (out : Bool). length (if out then name ∷ [] else args)) e

pub output_sources : (p : Program) (k : ℕ) → IsProgram p → k < length p.lines → is_output (line_at p k).word ≡ true → length (step_at p k).sources ≡ 1
output_sources p k lawful there out =
    (known_at p k lawful there).count ∙ one_asked (is_output (line_at p k).word) (line_at p k).name (line_at p k).args out

module _ (p : Program) (k : ℕ) (net : Net) (names : List (List ℕ)) (next : IsNext p net names k) (lawful : IsProgram p) (out : is_output (line_at p k).word ≡ true) where
  abbrev source : ℕ
  source = source_at p k 0

  sources_are : (step_at p k).sources ≡ source ∷ []
  sources_are = one_of (step_at p k).sources (output_sources p k lawful next.there out)

  source_before : source < k
  source_before = source_early p k 0 lawful next.there (omega (arith, output_sources p k lawful next.there out))

  kind_same : kind_at (steps_of p) source ≡ (step_at p k).kind
  kind_same =
      some_same (kind_at (steps_of p) source) (step_at p k).kind (kind_by (form (line_at p k).word).rule (line_width p.width (line_at p k)) (kind_at (steps_of p) source ∷ []))
      (out_kind (line_at p k).word out (line_width p.width (line_at p k)) (kind_at (steps_of p) source))
      (kinds_give p k lawful next.there (source ∷ []) sources_are)

  held : HoldsLine p net source (get_or names source [])
  held = next.holds.lines source (omega (arith, next.count, source_before))

  out_value : (xs : List ℕ) → AreWithin (inputs_of p) xs
      → get_or (line_values p xs) k absent ≡ record { kind = (step_at p k).kind; value = number_held net (get_or names source []) (digits_for p xs) }
  out_value xs w =
      let kind : NameKind = (step_at p k).kind in
      let x : ℕ = number_held net (get_or names source []) (digits_for p xs) in
      let v : x ≡ (value_at p xs source).value = ap (λ (o : Operand). o.value) (held.value_is xs w) in
      let b : (value_at p xs source).value < 2 ^ bits_of (kind_at (steps_of p) source) = value_below p xs source (omega (arith, source_before, next.there)) in
      let b' : (value_at p xs source).value < 2 ^ bits_of kind = subst (λ (kind : NameKind). (value_at p xs source).value < 2 ^ bits_of kind) kind_same b in
      value_one p xs k next.there source sources_are source_before
      ∙ ap (λ z. record { kind = kind; value = residue (bits_of kind) z }) (out_word (line_at p k).word out (given_at p xs k) (value_at p xs source) absent absent)
      ∙ ap (λ n. record { kind = kind; value = n }) (residue_same (bits_of kind) (value_at p xs source).value b' ∙ sym v)

  pub output_plans : Plans p k net net (get_or names source [])
  output_plans = record {
    extends = extends_same net;
    jobs_in = omega arith;
    line = record {
      form = subst (λ (kind : NameKind). HasForm net kind (get_or names source [])) kind_same held.form;
      value_is = λ xs w. sym (out_value xs w);
      shallow = λ i q.
          let d : depth net (get_or (get_or names source []) i 0) ≤ get_or (depths p) source 0 = held.shallow i q in
          let u : get_or (depths p) source 0 ≤ depth_under p k = under_first p k source [] sources_are in
          omega (arith, d, u, depth_line p k next.there (known_at p k lawful next.there).earlier);
    };
    shallow = λ c x y. absurd (omega arith);
  }
