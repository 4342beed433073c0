-- Each output of a circuit may follow the outputs before it, and all of them give the circuit's values.
use Rattle.std.proofs.Common.{◌≡◌, ℕ, suc, ◌+◌, ◌<◌, Bool, true, false, not, ◌&&◌, ◌||◌, List, [], ◌∷◌, ◌++◌, length, get_or, map, take, None, refl, sym, ap, subst, ◌∙◌, arith, append-nil}
use Rattle.std.specs.Prelude.{IsTrue, nat_lt, nat_le, ◌==◌, count_by, if◌then◌else◌}
use Rattle.std.specs.Str.{bytes_eq}
use Rattle.std.proofs.lemmas.Bool.{and_parts, eq-eqb}
use Rattle.std.proofs.lemmas.List.{take_more, length-map}
use Rattle.rx_params.specs.Kinds.{greatest, block_count}
use Rattle.rx_net.specs.declared.net.NetOutput.{NetOutput}
use Rattle.rx_net.specs.declared.net.Net.{Net}
use Rattle.rx_net.specs.Cells.{cell_count, degree, noise, depth, value, given}
use Rattle.rx_net.specs.Legal.{Legal, names_output, are_cells, is_output as may_follow}
use Rattle.rx_net.specs.Faults.{fault_of}
use Rattle.rx_net.specs.Pen.{with_output}
use Rattle.rx_net.proofs.Fits.{nat_le_is, nat_lt_is}
use Rattle.rx_net.proofs.NoFault.{limit_is}
use Rattle.rx_net.proofs.Additions.{output_fine}
use Rattle.rx_plan.specs.Values.{number_held}
use Rattle.rx_plan.specs.Planned.{AreCells, IsCell}
use Rattle.rx_language.specs.declared.word.Word.{Word}
use Rattle.rx_language.specs.declared.kind.NameKind.{NameKind}
use Rattle.rx_language.specs.declared.line.Line.{Line}
use Rattle.rx_language.specs.declared.line.Step.{Step}
use Rattle.rx_language.specs.Words.{is_input, is_output}
use Rattle.rx_language.specs.Kinds.{bits_of}
use Rattle.rx_language.specs.Programs.{Program, Port, no_step, is_defined, is_given_out, inputs_in, outputs_in, most_lines, most_inputs, most_outputs, ports_in, steps_of, IsProgram}
use Rattle.rx_language.proofs.Steps.{length-by}
use Rattle.rx_meaning.specs.Kinds.{is_kind}
use Rattle.rx_meaning.proofs.LineKinds.{kinds_are}
use Rattle.rx_compile.specs.Compiled.{file_kind, form_of_output, form_of_port}
use Rattle.rx_compile.specs.States.{no_line, line_at, step_at, HoldsLine, Holds, net_output, outputs_among, outputs_before}
use Rattle.rx_compile.proofs.Places.{take_is, known_at}
use Rattle.rx_compile.proofs.Ports.{port_of, first_lines, ports_count}
use Rattle.rx_compile.proofs.InputFits.{kind_form, either_parts, room_in}

-- ---- outputs in two parts

abbrev pub output_if : Line → Step → List ℕ → List NetOutput
output_if line step cells = if is_output line.word then net_output line step cells ∷ [] else []

one_more : (b : Bool) (o : NetOutput) (xs ys : List NetOutput) → (if b then o ∷ (xs ++ ys) else xs ++ ys) ≡ (if b then o ∷ xs else xs) ++ ys
one_more true o xs ys = refl
one_more false o xs ys = refl

outputs-append : (lines more : List Line) (steps others : List Step) (names rest : List (List ℕ)) → length lines ≡ length steps → length lines ≡ length names
    → outputs_among (lines ++ more) (steps ++ others) (names ++ rest) ≡ outputs_among lines steps names ++ outputs_among more others rest
unfolding outputs_among
outputs-append [] more [] others [] rest h k = refl
outputs-append [] more [] others (cells ∷ names) rest h k = absurd (omega arith)
outputs-append [] more (step ∷ steps) others names rest h k = absurd (omega arith)
outputs-append (line ∷ lines) more [] others names rest h k = absurd (omega arith)
outputs-append (line ∷ lines) more (step ∷ steps) others [] rest h k = absurd (omega arith)
outputs-append (line ∷ lines) more (step ∷ steps) others (cells ∷ names) rest h k =
    ap (λ outputs. if is_output line.word then net_output line step cells ∷ outputs else outputs) (outputs-append lines more steps others names rest (omega arith) (omega arith))
    ∙ one_more (is_output line.word) (net_output line step cells) (outputs_among lines steps names) (outputs_among more others rest)

outputs_single : (line : Line) (step : Step) (cells : List ℕ) → outputs_among (line ∷ []) (step ∷ []) (cells ∷ []) ≡ output_if line step cells
unfolding outputs_among
outputs_single line step cells = refl

pub outputs_more : (p : Program) (names : List (List ℕ)) (k : ℕ) → k < length p.lines → length names ≡ length p.lines
    → outputs_before p names (k + 1) ≡ outputs_before p names k ++ output_if (line_at p k) (step_at p k) (get_or names k [])
outputs_more p names k there count =
    let steps : List Step = steps_of p in
    let s : k < length steps = omega (arith, length-by p.width p.lines) in
    let n : k < length names = omega (arith, count) in
    let e : length (take k p.lines) ≡ length (take k steps) = first_lines p k there in
    let f : length (take k p.lines) ≡ length (take k names) = take_is k p.lines (omega arith) ∙ sym (take_is k names (omega arith)) in
    ap (λ lines. outputs_among lines (take (k + 1) steps) (take (k + 1) names)) (take_more p.lines k no_line there)
    ∙ ap (λ ss. outputs_among (take k p.lines ++ line_at p k ∷ []) ss (take (k + 1) names)) (take_more steps k no_step s)
    ∙ ap (outputs_among (take k p.lines ++ line_at p k ∷ []) (take k steps ++ step_at p k ∷ [])) (take_more names k [] n)
    ∙ outputs-append (take k p.lines) (line_at p k ∷ []) (take k steps) (step_at p k ∷ []) (take k names) (get_or names k [] ∷ []) e f
    ∙ ap (λ os. outputs_before p names k ++ os) (outputs_single (line_at p k) (step_at p k) (get_or names k []))

-- ---- forms

forms_if : (b : Bool) (line : Line) (step : Step) (cells : List ℕ) (os : List NetOutput) (ports : List Port) → map form_of_output os ≡ map form_of_port ports
    → map form_of_output (if b then net_output line step cells ∷ os else os) ≡ map form_of_port (if b then port_of line step ∷ ports else ports)
forms_if true line step cells os ports e = ap (λ fs. form_of_port (port_of line step) ∷ fs) e
forms_if false line step cells os ports e = e

pub forms_are : (lines : List Line) (steps : List Step) (names : List (List ℕ)) → length lines ≡ length steps → length lines ≡ length names
    → map form_of_output (outputs_among lines steps names) ≡ map form_of_port (ports_in is_output lines steps)
unfolding outputs_among
forms_are [] steps names h k = refl
forms_are (line ∷ lines) [] names h k = absurd (omega arith)
forms_are (line ∷ lines) (step ∷ steps) [] h k = absurd (omega arith)
forms_are (line ∷ lines) (step ∷ steps) (cells ∷ names) h k =
    forms_if (is_output line.word) line step cells (outputs_among lines steps names) (ports_in is_output lines steps) (forms_are lines steps names (omega arith) (omega arith))

outputs_count : (lines : List Line) (steps : List Step) (names : List (List ℕ)) → length lines ≡ length steps → length lines ≡ length names
    → length (outputs_among lines steps names) ≡ count_by (λ (line : Line). is_output line.word) lines
outputs_count lines steps names h k =
    sym (length-map (outputs_among lines steps names) form_of_output) ∙ ap length (forms_are lines steps names h k)
    ∙ length-map (ports_in is_output lines steps) form_of_port ∙ ports_count is_output lines steps h

-- ---- names

unnamed_if : (out same : Bool) (name : List ℕ) (line : Line) (step : Step) (cells : List ℕ) (os : List NetOutput) → same ≡ bytes_eq line.name name → (out && same) ≡ false
    → names_output name os ≡ false → names_output name (if out then net_output line step cells ∷ os else os) ≡ false
unnamed_if true same name line step cells os e h k = ap (λ b. b || names_output name os) (sym e ∙ h) ∙ k
unnamed_if false same name line step cells os e h k = k

unnamed : (name : List ℕ) (lines : List Line) (steps : List Step) (names : List (List ℕ)) → is_given_out lines name ≡ false → names_output name (outputs_among lines steps names) ≡ false
unfolding outputs_among
unnamed name [] steps names h = refl
unnamed name (line ∷ lines) [] names h = refl
unnamed name (line ∷ lines) (step ∷ steps) [] h = refl
unnamed name (line ∷ lines) (step ∷ steps) (cells ∷ names) h =
    let parts = either_parts (is_output line.word && bytes_eq line.name name) (is_given_out lines name) h in
    unnamed_if (is_output line.word) (bytes_eq line.name name) name line step cells (outputs_among lines steps names) refl parts.0 (unnamed name lines steps names parts.1)

new_output : (out given defined : Bool) → out ≡ true → (if out then given else defined) ≡ false → given ≡ false
new_output true given defined e h = h
new_output false given defined e h = absurd cc

-- ---- cells

cells_pass : (net : Net) (most : ℕ) (cells : List ℕ) → AreCells net most cells → are_cells (cell_count net) (degree net) most cells ≡ true
cells_pass net most [] h = refl
cells_pass net most (c ∷ cells) h =
    let one : IsCell net most c = h 0 (omega arith) in
    ap (λ b. (b && nat_le (degree net c) most) && are_cells (cell_count net) (degree net) most cells) (nat_lt_is c (cell_count net) one.there)
    ∙ ap (λ b. b && are_cells (cell_count net) (degree net) most cells) (nat_le_is (degree net c) most one.degree_in)
    ∙ cells_pass net most cells (λ i q. h (suc i) (omega arith))

-- ---- the output of a line

module _ (p : Program) (k : ℕ) (lawful : IsProgram p) (there : k < length p.lines) (names : List (List ℕ)) (count : length names ≡ length p.lines) (net : Net) (holds : Holds p net names)
    (given : is_output (line_at p k).word ≡ true) where
  cells : List ℕ
  cells = get_or names k []

  output : NetOutput
  unfolding cells
  output = net_output (line_at p k) (step_at p k) cells

  line_held : HoldsLine p net k (get_or names k [])
  line_held = holds.lines k (omega (arith, count))

  name_new : names_output (line_at p k).name (outputs_before p names k) ≡ false
  name_new =
      let known = known_at p k lawful there in
      unnamed (line_at p k).name (take k p.lines) (take k (steps_of p)) (take k names)
      (new_output (is_output (line_at p k).word) (is_given_out (take k p.lines) (line_at p k).name) (is_defined (take k p.lines) (line_at p k).name) given known.lawful.new)

  few : length (outputs_before p names k) < 64
  few =
      let known = known_at p k lawful there in
      let w : Word = (line_at p k).word in
      let b : List Line = take k p.lines in
      let room = and_parts (nat_lt (length b + 1) most_lines) ((not (is_input w) || nat_lt (inputs_in b) most_inputs) && (not (is_output w) || nat_lt (outputs_in b) most_outputs)) known.lawful.room in
      let mine = and_parts (not (is_input w) || nat_lt (inputs_in b) most_inputs) (not (is_output w) || nat_lt (outputs_in b) most_outputs) room.1 in
      let l : outputs_in b < most_outputs = room_in (is_output w) (outputs_in b) most_outputs given mine.1 in
      let f : length b ≡ length (take k names) = take_is k p.lines (omega arith) ∙ sym (take_is k names (omega (arith, count))) in
      omega (arith, l, outputs_count b (take k (steps_of p)) (take k names) (first_lines p k there) f)

  follows : may_follow net.space (cell_count net) (degree net) (outputs_before p names k) (net_output (line_at p k) (step_at p k) (get_or names k [])) ≡ true
  follows =
      let kind : NameKind = (step_at p k).kind in
      let cs : List ℕ = get_or names k [] in
      let most : ℕ = greatest (file_kind kind) net.space in
      let n : Bool = names_output (line_at p k).name (outputs_before p names k) in
      let a : Bool = are_cells (cell_count net) (degree net) most cs in
      ap (λ b. b && ((length cs == block_count (file_kind kind) net.space (bits_of kind)) && (not n && a)))
      (kind_form net.space kind (subst (λ (s : ℕ). IsTrue (is_kind s kind)) (sym holds.space_is) (kinds_are p lawful k)))
      ∙ ap (λ b. b && (not n && a)) (eq-eqb (length cs) (block_count (file_kind kind) net.space (bits_of kind)) line_held.form.count)
      ∙ ap (λ b. not b && a) name_new
      ∙ cells_pass net most cs line_held.form.cells_are

  pub output_lawful : Legal net → net.outputs ≡ outputs_before p names k → fault_of (with_output net (net_output (line_at p k) (step_at p k) (get_or names k []))) ≡ None
  output_lawful legal e =
      let os : List NetOutput = outputs_before p names k in
      output_fine net legal (net_output (line_at p k) (step_at p k) (get_or names k [])) os (sym e)
      (limit_is (nat_lt (length os) 64) 6 (length os + 1) (nat_lt_is (length os) 64 few)) true (sym follows) refl

  pub output_more : outputs_before p names k ++ net_output (line_at p k) (step_at p k) (get_or names k []) ∷ [] ≡ outputs_before p names (k + 1)
  output_more =
      ap (λ (b : Bool). outputs_before p names k ++ (if b then net_output (line_at p k) (step_at p k) (get_or names k []) ∷ [] else [])) (sym given)
      ∙ sym (outputs_more p names k there count)

pub output_none : (p : Program) (names : List (List ℕ)) (k : ℕ) → k < length p.lines → length names ≡ length p.lines → is_output (line_at p k).word ≡ false
    → outputs_before p names k ≡ outputs_before p names (k + 1)
output_none p names k there count inner =
    sym (append-nil (outputs_before p names k))
    ∙ ap (λ (b : Bool). outputs_before p names k ++ (if b then net_output (line_at p k) (step_at p k) (get_or names k []) ∷ [] else [])) (sym inner)
    ∙ sym (outputs_more p names k there count)

-- outputs change nothing that is held
pub holds_given : (p : Program) (net : Net) (names : List (List ℕ)) (o : NetOutput) → Holds p net names → Holds p (with_output net o) names
unfolding cell_count depth degree noise value number_held
holds_given p net names o h = record {
  space_is = h.space_is;
  inputs_are = h.inputs_are;
  lines = λ k q. let l = h.lines k q in record {
    form = record { count = l.form.count; cells_are = λ i r. let c = l.form.cells_are i r in record { there = c.there; degree_in = c.degree_in; noise_is = c.noise_is } };
    value_is = l.value_is;
    shallow = l.shallow;
  };
  jobs_in = h.jobs_in;
  shallow = h.shallow;
}

pub outputs_first : (p : Program) (names : List (List ℕ)) → [] ≡ outputs_before p names 0
unfolding outputs_among
outputs_first p names = refl
