-- A legal net that holds all lines and gives out the outputs is a compiled net of the circuit.
use Rattle.std.proofs.Common.{◌≡◌, ℕ, suc, ◌<◌, ◌≤◌, Bool, true, false, List, [], ◌∷◌, ◌++◌, length, get_or, map, take, refl, sym, ap, ◌∙◌, arith}
use Rattle.std.specs.Prelude.{if◌then◌else◌}
use Rattle.std.proofs.Math.Seq.{take-length}
use Rattle.rx_net.specs.declared.net.NetOutput.{NetOutput}
use Rattle.rx_net.specs.declared.net.Net.{Net}
use Rattle.rx_net.specs.Tags.{greatest_of}
use Rattle.rx_net.specs.Cells.{cell_count, depth, value, values_after, depths_after, net_depth, one_deeper, given}
use Rattle.rx_net.specs.Legal.{Legal}
use Rattle.rx_net.specs.Numbers.{number_of}
use Rattle.rx_net.proofs.Laid.{length-laid}
use Rattle.rx_net.proofs.Inputs.{length-given}
use Rattle.rx_plan.specs.Values.{number_held}
use Rattle.rx_language.specs.declared.line.Line.{Line}
use Rattle.rx_language.specs.declared.line.Step.{Step}
use Rattle.rx_language.specs.Words.{is_output}
use Rattle.rx_language.specs.Programs.{Program, steps_of, inputs_of}
use Rattle.rx_language.proofs.Steps.{length-by}
use Rattle.rx_meaning.specs.declared.operand.Operand.{Operand}
use Rattle.rx_meaning.specs.Values.{AreWithin, absent, line_values, given_out, outputs_for}
use Rattle.rx_meaning.specs.Bounds.{depth_of}
use Rattle.rx_compile.specs.Compiled.{Compiled, form_of_output}
use Rattle.rx_compile.specs.States.{digits_for, Holds, net_output, outputs_among, outputs_before}
use Rattle.rx_compile.proofs.LineValues.{values_count}
use Rattle.rx_compile.proofs.OutputFits.{forms_are}

-- ---- the numbers of the outputs

outs_if : (b : Bool) (f : List ℕ → ℕ) (line : Line) (step : Step) (cells : List ℕ) (os : List NetOutput) (x : ℕ) (xs : List ℕ) → f cells ≡ x → map (λ (o : NetOutput). f o.cells) os ≡ xs
    → map (λ (o : NetOutput). f o.cells) (if b then net_output line step cells ∷ os else os) ≡ (if b then x ∷ [] else []) ++ xs
outs_if true f line step cells os x xs e h = ap (λ y. y ∷ map (λ (o : NetOutput). f o.cells) os) e ∙ ap (λ ys. x ∷ ys) h
outs_if false f line step cells os x xs e h = h

outs_are : (f : List ℕ → ℕ) (lines : List Line) (steps : List Step) (names : List (List ℕ)) (values : List Operand) → length lines ≡ length steps → length lines ≡ length names → length lines ≡ length values
    → ((k : ℕ) → k < length lines → f (get_or names k []) ≡ (get_or values k absent).value)
    → map (λ (o : NetOutput). f o.cells) (outputs_among lines steps names) ≡ given_out lines values
unfolding outputs_among given_out
outs_are f [] steps names values a b c h = refl
outs_are f (line ∷ lines) [] names values a b c h = absurd (omega arith)
outs_are f (line ∷ lines) (step ∷ steps) [] values a b c h = absurd (omega arith)
outs_are f (line ∷ lines) (step ∷ steps) (cells ∷ names) [] a b c h = absurd (omega arith)
outs_are f (line ∷ lines) (step ∷ steps) (cells ∷ names) (x ∷ values) a b c h =
    outs_if (is_output line.word) f line step cells (outputs_among lines steps names) x.value (given_out lines values) (h 0 (omega arith))
    (outs_are f lines steps names values (omega arith) (omega arith) (omega arith) (λ k q. h (suc k) (omega arith)))

-- what a line holds, over the values of all cells
held_number : (p : Program) (net : Net) (names : List (List ℕ)) → Holds p net names → (xs : List ℕ) → AreWithin (inputs_of p) xs → (k : ℕ) → k < length names
    → number_of net.space (map (λ cell. get_or (values_after (digits_for p xs) net.jobs) cell 0) (get_or names k [])) ≡ (get_or (line_values p xs) k absent).value
unfolding number_held value
held_number p net names h xs w k q = ap (λ (o : Operand). o.value) ((h.lines k q).value_is xs w)

-- ---- the greatest depth

greatest_under : (xs : List ℕ) (d : ℕ) → ((i : ℕ) → i < length xs → get_or xs i 0 ≤ d) → greatest_of xs ≤ d
unfolding greatest_of
greatest_under [] d h = omega arith
greatest_under (x ∷ xs) d h =
    let a : x ≤ d = h 0 (omega arith) in
    let b : greatest_of xs ≤ d = greatest_under xs d (λ i q. h (suc i) (omega arith)) in
    omega arith

depth_within : (net : Net) (d : ℕ) → ((c : ℕ) → c < cell_count net → depth net c ≤ d) → net_depth net ≤ d
unfolding cell_count depth net_depth depths_after
depth_within net d h =
    let cells : List ℕ = given net.space (λ i. 0) net.inputs in
    greatest_under (depths_after net.space net.inputs net.jobs) d
    (λ i q. h i (omega (arith, length-laid one_deeper cells net.jobs, length-given net.space (λ i. 0) net.inputs)))

-- ---- the whole

take_whole : {A : Type 0} → (xs : List A) (n : ℕ) → length xs ≡ n → take n xs ≡ xs
take_whole xs n e = ap (λ k. take k xs) (sym e) ∙ take-length xs

pub compiled : (p : Program) (net : Net) (names : List (List ℕ)) → length names ≡ length p.lines → Holds p net names → net.outputs ≡ outputs_before p names (length p.lines) → Legal net → Compiled p net
unfolding outputs_for
compiled p net names count h given legal =
    let n : ℕ = length p.lines in
    let same : length p.lines ≡ length (steps_of p) = sym (length-by p.width p.lines) in
    let os : net.outputs ≡ outputs_among p.lines (steps_of p) names =
    given ∙ ap (λ ls. outputs_among ls (take n (steps_of p)) (take n names)) (take_whole p.lines n refl)
    ∙ ap (λ ss. outputs_among p.lines ss (take n names)) (take_whole (steps_of p) n (sym same))
    ∙ ap (outputs_among p.lines (steps_of p)) (take_whole names n count)
    in
    record {
      legal = legal;
      space = h.space_is;
      inputs = h.inputs_are;
      outputs = ap (map form_of_output) os ∙ forms_are p.lines (steps_of p) names same (sym count);
      values = λ xs w.
          let f : List ℕ → ℕ = λ cells. number_of net.space (map (λ cell. get_or (values_after (digits_for p xs) net.jobs) cell 0) cells) in
          ap (map (λ (o : NetOutput). f o.cells)) os
          ∙ outs_are f p.lines (steps_of p) names (line_values p xs) same (sym count) (sym (values_count p xs))
          (λ k q. held_number p net names h xs w k (omega (arith, count)));
      jobs_in = omega (arith, h.jobs_in);
      depth_in = depth_within net (depth_of p) h.shallow;
    }
