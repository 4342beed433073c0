use Rattle.std.proofs.Common.{◌≡◌, ℕ, ◌<◌, true, false, List, [], ◌∷◌, ◌++◌, length, get_or, sym, ap, subst, ◌∙◌, arith}
use Rattle.std.proofs.lemmas.Result.{on_ok_weaker}
use Rattle.std.proofs.lemmas.List.{get_or_default}
use Rattle.rx_net.specs.declared.net.NetOutput.{NetOutput}
use Rattle.rx_net.specs.declared.net.Net.{Net}
use Rattle.rx_net.specs.Faults.{fault_of}
use Rattle.rx_net.specs.Pen.{with_output}
use Rattle.rx_language.specs.declared.line.Line.{Line}
use Rattle.rx_language.specs.declared.line.Step.{Step}
use Rattle.rx_language.specs.Words.{is_output}
use Rattle.rx_language.specs.Programs.{Program}
use Rattle.rx_compile.specs.States.{line_at, step_at, Holds, net_output}
use Rattle.rx_compile.proofs.Steps.{steps_there, line_here, step_here}
use Rattle.rx_compile.proofs.OutputFits.{output_lawful, output_more, output_none, holds_given}
use Rattle.rx_compile.proofs.giving.give_line.Goals as goal

pub returns-then-not-is_output-clause-given : goal.returns-then-not-is_output-clause-given
returns-then-not-is_output-clause-given c =
    let p : Program = c.args.circuit.now in
    let k : ℕ = c.args.place in
    let el : c.index-lines-place.result ≡ line_at p k = line_here p c.lines.result.now k c.index-lines-place.result c.lines.ensures.value c.requires.there c.index-lines-place.is in
    let inner : is_output (line_at p k).word ≡ false = ap (λ (l : Line). is_output l.word) (sym el) ∙ sym c.if-not-is_output.ensures in
    c.requires.before ∙ output_none p c.args.cells.now k c.requires.there c.requires.count inner

pub bounds-steps-place : goal.bounds-steps-place
bounds-steps-place c = steps_there c.args.circuit.now c.steps.result.now c.args.place c.steps.ensures.value c.requires.there

-- the output that is made of what the calls of a line answer
output_is : (p : Program) (k : ℕ) (names : List (List ℕ)) (line : Line) (step : Step) (cells read d : List ℕ) → line ≡ line_at p k → step ≡ step_at p k → cells ≡ read → read ≡ get_or names k read → k < length names
    → net_output line step cells ≡ net_output (line_at p k) (step_at p k) (get_or names k [])
output_is p k names line step cells read d e f g h l =
    ap (λ x. net_output x step cells) e ∙ ap (λ x. net_output (line_at p k) x cells) f
    ∙ ap (net_output (line_at p k) (step_at p k)) (g ∙ h ∙ get_or_default names k read [] l)

pub add_output-requires : goal.add_output-requires
add_output-requires c =
    let p : Program = c.args.circuit.now in
    let k : ℕ = c.args.place in
    let el : c.index-lines-place.result ≡ line_at p k = line_here p c.lines.result.now k c.index-lines-place.result c.lines.ensures.value c.requires.there c.index-lines-place.is in
    let es : c.index-steps-place.result ≡ step_at p k = step_here p c.steps.result.now k c.index-steps-place.result c.steps.ensures.value c.requires.there c.index-steps-place.is in
    let given : is_output (line_at p k).word ≡ true = ap (λ (l : Line). is_output l.word) (sym el) ∙ sym c.if-not-is_output.ensures in
    let o = output_is p k c.args.cells.now c.index-lines-place.result c.index-steps-place.result c.as_slice.result.now c.index-cells-place.result [] el es c.as_slice.ensures c.index-cells-place.is (omega (arith, c.requires.there, c.requires.count)) in
    ap (λ (o : NetOutput). fault_of (with_output c.args.pen.now o)) o
    ∙ output_lawful p k c.lines.ensures.lawful c.requires.there c.args.cells.now c.requires.count c.args.pen.now c.requires.holds given c.space-space.ensures.legal c.requires.before

pub returns-clause-kept : goal.returns-clause-kept
returns-clause-kept c =
    on_ok_weaker c.add_output.result
    (λ e. subst (λ (n : Net). Holds c.args.circuit.now n c.args.cells.now) (sym e)
    (holds_given c.args.circuit.now c.args.pen.now c.args.cells.now (net_output c.index-lines-place.result c.index-steps-place.result c.as_slice.result.now) c.requires.holds))
    c.add_output.ensures

pub returns-clause-given : goal.returns-clause-given
returns-clause-given c =
    let p : Program = c.args.circuit.now in
    let k : ℕ = c.args.place in
    let el : c.index-lines-place.result ≡ line_at p k = line_here p c.lines.result.now k c.index-lines-place.result c.lines.ensures.value c.requires.there c.index-lines-place.is in
    let es : c.index-steps-place.result ≡ step_at p k = step_here p c.steps.result.now k c.index-steps-place.result c.steps.ensures.value c.requires.there c.index-steps-place.is in
    let given : is_output (line_at p k).word ≡ true = ap (λ (l : Line). is_output l.word) (sym el) ∙ sym c.if-not-is_output.ensures in
    let o = output_is p k c.args.cells.now c.index-lines-place.result c.index-steps-place.result c.as_slice.result.now c.index-cells-place.result [] el es c.as_slice.ensures c.index-cells-place.is (omega (arith, c.requires.there, c.requires.count)) in
    on_ok_weaker c.add_output.result
    (λ e. ap (λ (n : Net). n.outputs) e
    ∙ ap (λ (o : NetOutput). c.args.pen.now.outputs ++ o ∷ []) o
    ∙ ap (λ os. os ++ net_output (line_at p k) (step_at p k) (get_or c.args.cells.now k []) ∷ []) c.requires.before
    ∙ output_more p k c.lines.ensures.lawful c.requires.there c.args.cells.now c.requires.count c.args.pen.now c.requires.holds given)
    c.add_output.ensures
