use Rattle.std.proofs.Common.{◌≡◌, ℕ, true, false, List, [], get_or, sym, ap, ◌∙◌}
use Rattle.std.proofs.lemmas.Result.{on_ok_weaker}
use Rattle.rx_net.specs.declared.net.NetInput.{NetInput}
use Rattle.rx_net.specs.declared.net.Net.{Net}
use Rattle.rx_net.specs.Faults.{fault_of}
use Rattle.rx_net.specs.Pen.{with_input}
use Rattle.rx_language.specs.declared.line.Line.{Line}
use Rattle.rx_language.specs.Words.{is_input}
use Rattle.rx_language.specs.Programs.{Program}
use Rattle.rx_compile.specs.Compiled.{net_input}
use Rattle.rx_compile.specs.States.{line_at, step_at}
use Rattle.rx_compile.proofs.Steps.{steps_there, line_here, kind_read}
use Rattle.rx_compile.proofs.Ports.{port_of}
use Rattle.rx_compile.proofs.InputFits.{input_lawful, input_more, input_none, input_made, net_more}
use Rattle.rx_compile.proofs.declaring.declare_line.Goals as goal

pub returns-then-not-is_input : goal.returns-then-not-is_input
returns-then-not-is_input c =
    let p : Program = c.args.circuit.now in
    let k : ℕ = c.args.place in
    let el : c.index-lines-place.result ≡ line_at p k = line_here p c.lines.result.now k c.index-lines-place.result c.lines.ensures.value c.requires.there c.index-lines-place.is in
    let plain : is_input (line_at p k).word ≡ false = ap (λ (l : Line). is_input l.word) (sym el) ∙ sym c.if-not-is_input.ensures in
    c.requires.before ∙ ap (λ (is : List NetInput). record { space = p.space; inputs = is; jobs = []; outputs = [] }) (input_none p k c.requires.there plain)

pub bounds-steps-place : goal.bounds-steps-place
bounds-steps-place c = steps_there c.args.circuit.now c.steps.result.now c.args.place c.steps.ensures.value c.requires.there

pub bounds-steps-place-else-not-is_input : goal.bounds-steps-place-else-not-is_input
bounds-steps-place-else-not-is_input c = bounds-steps-place c

pub add_input-requires-clause-lawful : goal.add_input-requires-clause-lawful
add_input-requires-clause-lawful c =
    let p : Program = c.args.circuit.now in
    let k : ℕ = c.args.place in
    let el : c.index-lines-place.result ≡ line_at p k = line_here p c.lines.result.now k c.index-lines-place.result c.lines.ensures.value c.requires.there c.index-lines-place.is in
    let given : is_input (line_at p k).word ≡ true = ap (λ (l : Line). is_input l.word) (sym el) ∙ sym c.if-not-is_input.ensures in
    let ek = kind_read p c.steps.result.now k c.index-steps-place.result c.steps.ensures.value c.requires.there in
    let space : c.space-space.result ≡ p.space = c.space-space.ensures.value ∙ ap (λ (n : Net). n.space) c.requires.before in
    let made = input_made p k c.index-lines-place.result.name (get_or c.steps.result.now k c.index-steps-place.result).kind c.file_kind-form.result c.bits.result c.greatest.result c.space-space.result
    (ap (λ (l : Line). l.name) el) ek c.file_kind-form.ensures c.bits.ensures c.greatest.ensures space in
    ap (λ (i : NetInput). fault_of (with_input c.args.pen.now i)) made
    ∙ input_lawful p k c.lines.ensures.lawful c.requires.there given c.args.pen.now c.space-space.ensures.legal c.requires.before

pub returns : goal.returns
returns c =
    let p : Program = c.args.circuit.now in
    let k : ℕ = c.args.place in
    let el : c.index-lines-place.result ≡ line_at p k = line_here p c.lines.result.now k c.index-lines-place.result c.lines.ensures.value c.requires.there c.index-lines-place.is in
    let given : is_input (line_at p k).word ≡ true = ap (λ (l : Line). is_input l.word) (sym el) ∙ sym c.if-not-is_input.ensures in
    let ek = kind_read p c.steps.result.now k c.index-steps-place.result c.steps.ensures.value c.requires.there in
    let space : c.space-space.result ≡ p.space = c.space-space.ensures.value ∙ ap (λ (n : Net). n.space) c.requires.before in
    let made = input_made p k c.index-lines-place.result.name (get_or c.steps.result.now k c.index-steps-place.result).kind c.file_kind-form.result c.bits.result c.greatest.result c.space-space.result
    (ap (λ (l : Line). l.name) el) ek c.file_kind-form.ensures c.bits.ensures c.greatest.ensures space in
    on_ok_weaker c.add_input.result
    (λ e. e ∙ ap (with_input c.args.pen.now) made ∙ net_more p k c.args.pen.now (net_input p.space (port_of (line_at p k) (step_at p k))) c.requires.before
    (input_more p k c.lines.ensures.lawful c.requires.there given))
    c.add_input.ensures
